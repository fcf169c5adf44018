use Rattle.engine.proofs.Numbers.{at_place}
use Rattle.engine.proofs.Kept.{view_keep, whole_keep}
use Rattle.engine.proofs.state.Engine.keep.Goals as goal

pub invariant_of-self : goal.invariant_of-self
invariant_of-self c = rw (at_place c.place.ensures.value)
    (whole_keep c.args.self.now c.clear.new.self c.clear.ensures c.args.held.k c.args.held.slot c.args.held.numbered
    c.requires.open c.requires.same_next c.args.held.connected)

pub returns : goal.returns
returns c = rw (at_place c.place.ensures.value)
    (view_keep c.args.self.now c.clear.new.self c.clear.ensures c.args.held.k c.args.held.slot c.args.held.numbered
    c.requires.open c.requires.same_next c.args.held.connected)
