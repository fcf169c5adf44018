use Rattle.engine.proofs.Numbers.{at_place}
use Rattle.engine.proofs.Kept.{view_put, whole_put}
use Rattle.engine.proofs.state.Engine.put_back.Goals as goal

pub invariant_of-self : goal.invariant_of-self
invariant_of-self c = rw (at_place c.place.ensures.value, c.get-self.ensures.value)
    (whole_put c.args.self.now c.args.k c.slot.result c.slot.ensures.numbered c.slot.ensures.slot c.requires)

pub returns : goal.returns
returns c = rw (at_place c.place.ensures.value, c.get-self.ensures.value)
    (view_put c.args.self.now c.args.k c.slot.result c.slot.ensures.numbered c.slot.ensures.slot c.requires)
