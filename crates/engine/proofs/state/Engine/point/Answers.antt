use Rattle.engine.proofs.Numbers.{at_place}
use Rattle.engine.proofs.Kept.{view_point, whole_point}
use Rattle.engine.proofs.state.Engine.point.Goals as goal

pub invariant_of-self : goal.invariant_of-self
invariant_of-self c = rw (at_place c.place.ensures.value) (whole_point c.args.self.now c.clear.new.self c.clear.ensures c.args.held.now c.requires c.args.current)

pub returns : goal.returns
returns c = rw (at_place c.place.ensures.value) (view_point c.args.self.now c.clear.new.self c.clear.ensures c.args.held.now c.requires c.args.current)
