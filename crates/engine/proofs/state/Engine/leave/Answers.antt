use Rattle.engine.proofs.Numbers.{at_place}
use Rattle.engine.proofs.Kept.{view_leave, whole_leave_at}
use Rattle.engine.proofs.state.Engine.leave.Goals as goal

pub invariant_of-self : goal.invariant_of-self
invariant_of-self c = whole_leave_at c.args.self.now c.clear.new.self c.clear.ensures c.args.held.now c.requires.as_kept c.args.state c.requires.used c.requires.not_waiting c.place.result c.place.ensures.value

pub returns : goal.returns
returns c = rw (at_place c.place.ensures.value)
    (view_leave c.args.self.now c.clear.new.self c.clear.ensures c.args.held.now c.requires.as_kept c.args.state c.requires.used c.requires.not_waiting)
