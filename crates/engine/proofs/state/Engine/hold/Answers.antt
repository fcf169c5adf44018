use Rattle.engine.proofs.Kept.{view_hold, whole_hold}
use Rattle.engine.proofs.state.Engine.hold.Goals as goal

pub invariant_of-self : goal.invariant_of-self
invariant_of-self c = whole_hold c.args.self.now c.args.held.now c.requires c.clear.new.self c.clear.ensures

pub returns : goal.returns
returns c = view_hold c.args.self.now c.args.held.now c.requires c.clear.new.self c.clear.ensures
