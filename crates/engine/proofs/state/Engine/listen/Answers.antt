use Rattle.engine.proofs.Kept.{view_listen, whole_listen}
use Rattle.engine.proofs.state.Engine.listen.Goals as goal

pub invariant_of-self : goal.invariant_of-self
invariant_of-self c = whole_listen c.args.self.now c.args.line c.clear.new.self c.clear.ensures c.requires

pub returns : goal.returns
returns c = view_listen c.args.self.now c.args.line c.clear.new.self c.clear.ensures
