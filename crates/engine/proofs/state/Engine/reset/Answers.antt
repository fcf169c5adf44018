use Rattle.table.specs.View.{view}
use Rattle.engine.proofs.Promises.{reset_lawful}
use Rattle.engine.proofs.state.Engine.reset.Goals as goal

pub returns : goal.returns
returns g c = record {
  after = c.clear_all.ensures;
  bus = c.reset.ensures;
  lawful = reset_lawful g.B.Bus.means g.B.Bus.did g.met.B.Bus.keeps (view c.args.self.now.state) c.args.bus.now (view c.clear_all.new.self.state) c.reset.new.self c.reset.ensures c.clear_all.ensures;
}
