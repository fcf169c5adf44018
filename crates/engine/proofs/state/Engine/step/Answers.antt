use Rattle.std.proofs.Common.{refl}
use Rattle.table.specs.View.{view}
use Rattle.engine.proofs.Whole.{sound_of}
use Rattle.engine.proofs.Steps.{stepped, not_stepped}
use Rattle.engine.proofs.Promises.{step_lawful, step_inside, step_alone}
use Rattle.engine.proofs.state.Engine.step.Goals as goal

pub returns-then-memory-self : goal.returns-then-memory-self
returns-then-memory-self g c =
    let s = not_stepped (λ b. (g.B.Bus.means b).shown) g.B.Bus.did (view c.args.self.now.state) c.args.bus.now c.args.memory.now c.if-memory-self.true in
    record {
      stepped = s;
      lawful = step_lawful g.B.Bus.means g.B.Bus.did g.met.B.Bus.keeps _ _ _ _ _ _ _ s;
      inside = step_inside g.B.Bus.means g.B.Bus.did g.met.B.Bus.keeps _ _ _ _ _ _ _ s (sound_of c.args.self.now);
      isolated = step_alone g.B.Bus.means g.B.Bus.did g.met.B.Bus.keeps _ _ _ _ _ _ _ s (sound_of c.args.self.now);
      refused = refl;
    }

pub returns : goal.returns
returns g c =
    let s = stepped (λ b. (g.B.Bus.means b).shown) g.B.Bus.did (view c.args.self.now.state) c.args.bus.now c.args.memory.now c.row.result
    (view c.row.new.self.state) c.row.new.bus c.row.new.memory c.if-memory-self.false c.row.ensures in
    record {
      stepped = s;
      lawful = step_lawful g.B.Bus.means g.B.Bus.did g.met.B.Bus.keeps _ _ _ _ _ _ _ s;
      inside = step_inside g.B.Bus.means g.B.Bus.did g.met.B.Bus.keeps _ _ _ _ _ _ _ s (sound_of c.args.self.now);
      isolated = step_alone g.B.Bus.means g.B.Bus.did g.met.B.Bus.keeps _ _ _ _ _ _ _ s (sound_of c.args.self.now);
      refused = tt;
    }
