use Rattle.std.proofs.Common.{refl}
use Rattle.table.specs.View.{view}
use Rattle.engine.proofs.Whole.{sound_of}
use Rattle.engine.proofs.Steps.{ran, not_ran}
use Rattle.engine.proofs.Promises.{run_lawful, run_allowed, run_inside, run_alone}
use Rattle.engine.proofs.state.Engine.run.Goals as goal

pub returns-then-memory-self : goal.returns-then-memory-self
returns-then-memory-self g c =
    let r = not_ran (λ b. (g.B.Bus.means b).shown) g.B.Bus.did c.args.allowance (view c.args.self.now.state) c.args.bus.now c.args.memory.now c.if-memory-self.true in
    record {
      ran = r;
      allowed = run_allowed g.B.Bus.means g.B.Bus.did g.met.B.Bus.keeps _ _ _ _ _ _ _ _ _ r;
      lawful = run_lawful g.B.Bus.means g.B.Bus.did g.met.B.Bus.keeps _ _ _ _ _ _ _ _ _ r;
      inside = run_inside g.B.Bus.means g.B.Bus.did g.met.B.Bus.keeps _ _ _ _ _ _ _ _ _ r (sound_of c.args.self.now);
      isolated = run_alone g.B.Bus.means g.B.Bus.did g.met.B.Bus.keeps _ _ _ _ _ _ _ _ _ r (sound_of c.args.self.now);
      refused = refl;
    }

pub returns : goal.returns
returns g c =
    let r = ran (λ b. (g.B.Bus.means b).shown) g.B.Bus.did c.args.allowance (view c.args.self.now.state) c.args.bus.now c.args.memory.now c.rows-made.result.0 c.rows-made.result.1
    (view c.rows-made.new.self.state) c.rows-made.new.bus c.rows-made.new.memory c.if-memory-self.false c.rows-made.ensures in
    record {
      ran = r;
      allowed = run_allowed g.B.Bus.means g.B.Bus.did g.met.B.Bus.keeps _ _ _ _ _ _ _ _ _ r;
      lawful = run_lawful g.B.Bus.means g.B.Bus.did g.met.B.Bus.keeps _ _ _ _ _ _ _ _ _ r;
      inside = run_inside g.B.Bus.means g.B.Bus.did g.met.B.Bus.keeps _ _ _ _ _ _ _ _ _ r (sound_of c.args.self.now);
      isolated = run_alone g.B.Bus.means g.B.Bus.did g.met.B.Bus.keeps _ _ _ _ _ _ _ _ _ r (sound_of c.args.self.now);
      refused = tt;
    }
