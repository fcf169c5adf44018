use Rattle.std.proofs.Common.{◌+◌, ◌≤◌}
use Rattle.table.specs.View.{view}
use Rattle.engine.proofs.Steps.{Reached}
use Rattle.engine.proofs.state.Engine.rows.Given as goal

abbrev pub invariant-loop-made : goal.invariant-loop-made
invariant-loop-made g l = (l.made ≤ l.allowance + 1)
    × Reached (λ b. (g.B.Bus.means b).shown) g.B.Bus.did l.allowance (view l.initial.self.state) l.initial.bus l.initial.memory l.made (view l.self.state) l.bus l.memory
