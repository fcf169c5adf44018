use Rattle.std.proofs.Common.{◌+◌, ap, ◌∙◌, subst, arith}
use Rattle.slots.specs.declared.answer.End.{End}
use Rattle.table.specs.Calls.{PlaysRun, is_end}
use Rattle.table.specs.View.{view}
use Rattle.engine.proofs.Steps.{reached_first, reached_last, reached_next, reached_end}
use Rattle.engine.proofs.state.Engine.rows.Goals as goal

pub loop-made-init : goal.loop-made-init
loop-made-init g c = (omega arith, reached_first (λ b. (g.B.Bus.means b).shown) g.B.Bus.did c.args.allowance _ _ _)

pub returns-in-Some : goal.returns-in-Some
returns-in-Some g c =
    let q = c.in-Some.ensures in
    subst (λ (x : End). PlaysRun (λ b. (g.B.Bus.means b).shown) g.B.Bus.did c.args.allowance (view c.args.self.now.state) c.args.bus.now c.args.memory.now c.loop-made.made x (view c.row.new.self.state) c.row.new.bus c.row.new.memory) q.0
    (reached_end _ _ _ _ _ _ c.loop-made.made _ _ _ c.row.result _ _ _ c.loop-made.auto.made c.loop-made-test.true c.loop-made.invariant.1 c.row.ensures (ap is_end q.0 ∙ q.1))

pub loop-made-preserved : goal.loop-made-preserved
loop-made-preserved g c = (
  omega arith,
  reached_next (λ b. (g.B.Bus.means b).shown) g.B.Bus.did c.args.allowance _ _ _ c.loop-made.made _ _ _ c.row.result _ _ _ c.loop-made.auto.made c.loop-made-test.true c.loop-made.invariant.1 c.row.ensures
      c.in_default.ensures,
)

pub returns : goal.returns
returns g c =
    reached_last (λ b. (g.B.Bus.means b).shown) g.B.Bus.did c.args.allowance _ _ _ c.loop-made.made _ _ _ (let a = c.loop-made-test.false in let e = c.loop-made.invariant.0 in omega (arith, a, e)) c.loop-made.invariant.1

pub returns-in_default : goal.returns-in_default
returns-in_default g c =
    reached_last (λ b. (g.B.Bus.means b).shown) g.B.Bus.did c.args.allowance _ _ _ (c.loop-made.made + 1) _ _ _ (omega arith)
    (reached_next (λ b. (g.B.Bus.means b).shown) g.B.Bus.did c.args.allowance _ _ _ c.loop-made.made _ _ _ c.row.result _ _ _ c.loop-made.auto.made c.loop-made-test.true c.loop-made.invariant.1 c.row.ensures
    c.in_default.ensures)
