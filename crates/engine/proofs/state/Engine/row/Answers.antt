use Rattle.std.proofs.Common.{◌≡◌, ℕ, eqb, List, length, sym, ap, ◌∙◌}
use Rattle.slots.specs.declared.line.Line.TheVariants.{Idle, Held}
use Rattle.table.specs.Table.{violation, row}
use Rattle.table.specs.View.{view}
use Rattle.table.proofs.Basics.{wrong}
use Rattle.table.proofs.Meanings.{plays_as}
use Rattle.engine.proofs.Rows.{unlisted_row, unlisted_held, row_of}
use Rattle.engine.proofs.state.Engine.row.Goals.{in_default-line-via-in-Held+else-is_empty, in_default-line-via-in_default-line}
use Rattle.engine.proofs.state.Engine.row.Goals as goal

pub returns-in-MessageIn : goal.returns-in-MessageIn
returns-in-MessageIn g c = plays_as (λ b. (g.B.Bus.means b).shown) g.B.Bus.did _ _
    (ap (row (view c.args.self.now.state) (view c.args.self.now.state).line) (sym c.in-MessageIn.is ∙ c.look-shown.ensures))
    c.args.bus.now c.args.memory.now c.message_row.result (view c.message_row.new.self.state) c.message_row.new.bus c.args.memory.now (c.message_row.ensures c.args.memory.now)

pub returns-in-Idle : goal.returns-in-Idle
returns-in-Idle g c = plays_as (λ b. (g.B.Bus.means b).shown) g.B.Bus.did _ _
    (row_of c.args.self.now.state Idle c.look-shown.result _ c.look-shown.ensures c.in-Idle.is)
    c.args.bus.now c.args.memory.now c.idle_row.result (view c.idle_row.new.self.state) c.idle_row.new.bus c.args.memory.now (c.idle_row.ensures c.args.memory.now)

pub returns-in_default-line : goal.returns-in_default-line
returns-in_default-line g c =
    let e = c.args.self.now in
    let z = c.look-shown.result in
    let p : violation (view e.state) z ≡ row (view e.state) (view e.state).line z = elim c.in_default-line.branch [
      | in_default-line-via-in-Held+else-is_empty w ↦
          unlisted_held e w.in-Held.k z w.in-Held.is (λ q. wrong _ (w.is_empty.ensures ∙ ap (λ (bs : List ℕ). eqb (length bs) 0) q) w.if-is_empty.false) c.in_default.not-MessageIn c.in_default.not-Pause ∙ row_of e.state (Held w.in-Held.k) z z (λ i. z) w.in-Held.is
      | in_default-line-via-in_default-line w ↦
          unlisted_row (view e.state) e.state.line e.state.begun.items z w.in_default-line.not-Idle w.in_default-line.not-Held c.in_default.not-MessageIn c.in_default.not-Pause
    ] in
    plays_as (λ b. (g.B.Bus.means b).shown) g.B.Bus.did _ _ (p ∙ ap (row (view e.state) (view e.state).line) c.look-shown.ensures)
    c.args.bus.now c.args.memory.now c.violation.result (view c.violation.new.self.state) c.violation.new.bus c.args.memory.now (c.violation.ensures c.args.memory.now)
