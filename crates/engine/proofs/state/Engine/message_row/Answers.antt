use Rattle.std.proofs.Common.{sym, ap, ◌∙◌}
use Rattle.slots.specs.declared.line.Line.{Line}
use Rattle.bus.specs.declared.Shown.TheVariants.{MessageIn}
use Rattle.table.specs.Table.{row}
use Rattle.table.specs.View.{view, line_of}
use Rattle.table.proofs.Meanings.{plays_as}
use Rattle.engine.proofs.Rows.{message_held}
use Rattle.engine.proofs.state.Engine.message_row.Goals as goal

pub returns-in-Held : goal.returns-in-Held
returns-in-Held g c = λ m. plays_as (λ b. (g.B.Bus.means b).shown) g.B.Bus.did _ _
    (message_held c.args.self.now c.held-held.result c.in-Held.k c.args.byte c.held-held.ensures.number c.held-held.ensures.slot
    ∙ ap (λ (l : Line). row (view c.args.self.now.state) (line_of l c.args.self.now.state.begun.items) (MessageIn c.args.byte)) (sym c.in-Held.is ∙ c.requires))
    c.args.bus.now m c.message_byte.result (view c.message_byte.new.self.state) c.message_byte.new.bus m (c.message_byte.ensures m)
