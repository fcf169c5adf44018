use Rattle.std.proofs.Common.{sym, ap}
use Rattle.table.specs.Table.{held_by}
use Rattle.table.specs.View.{view, entry_of}
use Rattle.table.proofs.Meanings.{plays_as}
use Rattle.engine.proofs.Rows.{unlisted_shown}
use Rattle.engine.proofs.state.Engine.held_row.Goals as goal

pub returns-in-Command : goal.returns-in-Command
returns-in-Command g c = plays_as (λ b. (g.B.Bus.means b).shown) g.B.Bus.did _ _
    (ap (held_by (view c.args.self.now.state) c.args.held.now.k (entry_of c.args.held.now.slot)) (sym c.in-Command.is))
    c.args.bus.now c.args.memory.now c.send_command.result (view c.send_command.new.self.state) c.send_command.new.bus c.args.memory.now (c.send_command.ensures c.args.memory.now)

pub returns-in_default : goal.returns-in_default
returns-in_default g c = plays_as (λ b. (g.B.Bus.means b).shown) g.B.Bus.did _ _
    (unlisted_shown (view c.args.self.now.state) c.args.held.now.k (entry_of c.args.held.now.slot) c.args.shown c.in_default.not-DataOut c.in_default.not-DataIn c.in_default.not-Command
    c.in_default.not-Status c.in_default.not-MessageOut c.requires.no_byte c.in_default.not-Free c.requires.no_pause)
    c.args.bus.now c.args.memory.now c.violation-in_default.result (view c.violation-in_default.new.self.state) c.violation-in_default.new.bus c.args.memory.now (c.violation-in_default.ensures c.args.memory.now)
