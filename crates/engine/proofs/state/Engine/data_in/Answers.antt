use Rattle.std.proofs.Common.{Err, sym, ◌∙◌}
use Rattle.table.specs.View.{view, entry_of}
use Rattle.table.proofs.Meanings.{plays_as}
use Rattle.engine.proofs.Rows.{placed_in}
use Rattle.engine.proofs.state.Engine.data_in.Goals as goal

pub returns-in-Err : goal.returns-in-Err
returns-in-Err g c = plays_as (λ b. (g.B.Bus.means b).shown) g.B.Bus.did _ _
    (placed_in (view c.args.self.now.state) c.args.held.now.k (entry_of c.args.held.now.slot) c.args.byte (Err c.in-Err.outcome) (sym c.in-Err.is ∙ c.place.ensures.place))
    c.args.bus.now c.args.memory.now c.abort.result (view c.abort.new.self.state) c.abort.new.bus c.args.memory.now (c.abort.ensures c.args.memory.now)
