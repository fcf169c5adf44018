use Rattle.std.proofs.Common.{sym, ap}
use Rattle.table.specs.Table.{eligible, on_free}
use Rattle.table.specs.View.{view}
use Rattle.table.proofs.Basics.{first_of_some}
use Rattle.table.proofs.Meanings.{plays_as}
use Rattle.engine.proofs.state.Engine.on_free.Goals as goal

pub select-requires : goal.select-requires
select-requires g c = (first_of_some (view c.args.self.now.state).waiting (eligible (view c.args.self.now.state)) c.in-Some.k (sym c.in-Some.ensures)).0

pub returns-in-Some : goal.returns-in-Some
returns-in-Some g c = λ m. plays_as (λ b. (g.B.Bus.means b).shown) g.B.Bus.did _ _
    (ap (on_free (view c.args.self.now.state)) c.in-Some.ensures)
    c.args.bus.now m c.select.result (view c.select.new.self.state) c.select.new.bus m (c.select.ensures m)
