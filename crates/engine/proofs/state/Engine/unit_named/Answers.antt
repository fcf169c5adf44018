use Rattle.std.proofs.Common.{false, sym, ◌∙◌}
use Rattle.table.specs.View.{view}
use Rattle.table.proofs.Basics.{seek_some}
use Rattle.engine.specs.Fields.{away_with}
use Rattle.engine.proofs.Rows.{found_away}
use Rattle.engine.proofs.state.Engine.unit_named.Goals as goal

pub reconnect-requires : goal.reconnect-requires
reconnect-requires g c =
    found_away c.args.self.now false c.args.unit.target c.args.unit.lun c.in-Some-default.k
    (seek_some 16 (away_with false (view c.args.self.now.state) c.args.unit.target c.args.unit.lun) c.in-Some-default.k (sym c.find_away-untagged.ensures ∙ c.in-Some-default.is-0))
