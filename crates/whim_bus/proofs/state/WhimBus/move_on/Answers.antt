use Rattle.std.proofs.Common.{rules, ◌<◌}
use Rattle.whim_bus.specs.declared.rows.Row.{Row}
use Rattle.whim_bus.specs.View.{HasLine}
use Rattle.whim_bus.proofs.Room.{data_room}
use Rattle.whim_bus.proofs.state.WhimBus.move_on.Goals as goal

pub on_row-requires : goal.on_row-requires
on_row-requires g c =
    let s = c.args.self.now in
    let roomy : (r : Row) → HasLine s r → r.place < 2048 = data_room g.S.Shelf.model s (g.met.S.Shelf.lawful s.shelf).owed.small c.requires in
    search (rules, roomy)
