use Rattle.std.proofs.Common.{arith, refl}
use Rattle.whim_bus.proofs.Changing.{held_changed}
use Rattle.whim_bus.proofs.state.WhimBus.on_row.Goals as goal

pub returns-in-Held : goal.returns-in-Held
returns-in-Held g c = λ f seen.
    held_changed g.S.Shelf.model c.args.self.now (omega arith) f c.in-Held.k _ _ _
    (seen _ _ (record { shown = _; shows = refl; left = _; met = c.change.ensures; leaves = refl }))
    c.place.ensures.value c.place.ensures.inside c.in-Held.is
