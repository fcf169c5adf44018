use Rattle.std.proofs.Common.{ap, arith}
use Rattle.whim_bus.specs.declared.state.Line.TheVariants.{Free}
use Rattle.whim_bus.specs.Rows.{saving, going_back}
use Rattle.whim_bus.specs.State.{Whim, with_line}
use Rattle.whim_bus.proofs.Changing.{changed}
use Rattle.whim_bus.proofs.state.WhimBus.hear_underway.Goals as goal

pub returns-in-2 : goal.returns-in-2
returns-in-2 g c = rw c.in-2.is (changed g.S.Shelf.model c.args.self.now (omega arith) saving c.args.k _ _ _ c.save.ensures c.place.ensures.value c.place.ensures.inside)

pub returns-in-3 : goal.returns-in-3
returns-in-3 g c = rw c.in-3.is (changed g.S.Shelf.model c.args.self.now (omega arith) going_back c.args.k _ _ _ c.go_back.ensures c.place-in-3.ensures.value c.place-in-3.ensures.inside)

pub returns-in-4 : goal.returns-in-4
returns-in-4 g c =
    rw c.in-4.is
    (ap (λ (w : Whim). with_line Free w) (changed g.S.Shelf.model c.args.self.now (omega arith) going_back c.args.k _ _ _ c.go_back-in-4.ensures c.place-in-4.ensures.value c.place-in-4.ensures.inside))
