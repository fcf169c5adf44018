use Rattle.std.proofs.Common.{ap, arith}
use Rattle.whim_bus.specs.declared.state.Line.TheVariants.{Free}
use Rattle.whim_bus.specs.Rows.{emptied}
use Rattle.whim_bus.specs.State.{Whim, with_line}
use Rattle.whim_bus.proofs.Changing.{changed}
use Rattle.whim_bus.proofs.state.WhimBus.close_row.Goals as goal

pub returns : goal.returns
returns g c =
    ap (λ (w : Whim). with_line Free w) (changed g.S.Shelf.model c.args.self.now (omega arith) emptied c.args.k _ _ _ c.close.ensures c.place.ensures.value c.place.ensures.inside)
