use Rattle.std.proofs.Common.{ap, arith}
use Rattle.whim_bus.specs.declared.state.Line.TheVariants.{Held}
use Rattle.whim_bus.specs.Rows.{taken_by}
use Rattle.whim_bus.specs.State.{Whim, with_line}
use Rattle.whim_bus.proofs.Changing.{changed}
use Rattle.whim_bus.proofs.state.WhimBus.open_row.Goals as goal

pub returns : goal.returns
returns g c =
    ap (λ (w : Whim). with_line (Held c.args.k) w)
    (changed g.S.Shelf.model c.args.self.now (omega arith) (taken_by c.args.opened.target c.args.opened.greeting) c.args.k _ _ _ c.open.ensures c.place.ensures.value c.place.ensures.inside)
