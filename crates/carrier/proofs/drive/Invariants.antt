use Rattle.shelf.specs.Model.{Model}
use Rattle.bus.specs.State.{Name}
use Rattle.carrier.specs.Carrying.{KeptFrom}
use Rattle.carrier.specs.Underway.{Going, begun}
use Rattle.carrier.proofs.drive.Given as goal

abbrev pub invariant-loop : goal.invariant-loop
invariant-loop g l =
    KeptFrom l.carried.moved l.initial.into l.into
    × ((m : Model) (n : Name) → Going m n l.sent.command.now l.sent.out.now begun l.initial.into (g.B.Bus.means l.initial.bus)
    → Going m n l.sent.command.now l.sent.out.now l.carried l.into (g.B.Bus.means l.bus))
