-- A call that touches neither bus nor memory is lawful beside any of them. Assumes nothing.
use Rattle.std.specs.Prelude.{ℕ, List}
use Rattle.bus.specs.State.{BusState}
use Rattle.table.specs.Engine.{Engine}
use Rattle.table.specs.Calls.{Event}
use Rattle.table.specs.Guarantee.{Lawful}

abbrev pub LawfulBeside : Event → Engine → Engine → Type 0
LawfulBeside v e e' = (b : BusState) (m : List ℕ) → Lawful v (record { engine = e; bus = b; memory = m }) (record { engine = e'; bus = b; memory = m })
