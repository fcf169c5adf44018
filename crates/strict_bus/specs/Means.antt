-- What the fields of a strict bus mean. Assumes nothing.
use Rattle.std.specs.Prelude.{ℕ, Bool, true, List, take, Some, None, Option}
use Rattle.scsi.specs.Kept.{cdb_bytes}
use Rattle.shelf.specs.Model.{Model}
use Rattle.bus.specs.declared.Shown.{Shown}
use Rattle.bus.specs.declared.Shown.TheVariants.{Command, MessageIn, Free}
use Rattle.bus.specs.State.{Name, Nexus, Cable, BusState}
use Rattle.bus.specs.Refusals.{name_of}
use Rattle.bus.specs.declared.Stage.{Stage}
use Rattle.bus.specs.declared.Stage.TheVariants.{Empty, Fresh, Commanded, Ended}
use Rattle.strict_bus.specs.declared.out.OutBytes.{OutBytes}
use Rattle.strict_bus.specs.declared.state.StrictBus.{StrictBus}
use Rattle.bus.specs.Single.{resting, holding}
use Rattle.strict_bus.specs.Text.{underway}

-- a nexus that may leave or not, at this place, with these bytes collected
abbrev pub nexus_at : Bool → ℕ → List ℕ → Option (List ℕ) → Option ℕ → Nexus
nexus_at leave place collected command status = record {
  leave = leave;
  command = command;
  status = status;
  place = place;
  saved = 0;
  collected = collected;
}

abbrev pub cable_at : Model → Name → Bool → ℕ → List ℕ → Stage → Cable
cable_at m n leave p out Empty = resting m
cable_at m n leave p out Fresh = holding m n (nexus_at leave p out None None)
cable_at m n leave p out (Commanded d) = holding m n (nexus_at leave p out (Some (cdb_bytes d)) None)
cable_at m n leave p out (Ended d st) = holding m n (nexus_at leave p out (Some (cdb_bytes d)) (Some st))

abbrev pub shown_at : Model → Name → ℕ → Stage → Shown
shown_at m n p Empty = Free
shown_at m n p Fresh = Command
shown_at m n p (Commanded d) = underway m n (cdb_bytes d) p
shown_at m n p (Ended d st) = MessageIn 0

abbrev pub at : Model → Name → Bool → ℕ → List ℕ → Stage → BusState
at m n leave p out g = record { cable = cable_at m n leave p out g; shown = shown_at m n p g; order = true }

abbrev pub name_in : {X : Type 0} → StrictBus X → Name
name_in s = name_of s.opened.target s.opened.greeting

-- the out bytes that a nexus was given
abbrev pub bytes_in : OutBytes → List ℕ
bytes_in o = take o.count o.bytes

abbrev pub meaning : {X : Type 0} → (X → Model) → StrictBus X → BusState
meaning model s = at (model s.shelf) (name_in s) s.opened.greeting.leave s.place (bytes_in s.out) s.stage
