-- The two states of a strict bus: what is shown in them, and how they change. Assumes nothing.
use Rattle.std.specs.Prelude.{◌≡◌, ℕ, Bool, true, false, cond, List, Some, None, ◌==◌, nat_lt}
use Rattle.std.proofs.Common.{sym}
use Rattle.shelf.specs.declared.Way.{Way}
use Rattle.shelf.specs.declared.Way.TheVariants.{Still, In, Out}
use Rattle.shelf.specs.Model.{Model, way_of, count_of, byte_of, status_of}
use Rattle.bus.specs.declared.Shown.{Shown}
use Rattle.bus.specs.declared.Shown.TheVariants.{DataOut, DataIn, Status, Pause}
use Rattle.bus.specs.State.{Name, Nexus, BusState}
use Rattle.bus.proofs.Names.{put_here}
use Rattle.bus.specs.Single.{holding}
use Rattle.bus.specs.Showing.{data_shown}
use Rattle.strict_bus.specs.Text.{underway, by_command, by_holder, strict}

-- the nexus that holds the line, and what is shown to it
abbrev pub state : Model → Name → Nexus → BusState
state m n x = record { cable = holding m n x; shown = by_command m n x x.command; order = true }

pub is_strict : (m : Model) (n : Name) (x : Nexus) → state m n x ≡ strict (holding m n x)
is_strict m n x = λ i. record { cable = holding m n x; shown = by_holder m n (sym (put_here n (Some x) (λ k. None)) i); order = true }

-- what is shown of a command underway is one of four
pub underway_is : (P : Shown → Type 0) → P DataOut → ((v : ℕ) → P (DataIn v)) → ((v : ℕ) → P (Status v)) → P Pause
    → (m : Model) (n : Name) (d : List ℕ) (p : ℕ) → P (underway m n d p)
underway_is P out in_byte status pause m n d p =
    go (nat_lt p (count_of m n.target n.lun d)) (way_of m n.target n.lun d) (p == count_of m n.target n.lun d)
  where
    go : (less : Bool) (w : Way) (last : Bool)
        → P (cond less (data_shown w (byte_of m n.target n.lun d p)) (cond last (Status (status_of m n.target n.lun d)) Pause))
    go true Still last = pause
    go true In last = in_byte _
    go true Out last = out
    go false w true = status _
    go false w false = pause
