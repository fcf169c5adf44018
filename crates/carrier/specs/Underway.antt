-- A command underway, as its driver and its bus know it. Assumes nothing.
use Rattle.std.specs.Prelude.{⊤, ◌≡◌, ℕ, ◌<◌, ◌≤◌, true, List, [], length, Some, None, Ok, Err, Option, Result, slice_index}
use Rattle.std.specs.declared.ops.ControlFlow.{ControlFlow}
use Rattle.std.specs.declared.ops.ControlFlow.TheVariants.{Continue, Break}
use Rattle.shelf.specs.declared.Way.TheVariants.{In, Out}
use Rattle.shelf.specs.Model.{Model, way_of, count_of, byte_of, status_of}
use Rattle.shelf.specs.Serving.{outs}
use Rattle.bus.specs.State.{Name, Nexus, BusState}
use Rattle.bus.specs.Single.{resting, holding}
use Rattle.carrier.specs.declared.Carried.{Carried}
use Rattle.carrier.specs.declared.Trouble.{Trouble}
use Rattle.carrier.specs.Carrying.{ServedWhole}

-- k data bytes have moved
pub record Moved (m : Model) (n : Name) (c out : List ℕ) (k : ℕ) (into : List ℕ) (x : Nexus) : Type 0 where
  pub given : x.collected ≡ outs (way_of m n.target n.lun c) k (λ i. slice_index out i)
  pub enough : way_of m n.target n.lun c ≡ Out → k ≤ length out
  pub room : way_of m n.target n.lun c ≡ In → k ≤ length into
  pub taken : way_of m n.target n.lun c ≡ In → (i : ℕ) → i < k → slice_index into i ≡ byte_of m n.target n.lun c i

-- the status has come, after all data
pub record Told (m : Model) (n : Name) (c : List ℕ) (u : Carried) (st : ℕ) : Type 0 where
  pub noted : u.status ≡ st
  pub status : st ≡ status_of m n.target n.lun c
  pub count : u.moved ≡ count_of m n.target n.lun c

-- before the command was sent, after it, and after the status
abbrev pub SoFar : Model → Name → List ℕ → List ℕ → Carried → List ℕ → Nexus → Option (List ℕ) → Option ℕ → Type 0
SoFar m n c out u into x None st = (x.place ≡ 0) × (x.collected ≡ []) × (st ≡ None)
SoFar m n c out u into x (Some d) None = (d ≡ c) × Moved m n c out x.place into x
SoFar m n c out u into x (Some d) (Some st) = (d ≡ c) × Moved m n c out x.place into x × Told m n c u st

-- the nexus n holds the line, and is as far as the driver
pub record Going (m : Model) (n : Name) (c out : List ℕ) (u : Carried) (into : List ℕ) (b : BusState) : Type 0 where
  pub nexus : Nexus
  pub order : b.order ≡ true
  pub cable : b.cable ≡ holding m n nexus
  pub place : nexus.place ≡ u.moved
  pub so_far : SoFar m n c out u into nexus nexus.command nexus.status

-- the command is served, and the line free
pub record Over (m : Model) (n : Name) (c out : List ℕ) (x : Carried) (into : List ℕ) (b : BusState) : Type 0 where
  pub order : b.order ≡ true
  pub after : Model
  pub cable : b.cable ≡ resting after
  pub served : ServedWhole m n.target n.lun c out x into after

-- the bus is in order, and its shelf as it was
pub record Unchanged (m : Model) (b : BusState) : Type 0 where
  pub order : b.order ≡ true
  pub shelf : b.cable.shelf ≡ m

-- one turn further, or at the end
abbrev pub Turned : Model → Name → List ℕ → List ℕ → Result (ControlFlow ⊤ ⊤) Trouble → Carried → List ℕ → BusState → Type 0
Turned m n c out (Ok (Continue _)) u into b = Going m n c out u into b
Turned m n c out (Ok (Break _)) u into b = Over m n c out u into b
Turned m n c out (Err e) u into b = Unchanged m b

-- at the beginning
abbrev pub begun : Carried
begun = record { status = 0; moved = 0 }

-- at the end
abbrev pub Ends : Model → Name → List ℕ → List ℕ → Result Carried Trouble → List ℕ → BusState → Type 0
Ends m n c out (Ok x) into b = Over m n c out x into b
Ends m n c out (Err e) into b = Unchanged m b
