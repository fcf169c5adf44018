-- What ties engine, bus, memory and serving together between calls. Assumes nothing.
use Rattle.std.proofs.Common.{◌≡◌, ℕ, ◌+◌, ◌<◌, ◌≤◌, true, false, cond, not, ◌&&◌, List, [], get_or, Some, None, Option}
use Rattle.scsi.specs.Commands.{well_sized}
use Rattle.shelf.specs.Model.{Model, way_of, count_of, byte_of, status_of}
use Rattle.shelf.specs.Laws.{Owed}
use Rattle.shelf.specs.Serving.{Served, outs}
use Rattle.shelf.specs.declared.Way.TheVariants.{In, Out}
use Rattle.bus.specs.State.{Name, Nexus, Cable, nothing, free, retaken, Line as BusLine, held as bus_held, named as bus_named, tag_due as bus_tag_due}
use Rattle.bus.specs.Showing.{Shows, NoReader}
use Rattle.slots.specs.declared.slot.Outcome.{Outcome}
use Rattle.slots.specs.declared.slot.Outcome.TheVariants.{Done, Absent, Overrun, WrongWay, Dropped, Reset}
use Rattle.slots.specs.declared.slot.State.{State}
use Rattle.slots.specs.declared.slot.State.TheVariants.{Free, Waiting, Connected, Away, Finished}
use Rattle.table.specs.Engine.{Command, Entry, Engine, Line, idle, greeted, named, tag_due, held, in_use, is_open, is_waiting, is_finished, is_in, tagged, name_for, same_unit, numbered, stands_on}
use Rattle.table.specs.Script.{World}
use Rattle.table.specs.Serving.{Kept, Serving}
use Rattle.table.specs.Guarantee.{AsServed, in_use_count}
use Rattle.table.specs.Sound.{Once}

-- two regions share no byte
abbrev pub Apart : Command → Command → Type 0
Apart c d = (i j : ℕ) → i < c.length → j < d.length → c.base + i ≡ d.base + j → ⊥

-- slots, chains and counts
pub record Book (e : Engine) (s : Serving) : Type 0 where
  pub range : (k : ℕ) → in_use (e.slots k).state ≡ true → numbered k ≡ true
  pub free_chain : (k : ℕ) → stands_on k e.free ≡ (numbered k && not (in_use (e.slots k).state))
  pub free_once : Once e.free
  pub waiting_chain : (k : ℕ) → stands_on k e.waiting ≡ is_waiting (e.slots k).state
  pub kept : (k : ℕ) → in_use (e.slots k).state ≡ true → (s.kept k).command ≡ (e.slots k).command
  pub counted : s.accepted ≡ s.collected + in_use_count e
  pub well : (k : ℕ) → in_use (e.slots k).state ≡ true → well_sized (e.slots k).command.bytes ≡ true
  pub lun_small : (k : ℕ) → in_use (e.slots k).state ≡ true → (e.slots k).command.lun < 8
  pub inside : (k : ℕ) → in_use (e.slots k).state ≡ true → (e.slots k).command.base + (e.slots k).command.length ≤ e.size
  pub apart : (j k : ℕ) → in_use (e.slots j).state ≡ true → in_use (e.slots k).state ≡ true → (j ≡ k → ⊥)
      → is_in (e.slots j).command.direction ≡ true → Apart (e.slots j).command (e.slots k).command

-- after status: it is the shelf's, the place is the count, and for an out command no reader of the unit is underway
pub record Closing (sh : Model) (f : Name → Option Nexus) (x : Entry) (y : Nexus) (st : ℕ) : Type 0 where
  pub connected : x.state ≡ Connected
  pub sent : x.sent ≡ true
  pub the_status : st ≡ status_of sh x.command.target x.command.lun x.command.bytes
  pub at_count : y.place ≡ count_of sh x.command.target x.command.lun x.command.bytes
  pub alone : way_of sh x.command.target x.command.lun x.command.bytes ≡ Out → NoReader sh f x.command.target x.command.lun

-- a connected or away command and its nexus; bytes is what its region held at submit
pub record Underway (sh : Model) (f : Name → Option Nexus) (m : List ℕ) (x : Entry) (bytes : ℕ → ℕ) (y : Nexus) : Type 0 where
  pub command : y.command ≡ cond x.sent (Some x.command.bytes) None
  pub status : y.status ≡ x.status
  pub place_on : x.state ≡ Connected → y.place ≡ x.current
  pub place_away : x.state ≡ Away → y.place ≡ x.saved
  pub saved : y.saved ≡ x.saved
  pub low : y.saved ≤ y.place
  pub unsent : x.sent ≡ false → y.place ≡ 0
  -- writing: what the nexus collected is what the region held at submit
  pub out : y.collected ≡ outs (way_of sh x.command.target x.command.lun x.command.bytes) y.place bytes
  -- reading: below the place the shelf's bytes
  pub fetched : is_in x.command.direction ≡ true → way_of sh x.command.target x.command.lun x.command.bytes ≡ In → (i : ℕ) → i < y.place → i < x.command.length
      → get_or m (x.command.base + i) 0 ≡ byte_of sh x.command.target x.command.lun x.command.bytes i
  -- and elsewhere, but for places of a reader below its count, what the region held at submit
  pub untouched : (i : ℕ) → i < x.command.length
      → (is_in x.command.direction ≡ true → way_of sh x.command.target x.command.lun x.command.bytes ≡ In → count_of sh x.command.target x.command.lun x.command.bytes ≤ i)
      → get_or m (x.command.base + i) 0 ≡ bytes i
  pub closing : (st : ℕ) → y.status ≡ Some st → Closing sh f x y st

pub record HasNexus (c : Cable) (m : List ℕ) (k : ℕ) (x : Entry) (bytes : ℕ → ℕ) : Type 0 where
  pub nexus : Nexus
  pub here : c.nexuses (name_for k x.command) ≡ Some nexus
  pub underway : Underway c.shelf c.nexuses m x bytes nexus

-- a waiting command's region is untouched, a DONE one is as it was served
abbrev pub Ended : Outcome → Entry → List ℕ → Kept → Served → Type 0
Ended Done x m p r = AsServed x m p r
Ended Absent x m p r = Unit {0}
Ended Overrun x m p r = Unit {0}
Ended WrongWay x m p r = Unit {0}
Ended Dropped x m p r = Unit {0}
Ended Reset x m p r = Unit {0}

abbrev pub Settled : State → Entry → List ℕ → Kept → Served → Type 0
Settled Free x m p r = Unit {0}
Settled Waiting x m p r = (x.sent ≡ false) × (x.status ≡ None) × ((i : ℕ) → i < x.command.length → get_or m (x.command.base + i) 0 ≡ p.bytes i)
Settled Connected x m p r = Unit {0}
Settled Away x m p r = Unit {0}
Settled (Finished o) x m p r = Ended o x m p r

-- the bus's line by the engine's
abbrev pub line_means : Engine → Line → BusLine
line_means e idle = free
line_means e (greeted t) = retaken t nothing
line_means e (named t l) = retaken t (bus_named l)
line_means e (tag_due t l) = retaken t (bus_tag_due l)
line_means e (held k bs) = bus_held (name_for k (e.slots k).command)

abbrev pub begun_means : Line → List ℕ
begun_means idle = []
begun_means (greeted t) = []
begun_means (named t l) = []
begun_means (tag_due t l) = []
begun_means (held k bs) = bs

-- engine, bus and memory
pub record Ties (e : Engine) (c : Cable) (m : List ℕ) (s : Serving) : Type 0 where
  pub line : c.line ≡ line_means e e.line
  pub begun : c.begun ≡ begun_means e.line
  pub connected : (k : ℕ) → (e.slots k).state ≡ Connected → (bs : List ℕ) × (e.line ≡ held k bs)
  pub holding : (k : ℕ) (bs : List ℕ) → e.line ≡ held k bs → (e.slots k).state ≡ Connected
  pub nexus : (k : ℕ) → is_open (e.slots k).state ≡ true → HasNexus c m k (e.slots k) (s.kept k).bytes
  pub owned : (n : Name) (y : Nexus) → c.nexuses n ≡ Some y → (k : ℕ) × (is_open (e.slots k).state ≡ true) × (name_for k (e.slots k).command ≡ n)
  pub units : (j k : ℕ) → is_open (e.slots j).state ≡ true → is_open (e.slots k).state ≡ true → (j ≡ k → ⊥)
      → same_unit (e.slots j).command (e.slots k).command ≡ true → (tagged (e.slots j).command.manner ≡ true) × (tagged (e.slots k).command.manner ≡ true)
  pub settled : (k : ℕ) → Settled (e.slots k).state (e.slots k) m (s.kept k) (s.results k)

-- everything but which commands were reported
pub record Core (w : World) (s : Serving) : Type 0 where
  pub order : w.bus.order ≡ true
  pub shows : Shows w.bus
  pub laws : Owed w.bus.cable.shelf.kind
  pub shelf : w.bus.cable.shelf ≡ s.shelf
  pub book : Book w.engine s
  pub ties : Ties w.engine w.bus.cable w.memory s

pub record Inv (w : World) (s : Serving) : Type 0 where
  pub core : Core w s
  pub told : (k : ℕ) → s.reported k ≡ is_finished (w.engine.slots k).state
