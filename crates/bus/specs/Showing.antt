-- What a bus in order may show. PAUSE may come anywhere. Assumes nothing.
use Rattle.std.specs.Prelude.{◌≡◌, ℕ, ◌+◌, ◌<◌, true, List, [], ◌∷◌, Some, None, Option, ◌≢◌}
use Rattle.shelf.specs.declared.Way.{Way}
use Rattle.shelf.specs.declared.Way.TheVariants.{Still, In, Out}
use Rattle.shelf.specs.Model.{Model, way_of, count_of, byte_of, status_of}
use Rattle.bus.specs.declared.Shown.{Shown}
use Rattle.bus.specs.declared.Shown.TheVariants.{DataOut, DataIn, Command, Status, Reserved4, Reserved5, MessageOut, MessageIn, Free, Reselect, Pause}
use Rattle.bus.specs.State.{Name, Nexus, Heard, nothing, named, tag_due, Line, free, retaken, held, Cable, BusState}

-- how data of this way is shown, with the byte of an in command (without a way there is no data, so its pause never comes)
abbrev pub data_shown : Way → ℕ → Shown
data_shown Still v = Pause
data_shown In v = DataIn v
data_shown Out v = DataOut

---- a held line with no begun message

-- DATA IN: the byte at the place, of an in command that is underway, while the place is below its count
pub record Offers (m : Model) (n : Name) (x : Nexus) (v : ℕ) : Type 0 where
  pub sent : List ℕ
  pub commanded : x.command ≡ Some sent
  pub before_status : x.status ≡ None
  pub in_way : way_of m n.target n.lun sent ≡ In
  pub more : x.place < count_of m n.target n.lun sent
  pub the_byte : v ≡ byte_of m n.target n.lun sent x.place

-- DATA OUT: the byte at the place, of an out command that is underway, is asked for while the place is below its count
pub record Asks (m : Model) (n : Name) (x : Nexus) : Type 0 where
  pub sent : List ℕ
  pub commanded : x.command ≡ Some sent
  pub before_status : x.status ≡ None
  pub out_way : way_of m n.target n.lun sent ≡ Out
  pub more : x.place < count_of m n.target n.lun sent

-- no nexus of this unit has been sent an in command
abbrev pub NoReader : Model → (Name → Option Nexus) → ℕ → ℕ → Type 0
NoReader m f t l = (k : Option ℕ) (y : Nexus) (d : List ℕ) → f (record { target = t; lun = l; tag = k }) ≡ Some y → y.command ≡ Some d → way_of m t l d ≢ In

-- STATUS: only when all data is moved, and the shelf's own; for an out command only while no reader of its unit is underway
pub record Closes (m : Model) (f : Name → Option Nexus) (n : Name) (x : Nexus) (v : ℕ) : Type 0 where
  pub sent : List ℕ
  pub commanded : x.command ≡ Some sent
  pub before_status : x.status ≡ None
  pub at_count : x.place ≡ count_of m n.target n.lun sent
  pub the_status : v ≡ status_of m n.target n.lun sent
  pub alone : way_of m n.target n.lun sent ≡ Out → NoReader m f n.target n.lun

-- MESSAGE IN before status: MESSAGE REJECT, or the first byte of an extended message; of a commanded nexus also
-- SAVE DATA POINTER, RESTORE POINTERS, and DISCONNECT where its greeting permitted it
pub data Utters (x : Nexus) : ℕ → Type 0 where
  rejects : Utters x 7
  extends : Utters x 1
  saving : (d : List ℕ) → x.command ≡ Some d → Utters x 2
  restoring : (d : List ℕ) → x.command ≡ Some d → Utters x 3
  leaving : (d : List ℕ) → x.command ≡ Some d → x.leave ≡ true → Utters x 4

-- after status only COMMAND COMPLETE
abbrev pub MessageBy : Nexus → Option ℕ → ℕ → Type 0
MessageBy x None v = Utters x v
MessageBy x (Some st) v = v ≡ 0

-- by the kind that is shown; COMMAND is for a nexus that has none, MESSAGE OUT for any before status
abbrev pub MayShow : Model → (Name → Option Nexus) → Name → Nexus → Shown → Type 0
MayShow m f n x DataOut = Asks m n x
MayShow m f n x (DataIn v) = Offers m n x v
MayShow m f n x Command = (x.command ≡ None) × (x.status ≡ None)
MayShow m f n x (Status v) = Closes m f n x v
MayShow m f n x Reserved4 = ⊥
MayShow m f n x Reserved5 = ⊥
MayShow m f n x MessageOut = x.status ≡ None
MayShow m f n x (MessageIn v) = MessageBy x x.status v
MayShow m f n x Free = ⊥
MayShow m f n x (Reselect t) = ⊥
MayShow m f n x Pause = Unit {0}

---- a begun message, or a target that retakes the line

-- only such a byte of a message, or a pause
abbrev pub MessageOnly : (ℕ → Type 0) → Shown → Type 0
MessageOnly P DataOut = ⊥
MessageOnly P (DataIn v) = ⊥
MessageOnly P Command = ⊥
MessageOnly P (Status v) = ⊥
MessageOnly P Reserved4 = ⊥
MessageOnly P Reserved5 = ⊥
MessageOnly P MessageOut = ⊥
MessageOnly P (MessageIn v) = P v
MessageOnly P Free = ⊥
MessageOnly P (Reselect t) = ⊥
MessageOnly P Pause = Unit {0}

-- the next byte of the greeting of some away nexus of the target
abbrev pub GreetingShows : Cable → ℕ → Heard → ℕ → Type 0
GreetingShows c t nothing v = (l : ℕ) × (g : Option ℕ) × (x : Nexus) × (c.nexuses (record { target = t; lun = l; tag = g }) ≡ Some x) × (v ≡ 128 + l)
GreetingShows c t (named l) v = v ≡ 32
GreetingShows c t (tag_due l) v = (x : Nexus) × (c.nexuses (record { target = t; lun = l; tag = Some v }) ≡ Some x)

-- a message begun on a held line is an extended one, before status, and goes on to its end
abbrev pub HoldsShow : Cable → Name → Nexus → List ℕ → Shown → Type 0
HoldsShow c n x [] s = MayShow c.shelf c.nexuses n x s
HoldsShow c n x (m ∷ ms) s = (m ≡ 1) × (x.status ≡ None) × MessageOnly (λ v. Unit {0}) s

---- a free line

-- FREE, or RESELECT of a target with an away nexus
abbrev pub FreeShows : Cable → Shown → Type 0
FreeShows c DataOut = ⊥
FreeShows c (DataIn v) = ⊥
FreeShows c Command = ⊥
FreeShows c (Status v) = ⊥
FreeShows c Reserved4 = ⊥
FreeShows c Reserved5 = ⊥
FreeShows c MessageOut = ⊥
FreeShows c (MessageIn v) = ⊥
FreeShows c Free = Unit {0}
FreeShows c (Reselect t) = (l : ℕ) × (g : Option ℕ) × (x : Nexus) × (c.nexuses (record { target = t; lun = l; tag = g }) ≡ Some x)
FreeShows c Pause = Unit {0}

---- by the line

abbrev pub LineShows : Cable → Line → Shown → Type 0
LineShows c free s = (c.begun ≡ []) × FreeShows c s
LineShows c (retaken t h) s = MessageOnly (GreetingShows c t h) s
LineShows c (held n) s = (x : Nexus) × (c.nexuses n ≡ Some x) × HoldsShow c n x c.begun s

abbrev pub Shows : BusState → Type 0
Shows b = LineShows b.cable b.cable.line b.shown
