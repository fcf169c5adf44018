-- What a bus means at a moment: shelf, open nexuses, line, begun message, what is shown, whether it is in order. Assumes nothing.
use Rattle.std.specs.Prelude.{◌≡◌, ℕ, suc, ◌-◌, Bool, true, false, cond, ◌&&◌, List, [], ◌∷◌, ◌++◌, take, Some, None, Option, ◌==◌}
use Rattle.shelf.specs.Model.{Model}
use Rattle.bus.specs.declared.Shown.{Shown}

-- a nexus is an open connection between the initiator and a unit; its name is target, LUN, and tag if any
pub record Name : Type 0 where
  pub target : ℕ
  pub lun : ℕ
  pub tag : Option ℕ

abbrev pub same_tag : Option ℕ → Option ℕ → Bool
same_tag None None = true
same_tag None (Some b) = false
same_tag (Some a) None = false
same_tag (Some a) (Some b) = a == b

abbrev pub same_name : Name → Name → Bool
same_name a b = a.target == b.target && (a.lun == b.lun && same_tag a.tag b.tag)

-- an open nexus: whether it may leave the line, its command if sent, its status if taken, its place and saved place in the
-- data, and the bytes given to it up to its place
pub record Nexus : Type 0 where
  pub leave : Bool
  pub command : Option (List ℕ)
  pub status : Option ℕ
  pub place : ℕ
  pub saved : ℕ
  pub collected : List ℕ

-- what a target that retakes the line has said of its greeting: nothing, the LUN, the LUN and 20h
pub data Heard : Type 0 where
  nothing : Heard
  named tag_due : ℕ → Heard

-- the line: free, being retaken by a target, or held by a nexus
pub data Line : Type 0 where
  free : Line
  retaken : ℕ → Heard → Line
  held : Name → Line

-- what only the rules of calls may change: the shelf, the open nexuses by name and how many they are, the line, and the
-- bytes of a message that was begun on a held line
pub record Cable : Type 0 where
  pub shelf : Model
  pub nexuses : Name → Option Nexus
  pub opened : ℕ
  pub line : Line
  pub begun : List ℕ

pub record BusState : Type 0 where
  pub cable : Cable
  pub shown : Shown
  pub order : Bool

-- in order, with a free line and no nexus: how a bus begins
pub record AtRest (b : BusState) : Type 0 where
  pub order : b.order ≡ true
  pub line : b.cable.line ≡ free
  pub none : (n : Name) → b.cable.nexuses n ≡ None
  pub no_count : b.cable.opened ≡ 0

---- changes of a nexus

abbrev pub fresh_nexus : Bool → Nexus
fresh_nexus leave = record { leave = leave; command = None; status = None; place = 0; saved = 0; collected = [] }

-- its command is sent
abbrev pub sent : List ℕ → Nexus → Nexus
sent d x = record { leave = x.leave; command = Some d; status = x.status; place = x.place; saved = x.saved; collected = x.collected }

-- an in byte is taken
abbrev pub moved : Nexus → Nexus
moved x = record { leave = x.leave; command = x.command; status = x.status; place = suc x.place; saved = x.saved; collected = x.collected }

-- an out byte is given
abbrev pub given : ℕ → Nexus → Nexus
given v x = record { leave = x.leave; command = x.command; status = x.status; place = suc x.place; saved = x.saved; collected = x.collected ++ v ∷ [] }

-- its status is taken
abbrev pub ended : ℕ → Nexus → Nexus
ended v x = record { leave = x.leave; command = x.command; status = Some v; place = x.place; saved = x.saved; collected = x.collected }

-- its place is saved
abbrev pub saves : Nexus → Nexus
saves x = record { leave = x.leave; command = x.command; status = x.status; place = x.place; saved = x.place; collected = x.collected }

-- it goes back to its saved place
abbrev pub restored : Nexus → Nexus
restored x = record { leave = x.leave; command = x.command; status = x.status; place = x.saved; saved = x.saved; collected = take x.saved x.collected }

---- changes of what the rules guard

-- what this name has, put in the place of what it had
abbrev pub put : Name → Option Nexus → (Name → Option Nexus) → Name → Option Nexus
put n o f m = cond (same_name m n) o (f m)

abbrev pub adjust : (Nexus → Nexus) → Option Nexus → Option Nexus
adjust f None = None
adjust f (Some x) = Some (f x)

-- the nexus of this name changed
abbrev pub change : Name → (Nexus → Nexus) → Cable → Cable
change n f c = record { shelf = c.shelf; nexuses = put n (adjust f (c.nexuses n)) c.nexuses; opened = c.opened; line = c.line; begun = c.begun }

-- the nexus of this name closed, and the line free
abbrev pub close : Name → Cable → Cable
close n c = record { shelf = c.shelf; nexuses = put n None c.nexuses; opened = c.opened - 1; line = free; begun = [] }

-- all nexuses closed, and the line free
abbrev pub clear : Cable → Cable
clear c = record { shelf = c.shelf; nexuses = λ n. None; opened = 0; line = free; begun = [] }

abbrev pub with_line : Line → Cable → Cable
with_line l c = record { shelf = c.shelf; nexuses = c.nexuses; opened = c.opened; line = l; begun = c.begun }

abbrev pub with_begun : List ℕ → Cable → Cable
with_begun bs c = record { shelf = c.shelf; nexuses = c.nexuses; opened = c.opened; line = c.line; begun = bs }

abbrev pub with_shelf : Model → Cable → Cable
with_shelf m c = record { shelf = m; nexuses = c.nexuses; opened = c.opened; line = c.line; begun = c.begun }
