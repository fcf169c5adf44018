-- The engine as the step table sees it: slots by number, the two chains as lists of slot numbers, the line. Assumes nothing.
use Rattle.std.specs.Prelude.{◌≡◌, ℕ, zero, suc, ◌+◌, Bool, true, false, cond, ◌&&◌, ◌||◌, List, [], ◌∷◌, Some, None, Option, ◌==◌, nat_le}
use Rattle.shelf.specs.declared.Way.{Way}
use Rattle.shelf.specs.declared.Way.TheVariants.{Still, In, Out}
use Rattle.bus.specs.State.{Name}
use Rattle.slots.specs.declared.command.Manner.{Manner}
use Rattle.slots.specs.declared.command.Manner.TheVariants.{Plain, Leaving, Tagged}
use Rattle.slots.specs.declared.slot.Outcome.{Outcome}
use Rattle.slots.specs.declared.slot.Outcome.TheVariants.{Done, Absent, Overrun, WrongWay, Dropped, Reset}
use Rattle.slots.specs.declared.slot.State.{State}
use Rattle.slots.specs.declared.slot.State.TheVariants.{Free, Waiting, Connected, Away, Finished}

-- a command: unit, manner, direction, command bytes, region
pub record Command : Type 0 where
  pub target : ℕ
  pub lun : ℕ
  pub manner : Manner
  pub direction : Way
  pub bytes : List ℕ
  pub base : ℕ
  pub length : ℕ

-- a slot: its state, its command, current and saved pointer, whether the command was sent, its status if it has one
pub record Entry : Type 0 where
  pub state : State
  pub command : Command
  pub current : ℕ
  pub saved : ℕ
  pub sent : Bool
  pub status : Option ℕ

-- the line: idle, greeted by a target (nothing, its LUN, its LUN and 20h have come), held by a slot with a begun message
pub data Line : Type 0 where
  idle : Line
  greeted : ℕ → Line
  named tag_due : ℕ → ℕ → Line
  held : ℕ → List ℕ → Line

pub record Engine : Type 0 where
  pub slots : ℕ → Entry
  pub free : List ℕ
  pub waiting : List ℕ
  pub line : Line
  pub size : ℕ

---- what a slot's state says

abbrev pub in_use : State → Bool
in_use Free = false
in_use Waiting = true
in_use Connected = true
in_use Away = true
in_use (Finished o) = true

abbrev pub is_waiting : State → Bool
is_waiting Free = false
is_waiting Waiting = true
is_waiting Connected = false
is_waiting Away = false
is_waiting (Finished o) = false

-- connected or away
abbrev pub is_open : State → Bool
is_open Free = false
is_open Waiting = false
is_open Connected = true
is_open Away = true
is_open (Finished o) = false

abbrev pub is_away : State → Bool
is_away Free = false
is_away Waiting = false
is_away Connected = false
is_away Away = true
is_away (Finished o) = false

abbrev pub is_finished : State → Bool
is_finished Free = false
is_finished Waiting = false
is_finished Connected = false
is_finished Away = false
is_finished (Finished o) = true

abbrev pub done_outcome : Outcome → Bool
done_outcome Done = true
done_outcome Absent = false
done_outcome Overrun = false
done_outcome WrongWay = false
done_outcome Dropped = false
done_outcome Reset = false

abbrev pub is_done : State → Bool
is_done Free = false
is_done Waiting = false
is_done Connected = false
is_done Away = false
is_done (Finished o) = done_outcome o

---- a command's manner

abbrev pub tagged : Manner → Bool
tagged Plain = false
tagged Leaving = false
tagged Tagged = true

abbrev pub may_leave : Manner → Bool
may_leave Plain = false
may_leave Leaving = true
may_leave Tagged = true

-- its tag is its slot number
abbrev pub tag_for : ℕ → Manner → Option ℕ
tag_for k Plain = None
tag_for k Leaving = None
tag_for k Tagged = Some k

-- the name of its nexus
abbrev pub name_for : ℕ → Command → Name
name_for k c = record { target = c.target; lun = c.lun; tag = tag_for k c.manner }

abbrev pub same_unit : Command → Command → Bool
same_unit c d = c.target == d.target && c.lun == d.lun

abbrev pub is_in : Way → Bool
is_in Still = false
is_in In = true
is_in Out = false

abbrev pub is_out : Way → Bool
is_out Still = false
is_out In = false
is_out Out = true

---- slots by number, 1 to 16

abbrev pub numbered : ℕ → Bool
numbered k = nat_le 1 k && nat_le k 16

-- whether all of the slots 1 to n pass
unfoldable pub every : ℕ → (ℕ → Bool) → Bool
every zero p = true
every (suc n) p = p (suc n) && every n p

-- how many of the slots 1 to n pass
unfoldable pub tally : ℕ → (ℕ → Bool) → ℕ
tally zero p = 0
tally (suc n) p = cond (p (suc n)) 1 0 + tally n p

abbrev pub or_else : Option ℕ → Option ℕ → Option ℕ
or_else None o = o
or_else (Some k) o = Some k

-- the first of the slots 1 to n that passes
unfoldable pub seek : ℕ → (ℕ → Bool) → Option ℕ
seek zero p = None
seek (suc n) p = or_else (seek n p) (cond (p (suc n)) (Some (suc n)) None)

-- the first of a chain that passes
unfoldable pub first_of : List ℕ → (ℕ → Bool) → Option ℕ
first_of [] p = None
first_of (k ∷ ks) p = cond (p k) (Some k) (first_of ks p)

-- a chain without this slot
unfoldable pub without : ℕ → List ℕ → List ℕ
without k [] = []
without k (j ∷ js) = cond (j == k) (without k js) (j ∷ without k js)

-- whether a slot stands on a chain
unfoldable pub stands_on : ℕ → List ℕ → Bool
stands_on k [] = false
stands_on k (j ∷ js) = k == j || stands_on k js

---- changes

abbrev pub put_slot : ℕ → Entry → (ℕ → Entry) → ℕ → Entry
put_slot k x f j = cond (j == k) x (f j)

-- slot k changed, and the line
abbrev pub set_slot : ℕ → Entry → Line → Engine → Engine
set_slot k x l e = record { slots = put_slot k x e.slots; free = e.free; waiting = e.waiting; line = l; size = e.size }

-- the same, and slot k off the waiting chain
abbrev pub unlink_slot : ℕ → Entry → Line → Engine → Engine
unlink_slot k x l e = record { slots = put_slot k x e.slots; free = e.free; waiting = without k e.waiting; line = l; size = e.size }

abbrev pub set_line : Line → Engine → Engine
set_line l e = record { slots = e.slots; free = e.free; waiting = e.waiting; line = l; size = e.size }

abbrev pub with_state : State → Entry → Entry
with_state s x = record { state = s; command = x.command; current = x.current; saved = x.saved; sent = x.sent; status = x.status }

abbrev pub with_pointers : ℕ → ℕ → Entry → Entry
with_pointers c s x = record { state = x.state; command = x.command; current = c; saved = s; sent = x.sent; status = x.status }

abbrev pub with_sent : Entry → Entry
with_sent x = record { state = x.state; command = x.command; current = x.current; saved = x.saved; sent = true; status = x.status }

abbrev pub with_status : ℕ → Entry → Entry
with_status v x = record { state = x.state; command = x.command; current = x.current; saved = x.saved; sent = x.sent; status = Some v }

-- finished RESET, where the state passes the test
abbrev pub reset_where : (State → Bool) → Entry → Entry
reset_where p x = cond (p x.state) (with_state (Finished Reset) x) x

---- how it begins

-- the numbers of the slots, as the free chain of a fresh engine has them
abbrev pub all_numbers : List ℕ
all_numbers = 1 ∷ 2 ∷ 3 ∷ 4 ∷ 5 ∷ 6 ∷ 7 ∷ 8 ∷ 9 ∷ 10 ∷ 11 ∷ 12 ∷ 13 ∷ 14 ∷ 15 ∷ 16 ∷ []

-- an engine just made
pub record JustMade (e : Engine) : Type 0 where
  pub slots : (k : ℕ) → (e.slots k).state ≡ Free
  pub all_free : e.free ≡ all_numbers
  pub waiting : e.waiting ≡ []
  pub line : e.line ≡ idle
