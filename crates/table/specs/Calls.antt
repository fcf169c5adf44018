-- The calls of the engine: submit, step, run, collect, reset, and the owner's write between calls. Assumes nothing.
use Rattle.std.specs.Prelude.{◌≡◌, ℕ, zero, suc, ◌+◌, ◌<◌, Bool, true, false, cond, not, ◌&&◌, ◌||◌, List, [], ◌∷◌, ◌++◌, length, Some, None, Ok, Err, Option, Result, ◌==◌, nat_lt, slice_index}
use Rattle.scsi.specs.Rows.{◌then◌, ◌else◌}
use Rattle.scsi.specs.Commands.{well_sized}
use Rattle.shelf.specs.declared.Way.{Way}
use Rattle.shelf.specs.declared.Way.TheVariants.{Still, In, Out}
use Rattle.bus.specs.declared.Shown.{Shown}
use Rattle.bus.specs.Calls.{Call, Reply}
use Rattle.bus.specs.Rules.{Did}
use Rattle.slots.specs.declared.command.Manner.{Manner}
use Rattle.slots.specs.declared.command.Manner.TheVariants.{Plain, Leaving, Tagged}
use Rattle.slots.specs.declared.slot.State.{State}
use Rattle.slots.specs.declared.slot.State.TheVariants.{Free, Waiting, Connected, Away, Finished}
use Rattle.slots.specs.declared.answer.Answer.{Answer}
use Rattle.slots.specs.declared.answer.Answer.TheVariants.{Idle, Waited, Lost, Selected, Accepted, Moved, Finished as FinishedAnswer, Told, Fault as FaultAnswer}
use Rattle.slots.specs.declared.answer.End.{End}
use Rattle.slots.specs.declared.answer.End.TheVariants.{Spent, Finished as FinishedEnd, Fault as FaultEnd}
use Rattle.slots.specs.declared.answer.Collected.{Collected}
use Rattle.table.specs.Engine.{Command, Entry, idle, Engine, in_use, is_open, is_waiting, is_out, every, put_slot, with_state, reset_where}
use Rattle.table.specs.Script.{Plays, World, Runs}
use Rattle.table.specs.Table.{step as table_step}

---- submit

-- what is asked for: target, LUN, manner, direction, command bytes, region
pub record Request : Type 0 where
  pub target : ℕ
  pub lun : ℕ
  pub manner : ℕ
  pub direction : ℕ
  pub bytes : List ℕ
  pub base : ℕ
  pub length : ℕ

-- manner and direction by their numbers, which are at most 2
abbrev pub manner_of : ℕ → Manner
manner_of n = cond (n == 0) Plain (cond (n == 1) Leaving Tagged)

abbrev pub direction_of : ℕ → Way
direction_of n = cond (n == 0) Still (cond (n == 1) In Out)

-- the command as it is kept
abbrev pub command_asked : Request → Command
command_asked r = record {
  target = r.target;
  lun = r.lun;
  manner = manner_of r.manner;
  direction = direction_of r.direction;
  bytes = r.bytes;
  base = r.base;
  length = r.length;
}

-- two regions, each of a base and a length, share a byte
abbrev pub share : ℕ → ℕ → ℕ → ℕ → Bool
share b n c m = (nat_lt 0 n && nat_lt 0 m) && (nat_lt b (c + m) && nat_lt c (b + n))

-- a slot is not in use, or its region shares no byte with the one asked for, or both are out
abbrev pub clear_by : Command → Entry → Bool
clear_by c x = not (in_use x.state) || (not (share c.base c.length x.command.base x.command.length) || (is_out c.direction && is_out x.command.direction))

abbrev pub clear_of : Engine → Command → ℕ → Bool
clear_of e c k = clear_by c (e.slots k)

-- the first test of the request alone that fails, by its number; else what the others come to
abbrev pub malformed : Request → Option ℕ → Option ℕ
malformed r others =
    nat_lt 6 r.target then Some 1
    else nat_lt 7 r.lun then Some 2
    else not (well_sized r.bytes) then Some 3
    else nat_lt 2 r.manner || (nat_lt 2 r.direction || (r.direction == 0 && not (r.length == 0))) then Some 4
    else others

-- the first test that fails
abbrev pub earlier_refusal : Engine → Request → Option ℕ
earlier_refusal e r = malformed r (
    nat_lt e.size (r.base + r.length) then Some 5
    else not (every 16 (clear_of e (command_asked r))) then Some 6
    else None)

-- a command just accepted: waiting, pointers 0, nothing sent, no status
abbrev pub just_accepted : Command → Entry
just_accepted c = record { state = Waiting; command = c; current = 0; saved = 0; sent = false; status = None }

-- the free head is taken and appended to the waiting chain
abbrev pub taken_in : Command → List ℕ → Engine → Engine
taken_in c [] e = e
taken_in c (k ∷ ks) e = record {
  slots = put_slot k (just_accepted c) e.slots;
  free = ks;
  waiting = e.waiting ++ k ∷ [];
  line = e.line;
  size = e.size;
}

-- the slot of the ticket; number 7 where the free chain is empty
abbrev pub ticket_or_7 : List ℕ → Result ℕ ℕ
ticket_or_7 [] = Err 7
ticket_or_7 (k ∷ ks) = Ok k

abbrev pub submit_answer : Option ℕ → Engine → Result ℕ ℕ
submit_answer (Some n) e = Err n
submit_answer None e = ticket_or_7 e.free

abbrev pub submit_engine : Option ℕ → Request → Engine → Engine
submit_engine (Some n) r e = e
submit_engine None r e = taken_in (command_asked r) e.free e

pub record Submits (w : World) (r : Request) (a : Result ℕ ℕ) (w' : World) : Type 0 where
  pub answer : a ≡ submit_answer (earlier_refusal w.engine r) w.engine
  pub after : w' ≡ record { engine = submit_engine (earlier_refusal w.engine r) r w.engine; bus = w.bus; memory = w.memory }

---- collect

-- result, status and count of a finished command; else refused
abbrev pub collect_answer : State → Entry → Result Collected ℕ
collect_answer Free x = Err 9
collect_answer Waiting x = Err 9
collect_answer Connected x = Err 9
collect_answer Away x = Err 9
collect_answer (Finished o) x = Ok (record { outcome = o; status = x.status; count = x.current })

-- its slot is put at the free head
abbrev pub put_back : ℕ → Engine → Engine
put_back k e = record { slots = put_slot k (with_state Free (e.slots k)) e.slots; free = k ∷ e.free; waiting = e.waiting; line = e.line; size = e.size }

abbrev pub collect_engine : State → ℕ → Engine → Engine
collect_engine Free k e = e
collect_engine Waiting k e = e
collect_engine Connected k e = e
collect_engine Away k e = e
collect_engine (Finished o) k e = put_back k e

pub record Collects (w : World) (k : ℕ) (a : Result Collected ℕ) (w' : World) : Type 0 where
  pub answer : a ≡ collect_answer (w.engine.slots k).state (w.engine.slots k)
  pub after : w' ≡ record { engine = collect_engine (w.engine.slots k).state k w.engine; bus = w.bus; memory = w.memory }

---- reset: connected, away and waiting commands

abbrev pub open_or_waiting : State → Bool
open_or_waiting s = is_open s || is_waiting s

abbrev pub reset_engine : Engine → Engine
reset_engine e = record { slots = λ k. reset_where open_or_waiting (e.slots k); free = e.free; waiting = []; line = idle; size = e.size }

pub record Resets (w : World) (w' : World) : Type 0 where
  pub reply : Reply
  pub bus : Did w.bus Call.reset reply w'.bus
  pub engine : w'.engine ≡ reset_engine w.engine
  pub memory : w'.memory ≡ w.memory

---- step and run

-- one of two, by a test
abbrev pub When : Bool → Type 0 → Type 0 → Type 0
When true A B = A
When false A B = B

-- one row of the step table
abbrev pub Row : World → Answer → World → Type 0
Row w a w' = Runs (table_step w.engine) w.bus w.memory a w'

-- the memory has the stated size
abbrev pub fits : World → Bool
fits w = length w.memory == w.engine.size

-- number 8 where it has not; else one row
abbrev pub Steps : World → Result Answer ℕ → World → Type 0
Steps w r w' = When (fits w) ((a : Answer) × (r ≡ Ok a) × Row w a w') ((r ≡ Err 8) × (w' ≡ w))

-- how an answer ends a run: FINISHED and faults do, the others leave it to its allowance
abbrev pub end_by : Answer → End
end_by (FinishedAnswer k) = FinishedEnd k
end_by (FaultAnswer f) = FaultEnd f
end_by Idle = Spent
end_by (Waited k) = Spent
end_by (Lost k) = Spent
end_by (Selected k) = Spent
end_by Accepted = Spent
end_by (Moved k) = Spent
end_by (Told k) = Spent

abbrev pub is_end : End → Bool
is_end Spent = false
is_end (FinishedEnd k) = true
is_end (FaultEnd f) = true

abbrev pub ends : Answer → Bool
ends a = is_end (end_by a)

-- rows played one after another, at most n, on a bus of any type, by what it shows and what one call of it does
abbrev pub PlaysRun : {B : Type 0} → (B → Shown) → (B → Call → Reply → B → Type 0) → ℕ → Engine → B → List ℕ → ℕ → End → Engine → B → List ℕ → Type 0
PlaysRun see did zero e b m made end e' b' m' = (made ≡ 0) × (end ≡ Spent) × (e' ≡ e) × (b' ≡ b) × (m' ≡ m)
PlaysRun {B} see did (suc n) e b m made end e' b' m' = (a : Answer) × (e₁ : Engine) × (b₁ : B) × (m₁ : List ℕ) × Plays see did (table_step e) b m a e₁ b₁ m₁
    × When (ends a) ((made ≡ 1) × (end ≡ end_by a) × (e' ≡ e₁) × (b' ≡ b₁) × (m' ≡ m₁)) ((k : ℕ) × (made ≡ suc k) × PlaysRun see did n e₁ b₁ m₁ k end e' b' m')

-- the same on what a bus means
abbrev pub Passes : ℕ → World → ℕ → End → World → Type 0
Passes n w made end w' = PlaysRun (λ b. b.shown) Did n w.engine w.bus w.memory made end w'.engine w'.bus w'.memory

-- number 8 in the same way, after 0 steps; else rows, with how many they are
abbrev pub Run : World → ℕ → ℕ → Result End ℕ → World → Type 0
Run w n made r w' = When (fits w) ((end : End) × (r ≡ Ok end) × Passes n w made end w') ((made ≡ 0) × (r ≡ Err 8) × (w' ≡ w))

---- the owner's write: only outside regions of uncollected commands

pub record Writes (w : World) (w' : World) : Type 0 where
  pub engine : w'.engine ≡ w.engine
  pub bus : w'.bus ≡ w.bus
  pub long : length w'.memory ≡ length w.memory
  pub kept : (k i : ℕ) → in_use (w.engine.slots k).state ≡ true → i < (w.engine.slots k).command.length
      → slice_index w'.memory ((w.engine.slots k).command.base + i) ≡ slice_index w.memory ((w.engine.slots k).command.base + i)

---- lists of calls

-- a call, with what it was asked and what it answered
pub data Event : Type 0 where
  submit : Request → Result ℕ ℕ → Event
  step : Result Answer ℕ → Event
  run : ℕ → ℕ → Result End ℕ → Event
  collect : ℕ → Result Collected ℕ → Event
  reset : Event
  owner : Event

-- what a call does
abbrev pub Does : Event → World → World → Type 0
Does (submit r a) w w' = Submits w r a w'
Does (step a) w w' = Steps w a w'
Does (run n made a) w w' = Run w n made a w'
Does (collect k a) w w' = Collects w k a w'
Does reset w w' = Resets w w'
Does owner w w' = Writes w w'

-- a call with the world that it left; the last call stands first
pub record Step : Type 0 where
  pub event : Event
  pub after : World

abbrev pub at_end : World → List Step → World
at_end w [] = w
at_end w (s ∷ ss) = s.after

-- each call does what it does, from the world that the one before it left
abbrev pub History : World → List Step → Type 0
History w [] = Unit {0}
History w (s ∷ ss) = History w ss × Does s.event (at_end w ss) s.after
