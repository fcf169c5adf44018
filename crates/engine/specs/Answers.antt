-- What the calls answer, by numbers. Assumes nothing.
use Rattle.std.specs.Prelude.{◌≡◌, ℕ, ◌≤◌, cond, List, length, Some, None, Ok, Err, Option, Result, ◌==◌, nat_lt}
use Rattle.slots.specs.declared.answer.Collected.{Collected}
use Rattle.slots.specs.declared.answer.Answer.{Answer}
use Rattle.slots.specs.declared.answer.End.{End}
use Rattle.slots.specs.declared.answer.End.TheVariants.{Spent}
use Rattle.slots.specs.declared.refusal.Refusal.{Refusal}
use Rattle.slots.specs.declared.refusal.Refusal.TheVariants.{MemorySize as WrongSize}
use Rattle.slots.specs.Numbers.{refusal_number}
use Rattle.bus.specs.declared.Shown.{Shown}
use Rattle.bus.specs.Calls.{Call, Reply}
use Rattle.table.specs.Engine.{Engine}
use Rattle.table.specs.Script.{Plays}
use Rattle.table.specs.Table.{step}
use Rattle.table.specs.Calls.{Request as Asked, When, PlaysRun}
use Rattle.table.specs.Isolation.{StepIsolated, RunIsolated}
use Rattle.slots.specs.declared.command.Command.{Command}
use Rattle.slots.specs.declared.slot.Slots.{Slots}
use Rattle.engine.specs.declared.size.MemorySize.{MemorySize}
use Rattle.engine.specs.declared.request.Request.{Request}
use Rattle.engine.specs.declared.ticket.Ticket.{Ticket}

-- the memory size test: number 10 above 16,777,216
abbrev pub size_answer : ℕ → Result ℕ ℕ
size_answer n = cond (nat_lt 16777216 n) (Err 10) (Ok n)

abbrev pub sized : Result MemorySize Refusal → Result ℕ ℕ
sized (Ok m) = Ok m.bytes
sized (Err e) = Err (refusal_number e)

-- a refused call leaves every field as it was
abbrev pub RefusedChangesNothing : {A B : Type 0} → Result A B → Slots → Slots → Type 0
RefusedChangesNothing (Ok a) s s' = Unit {0}
RefusedChangesNothing (Err e) s s' = s' ≡ s

---- submit

-- the request, by the bytes that it points to
abbrev pub asked : Request → Asked
asked r = record { target = r.unit.target; lun = r.unit.lun; manner = r.manner; direction = r.direction; bytes = r.bytes.now; base = r.region.base; length = r.region.length }

-- which test refused it
abbrev pub refusal_told : Result Command Refusal → Option ℕ
refusal_told (Ok c) = None
refusal_told (Err e) = Some (refusal_number e)

-- the slot of the ticket, or the number of the refusal
abbrev pub ticket_told : Result Ticket Refusal → Result ℕ ℕ
ticket_told (Ok t) = Ok t.slot
ticket_told (Err e) = Err (refusal_number e)

---- collect

-- what is collected, or the number of the refusal
abbrev pub collected_told : Result Collected (Refusal × Ticket) → Result Collected ℕ
collected_told (Ok c) = Ok c
collected_told (Err p) = Err (refusal_number p.0)

-- where it is refused, the ticket is given back
abbrev pub GivenBack : Result Collected (Refusal × Ticket) → Ticket → Type 0
GivenBack (Ok c) t = Unit {0}
GivenBack (Err p) t = p.1 ≡ t

---- step

-- number 8 where the memory has not the stated size, and nothing is changed; else a row of the table
abbrev pub Stepped : {B : Type 0} → (B → Shown) → (B → Call → Reply → B → Type 0) → Engine → B → List ℕ → Result Answer Refusal → Engine → B → List ℕ → Type 0
Stepped see did e b m r e' b' m' = When (length m == e.size)
    ((a : Answer) × (r ≡ Ok a) × Plays see did (step e) b m a e' b' m')
    ((r ≡ Err WrongSize) × (e' ≡ e) × (b' ≡ b) × (m' ≡ m))

-- a step that is made touches the memory as isolation says
abbrev pub StepAlone : {B : Type 0} → (B → Shown) → (B → Call → Reply → B → Type 0) → Engine → B → List ℕ → Result Answer Refusal → Engine → B → List ℕ → Type 0
StepAlone see did e b m (Ok a) e' b' m' = StepIsolated see did e b m a e' b' m'
StepAlone see did e b m (Err x) e' b' m' = Unit {0}

---- run, likewise

-- number 8 in the same way, after 0 steps; else at most n rows of the table, with how many they are
abbrev pub Ran : {B : Type 0} → (B → Shown) → (B → Call → Reply → B → Type 0) → ℕ → Engine → B → List ℕ → ℕ → Result End Refusal → Engine → B → List ℕ → Type 0
Ran see did n e b m made r e' b' m' = When (length m == e.size)
    ((end : End) × (r ≡ Ok end) × PlaysRun see did n e b m made end e' b' m')
    ((made ≡ 0) × (r ≡ Err WrongSize) × (e' ≡ e) × (b' ≡ b) × (m' ≡ m))

-- it makes no more steps than allowed, and is spent only after all of them: after 0 steps only where 0 are allowed
pub record Allowed (n made : ℕ) (r : Result End Refusal) : Type 0 where
  pub at_most : made ≤ n
  pub spent : r ≡ Ok Spent → made ≡ n

abbrev pub RunAlone : {B : Type 0} → (B → Shown) → (B → Call → Reply → B → Type 0) → ℕ → Engine → B → List ℕ → ℕ → Result End Refusal → Engine → B → List ℕ → Type 0
RunAlone see did n e b m made (Ok end) e' b' m' = RunIsolated see did n e b m made end e' b' m'
RunAlone see did n e b m made (Err x) e' b' m' = Unit {0}
