-- The numbers of the engine's closed lists, case by case. Assumes nothing.
use Rattle.std.specs.Prelude.{◌≡◌, ℕ, ◌<◌, Some, None, Ok, Err, Option, Result, MatchResult}
use Rattle.slots.specs.declared.command.Manner.{Manner}
use Rattle.slots.specs.declared.command.Manner.TheVariants.{Plain, Leaving, Tagged}
use Rattle.slots.specs.declared.slot.Outcome.{Outcome}
use Rattle.slots.specs.declared.slot.Outcome.TheVariants.{Done, Absent, Overrun, WrongWay, Dropped, Reset}
use Rattle.slots.specs.declared.answer.Layer.{Layer}
use Rattle.slots.specs.declared.answer.Layer.TheVariants.{Bus, Message, Nexus, Pointer}
use Rattle.slots.specs.declared.answer.Answer.{Answer}
use Rattle.slots.specs.declared.answer.Answer.TheVariants.{Idle, Waited, Lost, Selected, Accepted, Moved, Finished, Told, Fault}
use Rattle.slots.specs.declared.answer.Fault.{Fault as FaultTold}
use Rattle.slots.specs.declared.answer.Holder.{Holder}
use Rattle.slots.specs.declared.answer.End.{End}
use Rattle.slots.specs.declared.answer.End.TheVariants.{Spent, Finished as FinishedEnd, Fault as FaultEnd}
use Rattle.slots.specs.declared.refusal.Refusal.{Refusal}
use Rattle.slots.specs.declared.refusal.Refusal.TheVariants.{Target, Lun, CommandLength, Form, Outside, Shared, Full, MemorySize, Unfinished, TooLarge}

-- plain, may disconnect, tagged and may disconnect; the numbers of directions are those of ways
abbrev pub manner_number : Manner → ℕ
manner_number Plain = 0
manner_number Leaving = 1
manner_number Tagged = 2

-- DONE, ABSENT, OVERRUN, WRONGWAY, DROPPED, RESET
abbrev pub outcome_number : Outcome → ℕ
outcome_number Done = 0
outcome_number Absent = 1
outcome_number Overrun = 2
outcome_number WrongWay = 3
outcome_number Dropped = 4
outcome_number Reset = 5

abbrev pub layer_number : Layer → ℕ
layer_number Bus = 1
layer_number Message = 2
layer_number Nexus = 3
layer_number Pointer = 4

-- IDLE, WAITED, LOST, SELECTED, ACCEPTED, MOVED, FINISHED, TOLD, and a fault
abbrev pub answer_number : Answer → ℕ
answer_number Idle = 0
answer_number (Waited k) = 1
answer_number (Lost k) = 2
answer_number (Selected k) = 3
answer_number Accepted = 4
answer_number (Moved k) = 5
answer_number (Finished k) = 6
answer_number (Told k) = 7
answer_number (Fault f) = 8

-- a slot by its number, 0 for none
abbrev pub slot_number : Option ℕ → ℕ
slot_number None = 0
slot_number (Some k) = k

-- the slot that held the line at a fault, and its current pointer, 0 for none
abbrev pub holder_slot : Option Holder → ℕ
holder_slot None = 0
holder_slot (Some h) = h.slot

abbrev pub holder_pointer : Option Holder → ℕ
holder_pointer None = 0
holder_pointer (Some h) = h.pointer

abbrev pub fault_slot : FaultTold → ℕ
fault_slot f = holder_slot f.holder

abbrev pub fault_pointer : FaultTold → ℕ
fault_pointer f = holder_pointer f.holder

-- the slot that an answer is about, 0 for none
abbrev pub answer_slot : Answer → ℕ
answer_slot Idle = 0
answer_slot (Waited o) = slot_number o
answer_slot (Lost k) = k
answer_slot (Selected k) = k
answer_slot Accepted = 0
answer_slot (Moved k) = k
answer_slot (Finished k) = k
answer_slot (Told o) = slot_number o
answer_slot (Fault f) = fault_slot f

-- what ended a run: its allowance was spent, FINISHED, a fault
abbrev pub end_number : End → ℕ
end_number Spent = 0
end_number (FinishedEnd k) = 1
end_number (FaultEnd f) = 2

-- the slot that it is about, 0 for none
abbrev pub end_slot : End → ℕ
end_slot Spent = 0
end_slot (FinishedEnd k) = k
end_slot (FaultEnd f) = fault_slot f

-- the tests of a call run in this order
abbrev pub refusal_number : Refusal → ℕ
refusal_number Target = 1
refusal_number Lun = 2
refusal_number CommandLength = 3
refusal_number Form = 4
refusal_number Outside = 5
refusal_number Shared = 6
refusal_number Full = 7
refusal_number MemorySize = 8
refusal_number Unfinished = 9
refusal_number TooLarge = 10

-- the manner of this number; above 2 there is none, and the request has no form
abbrev pub GivesManner : ℕ → Result Manner Refusal → Type 0
GivesManner n r = MatchResult r (λ m. manner_number m ≡ n) (λ e. (e ≡ Form) × (2 < n))

-- an answer, or the number of a refusal
abbrev pub refused_by_number : {A : Type 0} → Result A Refusal → Result A ℕ
refused_by_number (Ok a) = Ok a
refused_by_number (Err e) = Err (refusal_number e)

-- a byte as a number, 256 for none: a status, the byte of a fault
abbrev pub byte_number : Option ℕ → ℕ
byte_number None = 256
byte_number (Some v) = v
