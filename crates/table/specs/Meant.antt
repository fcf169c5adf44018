-- That the words of the step table, the calls and the reports mean what their names say. Assumes nothing.
use Rattle.std.specs.Prelude.{◌≡◌, ℕ, ◌<◌, ◌≤◌, Bool, true, false, cond, [], ◌∷◌, Some, Ok, Err, Result}
use Rattle.scsi.specs.Messages.{ReadsBack, reject, no_operation, abort, abort_tag}
use Rattle.scsi.specs.Greetings.{greeting_of}
use Rattle.shelf.specs.Model.{way_number}
use Rattle.slots.specs.Numbers.{manner_number}
use Rattle.slots.specs.declared.answer.Collected.{Collected}
use Rattle.table.specs.Engine.{Command, Engine, tagged, may_leave, tag_for, done_outcome, is_done}
use Rattle.table.specs.Table.{abort_message, greeting_for}
use Rattle.table.specs.Calls.{manner_of, direction_of, collect_answer}
use Rattle.table.specs.Serving.{finished_at}

-- what the engine speaks (07h to reject, 08h where it has nothing to say), and greets a target with, is read as the message meant
pub record SpokenAsMeant : Type 0 where
  pub rejects : ReadsBack (0x07 ∷ []) reject
  pub nothing : ReadsBack (0x08 ∷ []) no_operation
  pub aborts : (c : Command) → ReadsBack (abort_message c ∷ []) (cond (tagged c.manner) abort_tag abort)
  pub greets : (k : ℕ) (c : Command) → c.lun < 8 → greeting_of (greeting_for k c) ≡ Some (record { lun = c.lun; leave = may_leave c.manner; tag = tag_for k c.manner })

-- a request's numbers of manner and direction are those of what is kept
pub record NumberedAlike : Type 0 where
  pub manner : (n : ℕ) → n ≤ 2 → manner_number (manner_of n) ≡ n
  pub direction : (n : ℕ) → n ≤ 2 → way_number (direction_of n) ≡ n

-- what collect would answer: whether it would not refuse, and whether it would answer DONE
abbrev pub would_answer : Result Collected ℕ → Bool
would_answer (Ok c) = true
would_answer (Err n) = false

abbrev pub would_answer_done : Result Collected ℕ → Bool
would_answer_done (Ok c) = done_outcome c.outcome
would_answer_done (Err n) = false

-- a command is finished while collect would not refuse it, and done while collect would answer DONE
pub record FinishedIsCollectable : Type 0 where
  pub finished : (e : Engine) (k : ℕ) → finished_at e k ≡ would_answer (collect_answer (e.slots k).state (e.slots k))
  pub done : (e : Engine) (k : ℕ) → is_done (e.slots k).state ≡ would_answer_done (collect_answer (e.slots k).state (e.slots k))
