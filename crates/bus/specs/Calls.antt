-- The calls that may change a bus, and what they answer. Assumes nothing.
use Rattle.std.specs.Prelude.{ℕ, Bool, true, false, List, Some, None, Ok, Err, Option, Result}
use Rattle.bus.specs.declared.Selection.{Selection}
use Rattle.bus.specs.declared.Selection.TheVariants.{Selected, Lost, Absent}
use Rattle.bus.specs.declared.Refusal.{Refusal}
use Rattle.bus.specs.declared.Refusal.TheVariants.{Misfit}

-- a call with what is handed to it
pub data Call : Type 0 where
  select : ℕ → List ℕ → Call
  accept : Call
  command : List ℕ → Call
  give : ℕ → Call
  take : Call
  speak : List ℕ → Call
  wait reset : Call

-- what a call answers
pub data Reply : Type 0 where
  -- turned down, with the refusal's number
  refused : ℕ → Reply
  selected lost absent done : Reply
  took : ℕ → Reply

abbrev pub is_refused : Reply → Bool
is_refused (refused n) = true
is_refused selected = false
is_refused lost = false
is_refused absent = false
is_refused done = false
is_refused (took v) = false

-- the number of the one refusal of a bus
abbrev pub refusal_number : Refusal → ℕ
refusal_number Misfit = 11

-- what taking answers, by the byte shown
abbrev pub took_shown : Option ℕ → Reply
took_shown None = refused 11
took_shown (Some v) = took v

---- the code's answers as replies

abbrev pub selection_reply : Selection → Reply
selection_reply Selected = selected
selection_reply Lost = lost
selection_reply Absent = absent

abbrev pub selection_or_refused : Result Selection Refusal → Reply
selection_or_refused (Ok s) = selection_reply s
selection_or_refused (Err e) = refused (refusal_number e)

abbrev pub took_or_refused : Result ℕ Refusal → Reply
took_or_refused (Ok v) = took v
took_or_refused (Err e) = refused (refusal_number e)

abbrev pub done_or_refused : {A : Type 0} → Result A Refusal → Reply
done_or_refused (Ok a) = done
done_or_refused (Err e) = refused (refusal_number e)
