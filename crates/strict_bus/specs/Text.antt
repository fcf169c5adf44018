-- The strict bus: it never loses a selection, moves each command straight through, and never lets go. Assumes nothing.
use Rattle.std.specs.Prelude.{◌≡◌, ℕ, true, cond, List, [], ◌∷◌, Some, None, Option, ◌==◌, ◌≢◌, nat_lt}
use Rattle.scsi.specs.Greetings.{greeting_of}
use Rattle.shelf.specs.Model.{Model, is_present, way_of, count_of, byte_of, status_of}
use Rattle.bus.specs.declared.Shown.{Shown}
use Rattle.bus.specs.declared.Shown.TheVariants.{DataOut, DataIn, Command, Status, Reserved4, Reserved5, MessageOut, MessageIn, Free, Reselect, Pause}
use Rattle.bus.specs.Kinds.{kind_of, byte_shown}
use Rattle.bus.specs.State.{Name, Nexus, Line, free, retaken, held, Cable, BusState, change, clear, sent, given}
use Rattle.bus.specs.Calls.{Call, select, accept, command, give, take, speak, wait, reset, Reply, refused, selected, lost, absent, done, took_shown}
use Rattle.bus.specs.Refusals.{due}
use Rattle.bus.specs.Effects.{opens, on_holder, takes, speaks}
use Rattle.bus.specs.Showing.{data_shown}

---- what is shown

-- a command underway: the data bytes in their order, then the status
-- (the pause here never comes, since a place never passes the count)
abbrev pub underway : Model → Name → List ℕ → ℕ → Shown
underway m n d p =
    cond (nat_lt p (count_of m n.target n.lun d)) (data_shown (way_of m n.target n.lun d) (byte_of m n.target n.lun d p))
    (cond (p == count_of m n.target n.lun d) (Status (status_of m n.target n.lun d)) Pause)

-- after the status COMMAND COMPLETE
abbrev pub by_status : Model → Name → List ℕ → ℕ → Option ℕ → Shown
by_status m n d p None = underway m n d p
by_status m n d p (Some st) = MessageIn 0

-- a fresh nexus is asked for its command
abbrev pub by_command : Model → Name → Nexus → Option (List ℕ) → Shown
by_command m n x None = Command
by_command m n x (Some d) = by_status m n d x.place x.status

abbrev pub by_holder : Model → Name → Option Nexus → Shown
by_holder m n None = Pause
by_holder m n (Some x) = by_command m n x x.command

abbrev pub by_line : Cable → Line → Shown
by_line c free = Free
by_line c (retaken t h) = Pause
by_line c (held n) = by_holder c.shelf n (c.nexuses n)

-- what a strict bus shows follows from its line and its nexus alone
abbrev pub strict : Cable → BusState
strict c = record { cable = c; shown = by_line c c.line; order = true }

---- what a call answers and does

abbrev pub granted : BusState → Call → Reply
granted b (select t g) = cond (is_present b.cable.shelf t) selected absent
granted b accept = done
granted b (command d) = done
granted b (give v) = done
granted b take = took_shown (byte_shown b.shown)
granted b (speak m) = done
granted b wait = done
granted b reset = done

-- the byte taken, by the kind that carried it
abbrev pub takes_shown : Shown → Option ℕ → Name → Cable → Cable
takes_shown s None n c = c
takes_shown s (Some v) n c = takes (kind_of s) v n c

abbrev pub does : BusState → Call → Cable
does b (select t g) = cond (is_present b.cable.shelf t) (opens t (greeting_of g) b.cable) b.cable
does b accept = b.cable
does b (command d) = on_holder (λ n. change n (sent d)) b.cable.line b.cable
does b (give v) = on_holder (λ n. change n (given v)) b.cable.line b.cable
does b take = on_holder (takes_shown b.shown (byte_shown b.shown)) b.cable.line b.cable
does b (speak m) = speaks m b.cable
does b wait = b.cable
does b reset = clear b.cable

-- one call of a strict bus: the answer and the bus afterwards, for every call
pub record Strictly (b : BusState) (c : Call) (r : Reply) (b' : BusState) : Type 0 where
  pub answer : r ≡ cond (due b c) (refused 11) (granted b c)
  pub after : b' ≡ cond (due b c) b (strict (does b c))

---- nothing comes between

-- calls on a strict bus, one after another; the last stands first
pub record Called : Type 0 where
  pub call : Call
  pub reply : Reply
  pub after : BusState

abbrev pub at_last : BusState → List Called → BusState
at_last b [] = b
at_last b (c ∷ cs) = c.after

abbrev pub CallsOn : BusState → List Called → Type 0
CallsOn b [] = Unit {0}
CallsOn b (c ∷ cs) = CallsOn b cs × Strictly (at_last b cs) c.call c.reply c.after

-- FREE, COMMAND, a data byte either way, STATUS, or COMMAND COMPLETE, and nothing else
abbrev pub Plain : Shown → Type 0
Plain DataOut = Unit {0}
Plain (DataIn v) = Unit {0}
Plain Command = Unit {0}
Plain (Status v) = Unit {0}
Plain Reserved4 = ⊥
Plain Reserved5 = ⊥
Plain MessageOut = ⊥
Plain (MessageIn v) = v ≡ 0
Plain Free = Unit {0}
Plain (Reselect t) = ⊥
Plain Pause = ⊥

-- after any calls on it, the bus shows nothing between, no selection was lost, and a nexus that is open holds the line
pub record StraightThrough (b : BusState) : Type 0 where
  pub nothing_between : (cs : List Called) → CallsOn b cs → Plain (at_last b cs).shown
  pub never_lost : (c : Called) (cs : List Called) → CallsOn b (c ∷ cs) → c.reply ≢ lost
  pub never_lets_go : (cs : List Called) → CallsOn b cs → (n : Name) (x : Nexus) → (at_last b cs).cable.nexuses n ≡ Some x → (at_last b cs).cable.line ≡ held n
