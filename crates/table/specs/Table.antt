-- The step table: which bus calls and memory accesses a step makes, and what it leaves and answers. Assumes nothing.
use Rattle.std.specs.Prelude.{ℕ, suc, ◌+◌, ◌-◌, Bool, true, false, cond, not, ◌&&◌, ◌||◌, List, [], ◌∷◌, ◌++◌, Some, None, Option, ◌==◌, nat_le, nat_lt}
use Rattle.std.specs.Option.{option_map}
use Rattle.scsi.specs.Rows.{◌then◌, ◌else◌}
use Rattle.scsi.specs.Messages.{Message, message_of}
use Rattle.scsi.specs.Greetings.{greeting_bytes}
use Rattle.bus.specs.declared.Shown.{Shown}
use Rattle.bus.specs.declared.Shown.TheVariants.{DataOut, DataIn, Command as CommandOut, Status, Reserved4, Reserved5, MessageOut, MessageIn, Free as FreeLine, Reselect, Pause}
use Rattle.bus.specs.Kinds.{kind_of, byte_shown, target_shown}
use Rattle.bus.specs.Calls.{select, accept, command, give, take, speak, wait, reset, Reply, refused, selected, lost, absent, done, took}
use Rattle.slots.specs.declared.slot.Outcome.{Outcome}
use Rattle.slots.specs.declared.slot.Outcome.TheVariants.{Done, Absent, Overrun, WrongWay, Dropped}
use Rattle.slots.specs.declared.slot.State.TheVariants.{Connected, Away, Finished}
use Rattle.slots.specs.declared.line.Heard.{Heard}
use Rattle.slots.specs.declared.line.Heard.TheVariants.{Complete, Save, Restore, Disconnect, Reject, Other}
use Rattle.slots.specs.declared.answer.Layer.{Layer}
use Rattle.slots.specs.declared.answer.Layer.TheVariants.{Bus, Message as MessageLayer, Nexus, Pointer}
use Rattle.slots.specs.declared.answer.Answer.{Answer}
use Rattle.slots.specs.declared.answer.Holder.{Holder}
use Rattle.slots.specs.declared.answer.Answer.TheVariants.{Idle, Waited, Lost, Selected, Accepted, Moved, Finished as FinishedAnswer, Told, Fault}
use Rattle.slots.specs.Messages.{heard}
use Rattle.slots.specs.Numbers.{byte_number}
use Rattle.table.specs.Engine.{Command, Entry, Line, idle, greeted, named, tag_due, held, Engine, is_open, is_away, tagged, may_leave, tag_for, same_unit, is_in, is_out, numbered, every, seek, first_of, set_slot, unlink_slot, set_line, with_state, with_pointers, with_sent, with_status, reset_where}
use Rattle.table.specs.Script.{Script, return, look, ask, read, write}

---- faults

-- the byte shown, 256 for none
abbrev pub byte_told : Shown → ℕ
byte_told s = byte_number (byte_shown s)

abbrev pub fault : Layer → Shown → Option Holder → Answer
fault l s h = Fault (record { layer = l; shown = s; holder = h })

-- a violation in kind 7 is the message layer's, any other the bus layer's
abbrev pub violated_layer : Shown → Layer
violated_layer s = cond (kind_of s == 7) MessageLayer Bus

-- the slot that holds the line
abbrev pub holder : Line → Option ℕ
holder idle = None
holder (greeted t) = None
holder (named t l) = None
holder (tag_due t l) = None
holder (held k bs) = Some k

-- with its current pointer
abbrev pub holding : ℕ → Entry → Holder
holding k x = record { slot = k; pointer = x.current }

abbrev pub holder_now : Engine → Line → Option Holder
holder_now e l = option_map (λ k. holding k (e.slots k)) (holder l)

-- connected and away commands finished RESET, and the line idle
abbrev pub cleared : Engine → Engine
cleared e = record { slots = λ k. reset_where is_open (e.slots k); free = e.free; waiting = e.waiting; line = idle; size = e.size }

-- what is not listed: reset the bus, finish all connected and away commands RESET, go idle, answer a fault
abbrev pub violation : Engine → Shown → Script
violation e s = ask reset (λ _. return (fault (violated_layer s) s (holder_now e e.line)) (cleared e))

---- in every state

-- PAUSE means wait
abbrev pub pausing : Engine → Script
pausing e = ask wait (λ _. return (Waited (holder e.line)) e)

-- where only a byte of a message is listed, and PAUSE
abbrev pub message_row : Engine → (ℕ → Script) → Shown → Script
message_row e f s =
    (kind_of s == 7) then f (byte_told s)
    else (kind_of s == 10) then pausing e
    else violation e s

---- idle

-- beside the command of y that of x may be selected: y is not open at x's unit, or both are tagged
abbrev pub lets_by : Entry → Entry → Bool
lets_by x y = not (is_open y.state && same_unit x.command y.command) || (tagged x.command.manner && tagged y.command.manner)

abbrev pub lets : Engine → ℕ → ℕ → Bool
lets e k j = lets_by (e.slots k) (e.slots j)

-- its unit has no connected or away command, or it and all of those are tagged
abbrev pub eligible : Engine → ℕ → Bool
eligible e k = every 16 (lets e k)

-- IDENTIFY and its tag
abbrev pub greeting_for : ℕ → Command → List ℕ
greeting_for k c = greeting_bytes (may_leave c.manner) c.lun (tag_for k c.manner)

-- what a selection came to; one that is refused is not listed
abbrev pub selecting : Engine → ℕ → Reply → Script
selecting e k selected = return (Selected k) (unlink_slot k (with_state Connected (with_pointers 0 0 (e.slots k))) (held k []) e)
selecting e k lost = return (Lost k) e
selecting e k absent = return (FinishedAnswer k) (unlink_slot k (with_state (Finished Absent) (e.slots k)) idle e)
selecting e k (refused n) = violation e FreeLine
selecting e k done = violation e FreeLine
selecting e k (took v) = violation e FreeLine

-- FREE: the first eligible waiting command is selected; none: wait
abbrev pub on_free : Engine → Option ℕ → Script
on_free e None = ask wait (λ _. return Idle e)
on_free e (Some k) = ask (select (e.slots k).command.target (greeting_for k (e.slots k).command)) (selecting e k)

-- RESELECT: accept, then greeted by that target
abbrev pub on_reselect : Engine → Shown → Option ℕ → Script
on_reselect e s None = violation e s
on_reselect e s (Some t) = ask accept (λ _. return Accepted (set_line (greeted t) e))

abbrev pub idle_row : Engine → Shown → Script
idle_row e s =
    (kind_of s == 8) then on_free e (first_of e.waiting (eligible e))
    else (kind_of s == 10) then pausing e
    else on_reselect e s (target_shown s)

---- greeted

-- an away command is connected again, with current := saved
abbrev pub connecting : Engine → ℕ → Script
connecting e k = return (Told (Some k)) (set_slot k (with_state Connected (with_pointers (e.slots k).saved (e.slots k).saved (e.slots k))) (held k []) e)

-- it is away, and of this target and LUN
abbrev pub away_by : ℕ → ℕ → Entry → Bool
away_by t l x = is_away x.state && (x.command.target == t && x.command.lun == l)

abbrev pub away_at : Engine → ℕ → ℕ → ℕ → Bool
away_at e t l k = away_by t l (e.slots k)

abbrev pub untagged_at : Engine → ℕ → ℕ → ℕ → Bool
untagged_at e t l k = away_at e t l k && not (tagged (e.slots k).command.manner)

abbrev pub tagged_at : Engine → ℕ → ℕ → ℕ → Bool
tagged_at e t l k = away_at e t l k && tagged (e.slots k).command.manner

-- an untagged one is connected; for tagged ones 20h and a tag byte come first; with none it is a violation
abbrev pub on_lun : Engine → ℕ → ℕ → ℕ → Option ℕ → Option ℕ → Script
on_lun e t l v (Some k) o = connecting e k
on_lun e t l v None (Some k) = return (Told None) (set_line (named t l) e)
on_lun e t l v None None = violation e (MessageIn v)

-- 80h to 87h is taken
abbrev pub greeted_byte : Engine → ℕ → ℕ → Script
greeted_byte e t v =
    cond (nat_le 0x80 v && nat_lt v 0x88)
    (ask take (λ _. on_lun e t (v - 0x80) v (seek 16 (untagged_at e t (v - 0x80))) (seek 16 (tagged_at e t (v - 0x80)))))
    (violation e (MessageIn v))

-- then 20h
abbrev pub named_byte : Engine → ℕ → ℕ → ℕ → Script
named_byte e t l v = cond (v == 0x20) (ask take (λ _. return (Told None) (set_line (tag_due t l) e))) (violation e (MessageIn v))

-- then the tag, naming the slot
abbrev pub tag_byte : Engine → ℕ → ℕ → ℕ → Script
tag_byte e t l v = ask take (λ _. cond (numbered v && tagged_at e t l v) (connecting e v) (violation e (MessageIn v)))

---- held by slot k, whose entry is x

-- slot k finished, and the line idle
abbrev pub finish_by : Engine → ℕ → Entry → Outcome → Engine
finish_by e k x o = set_slot k (with_state (Finished o) x) idle e

-- ABORT TAG for a tagged command, else ABORT
abbrev pub abort_message : Command → ℕ
abort_message c = cond (tagged c.manner) 0x0D 0x06

-- the wrong direction, or a place past the region: abort, finish k, go idle, answer a fault
abbrev pub abort_by : Engine → ℕ → Entry → Shown → Outcome → Script
abort_by e k x s o = ask (speak (abort_message x.command ∷ [])) (λ _. return (fault Pointer s (Some (holding k x))) (finish_by e k x o))

-- the current pointer grows by one
abbrev pub advance_by : Engine → ℕ → Entry → Engine
advance_by e k x = set_slot k (with_pointers (suc x.current) x.saved x) (held k []) e

-- DATA IN: one byte to the current pointer
abbrev pub data_in_by : Engine → ℕ → Entry → ℕ → Script
data_in_by e k x v =
    cond (is_in x.command.direction)
    (cond (nat_lt x.current x.command.length)
    (ask take (λ _. write (x.command.base + x.current) v (return (Moved k) (advance_by e k x))))
    (abort_by e k x (DataIn v) Overrun))
    (abort_by e k x (DataIn v) WrongWay)

-- DATA OUT: one byte from the current pointer
abbrev pub data_out_by : Engine → ℕ → Entry → Script
data_out_by e k x =
    cond (is_out x.command.direction)
    (cond (nat_lt x.current x.command.length)
    (read (x.command.base + x.current) (λ v. ask (give v) (λ _. return (Moved k) (advance_by e k x))))
    (abort_by e k x DataOut Overrun))
    (abort_by e k x DataOut WrongWay)

-- COMMAND, once: the last argument is whether it was sent
abbrev pub command_by : Engine → ℕ → Entry → Bool → Script
command_by e k x true = violation e CommandOut
command_by e k x false = ask (command x.command.bytes) (λ _. return (Told (Some k)) (set_slot k (with_sent x) (held k []) e))

-- STATUS, once: the last argument is the status that came
abbrev pub status_by : Engine → ℕ → Entry → ℕ → Option ℕ → Script
status_by e k x v None = ask take (λ _. return (Told (Some k)) (set_slot k (with_status v x) (held k []) e))
status_by e k x v (Some st) = violation e (Status v)

-- what a message comes to; none is one that goes on
abbrev pub heard_of : Option Message → Option Heard
heard_of m = option_map heard m

-- a message that is not obeyed: MESSAGE REJECT
abbrev pub rejecting : Engine → ℕ → Script
rejecting e k = ask (speak (0x07 ∷ [])) (λ _. return (Told (Some k)) (set_line (held k []) e))

-- a message acts at its last byte, by whether the status came; before it, its bytes are kept
abbrev pub by_heard : Engine → ℕ → Entry → List ℕ → Option Heard → Option ℕ → Script
by_heard e k x bs None o = return (Told (Some k)) (set_line (held k bs) e)
by_heard e k x bs (Some Save) None = return (Told (Some k)) (set_slot k (with_pointers x.current x.current x) (held k []) e)
by_heard e k x bs (Some Restore) None = return (Told (Some k)) (set_slot k (with_pointers x.saved x.saved x) (held k []) e)
by_heard e k x bs (Some Disconnect) None = return (Told (Some k)) (set_slot k (with_state Away x) idle e)
by_heard e k x bs (Some Reject) None = return (Told (Some k)) (set_line (held k []) e)
by_heard e k x bs (Some Complete) None = rejecting e k
by_heard e k x bs (Some Other) None = rejecting e k
by_heard e k x bs (Some Complete) (Some st) = return (FinishedAnswer k) (finish_by e k x Done)
by_heard e k x bs (Some Save) (Some st) = rejecting e k
by_heard e k x bs (Some Restore) (Some st) = rejecting e k
by_heard e k x bs (Some Disconnect) (Some st) = rejecting e k
by_heard e k x bs (Some Reject) (Some st) = rejecting e k
by_heard e k x bs (Some Other) (Some st) = rejecting e k

-- the message's bytes with the one shown, which is taken
abbrev pub message_by : Engine → ℕ → Entry → List ℕ → Script
message_by e k x bs = ask take (λ _. by_heard e k x bs (heard_of (message_of bs)) x.status)

-- by the kind shown, with no begun message
abbrev pub held_by : Engine → ℕ → Entry → Shown → Script
held_by e k x DataOut = data_out_by e k x
held_by e k x (DataIn v) = data_in_by e k x v
held_by e k x CommandOut = command_by e k x x.sent
held_by e k x (Status v) = status_by e k x v x.status
held_by e k x Reserved4 = violation e Reserved4
held_by e k x Reserved5 = violation e Reserved5
held_by e k x MessageOut = ask (speak (0x08 ∷ [])) (λ _. return (Told (Some k)) e)
held_by e k x (MessageIn v) = message_by e k x (v ∷ [])
held_by e k x FreeLine = return (fault Nexus FreeLine (Some (holding k x))) (finish_by e k x Dropped)
held_by e k x (Reselect t) = violation e (Reselect t)
held_by e k x Pause = pausing e

-- inside a message only its bytes come, and PAUSE
abbrev pub on_held : Engine → ℕ → Entry → List ℕ → Shown → Script
on_held e k x [] s = held_by e k x s
on_held e k x (b ∷ bs) s = message_row e (λ v. message_by e k x ((b ∷ bs) ++ v ∷ [])) s

---- the table

abbrev pub row : Engine → Line → Shown → Script
row e idle s = idle_row e s
row e (greeted t) s = message_row e (greeted_byte e t) s
row e (named t l) s = message_row e (named_byte e t l) s
row e (tag_due t l) s = message_row e (tag_byte e t l) s
row e (held k bs) s = on_held e k (e.slots k) bs s

-- a step looks once, and acts by the engine's own line state
abbrev pub step : Engine → Script
step e = look (row e e.line)
