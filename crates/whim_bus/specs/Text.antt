-- The whim bus: what each call answers and does, with every draw. Assumes nothing.
use Rattle.std.specs.Prelude.{◌≡◌, ℕ, Bool, true, false, cond, List, map, Some, None, Option, ◌==◌}
use Rattle.std.specs.List.{position_or_len}
use Rattle.scsi.specs.Rows.{◌then◌, ◌else◌}
use Rattle.scsi.specs.declared.greeting.Greeting.{Greeting}
use Rattle.scsi.specs.Greetings.{greeting_of}
use Rattle.shelf.specs.Model.{is_present}
use Rattle.shelf.specs.Serving.{served}
use Rattle.bus.specs.declared.Shown.{Shown}
use Rattle.bus.specs.declared.Shown.TheVariants.{DataOut, DataIn, Command, Status, Reserved4, Reserved5, MessageOut, MessageIn, Free as FREE, Reselect, Pause}
use Rattle.bus.specs.Kinds.{byte_shown}
use Rattle.bus.specs.Calls.{Call, select, accept, command, give, take, speak, wait, reset, Reply, refused, selected, lost, absent, done, took_shown}
use Rattle.bus.specs.Refusals.{due}
use Rattle.bus.specs.Effects.{aborts}
use Rattle.whim_bus.specs.declared.state.Line.{Line}
use Rattle.whim_bus.specs.declared.state.Line.TheVariants.{Free, Retaken, Held}
use Rattle.whim_bus.specs.declared.state.Heard.{Heard}
use Rattle.whim_bus.specs.declared.state.Heard.TheVariants.{Nothing, Named, TagDue}
use Rattle.whim_bus.specs.Rows.{Stage, empty, fresh, commanded, ended, Row, is_empty, emptied, taken_by, at_stage, moved_on, filled, saving, going_back}
use Rattle.whim_bus.specs.State.{Whim, row, odd, with_shelf, with_rows, with_row, with_line, next_whim, drawn}
use Rattle.whim_bus.specs.Showing.{returner, shown}
use Rattle.whim_bus.specs.Means.{meaning}

---- the draw that ends a granted call

-- a nexus that has its command and not its status
abbrev pub is_underway : Stage → Bool
is_underway empty = false
is_underway fresh = false
is_underway (commanded d) = true
is_underway (ended d st) = false

-- one is due where the line is left free, or held by such a nexus
abbrev pub draw_due : Whim → Line → Bool
draw_due w Free = true
draw_due w (Retaken k h) = false
draw_due w (Held k) = is_underway (row w k).stage

abbrev pub settled : Whim → Whim
settled w = cond (draw_due w w.line) (drawn w) w

---- select

-- a fresh nexus takes the first empty row, and holds the line
abbrev pub opens_row : ℕ → Greeting → ℕ → Whim → Whim
opens_row t g k w = with_line (Held k) (with_row k (taken_by t g (row w k)) w)

-- a present target first draws: odd is lost
abbrev pub selects : ℕ → Option Greeting → Whim → Whim
selects t None w = w
selects t (Some g) w =
    cond (is_present w.shelf t)
    (cond (odd (next_whim w)) (drawn w) (opens_row t g (position_or_len is_empty w.rows) (drawn w)))
    w

abbrev pub selection : ℕ → Whim → Reply
selection t w = cond (is_present w.shelf t) (cond (odd (next_whim w)) lost selected) absent

---- command, give, and data and status taken: on the row that holds the line

abbrev pub on_row : (Row → Row) → Line → Whim → Whim
on_row f Free w = w
on_row f (Retaken k h) w = w
on_row f (Held k) w = with_row k (f (row w k)) w

-- its command is sent
abbrev pub sent : List ℕ → Row → Row
sent d r = at_stage (commanded d) r

abbrev pub status_kept : ℕ → Stage → Stage
status_kept v empty = empty
status_kept v fresh = fresh
status_kept v (commanded d) = ended d v
status_kept v (ended d st) = ended d v

-- its status is taken
abbrev pub ending : ℕ → Row → Row
ending v r = at_stage (status_kept v r.stage) r

---- messages taken

-- after 80h + LUN an untagged nexus holds the line; a tagged one goes on with 20h, then its tag
abbrev pub named_by : ℕ → Option ℕ → Line
named_by k None = Held k
named_by k (Some v) = Retaken k Named

abbrev pub comes_back : ℕ → Row → Heard → Line
comes_back k r Nothing = named_by k r.greeting.tag
comes_back k r Named = Retaken k TagDue
comes_back k r TagDue = Held k

-- SAVE DATA POINTER, RESTORE POINTERS, DISCONNECT
abbrev pub hears : ℕ → ℕ → Row → Whim → Whim
hears v k r w =
    (v == 0x02) then with_row k (saving r) w
    else (v == 0x03) then with_row k (going_back r) w
    else (v == 0x04) then with_line Free (with_row k (going_back r) w)
    else w

-- the line is free, and the row has no nexus
abbrev pub closes_row : ℕ → Row → Whim → Whim
closes_row k r w = with_line Free (with_row k (emptied r) w)

-- COMMAND COMPLETE: the shelf serves the command with the row's bytes
abbrev pub completes : List ℕ → ℕ → Row → Whim → Whim
completes d k r w = closes_row k r (with_shelf (served w.shelf r.target r.greeting.lun d r.bytes) w)

abbrev pub held_hears : ℕ → ℕ → Row → Stage → Whim → Whim
held_hears v k r empty w = w
held_hears v k r fresh w = w
held_hears v k r (commanded d) w = hears v k r w
held_hears v k r (ended d st) w = completes d k r w

abbrev pub message_taken : ℕ → Line → Whim → Whim
message_taken v Free w = w
message_taken v (Retaken k h) w = with_line (comes_back k (row w k) h) w
message_taken v (Held k) w = held_hears v k (row w k) (row w k).stage w

abbrev pub takes : Shown → Whim → Whim
takes DataOut w = w
takes (DataIn v) w = on_row moved_on w.line w
takes Command w = w
takes (Status v) w = on_row (ending v) w.line w
takes Reserved4 w = w
takes Reserved5 w = w
takes MessageOut w = w
takes (MessageIn v) w = message_taken v w.line w
takes FREE w = w
takes (Reselect t) w = w
takes Pause w = w

---- messages spoken

-- ABORT and ABORT TAG close the nexus that holds the line unfinished, and free the line
abbrev pub breaks_off : Line → Whim → Whim
breaks_off Free w = w
breaks_off (Retaken k h) w = with_line Free w
breaks_off (Held k) w = closes_row k (row w k) w

---- every call

abbrev pub granted : Whim → Call → Reply
granted w (select t g) = selection t w
granted w accept = done
granted w (command d) = done
granted w (give v) = done
granted w take = took_shown (byte_shown (shown w))
granted w (speak m) = done
granted w wait = done
granted w reset = done

-- what a granted call does before the draw that ends it
abbrev pub does : Whim → Call → Whim
does w (select t g) = selects t (greeting_of g) w
does w accept = with_line (Retaken (returner w) Nothing) w
does w (command d) = on_row (sent d) w.line w
does w (give v) = on_row (filled v) w.line w
does w take = takes (shown w) w
does w (speak m) = cond (aborts m) (breaks_off w.line w) w
does w wait = w
does w reset = with_line Free (with_rows (map emptied w.rows) w)

-- one call of a whim bus: the answer and the bus afterwards, for every call; a refused one changes nothing
abbrev pub answer : Whim → Call → Reply
answer w c = cond (due (meaning w) c) (refused 11) (granted w c)

abbrev pub after : Whim → Call → Whim
after w c = cond (due (meaning w) c) w (settled (does w c))

pub record Whimsical (w : Whim) (c : Call) (r : Reply) (w' : Whim) : Type 0 where
  pub answers : r ≡ answer w c
  pub leads_to : w' ≡ after w c
