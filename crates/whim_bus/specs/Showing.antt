-- What a whim bus shows: it follows from its rows, its line and the byte drawn last. Assumes nothing.
use Rattle.std.specs.Prelude.{ℕ, ◌%◌, Bool, true, false, cond, not, ◌&&◌, List, Some, None, Option, ◌==◌, nat_lt}
use Rattle.std.specs.List.{list_any, position_or_len}
use Rattle.scsi.specs.Rows.{◌then◌, ◌else◌}
use Rattle.scsi.specs.Messages.{identify_byte}
use Rattle.shelf.specs.declared.Way.{Way}
use Rattle.shelf.specs.declared.Way.TheVariants.{Still, In, Out}
use Rattle.shelf.specs.Model.{Model, way_of, count_of, byte_of, status_of}
use Rattle.bus.specs.declared.Shown.{Shown}
use Rattle.bus.specs.declared.Shown.TheVariants.{Command, Status, MessageIn, Free as FREE, Reselect, Pause}
use Rattle.bus.specs.Showing.{data_shown}
use Rattle.whim_bus.specs.declared.state.Line.{Line}
use Rattle.whim_bus.specs.declared.state.Line.TheVariants.{Free, Retaken, Held}
use Rattle.whim_bus.specs.declared.state.Heard.{Heard}
use Rattle.whim_bus.specs.declared.state.Heard.TheVariants.{Nothing, Named, TagDue}
use Rattle.whim_bus.specs.Rows.{Stage, empty, fresh, commanded, ended, Row, is_open, reads}
use Rattle.whim_bus.specs.State.{Whim, row, odd}

---- a free line

-- the number of the row whose nexus comes back first; on a free line every open nexus is away
abbrev pub returner : Whim → ℕ
returner w = position_or_len is_open w.rows

-- the row whose nexus comes back, after an odd draw
abbrev pub coming_back : Whim → Option ℕ
coming_back w = cond (odd w.draw && is_open (row w (returner w))) (Some (returner w)) None

-- after an odd draw RESELECT for the first away row if there is one, else FREE
abbrev pub free_shown : Whim → Shown
free_shown w = cond (odd w.draw && is_open (row w (returner w))) (Reselect (row w (returner w)).target) FREE

---- a line that is being retaken

abbrev pub tag_byte : Option ℕ → ℕ
tag_byte None = 0
tag_byte (Some v) = v

-- the greeting of the row that comes back, byte by byte: 80h + LUN, 20h, the tag
abbrev pub greeting_shown : Row → Heard → Shown
greeting_shown r Nothing = MessageIn (identify_byte false r.greeting.lun)
greeting_shown r Named = MessageIn 0x20
greeting_shown r TagDue = MessageIn (tag_byte r.greeting.tag)

---- a held line

abbrev pub is_out : Way → Bool
is_out Still = false
is_out In = false
is_out Out = true

-- an out command may not end while a nexus of its unit has been sent an in command
abbrev pub must_wait : Model → List Row → Row → List ℕ → Bool
must_wait m rs r d = is_out (way_of m r.target r.greeting.lun d) && list_any (reads m r.target r.greeting.lun) rs

-- in the status's stead: SAVE DATA POINTER when the saved place differs from the place, else DISCONNECT where permitted, else PAUSE
abbrev pub waiting_shown : Row → Shown
waiting_shown r =
    not (r.saved == r.place) then MessageIn 0x02
    else r.greeting.leave then MessageIn 0x04
    else Pause

-- the next data byte while the place is below the count, and at the count the status
abbrev pub next_shown : Model → List Row → Row → List ℕ → Shown
next_shown m rs r d =
    nat_lt r.place (count_of m r.target r.greeting.lun d)
    then data_shown (way_of m r.target r.greeting.lun d) (byte_of m r.target r.greeting.lun d r.place)
    else must_wait m rs r d then waiting_shown r
    else Status (status_of m r.target r.greeting.lun d)

-- a command underway, by the draw: SAVE DATA POINTER, RESTORE POINTERS, DISCONNECT where permitted, or what comes next
abbrev pub underway_shown : Model → List Row → Row → List ℕ → ℕ → Shown
underway_shown m rs r d v =
    (v % 4 == 1) then MessageIn 0x02
    else (v % 4 == 2) then MessageIn 0x03
    else (v % 4 == 3) && r.greeting.leave then MessageIn 0x04
    else next_shown m rs r d

-- a fresh nexus is asked for its command; after its status comes COMMAND COMPLETE
-- (a line that no nexus holds never comes, and pauses)
abbrev pub held_shown : Model → List Row → Row → Stage → ℕ → Shown
held_shown m rs r empty v = Pause
held_shown m rs r fresh v = Command
held_shown m rs r (commanded d) v = underway_shown m rs r d v
held_shown m rs r (ended d st) v = MessageIn 0x00

abbrev pub line_shown : Whim → Line → Shown
line_shown w Free = free_shown w
line_shown w (Retaken k h) = greeting_shown (row w k) h
line_shown w (Held k) = held_shown w.shelf w.rows (row w k) (row w k).stage w.draw

abbrev pub shown : Whim → Shown
shown w = line_shown w w.line
