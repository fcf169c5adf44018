-- What a whim bus means. Assumes nothing.
use Rattle.std.specs.Prelude.{ℕ, Bool, true, cond, not, ◌&&◌, List, [], ◌∷◌, length, Some, None, Option, ◌==◌, nat_le, nat_lt}
use Rattle.std.specs.List.{list_all, list_any, count_by}
use Rattle.shelf.specs.Model.{Model, way_of, count_of}
use Rattle.shelf.specs.Serving.{outs}
use Rattle.bus.specs.State.{Name, Nexus, Heard as Said, nothing, named, tag_due, Line as BusLine, free, retaken, held, Cable, BusState}
use Rattle.whim_bus.specs.declared.state.Line.{Line}
use Rattle.whim_bus.specs.declared.state.Line.TheVariants.{Free, Retaken, Held}
use Rattle.whim_bus.specs.declared.state.Heard.{Heard}
use Rattle.whim_bus.specs.declared.state.Heard.TheVariants.{Nothing, Named, TagDue}
use Rattle.whim_bus.specs.Rows.{Stage, empty, fresh, commanded, ended, Row, row_name, is_open, is_named, is_tagged}
use Rattle.whim_bus.specs.State.{Whim, row}
use Rattle.whim_bus.specs.Showing.{shown}

---- nexuses

abbrev pub command_sent : Stage → Option (List ℕ)
command_sent empty = None
command_sent fresh = None
command_sent (commanded d) = Some d
command_sent (ended d st) = Some d

abbrev pub status_taken : Stage → Option ℕ
status_taken empty = None
status_taken fresh = None
status_taken (commanded d) = None
status_taken (ended d st) = Some st

-- the bytes given up to its place, where its command goes out
abbrev pub collected : Model → Row → Stage → List ℕ
collected m r empty = []
collected m r fresh = []
collected m r (commanded d) = outs (way_of m r.target r.greeting.lun d) r.place r.bytes
collected m r (ended d st) = outs (way_of m r.target r.greeting.lun d) r.place r.bytes

-- the nexus of an open row
abbrev pub nexus : Model → Row → Nexus
nexus m r = record {
  leave = r.greeting.leave;
  command = command_sent r.stage;
  status = status_taken r.stage;
  place = r.place;
  saved = r.saved;
  collected = collected m r r.stage;
}

-- the nexus of this name, if it is open
abbrev pub found : Model → List Row → Name → Option Nexus
found m [] n = None
found m (r ∷ rs) n = cond (is_named n r) (Some (nexus m r)) (found m rs n)

---- the line

abbrev pub said : ℕ → Heard → Said
said l Nothing = nothing
said l Named = named l
said l TagDue = tag_due l

abbrev pub line_of : (ℕ → Row) → Line → BusLine
line_of at Free = free
line_of at (Retaken k h) = retaken (at k).target (said (at k).greeting.lun h)
line_of at (Held k) = held (row_name (at k))

abbrev pub cable : Whim → Cable
cable w = record {
  shelf = w.shelf;
  nexuses = found w.shelf w.rows;
  opened = count_by is_open w.rows;
  line = line_of (row w) w.line;
  begun = [];
}

---- whether it is in order

-- open rows have different names
abbrev pub apart : List Row → Bool
apart [] = true
apart (r ∷ rs) = not (is_open r && list_any (is_named (row_name r)) rs) && apart rs

-- the place of a nexus has not passed the count of its command, nor its saved place the place
abbrev pub stage_sound : Model → Row → Stage → Bool
stage_sound m r empty = true
stage_sound m r fresh = r.place == 0 && r.saved == 0
stage_sound m r (commanded d) = nat_le r.saved r.place && nat_le r.place (count_of m r.target r.greeting.lun d)
stage_sound m r (ended d st) = nat_le r.saved r.place && r.place == count_of m r.target r.greeting.lun d

abbrev pub row_sound : Model → Row → Bool
row_sound m r = nat_lt r.greeting.lun 8 && stage_sound m r r.stage

abbrev pub all_sound : Model → List Row → Bool
all_sound m rs = list_all (row_sound m) rs

-- a target that goes on with its greeting past the LUN has a tag to give
abbrev pub heard_sound : Row → Heard → Bool
heard_sound r Nothing = true
heard_sound r Named = is_tagged r.greeting.tag
heard_sound r TagDue = is_tagged r.greeting.tag

-- the row that has the line is open
abbrev pub line_sound : (ℕ → Row) → Line → Bool
line_sound at Free = true
line_sound at (Retaken k h) = is_open (at k) && heard_sound (at k) h
line_sound at (Held k) = is_open (at k)

abbrev pub sound : Whim → Bool
sound w = length w.rows == 16 && (apart w.rows && (all_sound w.shelf w.rows && line_sound (row w) w.line))

-- a whim bus whose rows and line do not fit together is out of order; no call leads there
abbrev pub meaning : Whim → BusState
meaning w = record { cable = cable w; shown = shown w; order = sound w }
