-- What a whim bus holds. Assumes nothing.
use Rattle.std.specs.Prelude.{ℕ, ◌+◌, ◌%◌, Bool, List, replicate, ◌==◌, slice_index, slice_index_or, slice_set}
use Rattle.shelf.specs.Model.{Model}
use Rattle.whim_bus.specs.declared.state.Line.{Line}
use Rattle.whim_bus.specs.declared.state.Line.TheVariants.{Free}
use Rattle.whim_bus.specs.Rows.{Row, blank}

-- the shelf, sixteen rows, the line, 256 whim bytes and the number of the next one, and the byte drawn last
pub record Whim : Type 0 where
  pub shelf : Model
  pub rows : List Row
  pub line : Line
  pub whims : List ℕ
  pub at : ℕ
  pub draw : ℕ

-- sixteen empty rows, a free line, and nothing drawn: how it begins
abbrev pub resting : Model → List ℕ → Whim
resting m whims = record { shelf = m; rows = replicate 16 blank; line = Free; whims = whims; at = 0; draw = 0 }

-- the row of this number; past the last a blank one
abbrev pub row : Whim → ℕ → Row
row w k = slice_index_or w.rows k blank

-- odd loses a selection, and on a free line lets a nexus come back
abbrev pub odd : ℕ → Bool
odd v = v % 2 == 1

---- changes

abbrev pub with_shelf : Model → Whim → Whim
with_shelf m w = record { shelf = m; rows = w.rows; line = w.line; whims = w.whims; at = w.at; draw = w.draw }

abbrev pub with_rows : List Row → Whim → Whim
with_rows rs w = record { shelf = w.shelf; rows = rs; line = w.line; whims = w.whims; at = w.at; draw = w.draw }

abbrev pub with_row : ℕ → Row → Whim → Whim
with_row k r w = with_rows (slice_set w.rows k r) w

abbrev pub with_line : Line → Whim → Whim
with_line l w = record { shelf = w.shelf; rows = w.rows; line = l; whims = w.whims; at = w.at; draw = w.draw }

-- the next whim byte
abbrev pub next_whim : Whim → ℕ
next_whim w = slice_index w.whims w.at

-- it is drawn; the whim bytes are used round and round
abbrev pub drawn : Whim → Whim
drawn w = record { shelf = w.shelf; rows = w.rows; line = w.line; whims = w.whims; at = (w.at + 1) % 256; draw = next_whim w }
