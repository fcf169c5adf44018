-- The fields of a whim bus as its text sees them. Assumes nothing.
use Rattle.std.specs.Prelude.{◌≡◌, ℕ, Some, map, slice_index, slice_get}
use Rattle.scsi.specs.Kept.{cdb_bytes}
use Rattle.shelf.specs.Model.{Model}
use Rattle.bus.specs.declared.Stage.{Stage as Kept}
use Rattle.bus.specs.declared.Stage.TheVariants.{Empty, Fresh, Commanded, Ended}
use Rattle.whim_bus.specs.declared.rows.Row.{Row as KeptRow}
use Rattle.whim_bus.specs.declared.state.Line.TheVariants.{Held}
use Rattle.whim_bus.specs.declared.state.WhimBus.{WhimBus}
use Rattle.whim_bus.specs.Rows.{Stage, empty, fresh, commanded, ended, Row}
use Rattle.whim_bus.specs.State.{Whim}

abbrev pub stage_of : Kept → Stage
stage_of Empty = empty
stage_of Fresh = fresh
stage_of (Commanded d) = commanded (cdb_bytes d)
stage_of (Ended d st) = ended (cdb_bytes d) st

abbrev pub row_of : KeptRow → Row
row_of r = record {
  target = r.opened.target;
  greeting = r.opened.greeting;
  stage = stage_of r.stage;
  place = r.place;
  saved = r.saved;
  bytes = slice_index r.out;
}

abbrev pub view : {X : Type 0} → (X → Model) → WhimBus X → Whim
view model s = record {
  shelf = model s.shelf;
  rows = map row_of s.rows;
  line = s.line;
  whims = s.whims;
  at = s.at;
  draw = s.draw;
}

---- changes of the row that holds the line

-- it is this one
abbrev pub HasLine : {X : Type 0} → WhimBus X → KeptRow → Type 0
HasLine s r = (k : ℕ) × (s.line ≡ Held k) × (slice_get s.rows k ≡ Some r)

-- what the change is to the text
abbrev pub SeenAs : (KeptRow → KeptRow → Type 0) → (Row → Row) → Type 0
SeenAs change f = (r r' : KeptRow) → change r r' → row_of r' ≡ f (row_of r)
