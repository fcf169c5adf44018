-- The rows of a whim bus, one for each open nexus, and what is looked for among them. Assumes nothing.
use Rattle.std.specs.Prelude.{ℕ, suc, Bool, true, false, cond, not, ◌&&◌, List, Some, None, Option, ◌==◌}
use Rattle.scsi.specs.declared.greeting.Greeting.{Greeting}
use Rattle.shelf.specs.declared.Way.{Way}
use Rattle.shelf.specs.declared.Way.TheVariants.{Still, In, Out}
use Rattle.shelf.specs.Model.{Model, way_of}
use Rattle.bus.specs.State.{Name, same_name}
use Rattle.bus.specs.Refusals.{name_of}

-- how far the nexus of a row has come: there is none, it is fresh, its command is sent, its status is taken too
pub data Stage : Type 0 where
  empty fresh : Stage
  commanded : List ℕ → Stage
  ended : List ℕ → ℕ → Stage

-- a row: the nexus's target and greeting, how far it has come, its place and saved place, and the row's out bytes by place
pub record Row : Type 0 where
  pub target : ℕ
  pub greeting : Greeting
  pub stage : Stage
  pub place : ℕ
  pub saved : ℕ
  pub bytes : ℕ → ℕ

-- a row that never had a nexus
abbrev pub blank : Row
blank = record { target = 0; greeting = record { lun = 0; leave = false; tag = None }; stage = empty; place = 0; saved = 0; bytes = λ i. 0 }

abbrev pub row_name : Row → Name
row_name r = name_of r.target r.greeting

---- tests of a row

abbrev pub stage_open : Stage → Bool
stage_open empty = false
stage_open fresh = true
stage_open (commanded d) = true
stage_open (ended d st) = true

abbrev pub is_open : Row → Bool
is_open r = stage_open r.stage

abbrev pub is_empty : Row → Bool
is_empty r = not (stage_open r.stage)

-- the row of the nexus of this name
abbrev pub is_named : Name → Row → Bool
is_named n r = is_open r && same_name n (row_name r)

abbrev pub is_in : Way → Bool
is_in Still = false
is_in In = true
is_in Out = false

abbrev pub stage_reads : Model → ℕ → ℕ → Stage → Bool
stage_reads m t l empty = false
stage_reads m t l fresh = false
stage_reads m t l (commanded d) = is_in (way_of m t l d)
stage_reads m t l (ended d st) = is_in (way_of m t l d)

-- its nexus is of this unit, and was sent an in command
abbrev pub reads : Model → ℕ → ℕ → Row → Bool
reads m t l r = r.target == t && (r.greeting.lun == l && stage_reads m t l r.stage)

abbrev pub is_tagged : Option ℕ → Bool
is_tagged None = false
is_tagged (Some v) = true

---- changes of a row

-- the row has no nexus
abbrev pub emptied : Row → Row
emptied r = record { target = r.target; greeting = r.greeting; stage = empty; place = r.place; saved = r.saved; bytes = r.bytes }

-- a fresh nexus takes the row
abbrev pub taken_by : ℕ → Greeting → Row → Row
taken_by t g r = record { target = t; greeting = g; stage = fresh; place = 0; saved = 0; bytes = r.bytes }

abbrev pub at_stage : Stage → Row → Row
at_stage s r = record { target = r.target; greeting = r.greeting; stage = s; place = r.place; saved = r.saved; bytes = r.bytes }

-- an in byte is taken
abbrev pub moved_on : Row → Row
moved_on r = record { target = r.target; greeting = r.greeting; stage = r.stage; place = suc r.place; saved = r.saved; bytes = r.bytes }

-- an out byte is given
abbrev pub filled : ℕ → Row → Row
filled v r = record {
  target = r.target;
  greeting = r.greeting;
  stage = r.stage;
  place = suc r.place;
  saved = r.saved;
  bytes = λ i. cond (i == r.place) v (r.bytes i);
}

-- its place is saved
abbrev pub saving : Row → Row
saving r = record { target = r.target; greeting = r.greeting; stage = r.stage; place = r.place; saved = r.place; bytes = r.bytes }

-- it goes back to its saved place
abbrev pub going_back : Row → Row
going_back r = record { target = r.target; greeting = r.greeting; stage = r.stage; place = r.saved; saved = r.saved; bytes = r.bytes }
