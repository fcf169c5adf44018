-- What a shelf means. A shelf is the set of units behind a bus; a unit is a target and a LUN. Assumes nothing.
use Rattle.std.specs.Prelude.{ℕ, Bool, cond, ◌&&◌, List, eqb}
use Rattle.shelf.specs.declared.Way.{Way}
use Rattle.shelf.specs.declared.Way.TheVariants.{Still, In, Out}

-- the numbers of the ways
abbrev pub way_number : Way → ℕ
way_number Still = 0
way_number In = 1
way_number Out = 2

-- How units answer. Arguments in order: target, LUN, what the unit holds (where the answer may depend on it), command,
-- then the place of an in byte, or the out bytes that the command is finished with.
pub record Kind : Type 0 where
  pub present : ℕ → Bool
  pub way : ℕ → ℕ → List ℕ → Way
  pub count : ℕ → ℕ → List ℕ → ℕ
  pub byte : ℕ → ℕ → List ℕ → List ℕ → ℕ → ℕ
  pub status : ℕ → ℕ → List ℕ → List ℕ → ℕ
  pub after : ℕ → ℕ → List ℕ → List ℕ → List ℕ → List ℕ

-- a shelf's meaning: how its units answer, and what each unit (target, LUN) holds
pub record Model : Type 0 where
  pub kind : Kind
  pub holds : ℕ → ℕ → List ℕ

---- the four questions

abbrev pub is_present : Model → ℕ → Bool
is_present m t = m.kind.present t

-- which way a command's data goes, and how many bytes there are
abbrev pub way_of : Model → ℕ → ℕ → List ℕ → Way
way_of m t l c = m.kind.way t l c

abbrev pub count_of : Model → ℕ → ℕ → List ℕ → ℕ
count_of m t l c = m.kind.count t l c

-- the byte at a place of an in command
abbrev pub byte_of : Model → ℕ → ℕ → List ℕ → ℕ → ℕ
byte_of m t l c i = m.kind.byte t l (m.holds t l) c i

-- the status that a command would end with
abbrev pub status_of : Model → ℕ → ℕ → List ℕ → ℕ
status_of m t l c = m.kind.status t l (m.holds t l) c

---- the one change

-- the shelf after a command is finished with these out bytes: its own unit changed, and no other
abbrev pub finished : Model → ℕ → ℕ → List ℕ → List ℕ → Model
finished m t l c o = record {
  kind = m.kind;
  holds = λ t' l'. cond (eqb t' t && eqb l' l) (m.kind.after t l (m.holds t l) c o) (m.holds t' l');
}
