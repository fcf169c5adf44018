-- The number of open nexuses is always theirs. Assumes nothing.
use Rattle.std.specs.Prelude.{◌≡◌, ◌≤◌, Bool, true, false, ◌||◌, List, [], ◌∷◌, length, is_some}
use Rattle.bus.specs.State.{Name, same_name, Cable, BusState, AtRest}
use Rattle.bus.specs.Calls.{Call, Reply}
use Rattle.bus.specs.Showing.{Shows}
use Rattle.bus.specs.Rules.{Did}

abbrev pub among : Name → List Name → Bool
among n [] = false
among n (m ∷ ms) = same_name n m || among n ms

-- no name twice
abbrev pub Different : List Name → Type 0
Different [] = Unit {0}
Different (n ∷ ns) = (among n ns ≡ false) × Different ns

-- a list of the names that are open, each once, as many as are counted, at most sixteen
pub record Counted (c : Cable) : Type 0 where
  pub names : List Name
  pub different : Different names
  pub all : (n : Name) → is_some (c.nexuses n) ≡ among n names
  pub number : length names ≡ c.opened
  pub few : c.opened ≤ 16

pub record AlwaysCounted : Type 0 where
  pub at_first : (b : BusState) → AtRest b → Counted b.cable
  pub after_a_call : (b : BusState) (c : Call) (r : Reply) (b' : BusState) → b.order ≡ true → Shows b → Did b c r b' → Counted b.cable → Counted b'.cable
