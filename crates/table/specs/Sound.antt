-- What stays true of the engine on every bus, in order or not. Assumes nothing.
use Rattle.std.specs.Prelude.{◌≡◌, ℕ, true, false, not, ◌&&◌, List, [], ◌∷◌}
use Rattle.slots.specs.declared.slot.State.TheVariants.{Connected}
use Rattle.table.specs.Engine.{Engine, held, JustMade, in_use, is_waiting, numbered, stands_on}
use Rattle.table.specs.Script.{World}
use Rattle.table.specs.Calls.{Step, at_end, History}

-- a chain without repetition
abbrev pub Once : List ℕ → Type 0
Once [] = Unit {0}
Once (k ∷ ks) = (stands_on k ks ≡ false) × Once ks

-- the chains have the slots that they should, each once, and the slot that holds the line is connected
pub record Sound (e : Engine) : Type 0 where
  pub range : (k : ℕ) → in_use (e.slots k).state ≡ true → numbered k ≡ true
  pub free_chain : (k : ℕ) → stands_on k e.free ≡ (numbered k && not (in_use (e.slots k).state))
  pub free_once : Once e.free
  pub waiting_chain : (k : ℕ) → stands_on k e.waiting ≡ is_waiting (e.slots k).state
  pub waiting_once : Once e.waiting
  pub holding : (k : ℕ) (bs : List ℕ) → e.line ≡ held k bs → (e.slots k).state ≡ Connected

-- after every list of calls on every bus the engine is sound
abbrev pub SoundOnEveryBus : Type 0
SoundOnEveryBus = (w : World) → JustMade w.engine → (ss : List Step) → History w ss → Sound (at_end w ss).engine
