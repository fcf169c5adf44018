-- What a step and a run may touch of the memory, on every bus, in order or not. Assumes nothing.
use Rattle.std.specs.Prelude.{◌≡◌, ℕ, ◌+◌, ◌<◌, Bool, true, List, length, slice_index}
use Rattle.shelf.specs.declared.Way.{Way}
use Rattle.bus.specs.declared.Shown.{Shown}
use Rattle.bus.specs.Calls.{Reply}
use Rattle.slots.specs.declared.answer.Answer.{Answer}
use Rattle.slots.specs.declared.answer.End.{End}
use Rattle.table.specs.Engine.{Engine, in_use, is_in, is_out}
use Rattle.table.specs.Script.{Script, return, look, ask, read, write, World}
use Rattle.table.specs.Table.{step}
use Rattle.table.specs.Calls.{Row, Passes}
use Rattle.table.specs.Sound.{Sound}

-- a place of the region of an uncollected command whose direction passes the test
pub record InRegion (d : Way → Bool) (e : Engine) (a : ℕ) : Type 0 where
  pub slot : ℕ
  pub place : ℕ
  pub uncollected : in_use (e.slots slot).state ≡ true
  pub direction : d (e.slots slot).command.direction ≡ true
  pub within : place < (e.slots slot).command.length
  pub here : a ≡ (e.slots slot).command.base + place

-- a script reads only in R, writes only in W, and leaves an engine of E, whatever is shown and answered
abbrev pub Within : (ℕ → Type 0) → (ℕ → Type 0) → (Engine → Type 0) → Script → Type 0
Within R W E (return a e) = E e
Within R W E (look f) = (s : Shown) → Within R W E (f s)
Within R W E (ask c f) = (y : Reply) → Within R W E (f y)
Within R W E (read a f) = R a × ((v : ℕ) → Within R W E (f v))
Within R W E (write a v p) = W a × Within R W E p

-- the same commands are uncollected, and have the same regions
pub record SameRegions (e e' : Engine) : Type 0 where
  pub used : (k : ℕ) → in_use (e'.slots k).state ≡ in_use (e.slots k).state
  pub commands : (k : ℕ) → (e'.slots k).command ≡ (e.slots k).command
  pub size : e'.size ≡ e.size

-- a step reads only inside regions of uncollected writing commands, writes only inside those of uncollected reading ones, and
-- leaves a sound engine with the same regions
abbrev pub KeepsToRegions : Type 0
KeepsToRegions = (e : Engine) → Sound e → Within (InRegion is_out e) (InRegion is_in e) (λ e'. Sound e' × SameRegions e e') (step e)

-- the memory is changed only inside regions of uncollected reading commands
pub record OnlyInside (e : Engine) (m m' : List ℕ) : Type 0 where
  pub long : length m' ≡ length m
  pub kept : (i : ℕ) → (InRegion is_in e i → ⊥) → slice_index m' i ≡ slice_index m i

abbrev pub StepWritesInside : Type 0
StepWritesInside = (w : World) → Sound w.engine → (a : Answer) (w' : World) → Row w a w' → OnlyInside w.engine w.memory w'.memory

abbrev pub RunWritesInside : Type 0
RunWritesInside = (n : ℕ) (w : World) → Sound w.engine → (made : ℕ) (end : End) (w' : World) → Passes n w made end w' → OnlyInside w.engine w.memory w'.memory
