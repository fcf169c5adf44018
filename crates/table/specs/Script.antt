-- What a step does, as a script: it looks, asks the bus, reads and writes the memory, and returns. Assumes nothing.
use Rattle.std.specs.Prelude.{◌≡◌, ℕ, List, slice_index, slice_set}
use Rattle.bus.specs.declared.Shown.{Shown}
use Rattle.bus.specs.State.{BusState}
use Rattle.bus.specs.Calls.{Call, Reply}
use Rattle.bus.specs.Rules.{Did}
use Rattle.slots.specs.declared.answer.Answer.{Answer}
use Rattle.table.specs.Engine.{Engine}

pub data Script : Type 0 where
  return : Answer → Engine → Script
  look : (Shown → Script) → Script
  ask : Call → (Reply → Script) → Script
  read : ℕ → (ℕ → Script) → Script
  write : ℕ → ℕ → Script → Script

-- a script played on a bus of any type, by what it shows and what one call of it does, and on a memory; it leaves an answer,
-- an engine, a bus and a memory
abbrev pub Plays : {B : Type 0} → (B → Shown) → (B → Call → Reply → B → Type 0) → Script → B → List ℕ → Answer → Engine → B → List ℕ → Type 0
Plays see did (return a e) b m r e' b' m' = (r ≡ a) × (e' ≡ e) × (b' ≡ b) × (m' ≡ m)
Plays see did (look f) b m r e' b' m' = Plays see did (f (see b)) b m r e' b' m'
Plays {B} see did (ask c f) b m r e' b' m' = (y : Reply) × (b₁ : B) × did b c y b₁ × Plays see did (f y) b₁ m r e' b' m'
Plays see did (read a f) b m r e' b' m' = Plays see did (f (slice_index m a)) b m r e' b' m'
Plays see did (write a v p) b m r e' b' m' = Plays see did p b (slice_set m a v) r e' b' m'

-- an engine, what a bus means, and a memory
pub record World : Type 0 where
  pub engine : Engine
  pub bus : BusState
  pub memory : List ℕ

-- a script run on what a bus means
abbrev pub Runs : Script → BusState → List ℕ → Answer → World → Type 0
Runs p b m r w = Plays (λ b. b.shown) Did p b m r w.engine w.bus w.memory
