-- A step and a run depend on the memory only inside the regions of uncollected writing commands, on every bus, in order or not.
-- Assumes nothing.
use Rattle.std.specs.Prelude.{◌≡◌, ℕ, zero, suc, Bool, true, false, List, [], ◌∷◌, ◌++◌, length, slice_index, slice_set}
use Rattle.bus.specs.declared.Shown.{Shown}
use Rattle.bus.specs.State.{BusState}
use Rattle.bus.specs.Calls.{Call, Reply}
use Rattle.bus.specs.Rules.{Did}
use Rattle.slots.specs.declared.answer.Answer.{Answer}
use Rattle.slots.specs.declared.answer.End.{End}
use Rattle.slots.specs.declared.answer.End.TheVariants.{Spent}
use Rattle.table.specs.Engine.{Engine, is_out}
use Rattle.table.specs.Script.{Script, return, look, ask, read, write, World, Runs}
use Rattle.table.specs.Table.{step}
use Rattle.table.specs.Calls.{end_by, ends, Passes}
use Rattle.table.specs.Sound.{Sound}
use Rattle.table.specs.Regions.{InRegion}

---- playing a script against given answers

-- what a bus answers to the calls made on it, first to last: what it would show to a look, what it would reply to any other
pub record Answered : Type 0 where
  pub shown : Shown
  pub reply : Reply

abbrev pub Answers : Type 0
Answers = ℕ → Answered

abbrev pub later : Answers → Answers
later o i = o (suc i)

-- a call on the bus, with what it answered
pub data Exchange : Type 0 where
  looked : Shown → Exchange
  asked : Call → Reply → Exchange

-- a byte written
pub record Written : Type 0 where
  pub at : ℕ
  pub value : ℕ

-- what came of a script: the calls made on the bus, the answer, the engine, the bytes written, and the bus's answers not heard yet
pub record Played : Type 0 where
  pub transcript : List Exchange
  pub answer : Answer
  pub engine : Engine
  pub written : List Written
  pub left : Answers

abbrev pub exchanged : Exchange → Played → Played
exchanged t p = record { transcript = t ∷ p.transcript; answer = p.answer; engine = p.engine; written = p.written; left = p.left }

abbrev pub wrote : ℕ → ℕ → Played → Played
wrote a v p = record { transcript = p.transcript; answer = p.answer; engine = p.engine; written = record { at = a; value = v } ∷ p.written; left = p.left }

abbrev pub play : Answers → Script → List ℕ → Played
play o (return a e) m = record { transcript = []; answer = a; engine = e; written = []; left = o }
play o (look f) m = exchanged (looked (o 0).shown) (play (later o) (f (o 0).shown) m)
play o (ask c f) m = exchanged (asked c (o 0).reply) (play (later o) (f (o 0).reply) m)
play o (read a f) m = play o (f (slice_index m a)) m
play o (write a v p) m = wrote a v (play o p (slice_set m a v))

-- the memory that these bytes are written to
abbrev pub writes : List Written → List ℕ → List ℕ
writes [] m = m
writes (x ∷ xs) m = writes xs (slice_set m x.at x.value)

-- what came of a run: as of a script, with how many steps it made and what ended it
pub record Ran : Type 0 where
  pub transcript : List Exchange
  pub made : ℕ
  pub end : End
  pub engine : Engine
  pub written : List Written
  pub left : Answers

-- a step that ends the run, or goes on with the rest of it
abbrev pub then_run : Bool → Played → Ran → Ran
then_run true p r = record { transcript = p.transcript; made = 1; end = end_by p.answer; engine = p.engine; written = p.written; left = p.left }
then_run false p r = record { transcript = p.transcript ++ r.transcript; made = suc r.made; end = r.end; engine = r.engine; written = p.written ++ r.written; left = r.left }

-- at most n steps
abbrev pub play_run : ℕ → Answers → Engine → List ℕ → Ran
play_run zero o e m = record { transcript = []; made = 0; end = Spent; engine = e; written = []; left = o }
play_run (suc n) o e m =
    let p : Played = play o (step e) m in
    then_run (ends p.answer) p (play_run n p.left p.engine (writes p.written m))

---- isolation by values

-- two memories of one size, alike in R
pub record Alike (R : ℕ → Type 0) (m n : List ℕ) : Type 0 where
  pub long : length m ≡ length n
  pub same : (i : ℕ) → R i → slice_index m i ≡ slice_index n i

-- over memories alike inside the regions of uncollected writing commands, where the bus answers the same, a step makes the same
-- calls on the bus, gives the same answer and engine, and writes the same bytes
abbrev pub StepByValues : Type 0
StepByValues = (e : Engine) → Sound e → (o : Answers) (m n : List ℕ) → Alike (InRegion is_out e) m n → play o (step e) m ≡ play o (step e) n

-- and so does a run
abbrev pub RunByValues : Type 0
RunByValues = (k : ℕ) (e : Engine) → Sound e → (o : Answers) (m n : List ℕ) → Alike (InRegion is_out e) m n → play_run k o e m ≡ play_run k o e n

---- what a call did, on a bus of any type

-- these calls, one after another, by what the bus shows and what one call of it does
abbrev pub HappensBy : {B : Type 0} → (B → Shown) → (B → Call → Reply → B → Type 0) → List Exchange → B → B → Type 0
HappensBy see did [] b b' = b' ≡ b
HappensBy see did (looked s ∷ ts) b b' = (s ≡ see b) × HappensBy see did ts b b'
HappensBy {B} see did (asked c y ∷ ts) b b' = (b₁ : B) × did b c y b₁ × HappensBy see did ts b₁ b'

-- what is played leaves this answer, engine, bus and memory
pub record LeavesBy {B : Type 0} (see : B → Shown) (did : B → Call → Reply → B → Type 0) (p : Played) (b : B) (m : List ℕ) (a : Answer) (e' : Engine) (b' : B) (m' : List ℕ) : Type 0 where
  pub transcript : HappensBy see did p.transcript b b'
  pub answer : a ≡ p.answer
  pub engine : e' ≡ p.engine
  pub memory : m' ≡ writes p.written m

-- what is played as a run leaves this engine, bus and memory, after so many steps, with this end
pub record RunLeavesBy {B : Type 0} (see : B → Shown) (did : B → Call → Reply → B → Type 0) (r : Ran) (b : B) (m : List ℕ) (made : ℕ) (end : End) (e' : Engine) (b' : B) (m' : List ℕ) : Type 0 where
  pub transcript : HappensBy see did r.transcript b b'
  pub steps : made ≡ r.made
  pub ended : end ≡ r.end
  pub engine : e' ≡ r.engine
  pub memory : m' ≡ writes r.written m

---- what is played is what runs

-- what is played leaves this answer and this world
abbrev pub Leaves : Played → BusState → List ℕ → Answer → World → Type 0
Leaves p b m a w = LeavesBy (λ b. b.shown) Did p b m a w.engine w.bus w.memory

-- a script runs on a bus exactly as it is played against some answers
pub record RunsAsPlayed : Type 0 where
  pub played : (p : Script) (b : BusState) (m : List ℕ) (a : Answer) (w : World) → Runs p b m a w → (o : Answers) × Leaves (play o p m) b m a w
  pub runs : (p : Script) (b : BusState) (m : List ℕ) (a : Answer) (w : World) (o : Answers) → Leaves (play o p m) b m a w → Runs p b m a w

-- what is played as a run leaves this world, after so many steps, with this end
abbrev pub RunLeaves : Ran → World → ℕ → End → World → Type 0
RunLeaves r w made end w' = RunLeavesBy (λ b. b.shown) Did r w.bus w.memory made end w'.engine w'.bus w'.memory

-- a run passes rows on a bus as it is played against some answers
abbrev pub RunAsPlayed : Type 0
RunAsPlayed = (n : ℕ) (w : World) (made : ℕ) (end : End) (w' : World) → Passes n w made end w' → (o : Answers) × RunLeaves (play_run n o w.engine w.memory) w made end w'

-- so on every bus: what a step does over one memory, it may do over another that is alike where it reads, by the same calls
pub record SameWay (e : Engine) (b : BusState) (m : List ℕ) (a : Answer) (w : World) (n : List ℕ) : Type 0 where
  pub answers : Answers
  pub here : Leaves (play answers (step e) m) b m a w
  pub same : play answers (step e) m ≡ play answers (step e) n
  pub there : Runs (step e) b n a (record { engine = w.engine; bus = w.bus; memory = writes (play answers (step e) n).written n })

abbrev pub SameOnEveryBus : Type 0
SameOnEveryBus = (e : Engine) → Sound e → (b : BusState) (m n : List ℕ) (a : Answer) (w : World) → Alike (InRegion is_out e) m n → Runs (step e) b m a w → SameWay e b m a w n

---- a step or a run on a bus of any type that was isolated

-- a step was played against some answers of the bus, and over every other memory of this size that is alike inside the regions of
-- uncollected writing commands these answers give the same calls on the bus, answer, engine and bytes written
pub record StepIsolated {B : Type 0} (see : B → Shown) (did : B → Call → Reply → B → Type 0) (e : Engine) (b : B) (m : List ℕ) (a : Answer) (e' : Engine) (b' : B) (m' : List ℕ) : Type 0 where
  pub answers : Answers
  pub here : LeavesBy see did (play answers (step e) m) b m a e' b' m'
  pub there : (n : List ℕ) → Alike (InRegion is_out e) m n → play answers (step e) m ≡ play answers (step e) n

-- and so was a run of at most k steps
pub record RunIsolated {B : Type 0} (see : B → Shown) (did : B → Call → Reply → B → Type 0) (k : ℕ) (e : Engine) (b : B) (m : List ℕ) (made : ℕ) (end : End) (e' : Engine) (b' : B) (m' : List ℕ) : Type 0 where
  pub answers : Answers
  pub here : RunLeavesBy see did (play_run k answers e m) b m made end e' b' m'
  pub there : (n : List ℕ) → Alike (InRegion is_out e) m n → play_run k answers e m ≡ play_run k answers e n
