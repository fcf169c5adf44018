-- A step and a run go the same way over memories alike where they may read. Assumes nothing.
use Rattle.std.proofs.Common.{◌≡◌, ℕ, zero, suc, ◌+◌, ◌<◌, Bool, List, [], ◌∷◌, length, get_or, set, sym, refl, ap, ◌∙◌, subst, arith, length-set, get_or-set_other, get_or-set_same}
use native.Mathlib.Decide.{ℕ_discrete, dec_lt}
use lib.Seq.{set_out}
use Rattle.shelf.specs.declared.Way.{Way}
use Rattle.table.specs.Engine.{Command, Engine, is_in, is_out}
use Rattle.table.specs.Script.{Script, return, look, ask, read, write}
use Rattle.table.specs.Table.{step}
use Rattle.table.specs.Calls.{ends}
use Rattle.table.specs.Sound.{Sound}
use Rattle.table.specs.Regions.{InRegion, Within, SameRegions}
use Rattle.table.specs.Isolation.{Answers, later, looked, asked, Written, Played, exchanged, wrote, play, writes, then_run, play_run, Alike, StepByValues, RunByValues}
use Rattle.table.proofs.Regions.{keeps_to_regions}

set_alike : (R : ℕ → Type 0) (m n : List ℕ) (a v : ℕ) → Alike R m n → Alike R (set m a v) (set n a v)
set_alike R m n a v h = record { long = simp length-set h.long; same = λ i r. go i r (ℕ_discrete i a) }
  where
    here : (i : ℕ) → R i → Dec (i < length m) → get_or (set m i v) i 0 ≡ get_or (set n i v) i 0
    here i r (yes l) = get_or-set_same m i v 0 l ∙ sym (get_or-set_same n i v 0 (omega (arith, h.long)))
    here i r (no l) = rw (set_out m i v (omega arith), set_out n i v (omega (arith, h.long))) (h.same i r)

    go : (i : ℕ) → R i → Dec (i ≡ a) → get_or (set m a v) i 0 ≡ get_or (set n a v) i 0
    go i r (yes e) = subst (λ (k : ℕ). get_or (set m k v) i 0 ≡ get_or (set n k v) i 0) e (here i r (dec_lt i (length m)))
    go i r (no e) = get_or-set_other m a i v 0 e ∙ h.same i r ∙ sym (get_or-set_other n a i v 0 e)

writes_alike : (R : ℕ → Type 0) (l : List Written) (m n : List ℕ) → Alike R m n → Alike R (writes l m) (writes l n)
writes_alike R [] m n h = h
writes_alike R (x ∷ l) m n h = writes_alike R l (set m x.at x.value) (set n x.at x.value) (set_alike R m n x.at x.value h)

module _ (R W : ℕ → Type 0) (E : Engine → Type 0) where
  replays : (p : Script) → Within R W E p → (o : Answers) (m n : List ℕ) → Alike R m n → play o p m ≡ play o p n
  replays (return a e) h o m n s = refl
  replays (look f) h o m n s = ap (exchanged (looked (o 0).shown)) (replays (f (o 0).shown) (h (o 0).shown) (later o) m n s)
  replays (ask c f) h o m n s = ap (exchanged (asked c (o 0).reply)) (replays (f (o 0).reply) (h (o 0).reply) (later o) m n s)
  replays (read a f) h o m n s = replays (f (get_or m a 0)) (h.1 (get_or m a 0)) o m n s ∙ ap (λ (v : ℕ). play o (f v) n) (s.same a h.0)
  replays (write a v p) h o m n s = ap (wrote a v) (replays p h.1 o (set m a v) (set n a v) (set_alike R m n a v s))

  -- the engine that is left
  leaves : (p : Script) → Within R W E p → (o : Answers) (m : List ℕ) → E (play o p m).engine
  leaves (return a e) h o m = h
  leaves (look f) h o m = leaves (f (o 0).shown) (h (o 0).shown) (later o) m
  leaves (ask c f) h o m = leaves (f (o 0).reply) (h (o 0).reply) (later o) m
  leaves (read a f) h o m = leaves (f (get_or m a 0)) (h.1 (get_or m a 0)) o m
  leaves (write a v p) h o m = leaves p h.1 o (set m a v)

pub step_by_values : StepByValues
step_by_values e s o m n h = replays (InRegion is_out e) (InRegion is_in e) (λ e'. Sound e' × SameRegions e e') (step e) (keeps_to_regions e s) o m n h

left_sound : (e : Engine) → Sound e → (o : Answers) (m : List ℕ) → Sound (play o (step e) m).engine × SameRegions e (play o (step e) m).engine
left_sound e s o m = leaves (InRegion is_out e) (InRegion is_in e) (λ e'. Sound e' × SameRegions e e') (step e) (keeps_to_regions e s) o m

-- the same regions
pub in_same : (d : Way → Bool) (e e' : Engine) → SameRegions e e' → (a : ℕ) → InRegion d e' a → InRegion d e a
in_same d e e' s a r =
    let c : (e'.slots r.slot).command ≡ (e.slots r.slot).command = s.commands r.slot in
    record {
      slot = r.slot;
      place = r.place;
      uncollected = sym (s.used r.slot) ∙ r.uncollected;
      direction = ap (λ (x : Command). d x.direction) (sym c) ∙ r.direction;
      within = subst (λ (x : Command). r.place < x.length) c r.within;
      here = r.here ∙ ap (λ (x : Command). x.base + r.place) c;
    }

pub run_by_values : RunByValues
run_by_values zero e s o m n h = refl
run_by_values (suc k) e s o m n h =
    let g = left_sound e s o n in
    ap (λ (p : Played). then_run (ends p.answer) p (play_run k p.left p.engine (writes p.written m))) (step_by_values e s o m n h)
    ∙ ap (then_run (ends (play o (step e) n).answer) (play o (step e) n))
    (run_by_values k (play o (step e) n).engine g.0 (play o (step e) n).left (writes (play o (step e) n).written m) (writes (play o (step e) n).written n)
    (fewer g.1 (writes_alike (InRegion is_out e) (play o (step e) n).written m n h)))
  where
    fewer : {e' : Engine} {m n : List ℕ} → SameRegions e e' → Alike (InRegion is_out e) m n → Alike (InRegion is_out e') m n
    fewer {e'} r a = record { long = a.long; same = λ i q. a.same i (in_same is_out e e' r i q) }
