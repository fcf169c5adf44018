-- A bus of any type whose calls do what their meanings may do runs scripts as its meaning does. Assumes nothing.
use Rattle.std.proofs.Common.{◌≡◌, ℕ, zero, suc, Bool, true, false, List, get_or, set, ap, subst}
use Rattle.bus.specs.declared.Shown.{Shown}
use Rattle.bus.specs.State.{BusState}
use Rattle.bus.specs.Calls.{Call, Reply}
use Rattle.bus.specs.Rules.{Did}
use Rattle.slots.specs.declared.answer.Answer.{Answer}
use Rattle.slots.specs.declared.answer.End.{End}
use Rattle.table.specs.Engine.{Engine}
use Rattle.table.specs.Table.{step}
use Rattle.table.specs.Calls.{When, end_by, ends, Passes, PlaysRun}
use Rattle.table.specs.Script.{Script, return, look, ask, read, write, Runs, Plays}

module _ {B : Type 0} (see : B → Shown) (did : B → Call → Reply → B → Type 0) (means : B → BusState)
    (sees : (b : B) → see b ≡ (means b).shown) (law : (b : B) (c : Call) (y : Reply) (b' : B) → did b c y b' → Did (means b) c y (means b')) where
  pub plays_runs : (p : Script) (b : B) (m : List ℕ) (r : Answer) (e' : Engine) (b' : B) (m' : List ℕ) → Plays see did p b m r e' b' m'
      → Runs p (means b) m r (record { engine = e'; bus = means b'; memory = m' })
  plays_runs (return a e) b m r e' b' m' h = (h.0, h.1, ap means h.2, h.3)
  plays_runs (look f) b m r e' b' m' h =
      subst (λ (s : Shown). Runs (f s) (means b) m r (record { engine = e'; bus = means b'; memory = m' })) (sees b) (plays_runs (f (see b)) b m r e' b' m' h)
  plays_runs (ask c f) b m r e' b' m' h = (h.0, means h.1, law b c h.0 h.1 h.2, plays_runs (f h.0) h.1 m r e' b' m' h.3)
  plays_runs (read a f) b m r e' b' m' h = plays_runs (f (get_or m a 0)) b m r e' b' m' h
  plays_runs (write a v p) b m r e' b' m' h = plays_runs p b (set m a v) r e' b' m' h

  pub plays_passes : (n : ℕ) (e : Engine) (b : B) (m : List ℕ) (made : ℕ) (end : End) (e' : Engine) (b' : B) (m' : List ℕ) → PlaysRun see did n e b m made end e' b' m'
      → Passes n (record { engine = e; bus = means b; memory = m }) made end (record { engine = e'; bus = means b'; memory = m' })
  plays_passes zero e b m made end e' b' m' h = (h.0, h.1, h.2, ap means h.3, h.4)
  plays_passes (suc n) e b m made end e' b' m' (a, e₁, b₁, m₁, p, d) =
      (a, e₁, means b₁, m₁, plays_runs (step e) b m a e₁ b₁ m₁ p, go (ends a) (λ k r. plays_passes n e₁ b₁ m₁ k end e' b' m' r) d)
    where
      go : (t : Bool)
          → ((k : ℕ) → PlaysRun see did n e₁ b₁ m₁ k end e' b' m' → Passes n (record { engine = e₁; bus = means b₁; memory = m₁ }) k end (record { engine = e'; bus = means b'; memory = m' }))
          → When t ((made ≡ 1) × (end ≡ end_by a) × (e' ≡ e₁) × (b' ≡ b₁) × (m' ≡ m₁)) ((k : ℕ) × (made ≡ suc k) × PlaysRun see did n e₁ b₁ m₁ k end e' b' m')
          → When t ((made ≡ 1) × (end ≡ end_by a) × (e' ≡ e₁) × (means b' ≡ means b₁) × (m' ≡ m₁))
          ((k : ℕ) × (made ≡ suc k) × Passes n (record { engine = e₁; bus = means b₁; memory = m₁ }) k end (record { engine = e'; bus = means b'; memory = m' }))
      go true ih (k, q, r, s, t) = (k, q, r, ap means s, t)
      go false ih (k, q, r) = (k, q, ih k r)

-- a script that is another
pub plays_as : {B : Type 0} (see : B → Shown) (did : B → Call → Reply → B → Type 0) (p q : Script) → p ≡ q → (b : B) (m : List ℕ) (r : Answer) (e : Engine) (b' : B) (m' : List ℕ)
    → Plays see did p b m r e b' m' → Plays see did q b m r e b' m'
plays_as see did p q h b m r e b' m' x = subst (λ (s : Script). Plays see did s b m r e b' m') h x
