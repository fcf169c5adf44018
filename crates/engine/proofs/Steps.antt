-- A step or a run that is made. Assumes nothing.
use Rattle.std.proofs.Common.{◌≡◌, ℕ, suc, ◌+◌, ◌-◌, ◌≤◌, Bool, true, false, eqb, List, length, Ok, Err, refl, subst, arith}
use Rattle.std.proofs.lemmas.Bool.{eq-eqb, ne_eqb}
use Rattle.slots.specs.declared.answer.Answer.{Answer}
use Rattle.slots.specs.declared.answer.End.{End}
use Rattle.slots.specs.declared.answer.End.TheVariants.{Spent}
use Rattle.slots.specs.declared.refusal.Refusal.TheVariants.{MemorySize as WrongSize}
use Rattle.bus.specs.declared.Shown.{Shown}
use Rattle.bus.specs.Calls.{Call, Reply}
use Rattle.table.specs.Engine.{Engine}
use Rattle.table.specs.Script.{Plays}
use Rattle.table.specs.Table.{step}
use Rattle.table.specs.Calls.{When, end_by, is_end, ends, PlaysRun}
use Rattle.table.proofs.Basics.{wrong}
use Rattle.engine.specs.Answers.{Stepped, Ran}

then_when : (X Y : Type 0) (t : Bool) → t ≡ true → X → When t X Y
then_when X Y true h x = x
then_when X Y false h x = wrong false h refl

else_when : (X Y : Type 0) (t : Bool) → t ≡ false → Y → When t X Y
else_when X Y true h y = wrong true refl h
else_when X Y false h y = y

module _ {B : Type 0} (see : B → Shown) (did : B → Call → Reply → B → Type 0) where
  pub stepped : (e : Engine) (b : B) (m : List ℕ) (a : Answer) (e' : Engine) (b' : B) (m' : List ℕ) → length m ≡ e.size → Plays see did (step e) b m a e' b' m'
      → Stepped see did e b m (Ok a) e' b' m'
  stepped e b m a e' b' m' h p = then_when _ _ (eqb (length m) e.size) (eq-eqb (length m) e.size h) (a, refl, p)

  pub ran : (n : ℕ) (e : Engine) (b : B) (m : List ℕ) (made : ℕ) (end : End) (e' : Engine) (b' : B) (m' : List ℕ) → length m ≡ e.size → PlaysRun see did n e b m made end e' b' m'
      → Ran see did n e b m made (Ok end) e' b' m'
  ran n e b m made end e' b' m' h p = then_when _ _ (eqb (length m) e.size) (eq-eqb (length m) e.size h) (end, refl, p)

  -- the memory has another size
  pub not_stepped : (e : Engine) (b : B) (m : List ℕ) → (length m ≡ e.size → ⊥) → Stepped see did e b m (Err WrongSize) e b m
  not_stepped e b m h = else_when _ _ (eqb (length m) e.size) (ne_eqb _ _ h) (refl, refl, refl, refl)

  pub not_ran : (n : ℕ) (e : Engine) (b : B) (m : List ℕ) → (length m ≡ e.size → ⊥) → Ran see did n e b m 0 (Err WrongSize) e b m
  not_ran n e b m h = else_when _ _ (eqb (length m) e.size) (ne_eqb _ _ h) (refl, refl, refl, refl, refl)

  ---- runs row by row

  module _ (n : ℕ) (e : Engine) (b : B) (m : List ℕ) where
    -- what a run comes to that goes on here, where row i would be next
    abbrev pub Reached : ℕ → Engine → B → List ℕ → Type 0
    Reached i e₁ b₁ m₁ = (made : ℕ) (end : End) (e' : Engine) (b' : B) (m' : List ℕ) → PlaysRun see did (n + 1 - i) e₁ b₁ m₁ made end e' b' m' → PlaysRun see did n e b m (made + (i - 1)) end e' b' m'

    pub reached_first : Reached 1 e b m
    reached_first made end e' b' m' r = as_made (omega arith) (as_allowed (omega arith) r)
      where
        as_made : {i j : ℕ} → i ≡ j → PlaysRun see did n e b m i end e' b' m' → PlaysRun see did n e b m j end e' b' m'
        as_made q r = subst (λ (i : ℕ). PlaysRun see did n e b m i end e' b' m') q r

        as_allowed : {i j : ℕ} → i ≡ j → PlaysRun see did i e b m made end e' b' m' → PlaysRun see did j e b m made end e' b' m'
        as_allowed q r = subst (λ (i : ℕ). PlaysRun see did i e b m made end e' b' m') q r

    -- the allowance is spent
    pub reached_last : (i : ℕ) (e₁ : Engine) (b₁ : B) (m₁ : List ℕ) → i ≡ n + 1 → Reached i e₁ b₁ m₁ → PlaysRun see did n e b m n Spent e₁ b₁ m₁
    reached_last i e₁ b₁ m₁ q h =
        let z : 0 ≡ n + 1 - i = omega (arith, q) in
        let k : 0 + (i - 1) ≡ n = omega (arith, q) in
        subst (λ (j : ℕ). PlaysRun see did n e b m j Spent e₁ b₁ m₁) k
        (h 0 Spent e₁ b₁ m₁ (subst (λ (j : ℕ). PlaysRun see did j e₁ b₁ m₁ 0 Spent e₁ b₁ m₁) z (refl, refl, refl, refl, refl)))

    module _ (i : ℕ) (e₁ : Engine) (b₁ : B) (m₁ : List ℕ) (a : Answer) (e₂ : Engine) (b₂ : B) (m₂ : List ℕ) (l : 1 ≤ i) (u : i ≤ n) (h : Reached i e₁ b₁ m₁) (p : Plays see did (step e₁) b₁ m₁ a e₂ b₂ m₂) where
      allowed : suc (n + 1 - (i + 1)) ≡ n + 1 - i
      allowed = omega (arith, l, u)

      pub reached_next : is_end (end_by a) ≡ false → Reached (i + 1) e₂ b₂ m₂
      reached_next f made end e' b' m' r =
          let k : suc made + (i - 1) ≡ made + (i + 1 - 1) = omega (arith, l) in
          subst (λ (j : ℕ). PlaysRun see did n e b m j end e' b' m') k
          (h (suc made) end e' b' m' (subst (λ (j : ℕ). PlaysRun see did j e₁ b₁ m₁ (suc made) end e' b' m') allowed
          (a, e₂, b₂, m₂, p, else_when _ _ (ends a) f (made, refl, r))))

      pub reached_end : is_end (end_by a) ≡ true → PlaysRun see did n e b m i (end_by a) e₂ b₂ m₂
      reached_end f =
          let k : 1 + (i - 1) ≡ i = omega (arith, l) in
          subst (λ (j : ℕ). PlaysRun see did n e b m j (end_by a) e₂ b₂ m₂) k
          (h 1 (end_by a) e₂ b₂ m₂ (subst (λ (j : ℕ). PlaysRun see did j e₁ b₁ m₁ 1 (end_by a) e₂ b₂ m₂) allowed
          (a, e₂, b₂, m₂, p, then_when _ _ (ends a) f (refl, refl, refl, refl, refl))))
