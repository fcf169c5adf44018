-- Slot numbers, and the places of slots. Assumes nothing.
use Rattle.std.proofs.Common.{◌≡◌, ℕ, ◌+◌, ◌-◌, ◌<◌, ◌≤◌, ◌↔◌, Bool, true, false, List, length, get_or, Some, None, Ok, Err, Option, Result, sym, refl, ap, ◌∙◌, subst, arith}
use Rattle.std.specs.Option.{ok_or}
use Rattle.std.specs.Result.{IsErrAnd}
use Rattle.std.specs.Prelude.{IsSome, IfSome, is_some}
use Rattle.std.proofs.lemmas.List.{get_or_default}
use Rattle.slots.specs.declared.slot.Slot.{Slot}
use Rattle.table.specs.Engine.{numbered}
use Rattle.table.specs.View.{no_slot, slot_at}
use Rattle.table.proofs.Basics.{wrong, is_numbered, numbered_is}

-- a slot stands at its number less one
pub at_place : {p k : ℕ} → p + 1 ≡ k → p ≡ k - 1
at_place q = omega (arith, q)

pub place_numbered : {p k : ℕ} → p + 1 ≡ k → p < 16 → numbered k ≡ true
place_numbered {p} {k} q l = is_numbered k (omega (arith, q)) (omega (arith, q, l))

pub read_place : (xs : List Slot) → length xs ≡ 16 → {p k : ℕ} → p + 1 ≡ k → p < 16 → (d : Slot) → get_or xs p d ≡ slot_at xs k
read_place xs n {p} q l d = get_or_default xs p d no_slot (omega (arith, n, l)) ∙ ap (λ (i : ℕ). get_or xs i no_slot) (at_place q)

module _ (n : ℕ) (o : Option ℕ) (valid : IsSome o ↔ ((1 ≤ n) × (n ≤ 16))) (value : IfSome o (λ s. s ≡ n)) where
  -- the number is a slot's
  pub new_some : (k : ℕ) → o ≡ Some k → (numbered n ≡ true) × (k ≡ n)
  new_some k q = (let r = valid.0 (ap is_some q) in is_numbered n r.0 r.1, subst (λ (o : Option ℕ). IfSome o (λ s. s ≡ n)) q value)

  -- or it is none's
  pub new_none : o ≡ None → numbered n ≡ false
  new_none q = go (numbered n) refl
    where
      go : (t : Bool) → numbered n ≡ t → numbered n ≡ false
      go true e = wrong true refl (sym (valid.1 (numbered_is n e)) ∙ ap is_some q)
      go false e = e

-- a slot stands at each place below sixteen
pub number_at : (p : ℕ) (o : Option ℕ) → IsSome o ↔ (p < 16) → IfSome o (λ s. s ≡ p + 1) → p < 16 → o ≡ Some (p + 1)
number_at p None valid value l = wrong true refl (sym (valid.1 l))
number_at p (Some k) valid value l = ap (λ (i : ℕ). Some i) value

-- what an option comes to with an error in place of none
granted_refused : {A E : Type 0} {a : A} {e : E} → ◌≡◌ {A = Result A E} (Ok a) (Err e) → ⊥
granted_refused h = absurd cc

pub granted : {A E : Type 0} (o : Option A) (e : E) (a : A) → Ok a ≡ ok_or o e → o ≡ Some a
granted None e a h = absurd (granted_refused h)
granted (Some b) e a h = cc

pub refused : {A E : Type 0} (o : Option A) (e x : E) → Err x ≡ ok_or o e → (o ≡ None) × (x ≡ e)
refused None e x h = (refl, cc)
refused (Some b) e x h = absurd (granted_refused (sym h))

pub error_of : {A E : Type 0} {P : E → Type 0} (r : Result A E) → IsErrAnd r P → (x : E) × (r ≡ Err x) × P x
error_of (Ok a) h = absurd h
error_of (Err x) h = (x, refl, h)
