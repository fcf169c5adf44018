-- A walk along a chain, turn by turn. Assumes nothing.
use Rattle.std.proofs.Common.{◌≡◌, ℕ, zero, suc, Bool, true, false, cond, eqb, List, [], ◌∷◌, Some, None, sym, refl, ap, ◌∙◌}
use Rattle.std.proofs.lemmas.Bool.{or_parts, ne_eqb, eqb-false}
use Rattle.table.specs.Engine.{numbered, first_of, stands_on}
use Rattle.slots.specs.declared.slot.Slot.{Slot}
use Rattle.table.specs.View.{chain, before, nexts, slot_at}
use Rattle.table.proofs.Basics.{stands_cons}
use Rattle.table.proofs.Chains.{last_of}

-- a chain of at least one slot, and one of none
pub chain_cons : (n : ℕ) (f : ℕ → ℕ) (h : ℕ) → numbered h ≡ true → chain (suc n) f h ≡ h ∷ chain n f (f h)
unfolding chain
chain_cons n f h e = ap (λ (t : Bool). cond t (h ∷ chain n f (f h)) []) e

pub chain_none : (n : ℕ) (f : ℕ → ℕ) (h : ℕ) → numbered h ≡ false → chain n f h ≡ []
unfolding chain
chain_none zero f h e = refl
chain_none (suc n) f h e = ap (λ (t : Bool). cond t (h ∷ chain n f (f h)) []) e

pub numbered_next : (xs : List Slot) (k : ℕ) → numbered k ≡ true → nexts xs k ≡ (slot_at xs k).next
numbered_next xs k e = ap (λ (t : Bool). cond t (slot_at xs k).next 0) e

---- the one before k: d, if the next one m is k or none, else it is found from m on

module _ (f : ℕ → ℕ) (k d m : ℕ) (q : f d ≡ m) where
  pub before_goes : (n : ℕ) → numbered m ≡ true → eqb m k ≡ false → before k m (chain n f (f m)) ≡ before k d (chain (suc n) f (f d))
  before_goes n e o =
      sym (ap (λ (i : ℕ). before k d (chain (suc n) f i)) q
      ∙ ap (before k d) (chain_cons n f m e)
      ∙ ap (λ (t : Bool). cond t d (before k m (chain n f (f m)))) o)

  pub before_here : (n : ℕ) → eqb m k ≡ true → before k d (chain (suc n) f (f d)) ≡ d
  unfolding chain
  before_here n o = ap (λ (i : ℕ). before k d (chain (suc n) f i)) q ∙ go (numbered m)
    where
      go : (t : Bool) → before k d (cond t (m ∷ chain n f (f m)) []) ≡ d
      go true = ap (λ (t : Bool). cond t d (before k m (chain n f (f m)))) o
      go false = refl

  pub before_last : (n : ℕ) → numbered m ≡ false → before k d (chain n f (f d)) ≡ d
  before_last n e = ap (λ (i : ℕ). before k d (chain n f i)) q ∙ ap (before k d) (chain_none n f m e)

-- of a slot that is not on the chain it is the last
pub before_off : (k d : ℕ) (ks : List ℕ) → stands_on k ks ≡ false → before k d ks ≡ last_of d ks
before_off k d [] n = refl
before_off k d (j ∷ js) n =
    let p = or_parts (eqb k j) (stands_on k js) (sym (stands_cons k j js) ∙ n) in
    ap (λ (t : Bool). cond t d (before k j js)) (ne_eqb j k (λ e. eqb-false k j p.0 (sym e))) ∙ before_off k j js p.1

---- the first that passes

module _ (f : ℕ → ℕ) (p : ℕ → Bool) (h : ℕ) where
  pub first_here : (n : ℕ) → numbered h ≡ true → p h ≡ true → first_of (chain (suc n) f h) p ≡ Some h
  unfolding first_of
  first_here n e m = ap (λ (l : List ℕ). first_of l p) (chain_cons n f h e) ∙ ap (λ (t : Bool). cond t (Some h) (first_of (chain n f (f h)) p)) m

  pub first_goes : (n : ℕ) → numbered h ≡ true → p h ≡ false → first_of (chain (suc n) f h) p ≡ first_of (chain n f (f h)) p
  unfolding first_of
  first_goes n e m = ap (λ (l : List ℕ). first_of l p) (chain_cons n f h e) ∙ ap (λ (t : Bool). cond t (Some h) (first_of (chain n f (f h)) p)) m

  pub first_none : (n : ℕ) → numbered h ≡ false → first_of (chain n f h) p ≡ None
  unfolding first_of
  first_none n e = ap (λ (l : List ℕ). first_of l p) (chain_none n f h e)
