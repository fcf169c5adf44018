-- A search of the list of slots is one of their numbers. Assumes nothing.
use Rattle.std.proofs.Common.{◌≡◌, ℕ, zero, suc, ◌+◌, ◌-◌, ◌<◌, ◌≤◌, Bool, true, false, ◌&&◌, List, length, take, get_or, Some, None, Option, sym, refl, ap, ◌∙◌, arith}
use Rattle.std.proofs.Math.Bool.{and_comm}
use Rattle.std.specs.Option.{option_map}
use Rattle.std.specs.List.{list_all, position}
use Rattle.std.proofs.lemmas.Grind.{common_steps}
use Rattle.std.proofs.lemmas.List.{take_all}
use Rattle.std.proofs.lemmas.List.Folds.{list_all_more}
use Rattle.std.proofs.lemmas.List.Quantifiers.{position-Some}
use Rattle.std.proofs.lemmas.List.Sums.{fails_before_first}
use Rattle.slots.specs.declared.slot.Slot.{Slot}
use Rattle.table.specs.Engine.{Entry, every, seek, numbered}
use Rattle.slots.specs.declared.slot.Slots.{Slots}
use Rattle.table.specs.Table.{lets_by, eligible}
use Rattle.table.specs.View.{entry_of, no_slot, slot_at, entries, view}
use Rattle.table.proofs.Basics.{numbered_is, seek_found}
use Rattle.table.proofs.Views.{entry_here}

seek_none : (n : ℕ) (p : ℕ → Bool) → ((k : ℕ) → 1 ≤ k → k ≤ n → p k ≡ false) → seek n p ≡ None
unfolding seek
seek_none zero p h = refl
seek_none (suc n) p h =
    let before = seek_none n p (λ k a b. h k a (omega arith)) in
    let last = h (suc n) (omega arith) (omega arith) in
    rw (before, last)

module _ (p : Entry → Bool) (xs : List Slot) (n : length xs ≡ 16) where
  abbrev passes : Slot → Bool
  passes x = p (entry_of x)

  abbrev passes_at : ℕ → Bool
  passes_at k = p (entries xs k)

  here : (i : ℕ) → i < 16 → passes (get_or xs i no_slot) ≡ passes_at (i + 1)
  here i h =
      let e : i + 1 - 1 ≡ i = omega arith in
      sym (ap p (entry_here xs (i + 1) (omega arith) (omega arith)) ∙ ap (λ (j : ℕ). passes (get_or xs j no_slot)) e)

  every_of : (i : ℕ) → i ≤ 16 → list_all passes (take i xs) ≡ every i passes_at
  unfolding every
  every_of zero h = refl
  every_of (suc i) h =
      let e : suc i ≡ i + 1 = omega arith in
      ap (λ (j : ℕ). list_all passes (take j xs)) e
      ∙ list_all_more passes xs i no_slot (omega (arith, n))
      ∙ and_comm (list_all passes (take i xs)) (passes (get_or xs i no_slot))
      ∙ (λ j. (here i (omega arith) ∙ ap passes_at (sym e)) j && every_of i (omega arith) j)

  -- all of them pass
  pub every_slot : list_all passes xs ≡ every 16 passes_at
  every_slot = ap (list_all passes) (sym (take_all 16 xs (omega (arith, n)))) ∙ every_of 16 (omega arith)

  -- the first that passes
  pub seek_slot : option_map (λ i. i + 1) (position passes xs) ≡ seek 16 passes_at
  seek_slot = go (position passes xs) refl
    where
      fails : (k : ℕ) → 1 ≤ k → k ≤ 16 → passes (get_or xs (k - 1) no_slot) ≡ false → passes_at k ≡ false
      fails k a b f = let e : k - 1 + 1 ≡ k = omega arith in ap passes_at (sym e) ∙ sym (here (k - 1) (omega arith)) ∙ f

      all_fail : position passes xs ≡ None → (i : ℕ) → i < length xs → passes (get_or xs i no_slot) ≡ false
      all_fail q i l = fails_before_first passes xs i no_slot (grind (arith, common_steps))

      go : (o : Option ℕ) → position passes xs ≡ o → option_map (λ i. i + 1) o ≡ seek 16 passes_at
      go (Some i) q =
          let f = position-Some passes xs i no_slot q in
          let l = f.0 in
          let on : i + 1 ≡ suc i = omega arith in
          ap (λ (k : ℕ). Some k) on ∙ sym (seek_found passes_at (suc i) (omega arith) (omega (arith, l, n))
          (seek_none _ passes_at (λ k a b. fails k a (omega (arith, l, n)) (f.2 (k - 1) (omega (arith, l, n)))))
          (ap passes_at (sym on) ∙ sym (here i (omega (arith, l, n))) ∙ f.1))
      go None q = sym (seek_none 16 passes_at (λ k a b. fails k a b (all_fail q (k - 1) (omega (arith, n)))))

-- whether the command of slot k may be selected
pub eligible_slot : (s : Slots) → length s.slots ≡ 16 → (k : ℕ) → numbered k ≡ true → list_all (λ x. lets_by (entry_of (slot_at s.slots k)) (entry_of x)) s.slots ≡ eligible (view s) k
eligible_slot s n k m =
    let r = numbered_is k m in
    every_slot (lets_by (entry_of (slot_at s.slots k))) s.slots n
    ∙ ap (λ (x : Entry). every 16 (λ j. lets_by x ((view s).slots j))) (sym (entry_here s.slots k r.0 r.1))
