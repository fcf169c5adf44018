use Rattle.std.proofs.Common.{rules, of_calls, ◌≡◌, ℕ, zero, suc, Bool, true, false, List, [], ◌∷◌, Option, None, Some, IsSome, IfSome, ◌<◌, ◌≤◌, ◌↔◌, sym, refl, ap, ◌∙◌, subst, arith, Bor}
use Rattle.std.specs.List.{list_all, FoldsTo}
use Rattle.std.specs.Fn.{CalledAt}
use denote.Param.Members.{Mut}
use Rattle.std.specs.declared.iter.Take.{Take}
use Rattle.std.specs.declared.iter.Successors.{Successors}
use Rattle.std.specs.Iterator.{YieldsThen}
use Rattle.std.specs.Iterator.Adapters.{take_source, take_count, take_steps, successors_steps, successors_next, successors_callee}
use Rattle.table.specs.Engine.{numbered, first_of}
use Rattle.table.specs.Table.{lets_by, eligible}
use Rattle.table.specs.View.{view, entry_of, chain, nexts, slot_at}
use Rattle.table.proofs.Walks.{numbered_next, first_here, first_goes, first_none}
use Rattle.engine.proofs.Numbers.{new_some, new_none}
use Rattle.engine.proofs.Scans.{eligible_slot}
use Rattle.engine.proofs.state.Engine.first_eligible.Goals as goal

-- what stands for the slot of this number
abbrev IsSlot : ℕ → Option ℕ → Type 0
IsSlot h None = numbered h ≡ false
IsSlot h (Some k) = (k ≡ h) × (numbered h ≡ true)

module _ {F G : Type 0} (g : Mut F (Bor ℕ × Unit {0}) (Option ℕ)) (f : F) (q : Mut G (Bor ℕ × Unit {0}) Bool) (t : G) (next : ℕ → ℕ) (p : ℕ → Bool)
    (goes : (x : ℕ) (o : Option ℕ) (f' : F) → CalledAt g f x o f' → (f' ≡ f) × IsSlot (next x) o)
    (tests : (x : ℕ) (b : Bool) (t' : G) → CalledAt q t x b t' → (t' ≡ t) × (b ≡ p x)) where
  stop : (n h : ℕ) (s u : Take (Successors ℕ F)) (r : Option ℕ) (t' : G) → take_count s ≡ n → IsSlot h (successors_next (take_source s)) → t' ≡ t
      → take_steps (successors_steps g) s r u → IfSome r (λ x. (t'' : G) × CalledAt q t' x true t'') → r ≡ first_of (chain n next h) p
  unfolding chain first_of
  stop zero h s u None t' c o z y b = refl
  stop (suc n) h s u None t' c o z y b = let l : 0 < take_count s = omega (arith, c) in sym (first_none next p h (suc n) (subst (IsSlot h) (sym (y l).0) o))
  stop zero h s u (Some x) t' c o z y b = absurd (omega (arith, y.1, c))
  stop (suc n) h s u (Some x) t' c o z y b =
      let w : IsSlot h (Some x) = subst (IsSlot h) (sym y.0.0) o in
      ap (λ (k : ℕ). Some k) w.0
      ∙ sym (first_here next p h n w.1 (ap p (sym w.0) ∙ sym (tests x true b.0 (subst (λ (a : G). CalledAt q a x true b.0) z b.1)).1))

  walk : (n h : ℕ) (s u : Take (Successors ℕ F)) (xs : List ℕ) (r : Option ℕ) (t₀ t' : G) → take_count s ≡ n → IsSlot h (successors_next (take_source s)) → successors_callee (take_source s) ≡ f → t₀ ≡ t
      → YieldsThen (take_steps (successors_steps g)) s xs r u → FoldsTo (λ p x q'. CalledAt q p x false q') t₀ xs t' → IfSome r (λ x. (t'' : G) × CalledAt q t' x true t'')
      → r ≡ first_of (chain n next h) p
  walk n h s u [] r t₀ t' c o e z y d b = stop n h s u r t' c o (sym d ∙ z) (subst (λ (v : Take (Successors ℕ F)). take_steps (successors_steps g) v r u) (sym y.1) y.2) b
  walk zero h s u (x ∷ xs) r t₀ t' c o e z y d b = absurd (omega (arith, y.1.1.1, c))
  walk (suc n) h s u (x ∷ xs) r t₀ t' c o e z y d b =
      let j = y.1.0 in
      let w : IsSlot h (Some x) = subst (IsSlot h) (sym y.1.1.0.0) o in
      let on = goes x _ _ (subst (λ (a : F). CalledAt g a x (successors_next (take_source j)) (successors_callee (take_source j))) e y.1.1.0.1) in
      let off = tests x false d.0 (subst (λ (a : G). CalledAt q a x false d.0) z d.1) in
      walk n (next h) j u xs r d.0 t' (omega (arith, y.1.1.1, c)) (subst (λ (i : ℕ). IsSlot (next i) (successors_next (take_source j))) w.0 on.1) on.0 off.0 (y.0, y.1.2, y.2) d.2 b
      ∙ sym (first_goes next p h n w.1 (ap p (sym w.0) ∙ sym off.1))

slot_here : (n : ℕ) (o : Option ℕ) → (IsSome o ↔ ((1 ≤ n) × (n ≤ 16))) → IfSome o (λ s. s ≡ n) → IsSlot n o
slot_here n None v w = new_none n None v w refl
slot_here n (Some k) v w = let r = new_some n (Some k) v w k refl in (r.1, r.0)

found : {F G : Type 0} {g : Mut F (Bor ℕ × Unit {0}) (Option ℕ)} {q : Mut G (Bor ℕ × Unit {0}) Bool} (f : F) (t t' : G) (next : ℕ → ℕ) (p : ℕ → Bool) (n h : ℕ) (s u : Take (Successors ℕ F)) (xs : List ℕ) {r : Option ℕ}
    → YieldsThen (take_steps (successors_steps g)) s xs r u → FoldsTo (λ p x q'. CalledAt q p x false q') t xs t' → IfSome r (λ x. (t'' : G) × CalledAt q t' x true t'')
    → take_count s ≡ n → IsSlot h (successors_next (take_source s)) → successors_callee (take_source s) ≡ f
    → ((x : ℕ) (o : Option ℕ) (f' : F) → CalledAt g f x o f' → (f' ≡ f) × IsSlot (next x) o)
    → ((x : ℕ) (b : Bool) (t' : G) → CalledAt q t x b t' → (t' ≡ t) × (b ≡ p x))
    → r ≡ first_of (chain n next h) p
found {F} {G} {g} {q} f t t' next p n h s u xs {r} y d b c o e goes tests = walk g f q t next p goes tests n h s u xs r t t' c o e refl y d b

pub returns : goal.returns
returns c =
    let s = c.args.self.now.state in
    found c.successors.result.f _ _ (nexts s.slots) (eligible (view s)) 16 s.waiting _ _ c.find.ensures.ran.0 c.find.ensures.ran.2 c.find.ensures.ran.3 c.find.ensures.ran.4
    (search rules) (subst (IsSlot s.waiting) (sym (ap successors_next c.take.ensures.source ∙ c.successors.ensures.item)) (slot_here _ _ c.new.ensures.valid c.new.ensures.value)) (search rules)
    (λ x o f' k.
    let m = k.called in
    let n : numbered x ≡ true = search (rules, of_calls) in
    let v : IsSome o ↔ ((1 ≤ (slot_at s.slots x).next) × ((slot_at s.slots x).next ≤ 16)) = search (rules, of_calls) in
    let w : IfSome o (λ y. y ≡ (slot_at s.slots x).next) = search (rules, of_calls) in
    let q : f' ≡ c.successors.result.f = search (rules, of_calls) in
    (q, subst (λ (i : ℕ). IsSlot i o) (sym (numbered_next s.slots x n)) (slot_here _ o v w)))
    (λ x b t' k.
    let m = k.called in
    let n : numbered x ≡ true = search (rules, of_calls) in
    let e : b ≡ list_all (λ y. lets_by (entry_of (slot_at s.slots x)) (entry_of y)) s.slots = search (rules, of_calls) in
    (search (rules, of_calls), e ∙ eligible_slot s c.args.self.now.long x n))
