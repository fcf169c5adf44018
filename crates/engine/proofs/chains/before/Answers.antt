use Rattle.std.proofs.Common.{◌≡◌, ℕ, suc, ◌+◌, ◌-◌, ◌<◌, true, false, eqb, List, sym, ap, ◌∙◌, subst, arith}
use Rattle.std.proofs.lemmas.Bool.{not-true, not-false}
use Rattle.slots.specs.declared.slot.Slot.{Slot}
use Rattle.table.specs.Engine.{numbered}
use Rattle.table.specs.View.{chain, nexts, before, slot_at}
use Rattle.table.proofs.Walks.{numbered_next, before_goes, before_here, before_last}
use Rattle.engine.proofs.Numbers.{place_numbered, read_place, new_some, new_none}
use Rattle.engine.proofs.chains.before.Goals as goal

-- one turn at d, whose next number is m, with 15 - i turns left
module _ (xs : List Slot) (k d m i x : ℕ) (e : numbered d ≡ true) (q : m ≡ (slot_at xs d).next) (l : i < 15) (h : before k d (chain (15 - i) (nexts xs) (nexts xs d)) ≡ x) where
  here : before k d (chain (suc (15 - (i + 1))) (nexts xs) (nexts xs d)) ≡ x
  here = let left : 15 - i ≡ suc (15 - (i + 1)) = omega arith in subst (λ (n : ℕ). before k d (chain n (nexts xs) (nexts xs d)) ≡ x) left h

  next : nexts xs d ≡ m
  next = numbered_next xs d e ∙ sym q

  goes : numbered m ≡ true → eqb m k ≡ false → before k m (chain (15 - (i + 1)) (nexts xs) (nexts xs m)) ≡ x
  goes t n = before_goes (nexts xs) k d m next (15 - (i + 1)) t n ∙ here

  meets : eqb m k ≡ true → d ≡ x
  meets n = sym (before_here (nexts xs) k d m next (15 - (i + 1)) n) ∙ here

  ends : numbered m ≡ false → d ≡ x
  ends t = sym (before_last (nexts xs) k d m next (suc (15 - (i + 1))) t) ∙ here

spent : (xs : List Slot) (k d n x : ℕ) → n ≡ 0 → before k d (chain n (nexts xs) (nexts xs d)) ≡ x → d ≡ x
unfolding chain
spent xs k d n x z h = subst (λ (n : ℕ). before k d (chain n (nexts xs) (nexts xs d)) ≡ x) z h

pub loop-preserved : goal.loop-preserved
loop-preserved c =
    let r = new_some _ c.new.result c.new.ensures.valid c.new.ensures.value c.in-Some.next c.in-Some.is in
    let q = ap (λ (s : Slot). s.next) (read_place c.args.slots.now c.told-slots c.place.ensures.value c.place.ensures.inside _) in
    goes c.args.slots.now c.args.k c.loop.at c.in-Some.next c.loop.counter _ (place_numbered c.place.ensures.value c.place.ensures.inside) (r.1 ∙ q) c.loop-test.true c.loop.invariant
    (ap numbered r.1 ∙ r.0) (not-true _ (sym c.ne.ensures ∙ c.if-ne.true))

pub returns : goal.returns
returns c = let z : 15 - c.loop.counter ≡ 0 = omega arith in spent c.args.slots.now c.args.k c.loop.at (15 - c.loop.counter) _ z c.loop.invariant

pub returns-in_default : goal.returns-in_default
returns-in_default c =
    let r = new_some _ c.new.result c.new.ensures.valid c.new.ensures.value c.in-Some.next c.in-Some.is in
    let q = ap (λ (s : Slot). s.next) (read_place c.args.slots.now c.told-slots c.place.ensures.value c.place.ensures.inside _) in
    meets c.args.slots.now c.args.k c.loop.at c.in-Some.next c.loop.counter _ (place_numbered c.place.ensures.value c.place.ensures.inside) (r.1 ∙ q) c.loop-test.true c.loop.invariant
    (not-false _ (sym c.ne.ensures ∙ c.if-ne.false))

pub returns-in_default-2 : goal.returns-in_default-2
returns-in_default-2 c =
    ends c.args.slots.now c.args.k c.loop.at _ c.loop.counter _ (place_numbered c.place.ensures.value c.place.ensures.inside)
    (ap (λ (s : Slot). s.next) (read_place c.args.slots.now c.told-slots c.place.ensures.value c.place.ensures.inside _)) c.loop-test.true c.loop.invariant
    (new_none _ c.new.result c.new.ensures.valid c.new.ensures.value c.in_default.is)
