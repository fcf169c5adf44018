use Rattle.std.proofs.Common.{◌≡◌, ℕ, ◌+◌, ◌<◌, Bool, true, false, cond, List, ◌++◌, map, length, take, drop, set, get_or, sym, ap, ◌∙◌, arith, rules}
use Rattle.std.proofs.lemmas.Grind.{common_steps}
use Rattle.std.proofs.lemmas.List.{get_or_default}
use Rattle.std.proofs.lemmas.List.Edits.{map_over_more}
use Rattle.slots.specs.declared.slot.State.{State}
use Rattle.slots.specs.declared.slot.State.TheVariants.{Finished}
use Rattle.slots.specs.declared.slot.Outcome.TheVariants.{Reset}
use Rattle.slots.specs.declared.slot.Slot.{Slot}
use Rattle.table.specs.View.{no_slot, reset_slot}
use Rattle.engine.proofs.changes.reset_where.Goals.{then-passes, else-passes}
use Rattle.engine.proofs.changes.reset_where.Goals as goal

-- one slot more
module _ (p : State → Bool) (xs ys : List Slot) (i : ℕ) (l : i < length xs) (q : ys ≡ map (reset_slot p) (take i xs) ++ drop i xs) where
  abbrev x : Slot
  x = get_or ys i no_slot

  abbrev reset : Bool → Slot
  reset t = record { next = x.next; state = cond t (Finished Reset) x.state; command = x.command; current = x.current; saved = x.saved; sent = x.sent; status = x.status }

  m : i < length ys
  m = rw q (grind (arith, common_steps))

  more : (t : Bool) → t ≡ p x.state → set ys i (reset t) ≡ map (reset_slot p) (take (i + 1) xs) ++ drop (i + 1) xs
  more t e = ap (λ (b : Bool). set ys i (reset b)) e ∙ map_over_more (reset_slot p) xs ys i x l q (get_or_default ys i no_slot x m)

long : {i n : ℕ} → i < 16 → n ≡ 16 → i < n
long l q = omega (arith, l, q)

pub loop-slot-preserved : goal.loop-slot-preserved
loop-slot-preserved g c p d = elim c.if-passes.branch [
  | then-passes w ↦ w.slots-is ∙ more p c.args.slots.now c.loop-slot.slots c.loop-slot.slot-index (long c.loop-slot-test.true (search rules)) (c.loop-slot.invariant p d) true (sym w.if-passes.true ∙ d _ _ c.passes.ensures)
  | else-passes w ↦ w.slots-is ∙ more p c.args.slots.now c.loop-slot.slots c.loop-slot.slot-index (long c.loop-slot-test.true (search rules)) (c.loop-slot.invariant p d) false (sym w.if-passes.false ∙ d _ _ c.passes.ensures)
]
