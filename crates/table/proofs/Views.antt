-- Fields written, and what that is to the engine of the step table. Assumes nothing.
use Rattle.std.proofs.Common.{◌≡◌, ℕ, zero, suc, ◌-◌, ◌≤◌, Bool, true, false, cond, eqb, List, [], ◌∷◌, map, length, get_or, set, None, sym, refl, ap, ◌∙◌, subst, arith, get_or-set_other, get_or-set_same}
use mathlib.Core.Path.{fun_ext}
use Rattle.std.proofs.lemmas.Bool.{eqb-true, eqb-false}
use Rattle.arrayvec.specs.ArrayVec.{ArrayVec}
use Rattle.slots.specs.declared.line.Line.{Line as KeptLine}
use Rattle.slots.specs.declared.line.Line.TheVariants.{Idle}
use Rattle.slots.specs.declared.slot.Slot.{Slot}
use Rattle.slots.specs.declared.slot.Slots.{Slots}
use Rattle.slots.specs.declared.slot.State.{State}
use Rattle.slots.specs.declared.slot.State.TheVariants.{Free, Finished}
use Rattle.slots.specs.declared.slot.Outcome.TheVariants.{Reset}
use Rattle.table.specs.Engine.{JustMade, all_numbers, idle, numbered, is_open, put_slot, set_slot, with_state, reset_where}
use Rattle.table.specs.Table.{cleared}
use Rattle.table.specs.Calls.{open_or_waiting, reset_engine}
use Rattle.table.specs.View.{entry_of, no_slot, slot_at, entries, nexts, chain, line_of, view, Linked, Links, fresh_slot, fresh_slots, reset_slot}
use Rattle.table.proofs.Basics.{is_numbered, numbered_is}
use Rattle.table.proofs.Chains.{set_next, chain_is}

---- one slot written

-- any reading of a written slot
module _ {A : Type 0} (f : Slot → A) (z : A) (xs : List Slot) (k : ℕ) (x : Slot) (a : 1 ≤ k) (b : k ≤ 16) (n : length xs ≡ 16) where
  at_number : (j : ℕ) (t s : Bool) → eqb j k ≡ t → numbered j ≡ s → cond s (f (slot_at (set xs (k - 1) x) j)) z ≡ cond t (f x) (cond s (f (slot_at xs j)) z)
  at_number j true true e m = ap f (ap (λ (i : ℕ). slot_at (set xs (k - 1) x) i) (eqb-true j k e) ∙ get_or-set_same xs (k - 1) x no_slot (omega arith))
  at_number j true false e m = let q : true ≡ false = sym (is_numbered k a b) ∙ ap numbered (sym (eqb-true j k e)) ∙ m in let y : ◌≡◌ {A = ℕ} 0 1 = cc in absurd (omega arith)
  at_number j false true e m = ap f (get_or-set_other xs (k - 1) (j - 1) x no_slot (λ q. let r = numbered_is j m in eqb-false j k e (omega (arith, r.0))))
  at_number j false false e m = refl

  read_written : ◌≡◌ {A = ℕ → A} (λ j. cond (numbered j) (f (slot_at (set xs (k - 1) x) j)) z) (λ j. cond (eqb j k) (f x) (cond (numbered j) (f (slot_at xs j)) z))
  read_written = fun_ext (λ j. at_number j (eqb j k) (numbered j) refl refl)

module _ (xs : List Slot) (k : ℕ) (x : Slot) (a : 1 ≤ k) (b : k ≤ 16) (n : length xs ≡ 16) where
  pub entries_written : entries (set xs (k - 1) x) ≡ put_slot k (entry_of x) (entries xs)
  entries_written = read_written entry_of (entry_of no_slot) xs k x a b n

  pub nexts_written : nexts (set xs (k - 1) x) ≡ set_next k x.next (nexts xs)
  nexts_written = read_written (λ (s : Slot). s.next) 0 xs k x a b n

  pub next_here : nexts xs k ≡ (slot_at xs k).next
  next_here = ap (λ (t : Bool). cond t (slot_at xs k).next 0) (is_numbered k a b)

  -- next numbers kept
  pub nexts_kept : x.next ≡ (slot_at xs k).next → nexts (set xs (k - 1) x) ≡ nexts xs
  nexts_kept e = nexts_written ∙ ap (λ (m : ℕ). set_next k m (nexts xs)) (e ∙ sym next_here) ∙ fun_ext (λ j. go j (eqb j k) refl)
    where
      go : (j : ℕ) (t : Bool) → eqb j k ≡ t → cond t (nexts xs k) (nexts xs j) ≡ nexts xs j
      go j true e = ap (nexts xs) (sym (eqb-true j k e))
      go j false e = refl

-- the entry of a slot
pub entry_here : (xs : List Slot) (k : ℕ) → 1 ≤ k → k ≤ 16 → entries xs k ≡ entry_of (slot_at xs k)
entry_here xs k a b = ap (λ (t : Bool). cond t (entry_of (slot_at xs k)) (entry_of no_slot)) (is_numbered k a b)

-- slot k written, its next number kept
pub view_set : (s : Slots) (k : ℕ) (x : Slot) (l : KeptLine) (b : ArrayVec ℕ) → 1 ≤ k → k ≤ 16 → length s.slots ≡ 16 → x.next ≡ (slot_at s.slots k).next
    → view (record { slots = set s.slots (k - 1) x; free = s.free; waiting = s.waiting; line = l; begun = b; size = s.size })
    ≡ set_slot k (entry_of x) (line_of l b.items) (view s)
view_set s k x l b lo hi n e = λ i. record {
  slots = entries_written s.slots k x lo hi n i;
  free = chain 16 (nexts_kept s.slots k x lo hi n e i) s.free;
  waiting = chain 16 (nexts_kept s.slots k x lo hi n e i) s.waiting;
  line = line_of l b.items;
  size = s.size;
}

---- fields with the same next numbers and heads have the same chains

pub linked_same : (s s' : Slots) → nexts s'.slots ≡ nexts s.slots → s'.free ≡ s.free → s'.waiting ≡ s.waiting → Linked s → Linked s'
linked_same s s' n f w l = record { free = over s.free s'.free f l.free; waiting = over s.waiting s'.waiting w l.waiting }
  where
    over : (h h' : ℕ) → h' ≡ h → Links (nexts s.slots) h (chain 16 (nexts s.slots) h) → Links (nexts s'.slots) h' (chain 16 (nexts s'.slots) h')
    over h h' q r =
        subst (λ (g : ℕ → ℕ). Links g h' (chain 16 g h')) (sym n) (subst (λ (i : ℕ). Links (nexts s.slots) i (chain 16 (nexts s.slots) i)) (sym q) r)

pub linked_by : (f : ℕ → ℕ) (h : ℕ) (ks : List ℕ) → Links f h ks → length ks ≤ 16 → Links f h (chain 16 f h)
linked_by f h ks l u = subst (Links f h) (sym (chain_is 16 f h ks l u)) l

---- slots reset, where their state passes a test that free slots do not

module _ (p : State → Bool) (z : p Free ≡ false) where
  reset_place : (xs : List Slot) (i : ℕ) → get_or (map (reset_slot p) xs) i no_slot ≡ reset_slot p (get_or xs i no_slot)
  reset_place [] i = ap (λ (t : Bool). record {
    next = 0;
    state = cond t (Finished Reset) Free;
    command = no_slot.command;
    current = 0;
    saved = 0;
    sent = false;
    status = None;
  }) (sym z)
  reset_place (x ∷ xs) zero = refl
  reset_place (x ∷ xs) (suc i) = reset_place xs i

  reset_entry : (x : Slot) → entry_of (reset_slot p x) ≡ reset_where p (entry_of x)
  reset_entry x = go (p x.state)
    where
      go : (t : Bool) → with_state (cond t (Finished Reset) x.state) (entry_of x) ≡ cond t (with_state (Finished Reset) (entry_of x)) (entry_of x)
      go true = refl
      go false = refl

  pub entries_reset : (xs : List Slot) → entries (map (reset_slot p) xs) ≡ (λ k. reset_where p (entries xs k))
  entries_reset xs = fun_ext (λ k. go k (numbered k))
    where
      go : (k : ℕ) (t : Bool) → cond t (entry_of (slot_at (map (reset_slot p) xs) k)) (entry_of no_slot) ≡ reset_where p (cond t (entry_of (slot_at xs k)) (entry_of no_slot))
      go k true = ap entry_of (reset_place xs (k - 1)) ∙ reset_entry (slot_at xs k)
      go k false = sym (ap (λ (t : Bool). cond t (with_state (Finished Reset) (entry_of no_slot)) (entry_of no_slot)) z)

  pub nexts_reset : (xs : List Slot) → nexts (map (reset_slot p) xs) ≡ nexts xs
  nexts_reset xs = fun_ext (λ k. ap (λ (x : Slot). cond (numbered k) x.next 0) (reset_place xs (k - 1)))

-- connected and away commands finished RESET, and the line idle
pub view_cleared : (s : Slots) (xs : List Slot) (b : ArrayVec ℕ) → xs ≡ map (reset_slot is_open) s.slots
    → view (record { slots = xs; free = s.free; waiting = s.waiting; line = Idle; begun = b; size = s.size }) ≡ cleared (view s)
view_cleared s xs b e = λ i. record {
  slots = (ap entries e ∙ entries_reset is_open refl s.slots) i;
  free = chain 16 ((ap nexts e ∙ nexts_reset is_open refl s.slots) i) s.free;
  waiting = chain 16 ((ap nexts e ∙ nexts_reset is_open refl s.slots) i) s.waiting;
  line = idle;
  size = s.size;
}

-- and waiting commands too
pub view_reset : (s : Slots) (xs : List Slot) (b : ArrayVec ℕ) → xs ≡ map (reset_slot open_or_waiting) s.slots
    → view (record { slots = xs; free = s.free; waiting = 0; line = Idle; begun = b; size = s.size }) ≡ reset_engine (view s)
unfolding chain
view_reset s xs b e = λ i. record {
  slots = (ap entries e ∙ entries_reset open_or_waiting refl s.slots) i;
  free = chain 16 ((ap nexts e ∙ nexts_reset open_or_waiting refl s.slots) i) s.free;
  waiting = [];
  line = idle;
  size = s.size;
}

pub linked_reset : (s s' : Slots) → s'.slots ≡ map (reset_slot open_or_waiting) s.slots → s'.free ≡ s.free → s'.waiting ≡ 0 → Linked s → Linked s'
unfolding chain
linked_reset s s' e f w l =
    record {
      free = (linked_same s (record { slots = s'.slots; free = s'.free; waiting = s.waiting; line = s.line; begun = s.begun; size = s.size })
          (ap nexts e ∙ nexts_reset open_or_waiting refl s.slots) f refl l).free;
      waiting = subst (λ (i : ℕ). Links (nexts s'.slots) i (chain 16 (nexts s'.slots) i)) (sym w) refl;
    }

---- an engine just made

fresh_free : (ns : List ℕ) (i : ℕ) → (get_or (map fresh_slot ns) i no_slot).state ≡ Free
fresh_free [] i = refl
fresh_free (n ∷ ns) zero = refl
fresh_free (n ∷ ns) (suc i) = fresh_free ns i

all_linked : Links (nexts fresh_slots) 1 all_numbers
all_linked = (
  refl,
  refl,
  (
    refl,
    refl,
    (
      refl,
      refl,
      (
        refl,
        refl,
        (
          refl,
          refl,
          (
            refl,
            refl,
            (
              refl,
              refl,
              (
                refl,
                refl,
                (refl, refl, (refl, refl, (refl, refl, (refl, refl, (refl, refl, (refl, refl, (refl, refl, (refl, refl, refl)))))))),
              ),
            ),
          ),
        ),
      ),
    ),
  ),
)

module _ (s : Slots) (q : s.slots ≡ fresh_slots) (f : s.free ≡ 1) (w : s.waiting ≡ 0) where
  pub linked_fresh : Linked s
  unfolding chain
  linked_fresh =
      subst (λ (t : List Slot × ℕ × ℕ). Linked (record { slots = t.0; free = t.1; waiting = t.2; line = s.line; begun = s.begun; size = s.size }))
      (λ i. (sym q i, sym f i, sym w i))
      (record { free = linked_by (nexts fresh_slots) 1 all_numbers all_linked (omega arith); waiting = refl })

  pub made_fresh : s.line ≡ Idle → JustMade (view s)
  unfolding chain
  made_fresh l =
      record {
        slots = λ k. ap (λ (xs : List Slot). (entries xs k).state) q ∙ go k (numbered k);
        all_free = (λ i. chain 16 (nexts (q i)) (f i)) ∙ chain_is 16 (nexts fresh_slots) 1 all_numbers all_linked (omega arith);
        waiting = ap (chain 16 (nexts s.slots)) w;
        line = ap (λ (k : KeptLine). line_of k s.begun.items) l;
      }
    where
      go : (k : ℕ) (t : Bool) → (cond t (entry_of (slot_at fresh_slots k)) (entry_of no_slot)).state ≡ Free
      go k true = fresh_free (2 ∷ 3 ∷ 4 ∷ 5 ∷ 6 ∷ 7 ∷ 8 ∷ 9 ∷ 10 ∷ 11 ∷ 12 ∷ 13 ∷ 14 ∷ 15 ∷ 16 ∷ 0 ∷ []) (k - 1)
      go k false = refl
