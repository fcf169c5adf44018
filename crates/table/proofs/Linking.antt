-- Slots put on a chain and taken off it, by their next numbers. Assumes nothing.
use Rattle.std.proofs.Common.{◌≡◌, ℕ, ◌-◌, ◌≤◌, Bool, true, false, cond, not, ◌&&◌, eqb, List, [], ◌∷◌, ◌++◌, length, set, sym, refl, ap, ◌∙◌, subst, length-set}
use Rattle.std.proofs.Math.Bool.{and-false}
use mathlib.Core.Path.{fun_ext}
use Rattle.std.proofs.lemmas.Bool.{and_parts, not-true, eqb-true}
use Rattle.arrayvec.specs.ArrayVec.{ArrayVec}
use Rattle.slots.specs.declared.line.Line.{Line as KeptLine}
use Rattle.slots.specs.declared.slot.Slot.{Slot}
use Rattle.slots.specs.declared.slot.Slots.{Slots}
use Rattle.table.specs.Engine.{Entry, in_use, is_waiting, numbered, stands_on, without, put_slot, set_slot}
use Rattle.table.specs.Sound.{Once, Sound}
use Rattle.table.specs.View.{entry_of, slot_at, entries, nexts, chain, line_of, view, Linked, Links, before}
use Rattle.table.proofs.Basics.{wrong, numbered_is, nobody, stands_head, stands_tail, once_without, once_append, put_here, put_there}
use Rattle.table.proofs.States.{waiting_is, free_is}
use Rattle.table.proofs.Chains.{set_next, links_off, put_back, last_of, append_links, unlink_head, unlink_links, chain_is, chain_short, at_most_16, on_last, on_before, without_other}
use Rattle.table.proofs.Views.{entries_written, nexts_written, next_here, entry_here, linked_by}

-- fields by what their slots and chains come to
record Fields (s : Slots) (entry : ℕ → Entry) (next : ℕ → ℕ) (free waiting : List ℕ) : Type 0 where
  entry_so : entries s.slots ≡ entry
  next_so : nexts s.slots ≡ next
  free_so : Links next s.free free
  free_once : Once free
  waiting_so : Links next s.waiting waiting
  waiting_once : Once waiting

viewed : (s : Slots) (entry : ℕ → Entry) (next : ℕ → ℕ) (free waiting : List ℕ) → Fields s entry next free waiting
    → view s ≡ record { slots = entry; free = free; waiting = waiting; line = (view s).line; size = s.size }
viewed s entry next free waiting h = λ i. record {
  slots = h.entry_so i;
  free = (ap (λ (f : ℕ → ℕ). chain 16 f s.free) h.next_so ∙ chain_is 16 next s.free free h.free_so (at_most_16 next s.free free h.free_once h.free_so)) i;
  waiting = (ap (λ (f : ℕ → ℕ). chain 16 f s.waiting) h.next_so ∙ chain_is 16 next s.waiting waiting h.waiting_so (at_most_16 next s.waiting waiting h.waiting_once h.waiting_so)) i;
  line = (view s).line;
  size = s.size;
}

linked : (s : Slots) (entry : ℕ → Entry) (next : ℕ → ℕ) (free waiting : List ℕ) → Fields s entry next free waiting → Linked s
linked s entry next free waiting h =
    record {
      free = subst (λ (f : ℕ → ℕ). Links f s.free (chain 16 f s.free)) (sym h.next_so) (linked_by next s.free free h.free_so (at_most_16 next s.free free h.free_once h.free_so));
      waiting = subst (λ (f : ℕ → ℕ). Links f s.waiting (chain 16 f s.waiting)) (sym h.next_so)
          (linked_by next s.waiting waiting h.waiting_so (at_most_16 next s.waiting waiting h.waiting_once h.waiting_so));
    }

module _ (s : Slots) (n : length s.slots ≡ 16) (h : Linked s) (o : Sound (view s)) where
  abbrev xs : List Slot
  xs = s.slots

  abbrev f : ℕ → ℕ
  f = nexts s.slots

  -- which slots stand on no chain, or on one of them alone
  off_free : (k : ℕ) → in_use ((view s).slots k).state ≡ true → stands_on k (view s).free ≡ false
  off_free k u = o.free_chain k ∙ ap (λ (t : Bool). numbered k && not t) u ∙ and-false (numbered k)

  on_free : (k : ℕ) → stands_on k (view s).free ≡ true → (numbered k ≡ true) × (in_use ((view s).slots k).state ≡ false)
  on_free k u = let p = and_parts (numbered k) _ (sym (o.free_chain k) ∙ u) in (p.0, not-true _ p.1)

  off_waiting : (k : ℕ) → is_waiting ((view s).slots k).state ≡ false → stands_on k (view s).waiting ≡ false
  off_waiting k w = o.waiting_chain k ∙ w

  ---- a slot on no chain is put at the free head

  module _ (k : ℕ) (x : Slot) (l : KeptLine) (b : ArrayVec ℕ) (u : in_use ((view s).slots k).state ≡ true) (w : is_waiting ((view s).slots k).state ≡ false) (q : x.next ≡ s.free) where
    abbrev put_fields : Slots
    put_fields = record { slots = set s.slots (k - 1) x; free = k; waiting = s.waiting; line = l; begun = b; size = s.size }

    put_so : Fields put_fields (put_slot k (entry_of x) (view s).slots) (set_next k s.free f) (k ∷ (view s).free) (view s).waiting
    put_so =
        let r = numbered_is k (o.range k u) in
        record {
          entry_so = entries_written xs k x r.0 r.1 n;
          next_so = nexts_written xs k x r.0 r.1 n ∙ ap (λ (m : ℕ). set_next k m f) q;
          free_so = put_back f s.free k (view s).free (o.range k u) (off_free k u) h.free;
          free_once = (off_free k u, o.free_once);
          waiting_so = links_off f k s.free s.waiting (view s).waiting (off_waiting k w) h.waiting;
          waiting_once = o.waiting_once;
        }

    pub view_put_back : view put_fields ≡ record { slots = put_slot k (entry_of x) (view s).slots; free = k ∷ (view s).free; waiting = (view s).waiting; line = line_of l b.items; size = s.size }
    view_put_back = viewed put_fields _ _ _ _ put_so

    pub linked_put_back : Linked put_fields
    linked_put_back = linked put_fields _ _ _ _ put_so

  ---- the free head goes to the end of the waiting chain

  module _ (k : ℕ) (ks : List ℕ) (x : Slot) (q : (view s).free ≡ k ∷ ks) (z : x.next ≡ 0) where
    head_free : Links f s.free (k ∷ ks)
    head_free = subst (Links f s.free) q h.free

    head_once : Once (k ∷ ks)
    head_once = subst Once q o.free_once

    here_free : (numbered k ≡ true) × (in_use ((view s).slots k).state ≡ false)
    here_free = on_free k (ap (stands_on k) q ∙ stands_head k ks)

    unwaiting : stands_on k (view s).waiting ≡ false
    unwaiting = off_waiting k (ap is_waiting (free_is _ here_free.1))

    -- the waiting chain was empty
    module _ (e : (view s).waiting ≡ []) where
      abbrev first_fields : Slots
      first_fields = record { slots = set s.slots (k - 1) x; free = (slot_at s.slots k).next; waiting = k; line = s.line; begun = s.begun; size = s.size }

      first_so : Fields first_fields (put_slot k (entry_of x) (view s).slots) (set_next k 0 f) ks (k ∷ [])
      first_so =
          let r = numbered_is k here_free.0 in
          record {
            entry_so = entries_written xs k x r.0 r.1 n;
            next_so = nexts_written xs k x r.0 r.1 n ∙ ap (λ (m : ℕ). set_next k m f) z;
            free_so = subst (λ (i : ℕ). Links (set_next k 0 f) i ks) (next_here xs k x r.0 r.1 n) (links_off f k 0 (f k) ks head_once.0 head_free.2);
            free_once = head_once.1;
            waiting_so = (refl, here_free.0, put_here k 0 (f k));
            waiting_once = (nobody k, tt);
          }

      pub view_first : view first_fields ≡ record { slots = put_slot k (entry_of x) (view s).slots; free = ks; waiting = (view s).waiting ++ k ∷ []; line = (view s).line; size = s.size }
      view_first = viewed first_fields _ _ _ _ first_so
          ∙ ap (λ (l : List ℕ). record { slots = put_slot k (entry_of x) (view s).slots; free = ks; waiting = l ++ k ∷ []; line = (view s).line; size = s.size }) (sym e)

      pub linked_first : Linked first_fields
      linked_first = linked first_fields _ _ _ _ first_so

    -- it ended with another slot, whose next number is k's now
    module _ (d : ℕ) (ds : List ℕ) (y : Slot) (e : (view s).waiting ≡ d ∷ ds) (yk : y.next ≡ k) (ye : entry_of y ≡ entry_of (slot_at s.slots (last_of d ds))) where
      abbrev append_fields : Slots
      append_fields = record {
        slots = set (set s.slots (k - 1) x) (last_of d ds - 1) y;
        free = (slot_at s.slots k).next;
        waiting = s.waiting;
        line = s.line;
        begun = s.begun;
        size = s.size;
      }

      last_on : stands_on (last_of d ds) (view s).waiting ≡ true
      last_on = ap (stands_on (last_of d ds)) e ∙ on_last d ds

      last_used : in_use ((view s).slots (last_of d ds)).state ≡ true
      last_used = ap in_use (waiting_is _ (sym (o.waiting_chain (last_of d ds)) ∙ last_on))

      not_last : last_of d ds ≡ k → ⊥
      not_last i = wrong _ last_used (ap (λ (j : ℕ). in_use ((view s).slots j).state) i ∙ here_free.1)

      append_so : Fields append_fields (put_slot k (entry_of x) (view s).slots) (set_next (last_of d ds) k (set_next k 0 f)) ks ((d ∷ ds) ++ k ∷ [])
      append_so =
          let r = numbered_is k here_free.0 in
          let t = numbered_is (last_of d ds) (o.range (last_of d ds) last_used) in
          let n' : length (set xs (k - 1) x) ≡ 16 = length-set xs (k - 1) x ∙ n in
          record {
            entry_so = entries_written (set xs (k - 1) x) (last_of d ds) y t.0 t.1 n'
                ∙ ap (put_slot (last_of d ds) (entry_of y)) (entries_written xs k x r.0 r.1 n)
                ∙ same_entries t.0 t.1;
            next_so = nexts_written (set xs (k - 1) x) (last_of d ds) y t.0 t.1 n'
                ∙ ap (set_next (last_of d ds) y.next) (nexts_written xs k x r.0 r.1 n)
                ∙ ap (λ (m : ℕ). set_next (last_of d ds) m (set_next k x.next f)) yk
                ∙ ap (λ (m : ℕ). set_next (last_of d ds) k (set_next k m f)) z;
            free_so = subst (λ (i : ℕ). Links (set_next (last_of d ds) k (set_next k 0 f)) i ks) (next_here xs k x r.0 r.1 n)
                (links_off (set_next k 0 f) (last_of d ds) k (f k) ks last_off (links_off f k 0 (f k) ks head_once.0 head_free.2));
            free_once = head_once.1;
            waiting_so = append_links f s.waiting d k ds here_free.0 (sym (ap (stands_on k) e) ∙ unwaiting) (subst Once e o.waiting_once) (subst (Links f s.waiting) e h.waiting);
            waiting_once = once_append k (d ∷ ds) (subst Once e o.waiting_once) (sym (ap (stands_on k) e) ∙ unwaiting);
          }
        where
          last_off : stands_on (last_of d ds) ks ≡ false
          last_off = sym (stands_tail (last_of d ds) k ks not_last) ∙ sym (ap (stands_on (last_of d ds)) q) ∙ off_free (last_of d ds) last_used

          same_entries : 1 ≤ last_of d ds → last_of d ds ≤ 16
              → put_slot (last_of d ds) (entry_of y) (put_slot k (entry_of x) (entries xs)) ≡ put_slot k (entry_of x) (entries xs)
          same_entries lo hi = fun_ext (λ j. go j (eqb j (last_of d ds)) refl)
            where
              go : (j : ℕ) (t : Bool) → eqb j (last_of d ds) ≡ t → cond t (entry_of y) (put_slot k (entry_of x) (entries xs) j) ≡ put_slot k (entry_of x) (entries xs) j
              go j true i =
                  let ji : j ≡ last_of d ds = eqb-true j (last_of d ds) i in
                  ye ∙ sym (entry_here xs (last_of d ds) lo hi) ∙ ap (entries xs) (sym ji)
                  ∙ sym (put_there j k (entry_of x) (entries xs j) (λ m. not_last (sym ji ∙ m)))
              go j false i = refl

      pub view_append : view append_fields ≡ record { slots = put_slot k (entry_of x) (view s).slots; free = ks; waiting = (view s).waiting ++ k ∷ []; line = (view s).line; size = s.size }
      view_append = viewed append_fields _ _ _ _ append_so
          ∙ ap (λ (l : List ℕ). record { slots = put_slot k (entry_of x) (view s).slots; free = ks; waiting = l ++ k ∷ []; line = (view s).line; size = s.size }) (sym e)

      pub linked_append : Linked append_fields
      linked_append = linked append_fields _ _ _ _ append_so

  ---- a slot leaves the waiting chain

  -- it is the head
  module _ (k : ℕ) (ks : List ℕ) (q : (view s).waiting ≡ k ∷ ks) where
    abbrev head_fields : Slots
    head_fields = record { slots = s.slots; free = s.free; waiting = (slot_at s.slots k).next; line = s.line; begun = s.begun; size = s.size }

    head_so : Fields head_fields (view s).slots f (view s).free (without k (view s).waiting)
    head_so =
        let w : Links f s.waiting (k ∷ ks) = subst (Links f s.waiting) q h.waiting in
        let r = numbered_is k w.1 in
        record {
          entry_so = refl;
          next_so = refl;
          free_so = h.free;
          free_once = o.free_once;
          waiting_so = subst (Links f (slot_at xs k).next) (ap (without k) (sym q))
              (subst (λ (i : ℕ). Links f i (without k (k ∷ ks))) (next_here xs k (slot_at xs k) r.0 r.1 n) (unlink_head f s.waiting k ks (subst Once q o.waiting_once) w));
          waiting_once = once_without k (view s).waiting o.waiting_once;
        }

    pub view_unlink_head : view head_fields ≡ record { slots = (view s).slots; free = (view s).free; waiting = without k (view s).waiting; line = (view s).line; size = s.size }
    view_unlink_head = viewed head_fields _ _ _ _ head_so

    pub linked_unlink_head : Linked head_fields
    linked_unlink_head = linked head_fields _ _ _ _ head_so

  -- it comes after another, whose next number is k's own now
  module _ (k d : ℕ) (ds : List ℕ) (y : Slot) (q : (view s).waiting ≡ d ∷ ds) (nd : k ≡ d → ⊥) (on : stands_on k ds ≡ true)
      (yk : y.next ≡ (slot_at s.slots k).next) (ye : entry_of y ≡ entry_of (slot_at s.slots (before k d ds))) where
    abbrev unlink_fields : Slots
    unlink_fields = record { slots = set s.slots (before k d ds - 1) y; free = s.free; waiting = s.waiting; line = s.line; begun = s.begun; size = s.size }

    waits : (j : ℕ) → stands_on j (d ∷ ds) ≡ true → in_use ((view s).slots j).state ≡ true
    waits j t = ap in_use (waiting_is _ (sym (o.waiting_chain j) ∙ ap (stands_on j) q ∙ t))

    unlink_so : Fields unlink_fields (view s).slots (set_next (before k d ds) (f k) f) (view s).free (without k (view s).waiting)
    unlink_so =
        let b = before k d ds in
        let ub = waits b (on_before k d ds) in
        let uk = waits k (stands_tail k d ds nd ∙ on) in
        let t = numbered_is b (o.range b ub) in
        let r = numbered_is k (o.range k uk) in
        record {
          entry_so = entries_written xs b y t.0 t.1 n ∙ same_entries t.0 t.1;
          next_so = nexts_written xs b y t.0 t.1 n ∙ ap (λ (m : ℕ). set_next b m f) (yk ∙ sym (next_here xs k y r.0 r.1 n));
          free_so = links_off f b (f k) s.free (view s).free (off_free b ub) h.free;
          free_once = o.free_once;
          waiting_so = subst (Links (set_next b (f k) f) s.waiting) (sym (ap (without k) q ∙ kept_head))
              (unlink_links f s.waiting d k ds nd on (subst Once q o.waiting_once) (subst (Links f s.waiting) q h.waiting));
          waiting_once = once_without k (view s).waiting o.waiting_once;
        }
      where
        kept_head : without k (d ∷ ds) ≡ d ∷ without k ds
        kept_head = without_other k d ds nd

        same_entries : 1 ≤ before k d ds → before k d ds ≤ 16 → put_slot (before k d ds) (entry_of y) (entries xs) ≡ entries xs
        same_entries lo hi = fun_ext (λ j. go j (eqb j (before k d ds)) refl)
          where
            go : (j : ℕ) (t : Bool) → eqb j (before k d ds) ≡ t → cond t (entry_of y) (entries xs j) ≡ entries xs j
            go j true i = ye ∙ sym (entry_here xs (before k d ds) lo hi) ∙ ap (entries xs) (sym (eqb-true j (before k d ds) i))
            go j false i = refl

    pub view_unlink : view unlink_fields ≡ record { slots = (view s).slots; free = (view s).free; waiting = without k (view s).waiting; line = (view s).line; size = s.size }
    view_unlink = viewed unlink_fields _ _ _ _ unlink_so

    pub linked_unlink : Linked unlink_fields
    linked_unlink = linked unlink_fields _ _ _ _ unlink_so

---- a slot on no chain is written, whatever its next number

module _ (s : Slots) (n : length s.slots ≡ 16) (h : Linked s) (k : ℕ) (x : Slot) (l : KeptLine) (b : ArrayVec ℕ) (a : 1 ≤ k) (c : k ≤ 16)
    (nf : stands_on k (view s).free ≡ false) (nw : stands_on k (view s).waiting ≡ false) where
  abbrev off_fields : Slots
  off_fields = record { slots = set s.slots (k - 1) x; free = s.free; waiting = s.waiting; line = l; begun = b; size = s.size }

  off_links : (i : ℕ) → stands_on k (chain 16 (nexts s.slots) i) ≡ false → Links (nexts s.slots) i (chain 16 (nexts s.slots) i)
      → Links (nexts off_fields.slots) i (chain 16 (nexts s.slots) i)
  off_links i t r =
      subst (λ (g : ℕ → ℕ). Links g i (chain 16 (nexts s.slots) i)) (sym (nexts_written s.slots k x a c n)) (links_off (nexts s.slots) k x.next i (chain 16 (nexts s.slots) i) t r)

  same_chain : (i : ℕ) → stands_on k (chain 16 (nexts s.slots) i) ≡ false → Links (nexts s.slots) i (chain 16 (nexts s.slots) i)
      → chain 16 (nexts off_fields.slots) i ≡ chain 16 (nexts s.slots) i
  same_chain i t r = chain_is 16 (nexts off_fields.slots) i (chain 16 (nexts s.slots) i) (off_links i t r) (chain_short 16 (nexts s.slots) i)

  pub view_off : view off_fields ≡ set_slot k (entry_of x) (line_of l b.items) (view s)
  view_off = λ i. record {
    slots = entries_written s.slots k x a c n i;
    free = same_chain s.free nf h.free i;
    waiting = same_chain s.waiting nw h.waiting i;
    line = line_of l b.items;
    size = s.size;
  }

  pub linked_off : Linked off_fields
  linked_off =
      record {
        free = linked_by (nexts off_fields.slots) s.free (chain 16 (nexts s.slots) s.free) (off_links s.free nf h.free) (chain_short 16 (nexts s.slots) s.free);
        waiting = linked_by (nexts off_fields.slots) s.waiting (chain 16 (nexts s.slots) s.waiting) (off_links s.waiting nw h.waiting) (chain_short 16 (nexts s.slots) s.waiting);
      }
