-- A slot leaves the waiting chain. Assumes nothing.
use Rattle.std.proofs.Common.{◌≡◌, ℕ, ◌-◌, Bool, true, false, cond, not, ◌&&◌, eqb, List, [], ◌∷◌, length, set, sym, refl, ap, ◌∙◌, ◌≤◌, subst, length-set}
use Rattle.std.proofs.lemmas.Bool.{and_parts, eqb-true, eq-eqb}
use Rattle.arrayvec.specs.ArrayVec.{ArrayVec}
use Rattle.slots.specs.declared.line.Line.{Line}
use Rattle.slots.specs.declared.line.Line.TheVariants.{Idle, Greeted, Named, TagDue, Held}
use Rattle.slots.specs.declared.slot.State.TheVariants.{Waiting, Connected}
use Rattle.slots.specs.declared.slot.Slot.{Slot}
use Rattle.slots.specs.declared.slot.Slots.{Slots}
use Rattle.table.specs.Engine.{Entry, Engine, idle, held, in_use, numbered, stands_on, without, put_slot, set_slot, unlink_slot}
use Rattle.table.specs.View.{entry_of, slot_at, nexts, chain, line_of, view, Linked, before}
use Rattle.std.proofs.Math.Bool.{and-false}
use Rattle.table.proofs.Basics.{wrong, nobody, numbered_is, put_here, stands_tail, stands_without}
use Rattle.table.proofs.States.{waiting_is, idle_unheld, held_is}
use Rattle.table.proofs.Walks.{chain_cons, chain_none}
use Rattle.table.proofs.Linking.{view_unlink_head, linked_unlink_head, view_unlink, linked_unlink, view_off, linked_off}
use Rattle.table.proofs.Regions.{unlink_sound}
use Rattle.engine.specs.Fields.{GoesOn, line_for}
use Rattle.engine.specs.Whole.{is_connected, held_right}
use Rattle.engine.specs.declared.state.Engine.{Engine as Kept}
use Rattle.engine.proofs.Whole.{Whole, whole_by, no_message, linked_of, sound_of, connected_is}
use Rattle.engine.proofs.Kept.{with_next}

-- a slot that stands on the waiting chain has a number
waits_numbered : (e : Kept) (k : ℕ) → stands_on k (view e.state).waiting ≡ true → numbered k ≡ true
waits_numbered e k h = (sound_of e).range k (ap in_use (waiting_is _ (sym ((sound_of e).waiting_chain k) ∙ h)))

-- the head of a chain on which a slot stands has a number
pub head_numbered : (s : Slots) (k : ℕ) → stands_on k (view s).waiting ≡ true → numbered s.waiting ≡ true
head_numbered s k h = go (numbered s.waiting) refl
  where
    go : (t : Bool) → numbered s.waiting ≡ t → numbered s.waiting ≡ true
    go true e = e
    go false e = wrong _ h (ap (stands_on k) (chain_none 16 (nexts s.slots) s.waiting e) ∙ nobody k)

-- it leaves without a next number
pub goes_off : {k : ℕ} {x : Slot} {l : Line} → GoesOn k x l → GoesOn k (with_next 0 x) l
goes_off g = record { used = g.used; gone = g.gone; line_right = g.line_right }

module _ (e : Kept) (k : ℕ) (x : Slot) (l : Line) (b : ArrayVec ℕ) (z : b.items ≡ []) (w : stands_on k (view e.state).waiting ≡ true) (g : GoesOn k x l) where
  abbrev s : Slots
  s = e.state

  lo : 1 ≤ k
  lo = (numbered_is k (waits_numbered e k w)).0

  hi : k ≤ 16
  hi = (numbered_is k (waits_numbered e k w)).1

  waiting_now : ((view s).slots k).state ≡ Waiting
  waiting_now = waiting_is _ (sym ((sound_of e).waiting_chain k) ∙ w)

  holds : (l : Line) → line_for l k x.state ≡ true → (j : ℕ) (bs : List ℕ) → line_of l [] ≡ held j bs → (j ≡ k) × (x.state ≡ Connected)
  holds Idle h j bs q = absurd (idle_unheld j bs q)
  holds (Greeted t) h j bs q = wrong false h refl
  holds (Named u) h j bs q = wrong false h refl
  holds (TagDue u) h j bs q = wrong false h refl
  holds (Held i) h j bs q = go (numbered i) q
    where
      go : (t : Bool) → cond t (held i []) idle ≡ held j bs → (j ≡ k) × (x.state ≡ Connected)
      go true q = let p = and_parts (eqb i k) (is_connected x.state) h in (held_is q ∙ eqb-true i k p.0, connected_is x.state p.1)
      go false q = absurd (idle_unheld j bs q)

  right : (l : Line) → line_for l k x.state ≡ true → held_right l (put_slot k (entry_of x) (view s).slots) ≡ true
  right Idle h = refl
  right (Greeted t) h = refl
  right (Named u) h = refl
  right (TagDue u) h = refl
  right (Held i) h =
      let p = and_parts (eqb i k) (is_connected x.state) h in
      subst (λ (j : ℕ). is_connected (put_slot k (entry_of x) (view s).slots j).state ≡ true) (sym (eqb-true i k p.0))
      (ap (λ (y : Entry). is_connected y.state) (put_here k (entry_of x) ((view s).slots k)) ∙ p.1)

  -- off the chain, and then written
  module _ (s₁ : Slots) (n₁ : length s₁.slots ≡ 16) (l₁ : Linked s₁)
      (v₁ : view s₁ ≡ record { slots = (view s).slots; free = (view s).free; waiting = without k (view s).waiting; line = (view s).line; size = s.size }) where
    abbrev left : Slots
    left = record { slots = set s₁.slots (k - 1) x; free = s₁.free; waiting = s₁.waiting; line = l; begun = b; size = s₁.size }

    not_free : stands_on k (view s₁).free ≡ false
    not_free = ap (λ (e : Engine). stands_on k e.free) v₁ ∙ (sound_of e).free_chain k ∙ ap (λ (t : Bool). numbered k && not t) (ap in_use waiting_now) ∙ and-false (numbered k)

    not_queued : stands_on k (view s₁).waiting ≡ false
    not_queued =
        ap (λ (e : Engine). stands_on k e.waiting) v₁ ∙ stands_without k k (view s).waiting ∙ ap (λ (t : Bool). not t && stands_on k (view s).waiting) (eq-eqb k k refl)

    view_left : view left ≡ unlink_slot k (entry_of x) (line_of l []) (view s)
    view_left =
        view_off s₁ n₁ l₁ k x l b lo hi not_free not_queued ∙ ap (λ (bs : List ℕ). set_slot k (entry_of x) (line_of l bs) (view s₁)) z
        ∙ ap (set_slot k (entry_of x) (line_of l [])) v₁

    whole_left : Whole left
    whole_left =
        whole_by left (unlink_slot k (entry_of x) (line_of l []) (view s)) view_left
        (unlink_sound (view s) (sound_of e) k (entry_of x) (line_of l []) waiting_now g.used g.gone (holds l g.line_right))
        (linked_off s₁ n₁ l₁ k x l b lo hi not_free not_queued) (length-set s₁.slots (k - 1) x ∙ n₁) (right l g.line_right) (no_message b z)

  -- it is the head
  module _ (q : s.waiting ≡ k) where
    here : (view s).waiting ≡ k ∷ chain 15 (nexts s.slots) (nexts s.slots k)
    here = ap (chain 16 (nexts s.slots)) q ∙ chain_cons 15 (nexts s.slots) k (ap numbered (sym q) ∙ head_numbered s k w)

    abbrev headless : Slots
    headless = record { slots = s.slots; free = s.free; waiting = (slot_at s.slots k).next; line = s.line; begun = s.begun; size = s.size }

    pub view_unqueue_head : view (record { slots = set s.slots (k - 1) x; free = s.free; waiting = (slot_at s.slots k).next; line = l; begun = b; size = s.size })
        ≡ unlink_slot k (entry_of x) (line_of l []) (view s)
    view_unqueue_head = view_left headless e.long (linked_unlink_head s e.long (linked_of e) (sound_of e) k _ here) (view_unlink_head s e.long (linked_of e) (sound_of e) k _ here)

    pub whole_unqueue_head : Whole (record { slots = set s.slots (k - 1) x; free = s.free; waiting = (slot_at s.slots k).next; line = l; begun = b; size = s.size })
    whole_unqueue_head = whole_left headless e.long (linked_unlink_head s e.long (linked_of e) (sound_of e) k _ here) (view_unlink_head s e.long (linked_of e) (sound_of e) k _ here)

  -- it comes later
  module _ (d p : ℕ) (q : s.waiting ≡ d) (nd : d ≡ k → ⊥) (eb : p ≡ before k d (chain 15 (nexts s.slots) (nexts s.slots d))) where
    abbrev others : List ℕ
    others = chain 15 (nexts s.slots) (nexts s.slots d)

    queued : (view s).waiting ≡ d ∷ others
    queued = ap (chain 16 (nexts s.slots)) q ∙ chain_cons 15 (nexts s.slots) d (ap numbered (sym q) ∙ head_numbered s k w)

    after_head : stands_on k others ≡ true
    after_head = sym (stands_tail k d others (λ z. nd (sym z))) ∙ sym (ap (stands_on k) queued) ∙ w

    abbrev passed : Slots
    passed = record { slots = set s.slots (p - 1) (with_next (slot_at s.slots k).next (slot_at s.slots p)); free = s.free; waiting = s.waiting; line = s.line; begun = s.begun; size = s.size }

    long : length passed.slots ≡ 16
    long = length-set s.slots (p - 1) (with_next (slot_at s.slots k).next (slot_at s.slots p)) ∙ e.long

    linked_passed : Linked passed
    linked_passed = subst (λ (i : ℕ). Linked (record { slots = set s.slots (i - 1) (with_next (slot_at s.slots k).next (slot_at s.slots i)); free = s.free; waiting = s.waiting; line = s.line; begun = s.begun; size = s.size }))
        (sym eb) (linked_unlink s e.long (linked_of e) (sound_of e) k d others (with_next (slot_at s.slots k).next (slot_at s.slots (before k d others))) queued (λ z. nd (sym z)) after_head refl refl)

    view_passed : view passed ≡ record { slots = (view s).slots; free = (view s).free; waiting = without k (view s).waiting; line = (view s).line; size = s.size }
    view_passed = subst (λ (i : ℕ). view (record { slots = set s.slots (i - 1) (with_next (slot_at s.slots k).next (slot_at s.slots i)); free = s.free; waiting = s.waiting; line = s.line; begun = s.begun; size = s.size })
        ≡ record { slots = (view s).slots; free = (view s).free; waiting = without k (view s).waiting; line = (view s).line; size = s.size })
        (sym eb) (view_unlink s e.long (linked_of e) (sound_of e) k d others (with_next (slot_at s.slots k).next (slot_at s.slots (before k d others))) queued (λ z. nd (sym z)) after_head refl refl)

    pub view_unqueue_later : view (record { slots = set passed.slots (k - 1) x; free = s.free; waiting = s.waiting; line = l; begun = b; size = s.size }) ≡ unlink_slot k (entry_of x) (line_of l []) (view s)
    view_unqueue_later = view_left passed long linked_passed view_passed

    pub whole_unqueue_later : Whole (record { slots = set passed.slots (k - 1) x; free = s.free; waiting = s.waiting; line = l; begun = b; size = s.size })
    whole_unqueue_later = whole_left passed long linked_passed view_passed
