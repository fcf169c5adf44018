-- Each change of the fields is a change of the engine that they stand for, and leaves it whole. Assumes nothing.
use Rattle.std.proofs.Common.{◌≡◌, ℕ, zero, suc, ◌+◌, ◌-◌, ◌≤◌, Bool, true, false, cond, eqb, List, [], ◌∷◌, ◌++◌, map, length, set, sym, refl, ap, ◌∙◌, subst, arith, length-set}
use Rattle.std.proofs.lemmas.List.{length-map}
use Rattle.arrayvec.specs.ArrayVec.{ArrayVec}
use Rattle.std.proofs.lemmas.Bool.{and_parts, or_parts, not-true}
use Rattle.slots.specs.declared.slot.State.{State}
use Rattle.slots.specs.declared.slot.State.TheVariants.{Free, Waiting, Connected, Away, Finished}
use Rattle.slots.specs.declared.slot.Slot.{Slot}
use Rattle.slots.specs.declared.slot.Slots.{Slots}
use Rattle.slots.specs.declared.line.Line.{Line}
use Rattle.slots.specs.declared.line.Line.TheVariants.{Idle, Greeted, Named, TagDue, Held}
use Rattle.table.specs.Engine.{Command, Entry, Line as TableLine, idle, held, in_use, is_waiting, is_open, is_finished, numbered, stands_on, put_slot, set_slot, set_line, with_state, with_pointers}
use Rattle.table.specs.Table.{cleared}
use Rattle.table.specs.Calls.{just_accepted, taken_in, put_back, open_or_waiting, reset_engine}
use Rattle.table.specs.View.{entry_of, slot_at, nexts, chain, line_of, view, Linked, before, reset_slot}
use Rattle.table.proofs.Basics.{wrong, numbered_is, put_here, put_cases, stands_head, stands_cons}
use Rattle.table.proofs.States.{open_used, open_not_waiting, finished_used, finished_not_waiting, free_is, idle_unheld, held_is}
use Rattle.table.proofs.Chains.{last_of, on_last}
use Rattle.table.proofs.Walks.{chain_cons, chain_none, before_off}
use Rattle.table.proofs.Views.{view_set, nexts_kept, nexts_reset, entry_here, linked_same, view_cleared, view_reset, linked_reset}
use Rattle.table.proofs.Linking.{view_put_back, linked_put_back, view_first, linked_first, view_append, linked_append}
use Rattle.table.proofs.Regions.{slot_sound, sound_line, sound_cleared}
use Rattle.table.proofs.Sounds.{put_back_sound, taken_sound, reset_sound}
use Rattle.engine.specs.Fields.{unheld}
use Rattle.engine.specs.Whole.{is_connected, held_right}
use Rattle.engine.specs.declared.held.Held.{Held as Holder}
use Rattle.engine.specs.declared.state.Engine.{Engine as Kept}
use Rattle.engine.proofs.Numbers.{at_place}
use Rattle.engine.proofs.Whole.{Whole, whole_by, no_message, linked_of, sound_of, holding_so}

---- a slot that is connected or away is changed

-- slot k written, with the line and what has begun
abbrev pub written : Slots → ℕ → Slot → Line → ArrayVec ℕ → Slots
written s k x l b = record { slots = set s.slots (k - 1) x; free = s.free; waiting = s.waiting; line = l; begun = b; size = s.size }

-- a slot with another current pointer
abbrev pointed : ℕ → Slot → Slot
pointed c x = record { next = x.next; state = x.state; command = x.command; current = c; saved = x.saved; sent = x.sent; status = x.status }

module _ (e : Kept) (b : ArrayVec ℕ) (z : b.items ≡ []) where
  abbrev s : Slots
  s = e.state

  module _ (k : ℕ) (x : Slot) (m : numbered k ≡ true) (o : is_open (slot_at s.slots k).state ≡ true) (sn : x.next ≡ (slot_at s.slots k).next) where
    lo : 1 ≤ k
    lo = (numbered_is k m).0

    hi : k ≤ 16
    hi = (numbered_is k m).1

    open_here : is_open ((view s).slots k).state ≡ true
    open_here = ap (λ (y : Entry). is_open y.state) (entry_here s.slots k lo hi) ∙ o

    view_written : (l : Line) (l' : TableLine) → line_of l [] ≡ l' → view (written s k x l b) ≡ set_slot k (entry_of x) l' (view s)
    view_written l l' q = view_set s k x l b lo hi e.long sn ∙ ap (λ (i : TableLine). set_slot k (entry_of x) i (view s)) (ap (line_of l) z ∙ q)

    whole_written : in_use x.state ≡ true → is_waiting x.state ≡ false → (l : Line) (l' : TableLine) → line_of l [] ≡ l'
        → ((j : ℕ) (bs : List ℕ) → l' ≡ held j bs → (j ≡ k) × (x.state ≡ Connected)) → held_right l (put_slot k (entry_of x) (view s).slots) ≡ true
        → Whole (written s k x l b)
    whole_written u w l l' q h r =
        whole_by (written s k x l b) (set_slot k (entry_of x) l' (view s)) (view_written l l' q)
        (slot_sound (view s) (sound_of e) k (entry_of x) l' (open_used _ open_here) (open_not_waiting _ open_here) u w h)
        (linked_same s (written s k x l b) (nexts_kept s.slots k x lo hi e.long sn) refl refl (linked_of e))
        (length-set s.slots (k - 1) x ∙ e.long)
        r
        (no_message b z)

    -- and holds the line
    module _ (c : x.state ≡ Connected) where
      line_here : line_of (Held k) [] ≡ held k []
      line_here = ap (λ (t : Bool). cond t (held k []) idle) m

      pub view_keep : view (written s k x (Held k) b) ≡ set_slot k (entry_of x) (held k []) (view s)
      view_keep = view_written (Held k) (held k []) line_here

      pub whole_keep : Whole (written s k x (Held k) b)
      whole_keep = whole_written (ap in_use c) (ap is_waiting c) (Held k) (held k []) line_here (λ j bs q. (held_is q, c))
          (ap (λ (y : Entry). is_connected y.state) (put_here k (entry_of x) ((view s).slots k)) ∙ ap is_connected c)

  -- the slot that holds the line is changed
  module _ (h : Holder) (q : slot_at s.slots h.k ≡ h.slot) where
    open_held : is_open (slot_at s.slots h.k).state ≡ true
    open_held = ap (λ (y : Slot). is_open y.state) q ∙ ap is_open h.connected

    -- in its current pointer alone
    module _ (c : ℕ) where
      connected : (slot_at s.slots h.k).state ≡ Connected
      connected = ap (λ (y : Slot). y.state) q ∙ h.connected

      pub view_point : view (written s h.k (pointed c (slot_at s.slots h.k)) (Held h.k) b) ≡ set_slot h.k (with_pointers c h.slot.saved (entry_of h.slot)) (held h.k []) (view s)
      view_point =
          view_keep h.k (pointed c (slot_at s.slots h.k)) h.numbered open_held refl connected
          ∙ ap (λ (y : Slot). set_slot h.k (entry_of (pointed c y)) (held h.k []) (view s)) q

      pub whole_point : Whole (written s h.k (pointed c (slot_at s.slots h.k)) (Held h.k) b)
      whole_point = whole_keep h.k (pointed c (slot_at s.slots h.k)) h.numbered open_held refl connected

    -- and the line is idle
    module _ (t : State) (u : in_use t ≡ true) (w : is_waiting t ≡ false) where
      abbrev left : Slot
      left = record { next = h.slot.next; state = t; command = h.slot.command; current = h.slot.current; saved = h.slot.saved; sent = h.slot.sent; status = h.slot.status }

      same_next : h.slot.next ≡ (slot_at s.slots h.k).next
      same_next = sym (ap (λ (y : Slot). y.next) q)

      pub view_leave : view (written s h.k left Idle b) ≡ set_slot h.k (with_state t (entry_of h.slot)) idle (view s)
      view_leave = view_written h.k left h.numbered open_held same_next Idle idle refl

      pub whole_leave : Whole (written s h.k left Idle b)
      whole_leave = whole_written h.k left h.numbered open_held same_next u w Idle idle refl (λ j bs q. absurd (idle_unheld j bs q)) refl

      -- at its place
      pub whole_leave_at : (p : ℕ) → p + 1 ≡ h.k → Whole (record { slots = set s.slots p left; free = s.free; waiting = s.waiting; line = Idle; begun = b; size = s.size })
      whole_leave_at p a = subst (λ (i : ℕ). Whole (record { slots = set s.slots i left; free = s.free; waiting = s.waiting; line = Idle; begun = b; size = s.size })) (sym (at_place a)) whole_leave

---- the line is changed

abbrev pub relined : Slots → Line → ArrayVec ℕ → Slots
relined s l b = record { slots = s.slots; free = s.free; waiting = s.waiting; line = l; begun = b; size = s.size }

module _ (e : Kept) where
  whole_line : (l : Line) (b : ArrayVec ℕ) → held_right l (view e.state).slots ≡ true → length b.items ≤ 257 → Whole (relined e.state l b)
  whole_line l b r n =
      whole_by (relined e.state l b) (set_line (line_of l b.items) (view e.state)) refl
      (sound_line (view e.state) (sound_of e) (line_of l b.items) (holding_so l b.items (view e.state).slots r)).0
      (linked_same e.state (relined e.state l b) refl refl refl (linked_of e))
      e.long
      r
      n

  -- held by a slot, with what has begun
  module _ (h : Holder) (q : slot_at e.state.slots h.k ≡ h.slot) (b : ArrayVec ℕ) where
    pub view_line : view (relined e.state (Held h.k) b) ≡ set_line (held h.k b.items) (view e.state)
    view_line = ap (λ (t : Bool). set_line (cond t (held h.k b.items) idle) (view e.state)) h.numbered

    connected_here : held_right (Held h.k) (view e.state).slots ≡ true
    connected_here =
        let r = numbered_is h.k h.numbered in
        ap (λ (y : Entry). is_connected y.state) (entry_here e.state.slots h.k r.0 r.1) ∙ ap (λ (y : Slot). is_connected y.state) q ∙ ap is_connected h.connected

    pub whole_more : length b.items ≤ 257 → Whole (relined e.state (Held h.k) b)
    whole_more = whole_line (Held h.k) b connected_here

    module _ (z : b.items ≡ []) where
      pub view_hold : view (relined e.state (Held h.k) b) ≡ set_line (held h.k []) (view e.state)
      view_hold = view_line ∙ ap (λ (bs : List ℕ). set_line (held h.k bs) (view e.state)) z

      pub whole_hold : Whole (relined e.state (Held h.k) b)
      whole_hold = whole_more (no_message b z)

  -- held by none
  module _ (l : Line) (b : ArrayVec ℕ) (z : b.items ≡ []) where
    pub view_listen : view (relined e.state l b) ≡ set_line (line_of l []) (view e.state)
    view_listen = ap (λ (bs : List ℕ). set_line (line_of l bs) (view e.state)) z

    pub whole_listen : unheld l ≡ true → Whole (relined e.state l b)
    whole_listen u = whole_line l b (right l u) (no_message b z)
      where
        right : (l : Line) → unheld l ≡ true → held_right l (view e.state).slots ≡ true
        right Idle u = refl
        right (Greeted t) u = refl
        right (Named u) v = refl
        right (TagDue u) v = refl
        right (Held k) u = wrong false u refl

---- slots are reset

module _ (e : Kept) (xs : List Slot) (b : ArrayVec ℕ) (z : b.items ≡ []) where
  -- connected and away commands
  abbrev cleared_to : Slots
  cleared_to = record { slots = xs; free = e.state.free; waiting = e.state.waiting; line = Idle; begun = b; size = e.state.size }

  pub whole_cleared : xs ≡ map (reset_slot is_open) e.state.slots → Whole cleared_to
  whole_cleared q =
      whole_by cleared_to (cleared (view e.state)) (view_cleared e.state xs b q) (sound_cleared (view e.state) (sound_of e)).0
      (linked_same e.state cleared_to (ap nexts q ∙ nexts_reset is_open refl e.state.slots) refl refl (linked_of e)) (ap length q ∙ length-map e.state.slots (reset_slot is_open) ∙ e.long) refl (no_message b z)

  -- waiting ones too
  abbrev reset_to : Slots
  reset_to = record { slots = xs; free = e.state.free; waiting = 0; line = Idle; begun = b; size = e.state.size }

  pub whole_ended : xs ≡ map (reset_slot open_or_waiting) e.state.slots → Whole reset_to
  whole_ended q =
      whole_by reset_to (reset_engine (view e.state)) (view_reset e.state xs b q) (reset_sound (view e.state) (sound_of e))
      (linked_reset e.state reset_to q refl refl (linked_of e)) (ap length q ∙ length-map e.state.slots (reset_slot open_or_waiting) ∙ e.long) refl (no_message b z)

---- chains

-- two places are written, in either order
set_apart : {A : Type 0} (xs : List A) (i j : ℕ) (a b : A) → (i ≡ j → ⊥) → set (set xs i a) j b ≡ set (set xs j b) i a
set_apart [] i j a b n = refl
set_apart (x ∷ xs) zero zero a b n = absurd (n refl)
set_apart (x ∷ xs) zero (suc j) a b n = refl
set_apart (x ∷ xs) (suc i) zero a b n = refl
set_apart (x ∷ xs) (suc i) (suc j) a b n = ap (λ (ys : List _). x ∷ ys) (set_apart xs i j a b (λ q. n (ap suc q)))

abbrev pub with_next : ℕ → Slot → Slot
with_next n x = record { next = n; state = x.state; command = x.command; current = x.current; saved = x.saved; sent = x.sent; status = x.status }

abbrev pub freed : ℕ → Slot → Slot
freed n x = record { next = n; state = Free; command = x.command; current = x.current; saved = x.saved; sent = x.sent; status = x.status }

-- a slot is changed that does not hold the line
right_put : (l : Line) (k : ℕ) (x : Entry) (f : ℕ → Entry) → held_right l f ≡ true → is_connected (f k).state ≡ false → held_right l (put_slot k x f) ≡ true
right_put Idle k x f h n = refl
right_put (Greeted t) k x f h n = refl
right_put (Named u) k x f h n = refl
right_put (TagDue u) k x f h n = refl
right_put (Held j) k x f h n = put_cases (λ (i : ℕ) (y : Entry). is_connected (f i).state ≡ true → is_connected y.state ≡ true) k x f (λ c. wrong _ c n) (λ i ne c. c) j h

finished_unconnected : (t : State) → is_finished t ≡ true → is_connected t ≡ false
finished_unconnected Free h = refl
finished_unconnected Waiting h = refl
finished_unconnected Connected h = wrong false h refl
finished_unconnected Away h = refl
finished_unconnected (Finished o) h = refl

module _ (e : Kept) where
  -- a finished slot is put back
  module _ (k : ℕ) (y : Slot) (m : numbered k ≡ true) (q : y ≡ slot_at e.state.slots k) (fin : is_finished (slot_at e.state.slots k).state ≡ true) where
    same : entry_of y ≡ (view e.state).slots k
    same = let r = numbered_is k m in ap entry_of q ∙ sym (entry_here e.state.slots k r.0 r.1)

    abbrev x : Slot
    x = freed e.state.free y

    finished : is_finished ((view e.state).slots k).state ≡ true
    finished = sym (ap (λ (z : Entry). is_finished z.state) same) ∙ ap (λ (z : Slot). is_finished z.state) q ∙ fin

    abbrev fields : Slots
    fields = record { slots = set e.state.slots (k - 1) x; free = k; waiting = e.state.waiting; line = e.state.line; begun = e.state.begun; size = e.state.size }

    pub view_put : view fields ≡ put_back k (view e.state)
    view_put =
        view_put_back e.state e.long (linked_of e) (sound_of e) k x e.state.line e.state.begun (finished_used _ finished) (finished_not_waiting _ finished) refl
        ∙ ap (λ (z : Entry). record { slots = put_slot k z (view e.state).slots; free = k ∷ (view e.state).free; waiting = (view e.state).waiting; line = (view e.state).line; size = e.state.size })
        (ap (with_state Free) same)

    pub whole_put : Whole fields
    whole_put =
        whole_by fields (put_back k (view e.state)) view_put (put_back_sound (view e.state) (sound_of e) k finished)
        (linked_put_back e.state e.long (linked_of e) (sound_of e) k x e.state.line e.state.begun (finished_used _ finished) (finished_not_waiting _ finished) refl)
        (length-set e.state.slots (k - 1) x ∙ e.long) (right_put e.state.line k _ (view e.state).slots e.line.0 (finished_unconnected _ finished)) e.line.1

  -- the free head takes a command, and goes to the end of the waiting chain
  module _ (k : ℕ) (x : Slot) (c : Command) (r : e.state.free ≡ k) (m : numbered k ≡ true) (z : x.next ≡ 0) (xe : entry_of x ≡ just_accepted c) where
    abbrev rest : List ℕ
    rest = chain 15 (nexts e.state.slots) (nexts e.state.slots k)

    here : (view e.state).free ≡ k ∷ rest
    here = ap (chain 16 (nexts e.state.slots)) r ∙ chain_cons 15 (nexts e.state.slots) k m

    unconnected : is_connected ((view e.state).slots k).state ≡ false
    unconnected =
        let p = and_parts (numbered k) _ (sym ((sound_of e).free_chain k) ∙ ap (stands_on k) here ∙ stands_head k rest) in
        ap is_connected (free_is _ (not-true _ p.1))

    -- what is left of it
    taken : record { slots = put_slot k (entry_of x) (view e.state).slots; free = rest; waiting = (view e.state).waiting ++ k ∷ []; line = (view e.state).line; size = e.state.size }
        ≡ taken_in c (view e.state).free (view e.state)
    taken =
        ap (λ (y : Entry). record { slots = put_slot k y (view e.state).slots; free = rest; waiting = (view e.state).waiting ++ k ∷ []; line = (view e.state).line; size = e.state.size }) xe
        ∙ sym (ap (λ (l : List ℕ). taken_in c l (view e.state)) here)

    whole_taken : (s' : Slots) → length s'.slots ≡ 16 → s'.line ≡ e.state.line → s'.begun ≡ e.state.begun → Linked s' → view s' ≡ taken_in c (view e.state).free (view e.state) → Whole s'
    whole_taken s' sn sl sb l v =
        whole_by s' (taken_in c (k ∷ rest) (view e.state)) (v ∙ ap (λ (l : List ℕ). taken_in c l (view e.state)) here)
        (taken_sound (view e.state) (sound_of e) c (k ∷ rest) here) l sn
        (ap (λ (i : Line). held_right i (put_slot k (just_accepted c) (view e.state).slots)) sl ∙ right_put e.state.line k (just_accepted c) (view e.state).slots e.line.0 unconnected)
        (subst (λ (b : ArrayVec ℕ). length b.items ≤ 257) (sym sb) e.line.1)

    module _ (w : numbered e.state.waiting ≡ false) where
      none : (view e.state).waiting ≡ []
      none = chain_none 16 (nexts e.state.slots) e.state.waiting w

      abbrev first_kept : Slots
      first_kept = record { slots = set e.state.slots (k - 1) x; free = (slot_at e.state.slots k).next; waiting = k; line = e.state.line; begun = e.state.begun; size = e.state.size }

      pub view_start : view first_kept ≡ taken_in c (view e.state).free (view e.state)
      view_start = view_first e.state e.long (linked_of e) (sound_of e) k rest x here z none ∙ taken

      pub whole_start : Whole first_kept
      whole_start = whole_taken first_kept (length-set e.state.slots (k - 1) x ∙ e.long) refl refl (linked_first e.state e.long (linked_of e) (sound_of e) k rest x here z none) view_start

    module _ (d b : ℕ) (w : e.state.waiting ≡ d) (md : numbered d ≡ true) (eb : b ≡ before k d (chain 15 (nexts e.state.slots) (nexts e.state.slots d))) (mb : numbered b ≡ true) where
      abbrev y : Slot
      y = with_next k (slot_at e.state.slots b)

      abbrev others : List ℕ
      others = chain 15 (nexts e.state.slots) (nexts e.state.slots d)

      queued : (view e.state).waiting ≡ d ∷ others
      queued = ap (chain 16 (nexts e.state.slots)) w ∙ chain_cons 15 (nexts e.state.slots) d md

      not_queued : stands_on k (d ∷ others) ≡ false
      not_queued =
          sym (ap (stands_on k) queued) ∙ (sound_of e).waiting_chain k
          ∙ ap is_waiting (free_is _ (not-true _ (and_parts (numbered k) _ (sym ((sound_of e).free_chain k) ∙ ap (stands_on k) here ∙ stands_head k rest)).1))

      is_last : b ≡ last_of d others
      is_last = eb ∙ before_off k d others (or_parts (eqb k d) (stands_on k others) (sym (stands_cons k d others) ∙ not_queued)).1

      apart : k - 1 ≡ b - 1 → ⊥
      apart q =
          let p = (numbered_is k m).0 in
          let r = (numbered_is b mb).0 in
          let same : b ≡ k = omega (arith, q, p, r) in
          wrong _ (subst (λ (i : ℕ). stands_on i (d ∷ others) ≡ true) (sym is_last ∙ same) (on_last d others)) not_queued

      abbrev queue_kept : List Slot → Slots
      queue_kept xs = record { slots = xs; free = (slot_at e.state.slots k).next; waiting = e.state.waiting; line = e.state.line; begun = e.state.begun; size = e.state.size }

      abbrev append_kept : ℕ → Slots
      append_kept i = queue_kept (set (set e.state.slots (k - 1) x) (i - 1) y)

      -- the last is written first
      in_turn : set (set e.state.slots (k - 1) x) (b - 1) y ≡ set (set e.state.slots (b - 1) y) (k - 1) x
      in_turn = set_apart e.state.slots (k - 1) (b - 1) x y apart

      ye' : entry_of y ≡ entry_of (slot_at e.state.slots (last_of d others))
      ye' = ap (λ (i : ℕ). entry_of (slot_at e.state.slots i)) is_last

      view_append_kept : view (append_kept b) ≡ taken_in c (view e.state).free (view e.state)
      view_append_kept = ap (λ (i : ℕ). view (append_kept i)) is_last ∙ view_append e.state e.long (linked_of e) (sound_of e) k rest x here z d others y queued refl ye' ∙ taken

      pub view_appended : view (queue_kept (set (set e.state.slots (b - 1) y) (k - 1) x)) ≡ taken_in c (view e.state).free (view e.state)
      view_appended = sym (ap (λ (xs : List Slot). view (queue_kept xs)) in_turn) ∙ view_append_kept

      pub whole_appended : Whole (queue_kept (set (set e.state.slots (b - 1) y) (k - 1) x))
      whole_appended = subst (λ (xs : List Slot). Whole (queue_kept xs)) in_turn
          (whole_taken (append_kept b) (length-set (set e.state.slots (k - 1) x) (b - 1) y ∙ length-set e.state.slots (k - 1) x ∙ e.long) refl refl
          (subst (λ (i : ℕ). Linked (append_kept i)) (sym is_last) (linked_append e.state e.long (linked_of e) (sound_of e) k rest x here z d others y queued refl ye')) view_append_kept)
