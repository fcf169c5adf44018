-- The engine's fields are whole exactly where their chains are linked and the engine that they stand for is sound. Assumes nothing.
use Rattle.std.proofs.Common.{◌≡◌, ℕ, zero, suc, ◌≤◌, Bool, true, false, cond, not, eqb, List, [], ◌∷◌, length, sym, refl, ap, ◌∙◌, subst, arith}
use Rattle.std.proofs.lemmas.Bool.{and_parts, and_from, not-true, eqb-true, eq-eqb}
use Rattle.arrayvec.specs.ArrayVec.{ArrayVec}
use Rattle.slots.specs.declared.slot.State.{State}
use Rattle.slots.specs.declared.slot.State.TheVariants.{Free, Waiting, Connected, Away, Finished}
use Rattle.slots.specs.declared.slot.Slots.{Slots}
use Rattle.slots.specs.declared.line.Line.{Line}
use Rattle.slots.specs.declared.line.Line.TheVariants.{Idle, Greeted, Named, TagDue, Held}
use Rattle.table.specs.Engine.{Entry, Engine, idle, held, in_use, numbered, stands_on}
use Rattle.table.specs.View.{entry_of, no_slot, slot_at, nexts, chain, line_of, view, Links, Linked, fresh_slots}
use Rattle.table.specs.Sound.{Once, Sound}
use Rattle.table.proofs.Basics.{wrong}
use Rattle.table.proofs.States.{idle_unheld, greeted_unheld, named_unheld, tag_due_unheld, held_is}
use Rattle.table.proofs.Views.{linked_fresh, made_fresh}
use Rattle.table.proofs.Sounds.{made_sound}
use Rattle.engine.specs.Whole.{ends, once, is_connected, held_right, Ended, FreeChain, WaitingChain, LineKept}
use Rattle.engine.specs.declared.state.Engine.{Engine as Kept}

-- all that is always true of the fields
abbrev pub Whole : Slots → Type 0
Whole s = record { long : length s.slots ≡ 16; ended : Ended s; free : FreeChain s; waiting : WaitingChain s; line : LineKept s }

---- chains

ends_links : (n : ℕ) (f : ℕ → ℕ) (h : ℕ) → ends n f h ≡ true → Links f h (chain n f h)
unfolding ends chain
ends_links zero f h e = eqb-true h 0 e
ends_links (suc n) f h e = go (numbered h) refl e (ends_links n f (f h))
  where
    go : (t : Bool) → numbered h ≡ t → cond t (ends n f (f h)) (eqb h 0) ≡ true → (ends n f (f h) ≡ true → Links f (f h) (chain n f (f h)))
        → Links f h (cond t (h ∷ chain n f (f h)) [])
    go true q e ih = (refl, q, ih e)
    go false q e ih = eqb-true h 0 e

links_ends : (n : ℕ) (f : ℕ → ℕ) (h : ℕ) → Links f h (chain n f h) → ends n f h ≡ true
unfolding ends chain
links_ends zero f h l = eq-eqb h 0 l
links_ends (suc n) f h l = go (numbered h) l (links_ends n f (f h))
  where
    go : (t : Bool) → Links f h (cond t (h ∷ chain n f (f h)) []) → (Links f (f h) (chain n f (f h)) → ends n f (f h) ≡ true) → cond t (ends n f (f h)) (eqb h 0) ≡ true
    go true l ih = ih l.2
    go false l ih = eq-eqb h 0 l

once_so : (ks : List ℕ) → once ks ≡ true → Once ks
unfolding once
once_so [] e = tt
once_so (k ∷ ks) e = let p = and_parts (not (stands_on k ks)) (once ks) e in (not-true _ p.0, once_so ks p.1)

so_once : (ks : List ℕ) → Once ks → once ks ≡ true
unfolding once
so_once [] o = refl
so_once (k ∷ ks) o = and_from (not (stands_on k ks)) (once ks) (ap not o.0) (so_once ks o.1)

---- the line

pub connected_is : (t : State) → is_connected t ≡ true → t ≡ Connected
connected_is Free h = wrong false h refl
connected_is Waiting h = wrong false h refl
connected_is Connected h = refl
connected_is Away h = wrong false h refl
connected_is (Finished o) h = wrong false h refl

pub holding_so : (l : Line) (cs : List ℕ) (f : ℕ → Entry) → held_right l f ≡ true → (k : ℕ) (bs : List ℕ) → line_of l cs ≡ held k bs → (f k).state ≡ Connected
holding_so Idle cs f h k bs q = absurd (idle_unheld k bs q)
holding_so (Greeted t) cs f h k bs q = absurd (greeted_unheld t k bs q)
holding_so (Named u) cs f h k bs q = absurd (named_unheld u.target u.lun k bs q)
holding_so (TagDue u) cs f h k bs q = absurd (tag_due_unheld u.target u.lun k bs q)
holding_so (Held j) cs f h k bs q = go (numbered j) q
  where
    go : (t : Bool) → cond t (held j cs) idle ≡ held k bs → (f k).state ≡ Connected
    go true q = subst (λ (i : ℕ). (f i).state ≡ Connected) (sym (held_is q)) (connected_is (f j).state h)
    go false q = absurd (idle_unheld k bs q)

-- a slot in use has a number
pub used_numbered : (s : Slots) (k : ℕ) → in_use ((view s).slots k).state ≡ true → numbered k ≡ true
used_numbered s k u = go (numbered k) u
  where
    go : (t : Bool) → in_use (cond t (entry_of (slot_at s.slots k)) (entry_of no_slot)).state ≡ true → t ≡ true
    go true u = refl
    go false u = wrong false u refl

-- no message has begun
pub no_message : (b : ArrayVec ℕ) → b.items ≡ [] → length b.items ≤ 257
no_message b z = rw z (omega arith)

---- both ways

pub linked_of : (e : Kept) → Linked e.state
linked_of e = record {
  free = ends_links 16 (nexts e.state.slots) e.state.free e.ended.0;
  waiting = ends_links 16 (nexts e.state.slots) e.state.waiting e.ended.1;
}

pub sound_of : (e : Kept) → Sound (view e.state)
sound_of e = record {
  range = used_numbered e.state;
  free_chain = e.free.0;
  free_once = once_so (view e.state).free e.free.1;
  waiting_chain = e.waiting.0;
  waiting_once = once_so (view e.state).waiting e.waiting.1;
  holding = holding_so e.state.line _ (view e.state).slots e.line.0;
}

-- the slot that holds the line
pub holder_numbered : (e : Kept) (k : ℕ) → e.state.line ≡ Held k → numbered k ≡ true
holder_numbered e k q = used_numbered e.state k (ap in_use (connected_is _ (sym (ap (λ (l : Line). held_right l (view e.state).slots) q) ∙ e.line.0)))

-- fields that stand for a sound engine
pub whole_by : (s : Slots) (e : Engine) → view s ≡ e → Sound e → Linked s → length s.slots ≡ 16 → held_right s.line e.slots ≡ true → length s.begun.items ≤ 257 → Whole s
whole_by s e q o l g h n = record {
  long = g;
  ended = (links_ends 16 (nexts s.slots) s.free l.free, links_ends 16 (nexts s.slots) s.waiting l.waiting);
  free = (p.free_chain, so_once (view s).free p.free_once);
  waiting = (p.waiting_chain, so_once (view s).waiting p.waiting_once);
  line = (ap (λ (e : Engine). held_right s.line e.slots) q ∙ h, n);
}
  where
    p : Sound (view s)
    p = subst Sound (sym q) o

---- an engine just made

pub whole_fresh : (s : Slots) → s.slots ≡ fresh_slots → s.free ≡ 1 → s.waiting ≡ 0 → s.line ≡ Idle → s.begun.items ≡ [] → Whole s
whole_fresh s q f w l b =
    whole_by s (view s) refl (made_sound (view s) (made_fresh s q f w l)) (linked_fresh s q f w) (ap length q) (ap (λ (k : Line). held_right k (view s).slots) l) (no_message s.begun b)
