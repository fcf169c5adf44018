-- Rows of an idle line and of one that a target retakes. Assumes nothing.
use Rattle.std.proofs.Common.{◌≡◌, ℕ, ◌-◌, Bool, true, false, cond, not, ◌&&◌, eqb, ltb, leb, [], is_some, Some, None, Option, sym, refl, ap, ◌∙◌, subst, arith}
use Rattle.std.proofs.lemmas.Bool.{and_parts, and_from, eqb-true, eqb-false, eq-eqb, leb-true, not-true}
use Rattle.shelf.specs.Laws.{Owed}
use Rattle.bus.specs.State.{Name, Heard, nothing, Cable, BusState, with_line, retaken, Line as BusLine, held as bus_held, named as bus_named, tag_due as bus_tag_due}
use Rattle.bus.specs.Calls.{Call, Reply, took}
use Rattle.bus.specs.Rules.{Did, InOrder, taken}
use Rattle.bus.specs.Kinds.{byte_shown}
use Rattle.bus.specs.Showing.{Shows}
use Rattle.bus.specs.Effects.{Takes, Greets, comes_back}
use Rattle.bus.specs.declared.Shown.{Shown}
use Rattle.bus.specs.declared.Shown.TheVariants.{MessageIn}
use Rattle.slots.specs.declared.command.Manner.{Manner}
use Rattle.slots.specs.declared.command.Manner.TheVariants.{Plain, Leaving, Tagged}
use Rattle.slots.specs.declared.slot.State.TheVariants.{Connected, Away}
use Rattle.slots.specs.declared.answer.Answer.{Answer}
use Rattle.slots.specs.declared.answer.Answer.TheVariants.{Told}
use Rattle.table.specs.Engine.{Entry, Engine, Line, greeted, named, tag_due, held, is_open, is_away, is_finished, tagged, tag_for, name_for, numbered, seek, set_slot, set_line, with_state, with_pointers}
use Rattle.table.specs.Script.{World, Script, Runs}
use Rattle.table.specs.Table.{violation, connecting, away_at, untagged_at, tagged_at, on_lun, greeted_byte, named_byte, tag_byte}
use Rattle.table.specs.Serving.{Serving, names}
use Rattle.table.proofs.Basics.{wrong, put_cases, seek_some, seek_none}
use Rattle.table.proofs.States.{open_used, open_unfinished, away_is, open_away, done_finished, Unheld, named_unheld, tag_due_unheld, held_is}
use Rattle.table.proofs.Invariant.{HasNexus, Ties, Core, line_means, begun_means}
use Rattle.table.proofs.Keeping.{granted, retie, line_same}
use Rattle.table.proofs.Turns.{After, plainly, still, ending, violated}
use Rattle.table.proofs.Pointers.{returning}
use Rattle.table.proofs.Rows.{book_slot}

untagged_name : (k : ℕ) (m : Manner) → tagged m ≡ false → tag_for k m ≡ None
untagged_name k Plain h = refl
untagged_name k Leaving h = refl
untagged_name k Tagged h = wrong true refl h

tagged_name : (k : ℕ) (m : Manner) → tagged m ≡ true → tag_for k m ≡ Some k
tagged_name k Plain h = wrong false h refl
tagged_name k Leaving h = wrong false h refl
tagged_name k Tagged h = refl

module _ (w : World) (s : Serving) (c : Core w s) (off : Unheld w.engine.line) where
  abbrev e : Engine
  e = w.engine

  abbrev cable : Cable
  cable = w.bus.cable

  none_on : (j : ℕ) → (e.slots j).state ≡ Connected → ⊥
  none_on j h = let r = c.ties.connected j h in off j r.0 r.1

  pub violates : (b : BusState) → b.order ≡ true → b.cable.shelf ≡ cable.shelf → (sh : Shown) (a : Answer) (w' : World) → Runs (violation e sh) b w.memory a w' → After w a w' s
  violates b o h sh a w' r = violated w s a w' c b o h sh r

  -- the line goes on to another state that no slot holds
  pub lined : (a : Answer) → ((j : ℕ) → names a j ≡ false) → (l : Line) → Unheld l → begun_means l ≡ cable.begun → (b' : BusState)
      → (b'.cable ≡ with_line (line_means e l) cable) × Shows b' × (b'.order ≡ true)
      → After w a (record { engine = set_line l e; bus = b'; memory = w.memory }) s
  lined a na l ul bg b' g =
      plainly w a _ s (refl, refl) (still e a (set_line l e) (λ j. refl) na) (λ j d. done_finished _ d)
      (record {
        order = g.2;
        shows = g.1;
        laws = subst (λ (z : Cable). Owed z.shelf.kind) (sym g.0) c.laws;
        shelf = ap (λ (z : Cable). z.shelf) g.0 ∙ c.shelf;
        book = let b = c.book in record { range = b.range; free_chain = b.free_chain; free_once = b.free_once; waiting_chain = b.waiting_chain; kept = b.kept; counted = b.counted; well = b.well; lun_small = b.lun_small; inside = b.inside; apart = b.apart };
        ties = subst (λ (z : Cable). Ties (set_line l e) z w.memory s) (sym g.0)
            (let t = c.ties in
            record {
              line = line_same (set_line l e) e l (λ j. refl);
              begun = sym bg;
              connected = λ j h. absurd (none_on j h);
              holding = λ j bs h. absurd (ul j bs h);
              nexus = λ j h. let n = t.nexus j h in record { nexus = n.nexus; here = n.here; underway = n.underway };
              owned = t.owned;
              units = t.units;
              settled = t.settled;
            });
      })

  -- an away command takes the line again
  pub connecting_keeps : (k : ℕ) → (e.slots k).state ≡ Away → cable.begun ≡ [] → (b : BusState)
      → (b.cable ≡ with_line (bus_held (name_for k (e.slots k).command)) cable) × Shows b × (b.order ≡ true)
      → (a : Answer) (w' : World) → Runs (connecting e k) b w.memory a w' → After w a w' s
  connecting_keeps k aw bg b g a w' r =
      ending r
      (plainly w (Told (Some k)) _ s (refl, refl) (still e (Told (Some k)) e' fin (λ j. refl)) (λ j d. sym (fin j) ∙ done_finished _ d)
      (record {
        order = g.2;
        shows = g.1;
        laws = subst (λ (z : Cable). Owed z.shelf.kind) (sym g.0) c.laws;
        shelf = ap (λ (z : Cable). z.shelf) g.0 ∙ c.shelf;
        book = book_slot e s k x' (held k []) op refl refl refl c.book;
        ties = subst (λ (z : Cable). Ties e' z w.memory s) (sym g.0)
            (retie e cable w.memory s k x' (held k []) (with_line (bus_held (name_for k (e.slots k).command)) cable) w.memory c.ties
            (record {
              was = op;
              now = refl;
              same_command = refl;
              alone = λ j ne h. none_on j h;
              line = refl;
              begun = bg;
              connected = λ _. ([], refl);
              holding = λ j bs h. (held_is h, refl);
              shelf = refl;
              nexus = h.nexus;
              here = h.here;
              there = λ n t. refl;
              memory = λ j ne u i l. refl;
              underway = returning cable.shelf cable.nexuses _ w.memory (e.slots k) (s.kept k).bytes h.nexus h.underway aw;
            }));
      }))
    where
      op : is_open (e.slots k).state ≡ true
      op = ap is_open aw

      h : HasNexus cable w.memory k (e.slots k) (s.kept k).bytes
      h = c.ties.nexus k op

      x' : Entry
      x' = with_state Connected (with_pointers (e.slots k).saved (e.slots k).saved (e.slots k))

      e' : Engine
      e' = set_slot k x' (held k []) e

      fin : (j : ℕ) → is_finished (e'.slots j).state ≡ is_finished (e.slots j).state
      fin = put_cases (λ (j : ℕ) (y : Entry). is_finished y.state ≡ is_finished (e.slots j).state) k x' e.slots (sym (open_unfinished _ op)) (λ j ne. refl)

  -- a byte of the greeting is taken
  took_greeting : {y : Reply} {b' : BusState} (t : ℕ) (hd : Heard) (v : ℕ) → cable.line ≡ retaken t hd → w.bus.shown ≡ MessageIn v → Did w.bus Call.take y b'
      → Greets cable t hd v b'.cable × Shows b' × (b'.order ≡ true)
  took_greeting {y} {b'} t hd v ln h d =
      let i : InOrder w.bus Call.take y b' = granted d c.order (ap (λ (z : Shown). not (is_some (byte_shown z))) h) in
      let yv : y ≡ took v = d.byte v refl (ap byte_shown h) in
      (subst (λ (z : Reply). Greets cable t hd (taken z) b'.cable) yv (subst (λ (l : BusLine). Takes l w.bus.shown (taken y) cable b'.cable) ln i.rule), i.shows, i.order)

  ---- named, tag due

  pub named_keeps : (t l v : ℕ) → e.line ≡ named t l → w.bus.shown ≡ MessageIn v → (a : Answer) (w' : World) → Runs (named_byte e t l v) w.bus w.memory a w' → After w a w' s
  named_keeps t l v q h a w' r = go (eqb v 32) refl r
    where
      go : (u : Bool) → eqb v 32 ≡ u → Runs (cond u (Script.ask Call.take (λ _. Script.return (Told None) (set_line (tag_due t l) e))) (violation e (MessageIn v))) w.bus w.memory a w' → After w a w' s
      go true u (y, b', d, r) =
          let g = took_greeting t (bus_named l) v (c.ties.line ∙ ap (line_means e) q) h d in
          ending r (lined (Told None) (λ j. refl) (tag_due t l) (tag_due_unheld t l) (sym (c.ties.begun ∙ ap begun_means q)) b' (g.0.1, g.1, g.2))
      go false u r = violates w.bus c.order refl (MessageIn v) a w' r

  pub tag_keeps : (t l v : ℕ) → e.line ≡ tag_due t l → w.bus.shown ≡ MessageIn v → (a : Answer) (w' : World) → Runs (tag_byte e t l v) w.bus w.memory a w' → After w a w' s
  tag_keeps t l v q h a w' (y, b', d, r) = go (numbered v && tagged_at e t l v) refl r
    where
      g : Greets cable t (bus_tag_due l) v b'.cable × Shows b' × (b'.order ≡ true)
      g = took_greeting t (bus_tag_due l) v (c.ties.line ∙ ap (line_means e) q) h d

      go : (u : Bool) → (numbered v && tagged_at e t l v) ≡ u → Runs (cond u (connecting e v) (violation e (MessageIn v))) b' w.memory a w' → After w a w' s
      go true u r =
          let p2 = (and_parts (numbered v) (tagged_at e t l v) u).1 in
          let p3 = and_parts (away_at e t l v) (tagged (e.slots v).command.manner) p2 in
          let p4 = and_parts (is_away (e.slots v).state) _ p3.0 in
          let p5 = and_parts (eqb (e.slots v).command.target t) (eqb (e.slots v).command.lun l) p4.1 in
          connecting_keeps v (away_is _ p4.0) (c.ties.begun ∙ ap begun_means q) b' (
            g.0.2 ∙ ap (λ (n : Name). with_line (bus_held n) cable)
                (λ i. record { target = sym (eqb-true _ _ p5.0) i; lun = sym (eqb-true _ _ p5.1) i; tag = sym (tagged_name v (e.slots v).command.manner p3.1) i }),
            g.1,
            g.2,
          )
          a w' r
      go false u r = violates b' g.2 (ap (λ (z : Cable). z.shelf) g.0.2) (MessageIn v) a w' r

  ---- greeted

  pub greeted_keeps : (t v : ℕ) → e.line ≡ greeted t → w.bus.shown ≡ MessageIn v → (a : Answer) (w' : World) → Runs (greeted_byte e t v) w.bus w.memory a w' → After w a w' s
  greeted_keeps t v q h a w' r = go (leb 128 v && ltb v 136) refl r
    where
      bg : cable.begun ≡ []
      bg = c.ties.begun ∙ ap begun_means q

      taken_one : (y : Reply) (b' : BusState) → Did w.bus Call.take y b' → Runs (on_lun e t (v - 128) v (seek 16 (untagged_at e t (v - 128))) (seek 16 (tagged_at e t (v - 128)))) b' w.memory a w' → After w a w' s
      taken_one y b' d r = by (seek 16 (untagged_at e t (v - 128))) refl (seek 16 (tagged_at e t (v - 128))) refl r
        where
          g : Greets cable t nothing v b'.cable × Shows b' × (b'.order ≡ true)
          g = took_greeting t nothing v (c.ties.line ∙ ap (line_means e) q) h d

          l : ℕ
          l = g.0.0

          tg : Option ℕ
          tg = g.0.1

          lv : v - 128 ≡ g.0.0
          lv = omega (arith, g.0.4)

          own : (j : ℕ) × (is_open (e.slots j).state ≡ true) × (name_for j (e.slots j).command ≡ record { target = t; lun = g.0.0; tag = g.0.1 })
          own = c.ties.owned _ _ g.0.3

          after_line : b'.cable ≡ with_line (comes_back t g.0.0 g.0.1) cable
          after_line = g.0.5

          back_shelf : b'.cable.shelf ≡ cable.shelf
          back_shelf = ap (λ (z : Cable). z.shelf) after_line

          by : (o : Option ℕ) → seek 16 (untagged_at e t (v - 128)) ≡ o → (o' : Option ℕ) → seek 16 (tagged_at e t (v - 128)) ≡ o' → Runs (on_lun e t (v - 128) v o o') b' w.memory a w' → After w a w' s
          by (Some k) u o' u' r =
              let p = and_parts (away_at e t (v - 128) k) (not (tagged (e.slots k).command.manner)) (seek_some 16 _ k u) in
              let p2 = and_parts (is_away (e.slots k).state) _ p.0 in
              let p3 = and_parts (eqb (e.slots k).command.target t) (eqb (e.slots k).command.lun (v - 128)) p2.1 in
              let nt : tagged (e.slots k).command.manner ≡ false = not-true _ p.1 in
              let tt' : (e.slots k).command.target ≡ t = eqb-true _ _ p3.0 in
              let ll : (e.slots k).command.lun ≡ g.0.0 = eqb-true _ _ p3.1 ∙ lv in
              let jk : own.0 ≡ k = same_one k (ap is_open (away_is _ p2.0)) nt tt' ll (eqb own.0 k) refl in
              let nm : name_for k (e.slots k).command ≡ record { target = t; lun = g.0.0; tag = g.0.1 } = subst (λ (i : ℕ). name_for i (e.slots i).command ≡ record { target = t; lun = g.0.0; tag = g.0.1 }) jk own.2 in
              let tn : g.0.1 ≡ None = sym (ap (λ (n : Name). n.tag) nm) ∙ untagged_name k _ nt in
              connecting_keeps k (away_is _ p2.0) bg b' (
                after_line ∙ ap (λ (o : Option ℕ). with_line (comes_back t g.0.0 o) cable) tn
                    ∙ ap (λ (n : Name). with_line (bus_held n) cable) (λ i. record { target = t; lun = g.0.0; tag = sym tn i }) ∙ ap (λ (n : Name). with_line (bus_held n) cable) (sym nm),
                g.1,
                g.2,
              )
              a w' r
            where
              same_one : (k : ℕ) → is_open (e.slots k).state ≡ true → tagged (e.slots k).command.manner ≡ false → (e.slots k).command.target ≡ t → (e.slots k).command.lun ≡ g.0.0
                  → (b : Bool) → eqb own.0 k ≡ b → own.0 ≡ k
              same_one k op nt tt' ll true b = eqb-true _ _ b
              same_one k op nt tt' ll false b =
                  let us = c.ties.units own.0 k own.1 op (eqb-false _ _ b)
                  (and_from _ _ (eq-eqb _ _ (ap (λ (n : Name). n.target) own.2 ∙ sym tt')) (eq-eqb _ _ (ap (λ (n : Name). n.lun) own.2 ∙ sym ll))) in
                  wrong _ us.1 nt
          by None u (Some k) u' r =
              let num = and_parts (leb 1 own.0) (leb own.0 16) (c.book.range own.0 (open_used _ own.1)) in
              let un : untagged_at e t (v - 128) own.0 ≡ false = seek_none 16 _ u own.0 (leb-true 1 own.0 num.0) (leb-true own.0 16 num.1) in
              let aw : away_at e t (v - 128) own.0 ≡ true =
              and_from _ _ (open_away _ own.1 (none_on own.0)) (and_from _ _ (eq-eqb _ _ (ap (λ (n : Name). n.target) own.2)) (eq-eqb _ _ (ap (λ (n : Name). n.lun) own.2 ∙ sym lv))) in
              let tg' : tagged (e.slots own.0).command.manner ≡ true = must_tag _ _ aw un in
              let gs : g.0.1 ≡ Some own.0 = sym (ap (λ (n : Name). n.tag) own.2) ∙ tagged_name own.0 _ tg' in
              ending r
              (lined (Told None) (λ j. refl) (named t (v - 128)) (named_unheld t (v - 128)) (sym bg) b'
              (after_line ∙ ap (λ (o : Option ℕ). with_line (comes_back t g.0.0 o) cable) gs ∙ ap (λ (i : ℕ). with_line (retaken t (bus_named i)) cable) (sym lv), g.1, g.2))
            where
              must_tag : (p r : Bool) → p ≡ true → (p && not r) ≡ false → r ≡ true
              must_tag true true a b = refl
              must_tag true false a b = wrong true refl b
              must_tag false r a b = wrong false a refl
          by None u None u' r = violates b' g.2 back_shelf (MessageIn v) a w' r

      go : (u : Bool) → (leb 128 v && ltb v 136) ≡ u
          → Runs (cond u (Script.ask Call.take (λ _. on_lun e t (v - 128) v (seek 16 (untagged_at e t (v - 128))) (seek 16 (tagged_at e t (v - 128))))) (violation e (MessageIn v))) w.bus w.memory a w' → After w a w' s
      go true u (y, b', d, r) = taken_one y b' d r
      go false u r = violates w.bus c.order refl (MessageIn v) a w' r
