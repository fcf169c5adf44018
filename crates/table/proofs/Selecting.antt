-- Rows of an idle line: selection, acceptance, nothing to do. Assumes nothing.
use Rattle.std.proofs.Common.{◌≡◌, ℕ, ◌%◌, ◌<◌, Bool, true, false, cond, not, ◌&&◌, ◌||◌, eqb, leb, List, [], Some, None, Option, sym, refl, ap, ◌∙◌, subst, arith}
use Rattle.std.proofs.lemmas.Bool.{and_parts, and_from, eqb-true, eq-eqb, ne_eqb, leb-true}
use Rattle.scsi.specs.declared.greeting.Greeting.{Greeting}
use Rattle.scsi.proofs.Roundtrip.{understood}
use Rattle.scsi.specs.Greetings.{greeting_of, greeting_bytes}
use Rattle.shelf.specs.Laws.{Owed}
use Rattle.bus.specs.State.{Name, Nexus, Cable, BusState, same_name, fresh_nexus, held as bus_held}
use Rattle.bus.specs.Calls.{Call, Reply, refused, selected, lost, absent, done, took}
use Rattle.bus.specs.Rules.{Did, InOrder}
use Rattle.bus.specs.Showing.{Shows}
use Rattle.bus.specs.Effects.{opens, accepts}
use Rattle.bus.specs.Kinds.{kind_of, target_shown, shows_reselect}
use Rattle.bus.specs.declared.Shown.{Shown}
use Rattle.bus.specs.declared.Shown.TheVariants.{Free as FreeLine, Reselect}
use Rattle.slots.specs.declared.slot.Outcome.TheVariants.{Absent}
use Rattle.slots.specs.declared.slot.State.{State}
use Rattle.slots.specs.declared.slot.State.TheVariants.{Waiting, Connected, Finished}
use Rattle.slots.specs.declared.answer.Answer.{Answer}
use Rattle.slots.specs.declared.answer.Answer.TheVariants.{Idle, Lost, Selected, Accepted, Finished as FinishedAnswer}
use Rattle.bus.proofs.Names.{same_name_is, apart_name, put_here as put_self, put_there as put_other}
use Rattle.table.specs.Engine.{Command, Entry, Engine, Line, idle, greeted, held, in_use, is_open, is_waiting, is_finished, is_done, tagged, may_leave, tag_for, name_for, same_unit, stands_on, without, first_of, put_slot, unlink_slot, with_state, with_pointers}
use Rattle.table.specs.Script.{World, Runs}
use Rattle.table.specs.Table.{on_reselect, pausing, lets, eligible, greeting_for, selecting, on_free, idle_row}
use Rattle.table.specs.Serving.{Serving}
use Rattle.table.proofs.Basics.{wrong, put_cases, put_here, every_at, first_of_some, stands_without}
use Rattle.table.proofs.States.{open_used, waiting_is, done_finished, reselect_is, Unheld, idle_unheld, greeted_unheld, held_is, told_is}
use Rattle.table.proofs.Invariant.{Book, HasNexus, Settled, Ties, Core, line_means, begun_means}
use Rattle.table.proofs.Keeping.{book_keeps, granted, tag_apart, underway_on}
use Rattle.table.proofs.Turns.{After, plainly, still, ending, resting, pausing_keeps}
use Rattle.table.proofs.Pointers.{beginning}
use Rattle.table.proofs.Lines.{violates, lined}

-- what a select says is understood as it was meant
pub greeting_back : (leave : Bool) (lun : ℕ) (tag : Option ℕ) → lun < 8 → greeting_of (greeting_bytes leave lun tag) ≡ Some (record { lun = lun; leave = leave; tag = tag })
greeting_back leave lun None h = understood leave lun None ∙ ap (λ (l : ℕ). Some (record { lun = l; leave = leave; tag = None })) (low lun h)
  where
    low : (l : ℕ) → l < 8 → l % 8 ≡ l
    low l h = omega arith
greeting_back leave lun (Some g) h = understood leave lun (Some g) ∙ ap (λ (l : ℕ). Some (record { lun = l; leave = leave; tag = Some g })) (low lun h)
  where
    low : (l : ℕ) → l < 8 → l % 8 ≡ l
    low l h = omega arith

module _ (w : World) (s : Serving) (c : Core w s) (q : w.engine.line ≡ idle) where
  abbrev e : Engine
  e = w.engine

  abbrev cable : Cable
  cable = w.bus.cable

  off : Unheld w.engine.line
  off k bs h = idle_unheld k bs (sym q ∙ h)

  none_on : (j : ℕ) → (e.slots j).state ≡ Connected → ⊥
  none_on j h = let r = c.ties.connected j h in off j r.0 r.1

  -- a waiting command that leaves the waiting chain
  module _ (k : ℕ) (wt : (e.slots k).state ≡ Waiting) where
    unlink_book : (x : Entry) (l : Line) → in_use x.state ≡ true → is_waiting x.state ≡ false → x.command ≡ (e.slots k).command → Book (unlink_slot k x l e) s
    unlink_book x l u nw cm =
        book_keeps e (unlink_slot k x l e) s refl refl
        (put_cases (λ (j : ℕ) (y : Entry). in_use y.state ≡ in_use (e.slots j).state) k x e.slots (u ∙ sym (ap in_use wt)) (λ j ne. refl))
        (put_cases (λ (j : ℕ) (y : Entry). y.command ≡ (e.slots j).command) k x e.slots cm (λ j ne. refl))
        (put_cases (λ (j : ℕ) (y : Entry). stands_on j (without k e.waiting) ≡ is_waiting y.state) k x e.slots
        (stands_without k k e.waiting ∙ ap (λ (t : Bool). not t && stands_on k e.waiting) (eq-eqb k k refl) ∙ sym nw)
        (λ j ne. stands_without j k e.waiting ∙ ap (λ (t : Bool). not t && stands_on j e.waiting) (ne_eqb j k ne) ∙ c.book.waiting_chain j))
        c.book

    -- absent
    absent_keeps : (b' : BusState) → (b'.cable ≡ cable) × Shows b' × (b'.order ≡ true)
        → After w (FinishedAnswer k) (record { engine = unlink_slot k (with_state (Finished Absent) (e.slots k)) idle e; bus = b'; memory = w.memory }) s
    absent_keeps b' g =
        plainly w (FinishedAnswer k) _ s (refl, refl)
        (record {
          mono = put_cases (λ (j : ℕ) (y : Entry). is_finished (e.slots j).state ≡ true → is_finished y.state ≡ true) k x' e.slots (λ _. refl) (λ j ne h. h);
          telling = λ j h. subst (λ (i : ℕ). is_finished (put_slot k x' e.slots i).state ≡ true) (sym (told_is k j h)) (ap (λ (y : Entry). is_finished y.state) (put_here k x' (e.slots k)));
          once = λ j h. subst (λ (i : ℕ). is_finished (e.slots i).state ≡ false) (sym (told_is k j h)) (ap is_finished wt);
          quiet = λ h. wrong true refl h;
        })
        (put_cases (λ (j : ℕ) (z : Entry). is_done z.state ≡ true → is_finished (e.slots j).state ≡ true) k x' e.slots (λ t. wrong false t refl) (λ j ne t. done_finished _ t))
        (record {
          order = g.2;
          shows = g.1;
          laws = subst (λ (z : Cable). Owed z.shelf.kind) (sym g.0) c.laws;
          shelf = ap (λ (z : Cable). z.shelf) g.0 ∙ c.shelf;
          book = unlink_book x' idle refl refl refl;
          ties = subst (λ (z : Cable). Ties e' z w.memory s) (sym g.0) ties';
        })
      where
        x' : Entry
        x' = with_state (Finished Absent) (e.slots k)

        e' : Engine
        e' = unlink_slot k x' idle e

        cs : (j : ℕ) → (e'.slots j).command ≡ (e.slots j).command
        cs = put_cases (λ (j : ℕ) (y : Entry). y.command ≡ (e.slots j).command) k x' e.slots refl (λ j ne. refl)

        os : (j : ℕ) → is_open (e'.slots j).state ≡ is_open (e.slots j).state
        os = put_cases (λ (j : ℕ) (y : Entry). is_open y.state ≡ is_open (e.slots j).state) k x' e.slots (sym (ap is_open wt)) (λ j ne. refl)

        ties' : Ties e' cable w.memory s
        ties' =
            record {
              line = c.ties.line ∙ ap (line_means e) q;
              begun = c.ties.begun ∙ ap begun_means q;
              connected = put_cases (λ (j : ℕ) (y : Entry). y.state ≡ Connected → (bs : List ℕ) × (idle ≡ held j bs)) k x' e.slots
                  (λ z. wrong false (ap is_open z) refl) (λ j ne z. absurd (none_on j z));
              holding = λ j bs h. absurd (idle_unheld j bs h);
              nexus = put_cases (λ (j : ℕ) (y : Entry). is_open y.state ≡ true → HasNexus cable w.memory j y (s.kept j).bytes) k x' e.slots (λ z. wrong false z refl) (λ j ne z. c.ties.nexus j z);
              owned = λ n y h. let o = c.ties.owned n y h in (o.0, os o.0 ∙ o.1, ap (name_for o.0) (cs o.0) ∙ o.2);
              units = λ i j p r ne u. subst (λ (d : Command). (tagged d.manner ≡ true) × (tagged (e'.slots j).command.manner ≡ true)) (sym (cs i))
                  (subst (λ (d : Command). (tagged (e.slots i).command.manner ≡ true) × (tagged d.manner ≡ true)) (sym (cs j))
                  (c.ties.units i j (sym (os i) ∙ p) (sym (os j) ∙ r) ne (ap (λ (d : Command). same_unit d (e.slots j).command) (sym (cs i)) ∙ ap (same_unit (e'.slots i).command) (sym (cs j)) ∙ u)));
              settled = put_cases (λ (j : ℕ) (y : Entry). Settled y.state y w.memory (s.kept j) (s.results j)) k x' e.slots tt (λ j ne. c.ties.settled j);
            }

    -- selected
    module _ (el : eligible e k ≡ true) where
      unit_new : (j : ℕ) → is_open (e.slots j).state ≡ true → same_unit (e.slots k).command (e.slots j).command ≡ true
          → (tagged (e.slots k).command.manner ≡ true) × (tagged (e.slots j).command.manner ≡ true)
      unit_new j o u =
          let num = and_parts (leb 1 j) (leb j 16) (c.book.range j (open_used _ o)) in
          let l : lets e k j ≡ true = every_at 16 (lets e k) el j (leb-true 1 j num.0) (leb-true j 16 num.1) in
          and_parts _ _ (sym (ap (λ (t : Bool). not t || (tagged (e.slots k).command.manner && tagged (e.slots j).command.manner)) (and_from _ _ o u)) ∙ l)

      unit_swap : (a b : Command) → same_unit a b ≡ true → same_unit b a ≡ true
      unit_swap a b h =
          let p = and_parts (eqb a.target b.target) (eqb a.lun b.lun) h in
          and_from _ _ (eq-eqb _ _ (sym (eqb-true _ _ p.0))) (eq-eqb _ _ (sym (eqb-true _ _ p.1)))

      new_name : (j : ℕ) → (j ≡ k → ⊥) → is_open (e.slots j).state ≡ true → same_name (name_for j (e.slots j).command) (name_for k (e.slots k).command) ≡ false
      new_name j ne o = apart_name (name_for j (e.slots j).command) (name_for k (e.slots k).command)
          (λ (h : name_for j (e.slots j).command ≡ name_for k (e.slots k).command). let u = unit_new j o (and_from _ _ (eq-eqb _ _ (sym (ap (λ (n : Name). n.target) h))) (eq-eqb _ _ (sym (ap (λ (n : Name). n.lun) h)))) in
          tag_apart j k (e.slots j).command.manner (e.slots k).command.manner ne u.1 u.0 (ap (λ (n : Name). n.tag) h))

      selected_keeps : (b' : BusState) (leave : Bool)
          → (b'.cable ≡ opens (e.slots k).command.target (Some (record { lun = (e.slots k).command.lun; leave = leave; tag = tag_for k (e.slots k).command.manner })) cable) × Shows b' × (b'.order ≡ true)
          → After w (Selected k) (record { engine = unlink_slot k (with_state Connected (with_pointers 0 0 (e.slots k))) (held k []) e; bus = b'; memory = w.memory }) s
      selected_keeps b' leave g =
          plainly w (Selected k) _ s (refl, refl) (still e (Selected k) e' fin (λ j. refl)) (λ j d. sym (fin j) ∙ done_finished _ d)
          (record {
            order = g.2;
            shows = g.1;
            laws = subst (λ (z : Cable). Owed z.shelf.kind) (sym g.0) c.laws;
            shelf = ap (λ (z : Cable). z.shelf) g.0 ∙ c.shelf;
            book = unlink_book x' (held k []) refl refl refl;
            ties = subst (λ (z : Cable). Ties e' z w.memory s) (sym g.0) ties';
          })
        where
          x' : Entry
          x' = with_state Connected (with_pointers 0 0 (e.slots k))

          e' : Engine
          e' = unlink_slot k x' (held k []) e

          nk : Name
          nk = name_for k (e.slots k).command

          C : Cable
          C = opens (e.slots k).command.target (Some (record { lun = (e.slots k).command.lun; leave = leave; tag = tag_for k (e.slots k).command.manner })) cable

          fin : (j : ℕ) → is_finished (e'.slots j).state ≡ is_finished (e.slots j).state
          fin = put_cases (λ (j : ℕ) (y : Entry). is_finished y.state ≡ is_finished (e.slots j).state) k x' e.slots (sym (ap is_finished wt)) (λ j ne. refl)

          set_k : Settled Waiting (e.slots k) w.memory (s.kept k) (s.results k)
          set_k = subst (λ (t : State). Settled t (e.slots k) w.memory (s.kept k) (s.results k)) wt (c.ties.settled k)

          cs : (j : ℕ) → (e'.slots j).command ≡ (e.slots j).command
          cs = put_cases (λ (j : ℕ) (y : Entry). y.command ≡ (e.slots j).command) k x' e.slots refl (λ j ne. refl)

          own : (n : Name) (y : Nexus) → C.nexuses n ≡ Some y → (b : Bool) → same_name n nk ≡ b
              → (j : ℕ) × (is_open (e'.slots j).state ≡ true) × (name_for j (e'.slots j).command ≡ n)
          own n y h true r = (k, ap (λ (z : Entry). is_open z.state) (put_here k x' (e.slots k)), ap (name_for k) (cs k) ∙ sym (same_name_is n nk r))
          own n y h false r =
              let o = c.ties.owned n y (sym (put_other nk (Some (fresh_nexus leave)) cable.nexuses n r) ∙ h) in
              (o.0, still_open o.0 o.1, ap (name_for o.0) (cs o.0) ∙ o.2)
            where
              still_open : (j : ℕ) → is_open (e.slots j).state ≡ true → is_open (e'.slots j).state ≡ true
              still_open = put_cases (λ (j : ℕ) (y : Entry). is_open (e.slots j).state ≡ true → is_open y.state ≡ true) k x' e.slots (λ _. refl) (λ j ne z. z)

          ties' : Ties e' C w.memory s
          ties' =
              record {
                line = ap (λ (d : Command). bus_held (name_for k d)) (sym (cs k));
                begun = refl;
                connected = put_cases (λ (j : ℕ) (y : Entry). y.state ≡ Connected → (bs : List ℕ) × (held k [] ≡ held j bs)) k x' e.slots (λ _. ([], refl)) (λ j ne z. absurd (none_on j z));
                holding = λ j bs h. subst (λ (i : ℕ). (put_slot k x' e.slots i).state ≡ Connected) (sym (held_is h)) (ap (λ (y : Entry). y.state) (put_here k x' (e.slots k)));
                nexus = put_cases (λ (j : ℕ) (y : Entry). is_open y.state ≡ true → HasNexus C w.memory j y (s.kept j).bytes) k x' e.slots
                    (λ _. record {
                      nexus = fresh_nexus leave;
                      here = put_self nk (Some (fresh_nexus leave)) cable.nexuses;
                      underway = beginning cable.shelf C.nexuses w.memory (e.slots k) (s.kept k).bytes leave set_k.0 set_k.1 set_k.2;
                    })
                    (λ j ne z. let h = c.ties.nexus j z in
                    record {
                      nexus = h.nexus;
                      here = put_other nk (Some (fresh_nexus leave)) cable.nexuses _ (new_name j ne z) ∙ h.here;
                      underway = underway_on cable.shelf cable.shelf _ _ w.memory w.memory (e.slots j) _ h.nexus refl (none_on j) (λ i l. refl) h.underway;
                    });
                owned = λ n y h. own n y h (same_name n nk) refl;
                units = λ i j. put_cases (λ (a : ℕ) (y : Entry). is_open y.state ≡ true → is_open (e'.slots j).state ≡ true → (a ≡ j → ⊥)
                    → same_unit y.command (e'.slots j).command ≡ true → (tagged y.command.manner ≡ true) × (tagged (e'.slots j).command.manner ≡ true)) k x' e.slots
                    (put_cases (λ (b : ℕ) (z : Entry). is_open x'.state ≡ true → is_open z.state ≡ true → (k ≡ b → ⊥)
                    → same_unit x'.command z.command ≡ true → (tagged x'.command.manner ≡ true) × (tagged z.command.manner ≡ true)) k x' e.slots
                    (λ _ _ ne. absurd (ne refl)) (λ b nb _ o ne u. unit_new b o u) j)
                    (λ a na. put_cases (λ (b : ℕ) (z : Entry). is_open (e.slots a).state ≡ true → is_open z.state ≡ true → (a ≡ b → ⊥)
                    → same_unit (e.slots a).command z.command ≡ true → (tagged (e.slots a).command.manner ≡ true) × (tagged z.command.manner ≡ true)) k x' e.slots
                    (λ o _ ne u. let r = unit_new a o (unit_swap (e.slots a).command (e.slots k).command u) in (r.1, r.0)) (λ b nb. c.ties.units a b) j) i;
                settled = put_cases (λ (j : ℕ) (y : Entry). Settled y.state y w.memory (s.kept j) (s.results j)) k x' e.slots tt (λ j ne. c.ties.settled j);
              }

    -- what the selection came to
    selecting_keeps : eligible e k ≡ true → (y : Reply) (b' : BusState) → Did w.bus (Call.select (e.slots k).command.target (greeting_for k (e.slots k).command)) y b'
        → (a : Answer) (w' : World) → Runs (selecting e k y) b' w.memory a w' → After w a w' s
    selecting_keeps el (refused n) b' d a w' r =
        let z = d.kept refl in
        violates w s c off b' (ap (λ (b : BusState). b.order) z ∙ c.order) (ap (λ (b : BusState). b.cable.shelf) z) FreeLine a w' r
    selecting_keeps el selected b' d a w' r =
        let i = d.keeps_rules c.order refl in
        let g = greeting_back (may_leave (e.slots k).command.manner) (e.slots k).command.lun (tag_for k (e.slots k).command.manner) (c.book.lun_small k (ap in_use wt)) in
        ending r (selected_keeps el b' (may_leave (e.slots k).command.manner) (i.rule.1 ∙ ap (λ (o : Option Greeting). opens (e.slots k).command.target o cable) g, i.shows, i.order))
    selecting_keeps el lost b' d a w' r =
        let i = d.keeps_rules c.order refl in
        ending r (resting w s (Lost k) b' c (λ j. refl) i.rule.1 i.shows i.order)
    selecting_keeps el absent b' d a w' r =
        let i = d.keeps_rules c.order refl in
        ending r (absent_keeps b' (i.rule.1, i.shows, i.order))
    selecting_keeps el done b' d a w' r = absurd (d.keeps_rules c.order refl).rule
    selecting_keeps el (took v) b' d a w' r = absurd (d.keeps_rules c.order refl).rule

  free_keeps : (o : Option ℕ) → first_of e.waiting (eligible e) ≡ o → (a : Answer) (w' : World) → Runs (on_free e o) w.bus w.memory a w' → After w a w' s
  free_keeps None h a w' (y, b', d, r) =
      let i : InOrder w.bus Call.wait y b' = granted d c.order refl in
      ending r (resting w s Idle b' c (λ j. refl) i.rule i.shows i.order)
  free_keeps (Some k) h a w' (y, b', d, r) =
      let f = first_of_some e.waiting (eligible e) k h in
      selecting_keeps k (waiting_is _ (sym (c.book.waiting_chain k) ∙ f.0)) f.1 y b' d a w' r

  accept_keeps : (t : ℕ) → w.bus.shown ≡ Reselect t → (a : Answer) (w' : World) → Runs (on_reselect e (Reselect t) (Some t)) w.bus w.memory a w' → After w a w' s
  accept_keeps t h a w' (y, b', d, r) =
      let i : InOrder w.bus Call.accept y b' = granted d c.order (ap (λ (z : Shown). not (shows_reselect z)) h) in
      ending r (lined w s c off Accepted (λ j. refl) (greeted t) (greeted_unheld t) (sym (c.ties.begun ∙ ap begun_means q)) b' (i.rule ∙ ap (λ (z : Shown). accepts z cable) h, i.shows, i.order))

  pub idle_keeps : (sh : Shown) → w.bus.shown ≡ sh → (a : Answer) (w' : World) → Runs (idle_row e sh) w.bus w.memory a w' → After w a w' s
  idle_keeps sh h a w' r = go (eqb (kind_of sh) 8) (eqb (kind_of sh) 10) (target_shown sh) refl r
    where
      go : (t u : Bool) (o : Option ℕ) → target_shown sh ≡ o
          → Runs (cond t (on_free e (first_of e.waiting (eligible e))) (cond u (pausing e) (on_reselect e sh o))) w.bus w.memory a w' → After w a w' s
      go true u o q r = free_keeps (first_of e.waiting (eligible e)) refl a w' r
      go false true o q r = pausing_keeps w s c a w' r
      go false false None q r = violates w s c off w.bus c.order refl sh a w' r
      go false false (Some t) q r = accept_keeps t (h ∙ reselect_is sh t q) a w' r
