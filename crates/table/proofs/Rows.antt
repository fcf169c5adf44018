-- Rows of a line held by slot k. Assumes nothing.
use Rattle.std.proofs.Common.{◌≡◌, ℕ, suc, ◌+◌, ◌<◌, Bool, true, false, cond, not, ◌&&◌, ◌||◌, eqb, ltb, leb, List, [], ◌∷◌, ◌++◌, length, get_or, set, is_some, Some, None, Option, sym, refl, ap, ◌∙◌, subst, arith, length-set, get_or-set_other}
use mathlib.Core.Path.{fun_ext}
use Rattle.std.proofs.lemmas.Bool.{and_parts, and_from, and_left, and_right, or_from, or_right, eqb-true, eq-eqb, ne_eqb, ltb-true, ltb-false, leb-true}
use Rattle.table.specs.Guarantee.{AsServed}
use Rattle.scsi.specs.Messages.{Message, Read, one, body_length, bodied, message_of, extended, sdtr}
use Rattle.scsi.specs.Commands.{well_sized}
use Rattle.std.specs.Option.{option_map}
use Rattle.shelf.specs.Model.{Model, finished, way_of, count_of, byte_of}
use Rattle.shelf.specs.Laws.{Owed}
use Rattle.shelf.specs.Serving.{Served, served, answers, outs}
use Rattle.shelf.specs.declared.Way.{Way}
use Rattle.shelf.specs.declared.Way.TheVariants.{Still, In, Out}
use Rattle.bus.specs.State.{with_shelf, Name, Nexus, Cable, BusState, same_name, put, adjust, change, close, with_begun, sent, moved, given, ended, saves, restored, Line as BusLine, held as bus_held}
use Rattle.bus.specs.Effects.{on_holder, leaves, reads, completes, finishes, Takes, takes, aborts, ends_line}
use Rattle.bus.specs.Showing.{Utters, MessageBy, Shows, LineShows, HoldsShow, MayShow}
use Rattle.bus.specs.Calls.{took, Call, Reply, is_refused}
use Rattle.bus.specs.Rules.{Did, InOrder, taken}
use Rattle.bus.specs.Kinds.{kind_of, shows_data_out, shows_command, byte_shown, shows_free, shows_reselect}
use Rattle.bus.specs.declared.Shown.{Shown}
use Rattle.bus.specs.declared.Shown.TheVariants.{DataOut, DataIn, Command as CommandOut, Status, Reserved4, Reserved5, MessageOut, MessageIn, Free as FreeLine, Reselect, Pause}
use Rattle.slots.specs.declared.slot.Outcome.{Outcome}
use Rattle.slots.specs.declared.slot.Outcome.TheVariants.{Done, Overrun, WrongWay}
use Rattle.slots.specs.declared.line.Heard.TheVariants.{Complete, Save, Restore, Disconnect, Reject, Other}
use Rattle.slots.specs.declared.slot.State.TheVariants.{Connected, Away, Finished}
use Rattle.slots.specs.declared.answer.Answer.{Answer}
use Rattle.slots.specs.declared.answer.Answer.TheVariants.{Moved, Finished as FinishedAnswer, Told}
use Rattle.bus.proofs.Names.{same_name_is, put_here as put_self, put_there as put_other}
use Rattle.table.specs.Engine.{Command, Entry, Engine, Line, idle, held, in_use, is_open, is_waiting, is_finished, is_done, is_in, is_out, tagged, name_for, stands_on, put_slot, set_slot, set_line, with_state, with_pointers, with_sent, with_status}
use Rattle.table.specs.Script.{World, Script, Runs}
use Rattle.table.specs.Table.{violation, finish_by, abort_message, abort_by, advance_by, data_in_by, data_out_by, command_by, status_by, heard_of, rejecting, by_heard, message_by, held_by, on_held}
use Rattle.table.specs.Calls.{ends}
use Rattle.table.specs.Serving.{Serving, names, serves}
use Rattle.table.proofs.Basics.{wrong, put_cases, put_here, put_there}
use Rattle.table.proofs.States.{open_used, open_not_waiting, open_unfinished, done_finished, idle_unheld, held_is, told_is}
use Rattle.table.proofs.Invariant.{Book, Underway, HasNexus, Settled, Ties, Core, line_means, begun_means}
use Rattle.table.proofs.Keeping.{book_keeps, granted, change_here, Agrees, retie, untie, underway_on}
use Rattle.table.proofs.Turns.{by_message, Turn, After, plainly, still, ending, violated, resting, pausing_keeps, one_served}
use Rattle.table.proofs.Pointers.{data_in, data_out, commanded, status_taken, saving, restoring, leaving}

-- what an extended message is read as; it changes no nexus
data Long : Option Message → Type 0 where
  goes_on : Long None
  some_extended : (l : List ℕ) → Long (Some (extended l))
  some_sdtr : (m x : ℕ) → Long (Some (sdtr m x))

bodied_long : (l : List ℕ) → Long (Some (bodied l))
bodied_long l = go (eqb (length l) 3 && eqb (get_or l 0 0) 1)
  where
    go : (t : Bool) → Long (Some (cond t (sdtr (get_or l 1 0) (get_or l 2 0)) (extended l)))
    go true = some_sdtr (get_or l 1 0) (get_or l 2 0)
    go false = some_extended l

extended_long : (l : List ℕ) → Long (message_of (1 ∷ l))
extended_long [] = goes_on
extended_long (m ∷ l) = go (leb (body_length m) (length l))
  where
    go : (t : Bool) → Long (option_map (λ (r : Read). r.message) (cond t (one (bodied (lib.ListN.take (body_length m) l)) (lib.ListN.drop (body_length m) l)) None))
    go true = bodied_long (lib.ListN.take (body_length m) l)
    go false = goes_on

-- slot k, open before, changed with its command kept: the book stays
pub book_slot : (e : Engine) (s : Serving) (k : ℕ) (x : Entry) (l : Line) → is_open (e.slots k).state ≡ true → in_use x.state ≡ true → is_waiting x.state ≡ false
    → x.command ≡ (e.slots k).command → Book e s → Book (set_slot k x l e) s
book_slot e s k x l o u w q b =
    book_keeps e (set_slot k x l e) s refl refl
    (put_cases (λ (j : ℕ) (y : Entry). in_use y.state ≡ in_use (e.slots j).state) k x e.slots (u ∙ sym (open_used _ o)) (λ j ne. refl))
    (put_cases (λ (j : ℕ) (y : Entry). y.command ≡ (e.slots j).command) k x e.slots q (λ j ne. refl))
    (put_cases (λ (j : ℕ) (y : Entry). stands_on j e.waiting ≡ is_waiting y.state) k x e.slots (b.waiting_chain k ∙ open_not_waiting _ o ∙ sym w) (λ j ne. b.waiting_chain j))
    b

module _ (w : World) (s : Serving) (c : Core w s) (k : ℕ) (bs : List ℕ) (q : w.engine.line ≡ held k bs) where
  abbrev e : Engine
  e = w.engine

  abbrev x : Entry
  x = w.engine.slots k

  abbrev cable : Cable
  cable = w.bus.cable

  abbrev n : Name
  n = name_for k (w.engine.slots k).command

  pub on : x.state ≡ Connected
  on = c.ties.holding k bs q

  pub opened : is_open x.state ≡ true
  opened = ap is_open on

  pub has : HasNexus cable w.memory k x (s.kept k).bytes
  has = c.ties.nexus k opened

  pub on_line : cable.line ≡ bus_held n
  on_line = c.ties.line ∙ ap (line_means e) q

  pub begun_so : cable.begun ≡ bs
  begun_so = c.ties.begun ∙ ap begun_means q

  pub alone : (j : ℕ) → (j ≡ k → ⊥) → (e.slots j).state ≡ Connected → ⊥
  alone j ne h =
      let r = c.ties.connected j h in
      ne (held_is (sym q ∙ r.1))

  -- what is shown
  shown_held : (sh : Shown) → w.bus.shown ≡ sh → HoldsShow cable n has.nexus bs sh
  shown_held sh h =
      let r = subst (λ (l : BusLine). LineShows cable l w.bus.shown) on_line c.shows in
      let z : Some r.0 ≡ Some has.nexus = sym r.1 ∙ has.here in
      let y : r.0 ≡ has.nexus = cc in
      subst (λ (v : Shown). HoldsShow cable n has.nexus bs v) h
      (subst (λ (l : List ℕ). HoldsShow cable n has.nexus l w.bus.shown) begun_so
      (subst (λ (t : Nexus). HoldsShow cable n t cable.begun w.bus.shown) y r.2))

  pub may : (sh : Shown) → w.bus.shown ≡ sh → bs ≡ [] → MayShow cable.shelf cable.nexuses n has.nexus sh
  may sh h z = subst (λ (l : List ℕ). HoldsShow cable n has.nexus l sh) z (shown_held sh h)

  -- a byte taken
  pub took_it : {y : Reply} {b' : BusState} (sh : Shown) (v : ℕ) → w.bus.shown ≡ sh → byte_shown sh ≡ Some v → Did w.bus Call.take y b'
      → (b'.cable ≡ takes (kind_of sh) v n cable) × Shows b' × (b'.order ≡ true)
  took_it {y} {b'} sh v h t d =
      let i : InOrder w.bus Call.take y b' = granted d c.order (ap (λ (z : Shown). not (is_some (byte_shown z))) h ∙ ap (λ (o : Option ℕ). not (is_some o)) t) in
      let yv : y ≡ took v = d.byte v refl (ap byte_shown h ∙ t) in (
        subst (λ (u : ℕ). b'.cable ≡ takes (kind_of sh) u n cable) (ap taken yv)
            (subst (λ (z : Shown). b'.cable ≡ takes (kind_of z) (taken y) n cable) h (subst (λ (l : BusLine). Takes l w.bus.shown (taken y) cable b'.cable) on_line i.rule)),
        i.shows,
        i.order,
      )

  -- k moves on with its nexus
  pub going : (a : Answer) → ((j : ℕ) → names a j ≡ false) → (x' : Entry) (l : Line) (f : Nexus → Nexus) (C : Cable) (b' : BusState) (m' : List ℕ)
      → is_open x'.state ≡ true → x'.command ≡ x.command
      → (x'.state ≡ Connected → (bs' : List ℕ) × (l ≡ held k bs')) → ((j : ℕ) (bs' : List ℕ) → l ≡ held j bs' → (j ≡ k) × (x'.state ≡ Connected))
      → b'.order ≡ true → Shows b' → b'.cable ≡ C → C.shelf ≡ cable.shelf → C.nexuses ≡ put n (adjust f (cable.nexuses n)) cable.nexuses
      → C.line ≡ line_means e l → C.begun ≡ begun_means l → length m' ≡ length w.memory
      → ((j : ℕ) → (j ≡ k → ⊥) → in_use (e.slots j).state ≡ true → Agrees w.memory m' (e.slots j).command)
      → Underway C.shelf C.nexuses m' x' (s.kept k).bytes (f has.nexus)
      → After w a (record { engine = set_slot k x' l e; bus = b'; memory = m' }) s
  going a na x' l f C b' m' o sc con hol ord sho eq sf nx ln bg lm mem u =
      plainly w a _ s (lm, refl) (still e a (set_slot k x' l e) fin na)
      (λ j d. sym (fin j) ∙ done_finished _ d)
      (record {
        order = ord;
        shows = sho;
        laws = subst (λ (z : Model). Owed z.kind) (sym shelf_same) c.laws;
        shelf = shelf_same ∙ c.shelf;
        book = book_slot e s k x' l opened (open_used _ o) (open_not_waiting _ o) sc c.book;
        ties = subst (λ (z : Cable). Ties (set_slot k x' l e) z m' s) (sym eq)
            (retie e cable w.memory s k x' l C m' c.ties
            (record {
              was = opened;
              now = o;
              same_command = sc;
              alone = alone;
              line = ln;
              begun = bg;
              connected = con;
              holding = hol;
              shelf = sf;
              nexus = f has.nexus;
              here = ap (λ (g : Name → Option Nexus). g n) nx ∙ put_self n (adjust f (cable.nexuses n)) cable.nexuses ∙ ap (adjust f) has.here;
              there = λ o h. ap (λ (g : Name → Option Nexus). g o) nx ∙ put_other n (adjust f (cable.nexuses n)) cable.nexuses o h;
              memory = mem;
              underway = u;
            }));
      })
    where
      shelf_same : b'.cable.shelf ≡ cable.shelf
      shelf_same = ap (λ (z : Cable). z.shelf) eq ∙ sf

      fin : (j : ℕ) → is_finished ((set_slot k x' l e).slots j).state ≡ is_finished (e.slots j).state
      fin = put_cases (λ (j : ℕ) (y : Entry). is_finished y.state ≡ is_finished (e.slots j).state) k x' e.slots
          (open_unfinished _ o ∙ sym (open_unfinished _ opened)) (λ j ne. refl)

  -- k stays connected, and the line held with no begun message
  pub staying : (a : Answer) → ((j : ℕ) → names a j ≡ false) → (x' : Entry) (f : Nexus → Nexus) (C : Cable) (b' : BusState) (m' : List ℕ)
      → x'.state ≡ Connected → x'.command ≡ x.command
      → (b'.cable ≡ C) × Shows b' × (b'.order ≡ true) → C.shelf ≡ cable.shelf → C.nexuses ≡ put n (adjust f (cable.nexuses n)) cable.nexuses
      → C.line ≡ bus_held n → C.begun ≡ [] → length m' ≡ length w.memory
      → ((j : ℕ) → (j ≡ k → ⊥) → in_use (e.slots j).state ≡ true → Agrees w.memory m' (e.slots j).command)
      → Underway C.shelf C.nexuses m' x' (s.kept k).bytes (f has.nexus)
      → After w a (record { engine = set_slot k x' (held k []) e; bus = b'; memory = m' }) s
  staying a na x' f C b' m' o sc g sf nx ln bg lm mem u =
      going a na x' (held k []) f C b' m' (ap is_open o) sc (λ _. ([], refl)) (λ j bs' h. (held_is h, o)) g.2 g.1 g.0 sf nx ln bg lm mem u

  -- k ends, its nexus closed, not DONE
  finish_turn : (a : Answer) (o : Outcome) → ends a ≡ true → ((j : ℕ) → names a j ≡ true → j ≡ k) → Turn e a (finish_by e k x o)
  finish_turn a o en na =
      record {
        mono = put_cases (λ (j : ℕ) (y : Entry). is_finished (e.slots j).state ≡ true → is_finished y.state ≡ true) k _ e.slots (λ _. refl) (λ j ne h. h);
        telling = λ j h. subst (λ (i : ℕ). is_finished ((finish_by e k x o).slots i).state ≡ true) (sym (na j h))
            (ap (λ (y : Entry). is_finished y.state) (put_here k (with_state (Finished o) x) (e.slots k)));
        once = λ j h. subst (λ (i : ℕ). is_finished (e.slots i).state ≡ false) (sym (na j h)) (open_unfinished _ opened);
        quiet = λ h. wrong (ends a) en h;
      }

  pub abort_keeps : (sh : Shown) (o : Outcome) → is_done (Finished o) ≡ false → ((m : List ℕ) (p : _) (r : _) → Settled (Finished o) (with_state (Finished o) x) m p r)
      → w.bus.shown ≡ sh → (shows_free sh || shows_reselect sh) ≡ false
      → (a : Answer) (w' : World) → Runs (abort_by e k x sh o) w.bus w.memory a w' → After w a w' s
  abort_keeps sh o nd set_o h fits a w' (y, b', d, r) = ending r
      (plainly w _ _ s (refl, refl) (finish_turn _ o refl (told_is k))
      (put_cases (λ (j : ℕ) (z : Entry). is_done z.state ≡ true → is_finished (e.slots j).state ≡ true) k _ e.slots (λ t. wrong (is_done (Finished o)) t nd) (λ j ne t. done_finished _ t))
      (record {
        order = i.order;
        shows = i.shows;
        laws = subst (λ (z : Cable). Owed z.shelf.kind) (sym eq) c.laws;
        shelf = ap (λ (z : Cable). z.shelf) eq ∙ c.shelf;
        book = book_slot e s k (with_state (Finished o) x) idle opened refl refl refl c.book;
        ties = subst (λ (z : Cable). Ties (finish_by e k x o) z w.memory s) (sym eq)
            (untie e cable w.memory s s k (with_state (Finished o) x) (close n cable) c.ties
            (record {
              was = opened;
              now = refl;
              same_command = refl;
              alone = alone;
              line = refl;
              begun = refl;
              here = put_self n None cable.nexuses;
              there = λ m t. put_other n None cable.nexuses m t;
              others = λ j ne op z hr u. underway_on cable.shelf cable.shelf _ _ w.memory w.memory (e.slots j) _ z refl (alone j ne) (λ i l. refl) u;
              ended = set_o _ _ _;
              settled = λ j ne. c.ties.settled j;
            }));
      }))
    where
      i : InOrder w.bus (Call.speak (abort_message x.command ∷ [])) y b'
      i = granted d c.order (ap (λ (v : Shown). shows_free v || shows_reselect v) h ∙ fits)

      is_abort : (t : Bool) → aborts (cond t 13 6 ∷ []) ≡ true
      is_abort true = refl
      is_abort false = refl

      eq : b'.cable ≡ close n cable
      eq = i.rule ∙ ap (λ (t : Bool). cond t (ends_line cable.line cable) cable) (is_abort (tagged x.command.manner)) ∙ ap (λ (l : BusLine). ends_line l cable) on_line

  ---- data

  others_kept : (at v : ℕ) → is_in x.command.direction ≡ true → (i : ℕ) → i < x.command.length → at ≡ x.command.base + i
      → (j : ℕ) → (j ≡ k → ⊥) → in_use (e.slots j).state ≡ true → Agrees w.memory (set w.memory at v) (e.slots j).command
  others_kept at v dir i l eq j ne u a la =
      get_or-set_other w.memory at _ v 0
      (λ h. c.book.apart k j (open_used _ opened) u (λ z. ne (sym z)) dir i a l la (sym eq ∙ sym h))

  pub data_in_keeps : (v : ℕ) → w.bus.shown ≡ DataIn v → bs ≡ [] → length w.memory ≡ e.size
      → (a : Answer) (w' : World) → Runs (data_in_by e k x v) w.bus w.memory a w' → After w a w' s
  data_in_keeps v h z fit a w' r = go (is_in x.command.direction) refl (ltb x.current x.command.length) refl r
    where
      go : (t : Bool) → is_in x.command.direction ≡ t → (u : Bool) → ltb x.current x.command.length ≡ u
          → Runs (cond t (cond u (Script.ask Call.take (λ _. Script.write (x.command.base + x.current) v (Script.return (Moved k) (advance_by e k x)))) (abort_by e k x (DataIn v) Overrun)) (abort_by e k x (DataIn v) WrongWay)) w.bus w.memory a w'
          → After w a w' s
      go true dir true lt (y, b', d, r) =
          let g = took_it (DataIn v) v h refl d in
          let less : x.current < x.command.length = ltb-true _ _ lt in
          ending r
          (staying (Moved k) (λ j. refl) (with_pointers (suc x.current) x.saved x) moved (change n moved cable) b' (set w.memory (x.command.base + x.current) v)
          on refl g refl refl on_line (begun_so ∙ z) (length-set w.memory (x.command.base + x.current) v)
          (others_kept _ v dir x.current less refl)
          (data_in cable.shelf cable.nexuses _ w.memory x (s.kept k).bytes has.nexus has.underway k v on dir (may (DataIn v) h z)
          (omega (arith, fit, less, c.book.inside k (open_used _ opened)))))
      go true dir false lt r = abort_keeps (DataIn v) Overrun refl (λ m p r. tt) h refl a w' r
      go false dir u lt r = abort_keeps (DataIn v) WrongWay refl (λ m p r. tt) h refl a w' r

  pub data_out_keeps : w.bus.shown ≡ DataOut → bs ≡ []
      → (a : Answer) (w' : World) → Runs (data_out_by e k x) w.bus w.memory a w' → After w a w' s
  data_out_keeps h z a w' r = go (is_out x.command.direction) refl (ltb x.current x.command.length) refl r
    where
      go : (t : Bool) → is_out x.command.direction ≡ t → (u : Bool) → ltb x.current x.command.length ≡ u
          → Runs (cond t (cond u (Script.read (x.command.base + x.current) (λ v. Script.ask (Call.give v) (λ _. Script.return (Moved k) (advance_by e k x)))) (abort_by e k x DataOut Overrun)) (abort_by e k x DataOut WrongWay)) w.bus w.memory a w'
          → After w a w' s
      go true dir true lt (y, b', d, r) =
          let v : ℕ = get_or w.memory (x.command.base + x.current) 0 in
          let i : InOrder w.bus (Call.give v) y b' = granted d c.order (ap (λ (t : Shown). not (shows_data_out t)) h) in
          let eq : b'.cable ≡ change n (given v) cable = i.rule ∙ ap (λ (l : BusLine). on_holder (λ o. change o (given v)) l cable) on_line in
          ending r
          (staying (Moved k) (λ j. refl) (with_pointers (suc x.current) x.saved x) (given v) (change n (given v) cable) b' w.memory
          on refl (eq, i.shows, i.order) refl refl on_line (begun_so ∙ z) refl (λ j ne u a la. refl)
          (data_out cable.shelf cable.nexuses _ w.memory x (s.kept k).bytes has.nexus has.underway k on dir (may DataOut h z) (ltb-true _ _ lt)))
      go true dir false lt r = abort_keeps DataOut Overrun refl (λ m p r. tt) h refl a w' r
      go false dir u lt r = abort_keeps DataOut WrongWay refl (λ m p r. tt) h refl a w' r

  ---- command and status

  violates : (sh : Shown) (a : Answer) (w' : World) → Runs (violation e sh) w.bus w.memory a w' → After w a w' s
  violates sh a w' r = violated w s a w' c w.bus c.order refl sh r

  pub command_keeps : w.bus.shown ≡ CommandOut → bs ≡ [] → (t : Bool) → x.sent ≡ t
      → (a : Answer) (w' : World) → Runs (command_by e k x t) w.bus w.memory a w' → After w a w' s
  command_keeps h z true t a w' r = violates CommandOut a w' r
  command_keeps h z false t a w' (y, b', d, r) =
      let sh = may CommandOut h z in
      let i : InOrder w.bus (Call.command x.command.bytes) y b' = granted d c.order (ap (λ (v : Shown). not (shows_command v && well_sized x.command.bytes)) h ∙ ap not (c.book.well k (open_used _ opened))) in
      let eq : b'.cable ≡ change n (sent x.command.bytes) cable = i.rule ∙ ap (λ (l : BusLine). on_holder (λ o. change o (sent x.command.bytes)) l cable) on_line in
      ending r
      (staying (Told (Some k)) (λ j. refl) (with_sent x) (sent x.command.bytes) (change n (sent x.command.bytes) cable) b' w.memory
      on refl (eq, i.shows, i.order) refl refl on_line (begun_so ∙ z) refl (λ j ne u a la. refl)
      (commanded cable.shelf cable.nexuses _ w.memory x (s.kept k).bytes has.nexus has.underway on sh.0 sh.1))

  pub status_keeps : (v : ℕ) → w.bus.shown ≡ Status v → bs ≡ [] → (o : Option ℕ) → x.status ≡ o
      → (a : Answer) (w' : World) → Runs (status_by e k x v o) w.bus w.memory a w' → After w a w' s
  status_keeps v h z (Some st) t a w' r = violates (Status v) a w' r
  status_keeps v h z None t a w' (y, b', d, r) =
      let g = took_it (Status v) v h refl d in
      ending r
      (staying (Told (Some k)) (λ j. refl) (with_status v x) (ended v) (change n (ended v) cable) b' w.memory
      on refl g refl refl on_line (begun_so ∙ z) refl (λ j ne u a la. refl)
      (status_taken cable.shelf cable.nexuses _ w.memory x (s.kept k).bytes has.nexus has.underway k v on has.here (may (Status v) h z)
      (change_here n (ended v) cable has.nexus has.here) (λ m t. put_other n _ cable.nexuses m t)))

  ---- messages

  put_same : put_slot k (e.slots k) e.slots ≡ e.slots
  put_same = fun_ext (λ j. go j (eqb j k) refl)
    where
      go : (j : ℕ) (t : Bool) → eqb j k ≡ t → cond t (e.slots k) (e.slots j) ≡ e.slots j
      go j true h = ap e.slots (sym (eqb-true j k h))
      go j false h = refl

  same_nexuses : cable.nexuses ≡ put n (adjust (λ y. y) (cable.nexuses n)) cable.nexuses
  same_nexuses = fun_ext (λ m. go m (same_name m n) refl)
    where
      adjusted : (o : Option Nexus) → o ≡ adjust (λ y. y) o
      adjusted None = refl
      adjusted (Some y) = refl

      go : (m : Name) (t : Bool) → same_name m n ≡ t → cable.nexuses m ≡ cond t (adjust (λ y. y) (cable.nexuses n)) (cable.nexuses m)
      go m true h = ap cable.nexuses (same_name_is m n h) ∙ adjusted (cable.nexuses n)
      go m false h = refl

  -- only the begun message changes
  relined : (bs' : List ℕ) (b' : BusState) → (b'.cable ≡ with_begun bs' cable) × Shows b' × (b'.order ≡ true)
      → After w (Told (Some k)) (record { engine = set_line (held k bs') e; bus = b'; memory = w.memory }) s
  relined bs' b' g =
      subst (λ (f : ℕ → Entry). After w (Told (Some k)) (record { engine = record { slots = f; free = e.free; waiting = e.waiting; line = held k bs'; size = e.size }; bus = b'; memory = w.memory }) s) put_same
      (going (Told (Some k)) (λ j. refl) x (held k bs') (λ y. y) (with_begun bs' cable) b' w.memory opened refl (λ _. (bs', refl)) (λ j l h. (held_is h, on))
      g.2 g.1 g.0 refl same_nexuses on_line refl refl (λ j ne u a la. refl) has.underway)

  -- a message spoken that aborts nothing, refused or not
  spoken : (b b' : BusState) (y : Reply) (m : ℕ) → aborts (m ∷ []) ≡ false → Shows b → b.order ≡ true → Did b (Call.speak (m ∷ [])) y b'
      → (b'.cable ≡ b.cable) × Shows b' × (b'.order ≡ true)
  spoken b b' y m na sho ord d = go (is_refused y) refl
    where
      go : (t : Bool) → is_refused y ≡ t → (b'.cable ≡ b.cable) × Shows b' × (b'.order ≡ true)
      go true h = let z = d.kept h in (ap (λ (v : BusState). v.cable) z, subst Shows (sym z) sho, ap (λ (v : BusState). v.order) z ∙ ord)
      go false h = let i = d.keeps_rules ord h in (i.rule ∙ ap (λ (t : Bool). cond t (ends_line b.cable.line b.cable) b.cable) na, i.shows, i.order)

  rejecting_keeps : (b : BusState) → (b.cable ≡ with_begun [] cable) × Shows b × (b.order ≡ true)
      → (a : Answer) (w' : World) → Runs (rejecting e k) b w.memory a w' → After w a w' s
  rejecting_keeps b g a w' (y, b', d, r) =
      let h = spoken b b' y 7 refl g.1 g.2 d in
      ending r (relined [] b' (h.0 ∙ g.0, h.1, h.2))

  quiet_keeps : {o : Option Message} → Long o → (bs' : List ℕ) → x.status ≡ None → (b : BusState) → (b.cable ≡ reads o bs' n cable) × Shows b × (b.order ≡ true)
      → (a : Answer) (w' : World) → Runs (by_heard e k x bs' (heard_of o) x.status) b w.memory a w' → After w a w' s
  quiet_keeps goes_on bs' h b g a w' r = ending r (relined bs' b g)
  quiet_keeps (some_extended l) bs' h b g a w' r = rejecting_keeps b g a w' (subst (λ (o : Option ℕ). Runs (by_heard e k x bs' (Some Other) o) b w.memory a w') h r)
  quiet_keeps (some_sdtr m y) bs' h b g a w' r = rejecting_keeps b g a w' (subst (λ (o : Option ℕ). Runs (by_heard e k x bs' (Some Other) o) b w.memory a w') h r)

  -- messages before status
  uttered : (v : ℕ) → Utters has.nexus v → has.nexus.status ≡ None → (b : BusState) → (b.cable ≡ reads (message_of (v ∷ [])) (v ∷ []) n cable) × Shows b × (b.order ≡ true)
      → (a : Answer) (w' : World) → Runs (by_heard e k x (v ∷ []) (heard_of (message_of (v ∷ []))) x.status) b w.memory a w' → After w a w' s
  uttered v Utters.rejects h b g a w' r =
      ending (subst (λ (o : Option ℕ). Runs (by_heard e k x (7 ∷ []) (Some Reject) o) b w.memory a w') (sym has.underway.status ∙ h) r) (relined [] b g)
  uttered v Utters.extends h b g a w' r = ending r (relined (1 ∷ []) b g)
  uttered v (Utters.saving d t) h b g a w' r =
      ending (subst (λ (o : Option ℕ). Runs (by_heard e k x (2 ∷ []) (Some Save) o) b w.memory a w') (sym has.underway.status ∙ h) r)
      (staying (Told (Some k)) (λ j. refl) (with_pointers x.current x.current x) saves (with_begun [] (change n saves cable)) b w.memory on refl g refl refl on_line refl refl (λ j ne u a la. refl)
      (saving cable.shelf cable.nexuses _ w.memory x (s.kept k).bytes has.nexus has.underway on h))
  uttered v (Utters.restoring d t) h b g a w' r =
      ending (subst (λ (o : Option ℕ). Runs (by_heard e k x (3 ∷ []) (Some Restore) o) b w.memory a w') (sym has.underway.status ∙ h) r)
      (staying (Told (Some k)) (λ j. refl) (with_pointers x.saved x.saved x) restored (with_begun [] (change n restored cable)) b w.memory on refl g refl refl on_line refl refl (λ j ne u a la. refl)
      (restoring cable.shelf cable.nexuses _ w.memory x (s.kept k).bytes has.nexus has.underway on h))
  uttered v (Utters.leaving d t l) h b g a w' r =
      ending (subst (λ (o : Option ℕ). Runs (by_heard e k x (4 ∷ []) (Some Disconnect) o) b w.memory a w') (sym has.underway.status ∙ h) r)
      (going (Told (Some k)) (λ j. refl) (with_state Away x) idle restored (leaves n cable) b w.memory refl refl (λ z. absurd (away_on z)) (λ j bs' z. absurd (idle_unheld j bs' z))
      g.2 g.1 g.0 refl refl refl refl refl (λ j ne u a la. refl)
      (leaving cable.shelf cable.nexuses _ w.memory x (s.kept k).bytes has.nexus has.underway h))
    where
      away_on : Away ≡ Connected → ⊥
      away_on z = let o : ◌≡◌ {A = ℕ} 0 1 = cc in omega arith

  ---- COMMAND COMPLETE: the bus finishes the shelf as the serving does

  -- what a unit holds after another command of its shelf is finished, where that changes nothing of it
  holds_on : (t l t' l' : ℕ) (d o : List ℕ) (sh : Model) → (t' ≡ t → l' ≡ l → sh.kind.after t l (sh.holds t l) d o ≡ sh.holds t l)
      → (finished sh t l d o).holds t' l' ≡ sh.holds t' l'
  holds_on t l t' l' d o sh h = go (eqb t' t) refl (eqb l' l) refl
    where
      go : (p : Bool) → eqb t' t ≡ p → (r : Bool) → eqb l' l ≡ r → cond (p && r) (sh.kind.after t l (sh.holds t l) d o) (sh.holds t' l') ≡ sh.holds t' l'
      go true pe true re =
          let a = eqb-true t' t pe in let b = eqb-true l' l re in
          h a b ∙ ap (λ (z : ℕ). sh.holds z l) (sym a) ∙ ap (λ (z : ℕ). sh.holds t' z) (sym b)
      go true pe false re = refl
      go false pe r re = refl

  completed_other : (o : List ℕ) (f' : Name → Option Nexus) → (st : ℕ) → has.nexus.status ≡ Some st → (j : ℕ) → (j ≡ k → ⊥) → is_open (e.slots j).state ≡ true
      → (y : Nexus) → cable.nexuses (name_for j (e.slots j).command) ≡ Some y
      → Underway cable.shelf cable.nexuses w.memory (e.slots j) (s.kept j).bytes y
      → Underway (finished cable.shelf x.command.target x.command.lun x.command.bytes o) f' w.memory (e.slots j) (s.kept j).bytes y
  completed_other o f' st h j ne op y hy u =
      record {
        command = u.command;
        status = u.status;
        place_on = u.place_on;
        place_away = u.place_away;
        saved = u.saved;
        low = u.low;
        unsent = u.unsent;
        out = u.out;
        fetched = λ dir wy i l g. u.fetched dir wy i l g ∙ ap (λ (b : List ℕ). cable.shelf.kind.byte cmd.target cmd.lun b cmd.bytes i) (sym (same wy i l (e.slots j).sent refl));
        untouched = u.untouched;
        closing = λ st q. absurd (alone j ne (u.closing st q).connected);
      }
    where
      cmd : Command
      cmd = (e.slots j).command

      cl : Rattle.table.proofs.Invariant.Closing cable.shelf cable.nexuses x has.nexus st
      cl = has.underway.closing st h

      unchanged : way_of cable.shelf cmd.target cmd.lun cmd.bytes ≡ In → y.command ≡ Some cmd.bytes
          → cmd.target ≡ x.command.target → cmd.lun ≡ x.command.lun
          → (wk : Way) → way_of cable.shelf x.command.target x.command.lun x.command.bytes ≡ wk
          → cable.shelf.kind.after x.command.target x.command.lun (cable.shelf.holds x.command.target x.command.lun) x.command.bytes o ≡ cable.shelf.holds x.command.target x.command.lun
      unchanged wy cy a b Still wk = c.laws.only_out _ _ _ _ _ (λ z. let zz : ◌≡◌ {A = ℕ} 0 1 = cc in omega arith)
      unchanged wy cy a b In wk = c.laws.only_out _ _ _ _ _ (λ z. let zz : ◌≡◌ {A = ℕ} 0 1 = cc in omega arith)
      unchanged wy cy a b Out wk =
          absurd (cl.alone wk (Rattle.table.specs.Engine.tag_for j cmd.manner) y cmd.bytes
          (subst (λ (z : ℕ). cable.nexuses (record { target = z; lun = x.command.lun; tag = Rattle.table.specs.Engine.tag_for j cmd.manner }) ≡ Some y) a
          (subst (λ (z : ℕ). cable.nexuses (record { target = cmd.target; lun = z; tag = Rattle.table.specs.Engine.tag_for j cmd.manner }) ≡ Some y) b hy))
          cy
          (subst (λ (z : ℕ). way_of cable.shelf z x.command.lun cmd.bytes ≡ In) a
          (subst (λ (z : ℕ). way_of cable.shelf cmd.target z cmd.bytes ≡ In) b wy)))

      same : way_of cable.shelf cmd.target cmd.lun cmd.bytes ≡ In → (i : ℕ) → i < y.place → (t : Bool) → (e.slots j).sent ≡ t
          → (finished cable.shelf x.command.target x.command.lun x.command.bytes o).holds cmd.target cmd.lun ≡ cable.shelf.holds cmd.target cmd.lun
      same wy i l false t = let z = u.unsent t in absurd (omega arith)
      same wy i l true t =
          holds_on x.command.target x.command.lun cmd.target cmd.lun x.command.bytes o cable.shelf
          (λ a b. unchanged wy (u.command ∙ ap (λ (z : Bool). cond z (Some cmd.bytes) None) t) a b _ refl)

  module _ (st : ℕ) (h : has.nexus.status ≡ Some st) where
    y : Nexus
    y = has.nexus

    cl : Rattle.table.proofs.Invariant.Closing cable.shelf cable.nexuses x has.nexus st
    cl = has.underway.closing st h

    -- as it is served now
    now_served : Served
    now_served = answers cable.shelf x.command.target x.command.lun x.command.bytes

    as_served : AsServed (with_state (Finished Done) x) w.memory (s.kept k) (answers cable.shelf x.command.target x.command.lun x.command.bytes)
    as_served =
        record {
          status = sym has.underway.status ∙ h ∙ ap (λ (v : ℕ). Some v) cl.the_status;
          count = sym (has.underway.place_on on) ∙ cl.at_count;
          region = λ dir i l. go dir i l (way_of cable.shelf x.command.target x.command.lun x.command.bytes) refl;
        }
      where
        in_part : is_in x.command.direction ≡ true → (i : ℕ) → i < x.command.length → way_of cable.shelf x.command.target x.command.lun x.command.bytes ≡ In
            → (t : Bool) → ltb i (count_of cable.shelf x.command.target x.command.lun x.command.bytes) ≡ t
            → get_or w.memory (x.command.base + i) 0 ≡ cond t (byte_of cable.shelf x.command.target x.command.lun x.command.bytes i) ((s.kept k).bytes i)
        in_part dir i l wy true t = has.underway.fetched dir wy i (omega (arith, ltb-true _ _ t, cl.at_count)) l
        in_part dir i l wy false t = has.underway.untouched i l (λ _ _. ltb-false _ _ t)

        go : is_in x.command.direction ≡ true → (i : ℕ) → i < x.command.length → (wk : Way) → way_of cable.shelf x.command.target x.command.lun x.command.bytes ≡ wk
            → get_or w.memory (x.command.base + i) 0
            ≡ cond (is_in wk && ltb i (count_of cable.shelf x.command.target x.command.lun x.command.bytes)) (byte_of cable.shelf x.command.target x.command.lun x.command.bytes i) ((s.kept k).bytes i)
        go dir i l Still wk = has.underway.untouched i l (λ _ z. let o : ◌≡◌ {A = ℕ} 0 1 = cc in absurd (omega arith))
        go dir i l In wk = in_part dir i l wk _ refl
        go dir i l Out wk = has.underway.untouched i l (λ _ z. let o : ◌≡◌ {A = ℕ} 0 1 = cc in absurd (omega arith))

    kk : (s.kept k).command ≡ x.command
    kk = c.book.kept k (open_used _ opened)

    sent_so : has.nexus.command ≡ Some x.command.bytes
    sent_so = has.underway.command ∙ ap (λ (t : Bool). cond t (Some x.command.bytes) None) cl.sent

    abbrev closed : Cable
    closed = close n (with_shelf (finished cable.shelf x.command.target x.command.lun x.command.bytes has.nexus.collected) (with_begun [] cable))

    shelf_so : finished cable.shelf x.command.target x.command.lun x.command.bytes has.nexus.collected ≡ (serves k s).shelf
    shelf_so =
        ap (finished cable.shelf x.command.target x.command.lun x.command.bytes)
        (has.underway.out ∙ ap (λ (i : ℕ). outs (way_of cable.shelf x.command.target x.command.lun x.command.bytes) i (s.kept k).bytes) cl.at_count)
        ∙ ap (λ (z : Model). served z x.command.target x.command.lun x.command.bytes (s.kept k).bytes) c.shelf
        ∙ ap (λ (d : Command). served s.shelf d.target d.lun d.bytes (s.kept k).bytes) (sym kk)

    answer_so : answers cable.shelf x.command.target x.command.lun x.command.bytes ≡ (serves k s).results k
    answer_so =
        ap (λ (z : Model). answers z x.command.target x.command.lun x.command.bytes) c.shelf
        ∙ ap (λ (d : Command). answers s.shelf d.target d.lun d.bytes) (sym kk)
        ∙ sym (put_here k _ (s.results k))

    complete_ties : Ties (finish_by e k x Done) closed w.memory (serves k s)
    complete_ties =
        untie e cable w.memory s (serves k s) k (with_state (Finished Done) x) closed c.ties
        (record {
          was = opened;
          now = refl;
          same_command = refl;
          alone = alone;
          line = refl;
          begun = refl;
          here = put_self n None cable.nexuses;
          there = λ m t. put_other n None cable.nexuses m t;
          others = λ j ne op z hz u. completed_other has.nexus.collected _ st h j ne op z hz u;
          ended = subst (λ (r : Served). AsServed (with_state (Finished Done) x) w.memory (s.kept k) r) answer_so as_served;
          settled = λ j ne. subst (λ (r : Served). Settled (e.slots j).state (e.slots j) w.memory (s.kept j) r) (sym (put_there j k _ (s.results j) ne)) (c.ties.settled j);
        })

    pub complete_keeps : (b : BusState) → (b.cable ≡ reads (message_of (0 ∷ [])) (0 ∷ []) n cable) × Shows b × (b.order ≡ true)
        → (a : Answer) (w' : World) → Runs (by_heard e k x (0 ∷ []) (Some Complete) x.status) b w.memory a w' → After w a w' s
    complete_keeps b g a w' r =
        ending (subst (λ (o : Option ℕ). Runs (by_heard e k x (0 ∷ []) (Some Complete) o) b w.memory a w') (sym has.underway.status ∙ h) r)
        (record {
          sized = (refl, refl);
          served = serves k s;
          serves_so = one_served 16 _ s k (leb-true 1 k num.0) (leb-true k 16 num.1)
              (and_from _ _ (or_right _ _ (and_from _ _ some (eq-eqb k k refl))) (ap (λ (z : Entry). is_done z.state) (put_here k (with_state (Finished Done) x) (e.slots k))))
              (λ j ne. subst (λ (z : Entry). (((is_finished z.state && not (is_finished (e.slots j).state)) || (not (eqb j 0) && eqb j k)) && is_done z.state) ≡ false)
              (sym (put_there j k (with_state (Finished Done) x) (e.slots j) ne))
              (and_left _ _ (or_from _ _ (never (is_finished (e.slots j).state)) (and_right _ _ (ne_eqb j k ne)))));
          same_reports = λ j. refl;
          core = record {
            order = g.2;
            shows = g.1;
            laws = subst (λ (z : Cable). Owed z.shelf.kind) (sym eq) c.laws;
            shelf = ap (λ (z : Cable). z.shelf) eq ∙ shelf_so;
            book = let bk = book_slot e s k (with_state (Finished Done) x) idle opened refl refl refl c.book in
                record { range = bk.range; free_chain = bk.free_chain; free_once = bk.free_once; waiting_chain = bk.waiting_chain; kept = bk.kept; counted = bk.counted; well = bk.well; lun_small = bk.lun_small; inside = bk.inside; apart = bk.apart };
            ties = subst (λ (z : Cable). Ties (finish_by e k x Done) z w.memory (serves k s)) (sym eq) complete_ties;
          };
          turn = finish_turn (FinishedAnswer k) Done refl (told_is k);
        })
      where
        num : (leb 1 k ≡ true) × (leb k 16 ≡ true)
        num = and_parts _ _ (c.book.range k (open_used _ opened))

        some : not (eqb k 0) ≡ true
        some = ap not (ne_eqb k 0 (λ z. let l = leb-true 1 k num.0 in omega (arith, l, z)))

        never : (t : Bool) → (t && not t) ≡ false
        never true = refl
        never false = refl

        eq : b.cable ≡ closed
        eq = g.0 ∙ ap (λ (o : Option Nexus). completes n o (with_begun [] cable)) has.here
            ∙ ap (λ (o : Option (List ℕ)). close n (with_shelf (finishes n o has.nexus.collected cable.shelf) (with_begun [] cable))) sent_so

  ---- any byte of a message, and the whole held line

  pub message_keeps : (v : ℕ) → w.bus.shown ≡ MessageIn v → (a : Answer) (w' : World) → Runs (message_by e k x (bs ++ v ∷ [])) w.bus w.memory a w' → After w a w' s
  message_keeps v h a w' (y, b', d, r) = go bs refl r
    where
      g : (b'.cable ≡ reads (message_of (bs ++ v ∷ [])) (bs ++ v ∷ []) n cable) × Shows b' × (b'.order ≡ true)
      g = let t = took_it (MessageIn v) v h refl d in (t.0 ∙ ap (λ (l : List ℕ). reads (message_of (l ++ v ∷ [])) (l ++ v ∷ []) n cable) begun_so, t.1, t.2)

      first : (o : Option ℕ) → has.nexus.status ≡ o → MessageBy has.nexus o v → (b'.cable ≡ reads (message_of (v ∷ [])) (v ∷ []) n cable) × Shows b' × (b'.order ≡ true)
          → Runs (by_heard e k x (v ∷ []) (heard_of (message_of (v ∷ []))) x.status) b' w.memory a w' → After w a w' s
      first None t u g r = uttered v u t b' g a w' r
      first (Some st) t u g r =
          complete_keeps st t b' (subst (λ (i : ℕ). (b'.cable ≡ reads (message_of (i ∷ [])) (i ∷ []) n cable) × Shows b' × (b'.order ≡ true)) u g) a w'
          (subst (λ (i : ℕ). Runs (by_heard e k x (i ∷ []) (heard_of (message_of (i ∷ []))) x.status) b' w.memory a w') u r)

      go : (l : List ℕ) → bs ≡ l → Runs (by_heard e k x (bs ++ v ∷ []) (heard_of (message_of (bs ++ v ∷ []))) x.status) b' w.memory a w' → After w a w' s
      go [] z r =
          first has.nexus.status refl (may (MessageIn v) h z)
          (subst (λ (l : List ℕ). (b'.cable ≡ reads (message_of (l ++ v ∷ [])) (l ++ v ∷ []) n cable) × Shows b' × (b'.order ≡ true)) z g)
          (subst (λ (l : List ℕ). Runs (by_heard e k x (l ++ v ∷ []) (heard_of (message_of (l ++ v ∷ []))) x.status) b' w.memory a w') z r)
      go (m ∷ ms) z r =
          let sh = subst (λ (l : List ℕ). HoldsShow cable n has.nexus l (MessageIn v)) z (shown_held (MessageIn v) h) in
          quiet_keeps (subst (λ (l : List ℕ). Long (message_of (l ++ v ∷ []))) (sym z) (subst (λ (i : ℕ). Long (message_of (i ∷ (ms ++ v ∷ [])))) (sym sh.0) (extended_long (ms ++ v ∷ []))))
          (bs ++ v ∷ []) (sym has.underway.status ∙ sh.1) b' g a w' r

  pub speaks_nothing : w.bus.shown ≡ MessageOut → (a : Answer) (w' : World) → Runs (held_by e k x MessageOut) w.bus w.memory a w' → After w a w' s
  speaks_nothing h a w' (y, b', d, r) =
      let g = spoken w.bus b' y 8 refl c.shows c.order d in
      ending r (resting w s (Told (Some k)) b' c (λ j. refl) g.0 g.1 g.2)

  pub held_keeps : (sh : Shown) → w.bus.shown ≡ sh → bs ≡ [] → length w.memory ≡ e.size
      → (a : Answer) (w' : World) → Runs (held_by e k x sh) w.bus w.memory a w' → After w a w' s
  held_keeps DataOut h z fit a w' r = data_out_keeps h z a w' r
  held_keeps (DataIn v) h z fit a w' r = data_in_keeps v h z fit a w' r
  held_keeps CommandOut h z fit a w' r = command_keeps h z x.sent refl a w' r
  held_keeps (Status v) h z fit a w' r = status_keeps v h z x.status refl a w' r
  held_keeps Reserved4 h z fit a w' r = violates Reserved4 a w' r
  held_keeps Reserved5 h z fit a w' r = violates Reserved5 a w' r
  held_keeps MessageOut h z fit a w' r = speaks_nothing h a w' r
  held_keeps (MessageIn v) h z fit a w' r = message_keeps v h a w' (subst (λ (l : List ℕ). Runs (message_by e k x (l ++ v ∷ [])) w.bus w.memory a w') (sym z) r)
  held_keeps FreeLine h z fit a w' r = absurd (may FreeLine h z)
  held_keeps (Reselect t) h z fit a w' r = violates (Reselect t) a w' r
  held_keeps Pause h z fit a w' r = pausing_keeps w s c a w' r

  pub inside_keeps : (m : ℕ) (ms : List ℕ) → bs ≡ m ∷ ms → (sh : Shown) → w.bus.shown ≡ sh
      → (a : Answer) (w' : World) → Runs (on_held e k x (m ∷ ms) sh) w.bus w.memory a w' → After w a w' s
  inside_keeps m ms z sh h a w' r =
      by_message w s c (λ v. message_by e k x ((m ∷ ms) ++ v ∷ [])) a w'
      (λ v q r. message_keeps v q a w' (subst (λ (l : List ℕ). Runs (message_by e k x (l ++ v ∷ [])) w.bus w.memory a w') (sym z) r)) sh h r
