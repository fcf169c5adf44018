-- What one row of the table leaves, and how reports and serving follow from it. Assumes nothing.
use Rattle.std.proofs.Common.{◌≡◌, ℕ, zero, suc, ◌≤◌, Bool, true, false, cond, not, ◌&&◌, ◌||◌, eqb, List, length, Some, None, sym, refl, ap, ◌∙◌, subst, arith}
use Rattle.std.proofs.lemmas.Bool.{and_left, and_right, eqb-true, eqb-false}
use Rattle.shelf.specs.Model.{Model}
use Rattle.shelf.specs.Serving.{Served}
use Rattle.shelf.specs.Laws.{Owed}
use Rattle.bus.specs.State.{Cable, BusState, clear}
use Rattle.bus.specs.Calls.{Call}
use Rattle.bus.specs.Rules.{InOrder}
use Rattle.bus.specs.Showing.{Shows}
use Rattle.bus.specs.declared.Shown.{Shown}
use Rattle.bus.specs.declared.Shown.TheVariants.{MessageIn}
use Rattle.bus.specs.Kinds.{kind_of}
use Rattle.slots.specs.declared.slot.State.{State}
use Rattle.slots.specs.declared.slot.State.TheVariants.{Connected}
use Rattle.slots.specs.declared.answer.Answer.{Answer}
use Rattle.slots.specs.Numbers.{holder_slot}
use Rattle.table.specs.Engine.{Entry, Engine, Line, idle, greeted, named, tag_due, held, in_use, is_open, is_waiting, is_finished, is_done, stands_on, reset_where}
use Rattle.table.specs.Script.{World, Script, Runs}
use Rattle.table.specs.Table.{pausing, message_row, violation, violated_layer, holder_now, fault, cleared, byte_told}
use Rattle.table.specs.Calls.{ends}
use Rattle.table.specs.Serving.{Kept, Serving, names, finished_at, reports, reports_done, serves, serves_all, marks, hears_reports}
use Rattle.table.proofs.Basics.{wrong}
use Rattle.table.proofs.States.{open_used, open_not_waiting, open_unfinished, done_finished, reset_at, message_is, idle_unheld, told_is}
use Rattle.table.proofs.Invariant.{Settled, Ties, Core, Inv, line_means, begun_means}
use Rattle.table.proofs.Keeping.{book_keeps, granted}

-- serving none, serving one
none_below : (n : ℕ) (p : ℕ → Bool) (s : Serving) → ((k : ℕ) → k ≤ n → p k ≡ false) → serves_all n p s ≡ s
unfolding serves_all
none_below zero p s h = refl
none_below (suc n) p s h =
    ap (λ (t : Bool). cond t (serves (suc n) (serves_all n p s)) (serves_all n p s)) (h (suc n) (omega arith)) ∙ none_below n p s (λ k l. h k (omega arith))

pub none_served : (n : ℕ) (p : ℕ → Bool) (s : Serving) → ((k : ℕ) → p k ≡ false) → serves_all n p s ≡ s
none_served n p s h = none_below n p s (λ k l. h k)

pub one_served : (n : ℕ) (p : ℕ → Bool) (s : Serving) (k : ℕ) → 1 ≤ k → k ≤ n → p k ≡ true → ((j : ℕ) → (j ≡ k → ⊥) → p j ≡ false)
    → serves_all n p s ≡ serves k s
unfolding serves_all
one_served zero p s k l u h o = absurd (omega arith)
one_served (suc n) p s k l u h o = go (eqb k (suc n)) refl (λ v. one_served n p s k l v h o)
  where
    go : (t : Bool) → eqb k (suc n) ≡ t → (k ≤ n → serves_all n p s ≡ serves k s)
        → cond (p (suc n)) (serves (suc n) (serves_all n p s)) (serves_all n p s) ≡ serves k s
    go true e ih =
        let q = eqb-true k (suc n) e in
        let b : serves_all n p s ≡ s = none_below n p s (λ j l. o j (λ w. omega arith)) in
        ap (λ (t : Bool). cond t (serves (suc n) (serves_all n p s)) (serves_all n p s)) (subst (λ (i : ℕ). p i ≡ true) q h)
        ∙ ap (serves (suc n)) b ∙ ap (λ (i : ℕ). serves i s) (sym q)
    go false e ih =
        let ne = eqb-false k (suc n) e in
        ap (λ (t : Bool). cond t (serves (suc n) (serves_all n p s)) (serves_all n p s)) (o (suc n) (λ w. ne (sym w))) ∙ ih (omega arith)

-- what a row does to which commands are finished
pub record Turn (e : Engine) (a : Answer) (e' : Engine) : Type 0 where
  pub mono : (j : ℕ) → is_finished (e.slots j).state ≡ true → is_finished (e'.slots j).state ≡ true
  pub telling : (j : ℕ) → names a j ≡ true → is_finished (e'.slots j).state ≡ true
  pub once : (j : ℕ) → names a j ≡ true → is_finished (e.slots j).state ≡ false
  pub quiet : ends a ≡ false → (j : ℕ) → is_finished (e'.slots j).state ≡ is_finished (e.slots j).state

-- what a row leaves
pub record After (w : World) (a : Answer) (w' : World) (s : Serving) : Type 0 where
  pub served : Serving
  pub serves_so : serves_all 16 (reports_done (finished_at w.engine) (names a) w'.engine) s ≡ served
  pub same_reports : (k : ℕ) → served.reported k ≡ s.reported k
  pub core : Core w' served
  pub turn : Turn w.engine a w'.engine
  pub sized : (length w'.memory ≡ length w.memory) × (w'.engine.size ≡ w.engine.size)

-- the invariant does not look at what was reported
pub marked : (w : World) (s : Serving) (p : ℕ → Bool) → Core w s → Core w (marks p s)
marked w s p c =
    record {
      order = c.order;
      shows = c.shows;
      laws = c.laws;
      shelf = c.shelf;
      book = let b = c.book in record { range = b.range; free_chain = b.free_chain; free_once = b.free_once; waiting_chain = b.waiting_chain; kept = b.kept; counted = b.counted; well = b.well; lun_small = b.lun_small; inside = b.inside; apart = b.apart };
      ties = let t = c.ties in record { line = t.line; begun = t.begun; connected = t.connected; holding = t.holding; nexus = t.nexus; owned = t.owned; units = t.units; settled = t.settled };
    }

reported_now : (f f' t r : Bool) → (f ≡ true → f' ≡ true) → (t ≡ true → f' ≡ true) → r ≡ f → (((f' && not f) || t) || r) ≡ f'
reported_now true f' t r p q e = sym (p refl ∙ sym (at f' t r e))
  where
    at : (f' t r : Bool) → r ≡ true → (((f' && false) || t) || r) ≡ true
    at true true r e = refl
    at true false r e = e
    at false true r e = refl
    at false false r e = e
reported_now false true t r p q e = refl
reported_now false false true r p q e = wrong false (q refl) refl
reported_now false false false r p q e = e

pub after_inv : (w : World) (a : Answer) (w' : World) (s : Serving) → Inv w s → After w a w' s
    → Inv w' (hears_reports (finished_at w.engine) (names a) w'.engine s)
after_inv w a w' s i h =
    let p = reports (finished_at w.engine) (names a) w'.engine in
    subst (λ (z : Serving). Inv w' (marks p z)) (sym h.serves_so)
    (record {
      core = marked w' h.served p h.core;
      told = λ k. reported_now (is_finished (w.engine.slots k).state) (is_finished (w'.engine.slots k).state) (names a k) (h.served.reported k)
          (h.turn.mono k) (h.turn.telling k) (h.same_reports k ∙ i.told k);
    })

-- a row that makes no command DONE
pub none_done : (e : Engine) (a : Answer) (e' : Engine) (s : Serving) → Turn e a e'
    → ((j : ℕ) → is_done (e'.slots j).state ≡ true → is_finished (e.slots j).state ≡ true)
    → serves_all 16 (reports_done (finished_at e) (names a) e') s ≡ s
none_done e a e' s t h = none_served 16 _ s (λ k. go k (is_done (e'.slots k).state) refl)
  where
    old : (f' t : Bool) → t ≡ false → ((f' && false) || t) ≡ false
    old true t e = e
    old false t e = e

    quiet_name : (k : ℕ) → is_finished (e.slots k).state ≡ true → (b : Bool) → names a k ≡ b → b ≡ false
    quiet_name k f true q = wrong (is_finished (e.slots k).state) f (t.once k q)
    quiet_name k f false q = refl

    go : (k : ℕ) (b : Bool) → is_done (e'.slots k).state ≡ b → (reports (finished_at e) (names a) e' k && b) ≡ false
    go k true q =
        let f = h k q in
        and_left (reports (finished_at e) (names a) e' k) true
        (ap (λ (b : Bool). (is_finished (e'.slots k).state && not b) || names a k) f ∙ old (is_finished (e'.slots k).state) (names a k) (quiet_name k f (names a k) refl))
    go k false q = and_right (reports (finished_at e) (names a) e' k) false refl

pub plainly : (w : World) (a : Answer) (w' : World) (s : Serving) → (length w'.memory ≡ length w.memory) × (w'.engine.size ≡ w.engine.size) → Turn w.engine a w'.engine
    → ((j : ℕ) → is_done (w'.engine.slots j).state ≡ true → is_finished (w.engine.slots j).state ≡ true)
    → Core w' s → After w a w' s
plainly w a w' s z t h c = record { sized = z; served = s; serves_so = none_done w.engine a w'.engine s t h; same_reports = λ k. refl; core = c; turn = t }

-- a row after which the same commands are finished, and none is named
pub still : (e : Engine) (a : Answer) (e' : Engine) → ((j : ℕ) → is_finished (e'.slots j).state ≡ is_finished (e.slots j).state)
    → ((j : ℕ) → names a j ≡ false) → Turn e a e'
still e a e' h n =
    record {
      mono = λ j f. h j ∙ f;
      telling = λ j q. wrong (names a j) q (n j);
      once = λ j q. wrong (names a j) q (n j);
      quiet = λ _. h;
    }

-- where a script ends
pub ending : {w : World} {s : Serving} {a a₀ : Answer} {w' : World} {e : Engine} {b : BusState} {m : List ℕ}
    → (a ≡ a₀) × (w'.engine ≡ e) × (w'.bus ≡ b) × (w'.memory ≡ m) → After w a₀ (record { engine = e; bus = b; memory = m }) s → After w a w' s
ending {w} {s} h f = subst (λ (x : Answer × World). After w x.0 x.1 s) (λ i. (sym h.0 i, record { engine = sym h.1 i; bus = sym h.2 i; memory = sym h.3 i })) f

---- a bus reset, with the commands that pass a test finished RESET

-- a cleared bus, where no slot is connected or away
pub clear_ties : (e : Engine) (c c' : Cable) (m : List ℕ) (s : Serving) → c' ≡ clear c → e.line ≡ idle → ((j : ℕ) → is_open (e.slots j).state ≡ false)
    → ((j : ℕ) → Settled (e.slots j).state (e.slots j) m (s.kept j) (s.results j)) → Ties e c' m s
clear_ties e c c' m s q l no_open st =
    record {
      line = ap (λ (z : Cable). z.line) q ∙ ap (line_means e) (sym l);
      begun = ap (λ (z : Cable). z.begun) q ∙ ap begun_means (sym l);
      connected = λ k h. wrong (is_open (e.slots k).state) (ap is_open h) (no_open k);
      holding = λ k bs h. absurd (idle_unheld k bs (sym l ∙ h));
      nexus = λ k h. wrong _ h (no_open k);
      owned = λ n y h. let z : None ≡ Some y = sym (ap (λ (z : Cable). z.nexuses n) q) ∙ h in let o : ◌≡◌ {A = ℕ} 0 1 = cc in absurd (omega arith);
      units = λ i j p r ne u. wrong _ p (no_open i);
      settled = st;
    }

settled_reset : (x : Entry) (m : List ℕ) (p : Kept) (r : Served) (t : State → Bool) → Settled x.state x m p r
    → Settled (reset_where t x).state (reset_where t x) m p r
settled_reset x m p r t h = reset_at (λ (y : Entry). Settled y.state y m p r) t x (λ _. tt) (λ _. h)

pub violated : (w : World) (s : Serving) (a : Answer) (w' : World) → Core w s → (b : BusState) → b.order ≡ true → b.cable.shelf ≡ w.bus.cable.shelf
    → (sh : Shown) → Runs (violation w.engine sh) b w.memory a w' → After w a w' s
violated w s a w' c b o sf sh (y, b', d, r) = ending r after
  where
    e : Engine
    e = w.engine

    i : InOrder b Call.reset y b'
    i = granted d o refl

    shelf_same : b'.cable.shelf ≡ w.bus.cable.shelf
    shelf_same = ap (λ (z : Cable). z.shelf) i.rule ∙ sf

    fin : (j : ℕ) → is_finished (e.slots j).state ≡ true → is_finished ((cleared e).slots j).state ≡ true
    fin j h = reset_at (λ (y : Entry). is_finished y.state ≡ true) is_open (e.slots j) (λ _. refl) (λ _. h)

    nobody_told : (j : ℕ) → (not (eqb j 0) && eqb j 0) ≡ true → ⊥
    nobody_told j h = go (eqb j 0) h
      where
        go : (t : Bool) → (not t && t) ≡ true → ⊥
        go true h = wrong false h refl
        go false h = wrong false h refl

    holder_connected : (l : Line) → e.line ≡ l → (j : ℕ) → (not (eqb j 0) && eqb j (holder_slot (holder_now e l))) ≡ true → (e.slots j).state ≡ Connected
    holder_connected idle q j h = absurd (nobody_told j h)
    holder_connected (greeted t) q j h = absurd (nobody_told j h)
    holder_connected (named t l) q j h = absurd (nobody_told j h)
    holder_connected (tag_due t l) q j h = absurd (nobody_told j h)
    holder_connected (held k bs) q j h =
        subst (λ (n : ℕ). (e.slots n).state ≡ Connected) (sym (told_is k j h)) (c.ties.holding k bs q)

    turn : Turn e (fault (violated_layer sh) sh (holder_now e e.line)) (cleared e)
    turn =
        record {
          mono = fin;
          telling = λ j h. let q = holder_connected e.line refl j h in
              reset_at (λ (y : Entry). is_finished y.state ≡ true) is_open (e.slots j) (λ _. refl) (λ n. wrong (is_open (e.slots j).state) (ap is_open q) n);
          once = λ j h. open_unfinished _ (ap is_open (holder_connected e.line refl j h));
          quiet = λ h. wrong true refl h;
        }

    after : After w (fault (violated_layer sh) sh (holder_now e e.line)) (record { engine = cleared e; bus = b'; memory = w.memory }) s
    after = plainly w _ _ s (refl, refl) turn
        (λ j. reset_at (λ (y : Entry). is_done y.state ≡ true → is_finished (e.slots j).state ≡ true) is_open (e.slots j)
        (λ _ h. wrong false h refl) (λ _ h. done_finished _ h))
        (record {
          order = i.order;
          shows = i.shows;
          laws = subst (λ (z : Model). Owed z.kind) (sym shelf_same) c.laws;
          shelf = shelf_same ∙ c.shelf;
          book = book_keeps e (cleared e) s refl refl
              (λ j. reset_at (λ (y : Entry). in_use y.state ≡ in_use (e.slots j).state) is_open (e.slots j) (λ h. sym (open_used _ h)) (λ _. refl))
              (λ j. reset_at (λ (y : Entry). y.command ≡ (e.slots j).command) is_open (e.slots j) (λ _. refl) (λ _. refl))
              (λ j. reset_at (λ (y : Entry). stands_on j e.waiting ≡ is_waiting y.state) is_open (e.slots j) (λ h. c.book.waiting_chain j ∙ open_not_waiting _ h) (λ _. c.book.waiting_chain j))
              c.book;
          ties = clear_ties (cleared e) b.cable b'.cable w.memory s i.rule refl
              (λ j. reset_at (λ (y : Entry). is_open y.state ≡ false) is_open (e.slots j) (λ _. refl) (λ h. h))
              (λ j. settled_reset (e.slots j) w.memory _ _ is_open (c.ties.settled j));
        })

-- nothing changed but what is shown
pub resting : (w : World) (s : Serving) (a : Answer) (b' : BusState) → Core w s → ((j : ℕ) → names a j ≡ false) → b'.cable ≡ w.bus.cable → Shows b' → b'.order ≡ true
    → After w a (record { engine = w.engine; bus = b'; memory = w.memory }) s
resting w s a b' c na eq sho ord =
    plainly w a _ s (refl, refl) (still w.engine a w.engine (λ j. refl) na) (λ j d. done_finished _ d)
    (record {
      order = ord;
      shows = sho;
      laws = subst (λ (z : Cable). Owed z.shelf.kind) (sym eq) c.laws;
      shelf = ap (λ (z : Cable). z.shelf) eq ∙ c.shelf;
      book = c.book;
      ties = subst (λ (z : Cable). Ties w.engine z w.memory s) (sym eq) c.ties;
    })

pub pausing_keeps : (w : World) (s : Serving) → Core w s → (a : Answer) (w' : World) → Runs (pausing w.engine) w.bus w.memory a w' → After w a w' s
pausing_keeps w s c a w' (y, b', d, r) =
    let i : InOrder w.bus Call.wait y b' = granted d c.order refl in
    ending r (resting w s _ b' c (λ j. refl) i.rule i.shows i.order)

-- where only a byte of a message is listed
pub by_message : (w : World) (s : Serving) → Core w s → (f : ℕ → Script) → (a : Answer) (w' : World)
    → ((v : ℕ) → w.bus.shown ≡ MessageIn v → Runs (f v) w.bus w.memory a w' → After w a w' s)
    → (sh : Shown) → w.bus.shown ≡ sh → Runs (message_row w.engine f sh) w.bus w.memory a w' → After w a w' s
by_message w s c f a w' g sh h r = go (eqb (kind_of sh) 7) refl (eqb (kind_of sh) 10) r
  where
    go : (t : Bool) → eqb (kind_of sh) 7 ≡ t → (u : Bool) → Runs (cond t (f (byte_told sh)) (cond u (pausing w.engine) (violation w.engine sh))) w.bus w.memory a w' → After w a w' s
    go true q u r = g (byte_told sh) (h ∙ message_is sh q) r
    go false q true r = pausing_keeps w s c a w' r
    go false q false r = violated w s a w' c w.bus c.order refl sh r
