-- Every call keeps the invariant. Assumes nothing.
use Rattle.std.proofs.Common.{◌≡◌, ℕ, zero, suc, ◌+◌, ◌<◌, ◌≤◌, Bool, true, false, not, ◌&&◌, ◌||◌, leb, List, [], ◌∷◌, length, Some, Ok, Err, Option, Result, sym, refl, ap, ◌∙◌, subst, arith}
use Rattle.std.proofs.Math.Bool.{and-false}
use mathlib.Core.Path.{fun_ext}
use Rattle.std.proofs.lemmas.Bool.{and_parts, eqb-true, eq-eqb, ne_eqb, leb-true}
use Rattle.scsi.specs.Commands.{well_sized}
use Rattle.shelf.specs.Model.{Model}
use Rattle.shelf.specs.Laws.{Owed}
use Rattle.shelf.specs.Serving.{Served}
use Rattle.bus.specs.State.{Name, Nexus, Cable, BusState, Line as BusLine}
use Rattle.bus.specs.Calls.{Call}
use Rattle.bus.specs.Rules.{InOrder}
use Rattle.bus.specs.Showing.{Shows}
use Rattle.slots.specs.declared.slot.Outcome.{Outcome}
use Rattle.slots.specs.declared.slot.Outcome.TheVariants.{Done}
use Rattle.slots.specs.declared.slot.State.{State}
use Rattle.slots.specs.declared.slot.State.TheVariants.{Free, Waiting, Connected, Away, Finished}
use Rattle.slots.specs.declared.answer.Answer.{Answer}
use Rattle.slots.specs.declared.answer.Collected.{Collected}
use Rattle.slots.specs.declared.answer.End.{End}
use Rattle.table.specs.Engine.{Entry, Engine, Line, idle, greeted, named, tag_due, held, in_use, is_open, is_waiting, is_finished, is_done, is_in, tagged, name_for, same_unit, numbered, stands_on, put_slot, with_state, reset_where}
use Rattle.table.specs.Script.{World, Runs}
use Rattle.table.specs.Table.{greeted_byte, named_byte, tag_byte, row}
use Rattle.table.specs.Calls.{collect_answer, collect_engine, Collects, open_or_waiting, reset_engine, Resets, When, Row, fits, Steps, ends, end_by, is_end, Passes, Run, Writes, Event, step, run, collect, reset, owner}
use Rattle.table.specs.Serving.{Kept, Serving, names, end_names, finished_at, reports, reports_done, serves_all, marks, hears_reports, lets_go, hears, at_number}
use Rattle.table.specs.Guarantee.{AsServed, Answered, ReportedOnce, in_use_count}
use Rattle.table.proofs.Basics.{nobody, stands_cons, wrong, put_cases, put_here, put_there, tally_one}
use Rattle.table.proofs.States.{open_used, busy_used, busy_unfinished, still_waiting, still_open, reset_at, greeted_unheld, named_unheld, tag_due_unheld}
use Rattle.table.proofs.Invariant.{Book, Underway, HasNexus, Settled, Ended, Ties, Core, Inv, Apart, line_means}
use Rattle.table.proofs.Keeping.{book_keeps, granted, settled_on, Agrees}
use Rattle.table.proofs.Turns.{by_message, After, after_inv, none_served, clear_ties, marked}
use Rattle.table.proofs.Rows.{held_keeps, inside_keeps}
use Rattle.table.proofs.Lines.{greeted_keeps, named_keeps, tag_keeps}
use Rattle.table.proofs.Selecting.{idle_keeps}

---- one row of the table

pub row_keeps : (w : World) (s : Serving) → Core w s → length w.memory ≡ w.engine.size → (a : Answer) (w' : World) → Row w a w' → After w a w' s
row_keeps w s c fit a w' r = go w.engine.line refl r
  where
    go : (l : Line) → w.engine.line ≡ l → Runs (row w.engine l w.bus.shown) w.bus w.memory a w' → After w a w' s
    go idle q r = idle_keeps w s c q w.bus.shown refl a w' r
    go (greeted t) q r = by_message w s c (greeted_byte w.engine t) a w' (λ v h r. greeted_keeps w s c (λ k bs z. greeted_unheld t k bs (sym q ∙ z)) t v q h a w' r) w.bus.shown refl r
    go (named t l) q r = by_message w s c (named_byte w.engine t l) a w' (λ v h r. named_keeps w s c (λ k bs z. named_unheld t l k bs (sym q ∙ z)) t l v q h a w' r) w.bus.shown refl r
    go (tag_due t l) q r = by_message w s c (tag_byte w.engine t l) a w' (λ v h r. tag_keeps w s c (λ k bs z. tag_due_unheld t l k bs (sym q ∙ z)) t l v q h a w' r) w.bus.shown refl r
    go (held k []) q r = held_keeps w s c k [] q w.bus.shown refl refl fit a w' r
    go (held k (m ∷ ms)) q r = inside_keeps w s c k (m ∷ ms) q m ms refl w.bus.shown refl a w' r

---- calls

-- what a call leaves
pub record Called (ev : Event) (w w' : World) (s : Serving) : Type 0 where
  pub inv : Inv w' (hears ev w w' s)
  pub answered : Answered ev w.engine s
  pub once : ReportedOnce ev w.engine w'.engine s

never : (f t : Bool) → t ≡ false → ((f && not f) || t) ≡ false
never true t h = h
never false t h = h

-- a call that reports nothing
pub quiet_inv : (e : Engine) (t : ℕ → Bool) (w' : World) (s : Serving) → ((k : ℕ) → is_finished (w'.engine.slots k).state ≡ true → is_finished (e.slots k).state ≡ true)
    → ((k : ℕ) → t k ≡ false) → Inv w' s → Inv w' (hears_reports (finished_at e) t w'.engine s)
quiet_inv e t w' s h n i =
    let p = reports (finished_at e) t w'.engine in
    let pf : (k : ℕ) → p k ≡ false = λ k. none (is_finished (w'.engine.slots k).state) (is_finished (e.slots k).state) (t k) (h k) (n k) in
    let sv : serves_all 16 (reports_done (finished_at e) t w'.engine) s ≡ s = none_served 16 _ s (λ k. ap (λ (b : Bool). b && is_done (w'.engine.slots k).state) (pf k)) in
    subst (λ (z : Serving). Inv w' (marks p z)) (sym sv)
    (record { core = marked w' s p i.core; told = λ k. ap (λ (b : Bool). b || s.reported k) (pf k) ∙ i.told k })
  where
    none : (f' f t : Bool) → (f' ≡ true → f ≡ true) → t ≡ false → ((f' && not f) || t) ≡ false
    none true true t q h = h
    none true false t q h = wrong false (q refl) refl
    none false f t q h = h

pub quiet_once : (e e' : Engine) (t : ℕ → Bool) (s : Serving) → ((k : ℕ) → is_finished (e'.slots k).state ≡ true → is_finished (e.slots k).state ≡ true)
    → ((k : ℕ) → t k ≡ false) → (k : ℕ) → reports (finished_at e) t e' k ≡ true → s.reported k ≡ false
quiet_once e e' t s h n k r = go (is_finished (e'.slots k).state) refl
  where
    go : (b : Bool) → is_finished (e'.slots k).state ≡ b → s.reported k ≡ false
    go true q = wrong (reports (finished_at e) t e' k) r
        (ap (λ (b : Bool). (b && not (is_finished (e.slots k).state)) || t k) q ∙ ap (λ (b : Bool). not b || t k) (h k q) ∙ n k)
    go false q = wrong (reports (finished_at e) t e' k) r (ap (λ (b : Bool). (b && not (is_finished (e.slots k).state)) || t k) q ∙ n k)

-- a report is of a command that was not reported
first_report : (e e' : Engine) (t : ℕ → Bool) (s : Serving) → ((k : ℕ) → s.reported k ≡ is_finished (e.slots k).state) → ((k : ℕ) → t k ≡ true → is_finished (e.slots k).state ≡ false)
    → (k : ℕ) → reports (finished_at e) t e' k ≡ true → s.reported k ≡ false
first_report e e' t s told o k r = told k ∙ go (is_finished (e.slots k).state) refl (t k) refl
  where
    go : (f : Bool) → is_finished (e.slots k).state ≡ f → (b : Bool) → t k ≡ b → is_finished (e.slots k).state ≡ false
    go false q b u = q
    go true q true u = o k u
    go true q false u =
        wrong (reports (finished_at e) t e' k) r
        (ap (λ (b : Bool). (is_finished (e'.slots k).state && not b) || t k) q ∙ ap (λ (b : Bool). (is_finished (e'.slots k).state && false) || b) u ∙ none (is_finished (e'.slots k).state))
      where
        none : (f : Bool) → ((f && false) || false) ≡ false
        none true = refl
        none false = refl

---- step and run

pub step_calls : (w : World) (s : Serving) → Inv w s → (r : Result Answer ℕ) (w' : World) → Steps w r w' → Called (step r) w w' s
step_calls w s i r w' d = go (fits w) refl d
  where
    go : (b : Bool) → fits w ≡ b → When b ((a : Answer) × (r ≡ Ok a) × Row w a w') ((r ≡ Err 8) × (w' ≡ w)) → Called (step r) w w' s
    go true q (a, e, u) = subst (λ (z : Result Answer ℕ). Called (step z) w w' s) (sym e)
        (let f = row_keeps w s i.core (eqb-true _ _ q) a w' u in
        record { inv = after_inv w a w' s i f; answered = tt; once = first_report w.engine w'.engine (names a) s i.told f.turn.once })
    go false q (e, u) = subst (λ (z : Result Answer ℕ). Called (step z) w w' s) (sym e) (subst (λ (v : World). Called (step (Err 8)) w v s) (sym u)
        (record { inv = quiet_inv w.engine _ w s (λ k h. h) (λ k. refl) i; answered = tt; once = quiet_once w.engine w.engine _ s (λ k h. h) (λ k. refl) }))

unnamed : (a : Answer) → ends a ≡ false → (k : ℕ) → names a k ≡ false
unnamed a h k = go (end_by a) h
  where
    go : (d : End) → is_end d ≡ false → end_names d k ≡ false
    go End.Spent h = refl
    go (End.Finished j) h = wrong true refl h
    go (End.Fault f) h = wrong true refl h

-- a row that ends nothing serves nothing
quiet_step : (w : World) (a : Answer) (w₁ : World) (s : Serving) → Inv w s → After w a w₁ s → ends a ≡ false → Inv w₁ s
quiet_step w a w₁ s i f q =
    let same : s ≡ f.served = sym (none_served 16 _ s (λ k. ap (λ (b : Bool). b && is_done (w₁.engine.slots k).state)
    (ap (λ (b : Bool). (b && not (is_finished (w.engine.slots k).state)) || names a k) (f.turn.quiet q k) ∙ never (is_finished (w.engine.slots k).state) (names a k) (unnamed a q k)))) ∙ f.serves_so in
    record { core = subst (Core w₁) (sym same) f.core; told = λ k. i.told k ∙ sym (f.turn.quiet q k) }

-- a run: rows that end nothing report nothing, and the last one's reports are the run's
passes_keep : (n : ℕ) (w : World) (s : Serving) → Inv w s → length w.memory ≡ w.engine.size → (made : ℕ) (end : End) (w' : World) → Passes n w made end w'
    → Inv w' (hears_reports (finished_at w.engine) (end_names end) w'.engine s) × ((k : ℕ) → end_names end k ≡ true → is_finished (w.engine.slots k).state ≡ false)
passes_keep zero w s i fit made end w' (m, e, x, y, z) =
    let u : w' ≡ w = λ j. record { engine = x j; bus = y j; memory = z j } in
    subst (λ (z : End). Inv w' (hears_reports (finished_at w.engine) (end_names z) w'.engine s) × ((k : ℕ) → end_names z k ≡ true → is_finished (w.engine.slots k).state ≡ false)) (sym e)
    (subst (λ (v : World). Inv v (hears_reports (finished_at w.engine) (λ k. false) v.engine s)) (sym u) (quiet_inv w.engine _ w s (λ k h. h) (λ k. refl) i), λ k h. wrong false h refl)
passes_keep (suc n) w s i fit made end w' (a, e₁, b₁, m₁, r, d) =
    let f = row_keeps w s i.core fit a w₁ r in
    go f (ends a) refl (λ i₁ fit₁ m p. passes_keep n w₁ s i₁ fit₁ m end w' p) d
  where
    w₁ : World
    w₁ = record { engine = e₁; bus = b₁; memory = m₁ }

    go : After w a w₁ s → (b : Bool) → ends a ≡ b
        → (Inv w₁ s → length w₁.memory ≡ w₁.engine.size → (m : ℕ) → Passes n w₁ m end w'
        → Inv w' (hears_reports (finished_at w₁.engine) (end_names end) w'.engine s) × ((k : ℕ) → end_names end k ≡ true → is_finished (w₁.engine.slots k).state ≡ false))
        → When b ((made ≡ 1) × (end ≡ end_by a) × (w'.engine ≡ e₁) × (w'.bus ≡ b₁) × (w'.memory ≡ m₁)) ((m : ℕ) × (made ≡ suc m) × Passes n w₁ m end w')
        → Inv w' (hears_reports (finished_at w.engine) (end_names end) w'.engine s) × ((k : ℕ) → end_names end k ≡ true → is_finished (w.engine.slots k).state ≡ false)
    go f true q ih (m, e, x, y, z) =
        let u : w' ≡ w₁ = λ j. record { engine = x j; bus = y j; memory = z j } in
        subst (λ (z : End). Inv w' (hears_reports (finished_at w.engine) (end_names z) w'.engine s) × ((k : ℕ) → end_names z k ≡ true → is_finished (w.engine.slots k).state ≡ false)) (sym e)
        (subst (λ (v : World). Inv v (hears_reports (finished_at w.engine) (names a) v.engine s)) (sym u) (after_inv w a w₁ s i f), f.turn.once)
    go f false q ih (m, e, u) =
        let same : finished_at w₁.engine ≡ finished_at w.engine = fun_ext (λ k. f.turn.quiet q k) in
        let p = ih (quiet_step w a w₁ s i f q) (f.sized.0 ∙ fit ∙ sym f.sized.1) m u in
        (subst (λ (g : ℕ → Bool). Inv w' (hears_reports g (end_names end) w'.engine s)) same p.0, λ k h. sym (f.turn.quiet q k) ∙ p.1 k h)

pub run_calls : (w : World) (s : Serving) → Inv w s → (n made : ℕ) (r : Result End ℕ) (w' : World) → Run w n made r w' → Called (run n made r) w w' s
run_calls w s i n made r w' d = go (fits w) refl d
  where
    go : (b : Bool) → fits w ≡ b → When b ((end : End) × (r ≡ Ok end) × Passes n w made end w') ((made ≡ 0) × (r ≡ Err 8) × (w' ≡ w)) → Called (run n made r) w w' s
    go true q (end, e, u) = subst (λ (z : Result End ℕ). Called (run n made z) w w' s) (sym e)
        (let p = passes_keep n w s i (eqb-true _ _ q) made end w' u in
        record { inv = p.0; answered = tt; once = first_report w.engine w'.engine (end_names end) s i.told p.1 })
    go false q (m, e, u) = subst (λ (z : Result End ℕ). Called (run n made z) w w' s) (sym e) (subst (λ (v : World). Called (run n made (Err 8)) w v s) (sym u)
        (record { inv = quiet_inv w.engine _ w s (λ k h. h) (λ k. refl) i; answered = tt; once = quiet_once w.engine w.engine _ s (λ k h. h) (λ k. refl) }))

---- reset

reset_core : (w : World) (s : Serving) → Core w s → (w' : World) → Resets w w' → Core w' s
reset_core w s c w' d =
    record {
      order = i.order;
      shows = i.shows;
      laws = subst (λ (z : Cable). Owed z.shelf.kind) (sym i.rule) c.laws;
      shelf = ap (λ (z : Cable). z.shelf) i.rule ∙ c.shelf;
      book = subst (λ (e : Engine). Book e s) (sym d.engine)
          (book_keeps w.engine (reset_engine w.engine) s refl refl
          (λ j. reset_at (λ (y : Entry). in_use y.state ≡ in_use (w.engine.slots j).state) open_or_waiting (w.engine.slots j) (λ h. sym (busy_used _ h)) (λ _. refl))
          (λ j. reset_at (λ (y : Entry). y.command ≡ (w.engine.slots j).command) open_or_waiting (w.engine.slots j) (λ _. refl) (λ _. refl))
          (λ j. nobody j ∙ sym (reset_at (λ (y : Entry). is_waiting y.state ≡ false) open_or_waiting (w.engine.slots j) (λ _. refl) (λ h. still_waiting _ h)))
          c.book);
      ties = subst (λ (e : Engine). Ties e w'.bus.cable w'.memory s) (sym d.engine) (subst (λ (m : List ℕ). Ties (reset_engine w.engine) w'.bus.cable m s) (sym d.memory)
          (clear_ties (reset_engine w.engine) w.bus.cable w'.bus.cable w.memory s i.rule refl
          (λ j. reset_at (λ (y : Entry). is_open y.state ≡ false) open_or_waiting (w.engine.slots j) (λ _. refl) (λ h. still_open _ h))
          (λ j. reset_at (λ (y : Entry). Settled y.state y w.memory (s.kept j) (s.results j)) open_or_waiting (w.engine.slots j) (λ _. tt) (λ _. c.ties.settled j))));
    }
  where
    i : InOrder w.bus Call.reset d.reply w'.bus
    i = granted d.bus c.order refl

pub reset_calls : (w : World) (s : Serving) → Inv w s → (w' : World) → Resets w w' → Called reset w w' s
reset_calls w s i w' d =
    let p = reports (finished_at w.engine) (λ k. false) w'.engine in
    let sv : serves_all 16 (reports_done (finished_at w.engine) (λ k. false) w'.engine) s ≡ s = none_served 16 _ s undone in
    record {
      inv = subst (λ (z : Serving). Inv w' (marks p z)) (sym sv) (record { core = marked w' s p (reset_core w s i.core w' d); told = told_now });
      answered = tt;
      once = first_report w.engine w'.engine (λ k. false) s i.told (λ k h. wrong false h refl);
    }
  where
    at : (P : Entry → Type 0) (k : ℕ) → P (reset_where open_or_waiting (w.engine.slots k)) → P (w'.engine.slots k)
    at P k h = subst (λ (e : Engine). P (e.slots k)) (sym d.engine) h

    undone : (k : ℕ) → reports_done (finished_at w.engine) (λ k. false) w'.engine k ≡ false
    undone k = at (λ (y : Entry). (((is_finished y.state && not (is_finished (w.engine.slots k).state)) || false) && is_done y.state) ≡ false) k
        (reset_at (λ (y : Entry). (((is_finished y.state && not (is_finished (w.engine.slots k).state)) || false) && is_done y.state) ≡ false) open_or_waiting (w.engine.slots k)
        (λ _. and-false ((true && not (is_finished (w.engine.slots k).state)) || false))
        (λ _. ap (λ (b : Bool). b && is_done (w.engine.slots k).state) (never (is_finished (w.engine.slots k).state) false refl)))

    told_now : (k : ℕ) → (reports (finished_at w.engine) (λ k. false) w'.engine k || s.reported k) ≡ is_finished (w'.engine.slots k).state
    told_now k = at (λ (y : Entry). (((is_finished y.state && not (is_finished (w.engine.slots k).state)) || false) || s.reported k) ≡ is_finished y.state) k
        (reset_at (λ (y : Entry). (((is_finished y.state && not (is_finished (w.engine.slots k).state)) || false) || s.reported k) ≡ is_finished y.state) open_or_waiting (w.engine.slots k)
        (λ h. ap (λ (b : Bool). ((true && not b) || false) || s.reported k) (busy_unfinished _ h))
        (λ _. ap (λ (b : Bool). b || s.reported k) (never (is_finished (w.engine.slots k).state) false refl) ∙ i.told k))

---- the owner's write

underway_written : (sh : Model) (f : Name → Option Nexus) (m m' : List ℕ) (x : Entry) (p : ℕ → ℕ) (y : Nexus) → Agrees m m' x.command → Underway sh f m x p y → Underway sh f m' x p y
underway_written sh f m m' x p y g h =
    record {
      command = h.command;
      status = h.status;
      place_on = h.place_on;
      place_away = h.place_away;
      saved = h.saved;
      low = h.low;
      unsent = h.unsent;
      out = h.out;
      fetched = λ d w i l u. g i u ∙ h.fetched d w i l u;
      untouched = λ i l n. g i l ∙ h.untouched i l n;
      closing = h.closing;
    }

pub write_calls : (w : World) (s : Serving) → Inv w s → (w' : World) → Writes w w' → Called owner w w' s
write_calls w s i w' d =
    record {
      inv = quiet_inv w.engine (λ k. false) w' s (λ k h. ap (λ (e : Engine). is_finished (e.slots k).state) (sym d.engine) ∙ h) (λ k. refl)
          (record { core = core'; told = λ k. i.told k ∙ ap (λ (e : Engine). is_finished (e.slots k).state) (sym d.engine) });
      answered = tt;
      once = quiet_once w.engine w'.engine (λ k. false) s (λ k h. ap (λ (e : Engine). is_finished (e.slots k).state) (sym d.engine) ∙ h) (λ k. refl);
    }
  where
    c : Core w s
    c = i.core

    t : Ties w.engine w.bus.cable w.memory s
    t = c.ties

    ties' : Ties w.engine w.bus.cable w'.memory s
    ties' =
        record {
          line = t.line;
          begun = t.begun;
          connected = t.connected;
          holding = t.holding;
          nexus = λ k o. let h = t.nexus k o in
              record { nexus = h.nexus; here = h.here; underway = underway_written _ _ w.memory w'.memory (w.engine.slots k) _ h.nexus (λ j l. d.kept k j (open_used _ o) l) h.underway };
          owned = t.owned;
          units = t.units;
          settled = λ k. settled_on (w.engine.slots k).state (w.engine.slots k) w.memory w'.memory _ _ (λ u j l. d.kept k j u l) (t.settled k);
        }

    core' : Core w' s
    core' =
        record {
          order = ap (λ (b : BusState). b.order) d.bus ∙ c.order;
          shows = subst Shows (sym d.bus) c.shows;
          laws = subst (λ (b : BusState). Owed b.cable.shelf.kind) (sym d.bus) c.laws;
          shelf = ap (λ (b : BusState). b.cable.shelf) d.bus ∙ c.shelf;
          book = subst (λ (e : Engine). Book e s) (sym d.engine) c.book;
          ties = subst (λ (e : Engine). Ties e w'.bus.cable w'.memory s) (sym d.engine) (subst (λ (b : BusState). Ties w.engine b.cable w'.memory s) (sym d.bus) ties');
        }

---- submit and collect: one slot that is not open gives way to another

module _ (e : Engine) (c : Cable) (m : List ℕ) (s s' : Serving) (k : ℕ) (x : Entry) (fr wt : List ℕ) where
  abbrev swapped : Engine
  swapped = record { slots = put_slot k x e.slots; free = fr; waiting = wt; line = e.line; size = e.size }

  pub reslot : Ties e c m s → is_open (e.slots k).state ≡ false → is_open x.state ≡ false
      → ((j : ℕ) → (j ≡ k → ⊥) → s'.kept j ≡ s.kept j) → ((j : ℕ) → (j ≡ k → ⊥) → s'.results j ≡ s.results j)
      → Settled x.state x m (s'.kept k) (s'.results k) → Ties swapped c m s'
  reslot t was now kp rs st =
      record {
        line = t.line ∙ same_line e.line refl;
        begun = t.begun;
        connected = put_cases (λ (j : ℕ) (y : Entry). y.state ≡ Connected → (bs : List ℕ) × (e.line ≡ held j bs)) k x e.slots (λ q. wrong (is_open x.state) (ap is_open q) now) (λ j ne. t.connected j);
        holding = λ j bs q. let h = t.holding j bs q in ap (λ (y : Entry). y.state) (there j (ap is_open h)) ∙ h;
        nexus = put_cases (λ (j : ℕ) (y : Entry). is_open y.state ≡ true → HasNexus c m j y (s'.kept j).bytes) k x e.slots (λ q. wrong (is_open x.state) q now)
            (λ j ne q. subst (λ (p : Kept). HasNexus c m j (e.slots j) p.bytes) (sym (kp j ne)) (t.nexus j q));
        owned = λ n y h. let o = t.owned n y h in (o.0, ap (λ (y : Entry). is_open y.state) (there o.0 o.1) ∙ o.1, ap (λ (y : Entry). name_for o.0 y.command) (there o.0 o.1) ∙ o.2);
        units = λ i j. put_cases (λ (a : ℕ) (y : Entry). is_open y.state ≡ true → is_open (swapped.slots j).state ≡ true → (a ≡ j → ⊥)
            → same_unit y.command (swapped.slots j).command ≡ true → (tagged y.command.manner ≡ true) × (tagged (swapped.slots j).command.manner ≡ true)) k x e.slots
            (λ p. wrong (is_open x.state) p now)
            (λ a na. put_cases (λ (b : ℕ) (z : Entry). is_open (e.slots a).state ≡ true → is_open z.state ≡ true → (a ≡ b → ⊥)
            → same_unit (e.slots a).command z.command ≡ true → (tagged (e.slots a).command.manner ≡ true) × (tagged z.command.manner ≡ true)) k x e.slots
            (λ p r. wrong (is_open x.state) r now) (λ b nb. t.units a b) j) i;
        settled = put_cases (λ (j : ℕ) (y : Entry). Settled y.state y m (s'.kept j) (s'.results j)) k x e.slots st
            (λ j ne. subst (λ (p : Kept). Settled (e.slots j).state (e.slots j) m p (s'.results j)) (sym (kp j ne))
            (subst (λ (r : Served). Settled (e.slots j).state (e.slots j) m (s.kept j) r) (sym (rs j ne)) (t.settled j)));
      }
    where
      there : (j : ℕ) → is_open (e.slots j).state ≡ true → put_slot k x e.slots j ≡ e.slots j
      there j o = put_there j k x (e.slots j) (λ q. wrong (is_open (e.slots j).state) o (ap (λ (i : ℕ). is_open (e.slots i).state) q ∙ was))

      same_line : (l : Line) → e.line ≡ l → line_means e l ≡ line_means swapped l
      same_line idle q = refl
      same_line (greeted t) q = refl
      same_line (named t l) q = refl
      same_line (tag_due t l) q = refl
      same_line (held j bs) q = ap (λ (y : Entry). BusLine.held (name_for j y.command)) (sym (there j (ap is_open (t.holding j bs q))))

---- collect

-- nothing happened
pub refused_call : (w : World) (s : Serving) → Inv w s → Inv w (hears_reports (finished_at w.engine) (λ k. false) w.engine s)
refused_call w s i = quiet_inv w.engine (λ k. false) w s (λ k h. h) (λ k. refl) i

pub collect_calls : (w : World) (s : Serving) → Inv w s → (k : ℕ) (a : Result Collected ℕ) (w' : World) → Collects w k a w' → Called (collect k a) w w' s
collect_calls w s i k a w' d = go (w.engine.slots k).state refl d.answer d.after
  where
    b : Book w.engine s
    b = i.core.book

    gone : Entry
    gone = with_state Free (w.engine.slots k)

    same : a ≡ Err 9 → w' ≡ w → Called (collect k a) w w' s
    same p q = subst (λ (z : Result Collected ℕ). Called (collect k z) w w' s) (sym p) (subst (λ (v : World). Called (collect k (Err 9)) w v s) (sym q)
        (record { inv = refused_call w s i; answered = tt; once = quiet_once w.engine w.engine _ s (λ k h. h) (λ k. refl) }))

    e' : Engine
    e' = record { slots = put_slot k gone w.engine.slots; free = k ∷ w.engine.free; waiting = w.engine.waiting; line = w.engine.line; size = w.engine.size }

    w'' : World
    w'' = record { engine = e'; bus = w.bus; memory = w.memory }

    fin : (o : Outcome) → (w.engine.slots k).state ≡ Finished o → (j : ℕ) → is_finished (e'.slots j).state ≡ true → is_finished (w.engine.slots j).state ≡ true
    fin o q = put_cases (λ (j : ℕ) (y : Entry). is_finished y.state ≡ true → is_finished (w.engine.slots j).state ≡ true) k gone w.engine.slots (λ _. ap is_finished q) (λ j ne h. h)

    book' : (o : Outcome) → (w.engine.slots k).state ≡ Finished o → Book e' (lets_go k s)
    book' o q =
        record {
          range = put_cases (λ (j : ℕ) (y : Entry). in_use y.state ≡ true → numbered j ≡ true) k gone w.engine.slots (λ h. wrong false h refl) (λ j ne. b.range j);
          free_chain = put_cases (λ (j : ℕ) (y : Entry). stands_on j (k ∷ w.engine.free) ≡ (numbered j && not (in_use y.state))) k gone w.engine.slots
              (stands_cons k k w.engine.free ∙ ap (λ (t : Bool). t || stands_on k w.engine.free) (eq-eqb k k refl) ∙ sym (ap (λ (t : Bool). t && true) (b.range k (ap in_use q))))
              (λ j ne. stands_cons j k w.engine.free ∙ ap (λ (t : Bool). t || stands_on j w.engine.free) (ne_eqb j k ne) ∙ b.free_chain j);
          free_once = (b.free_chain k ∙ ap (λ (t : State). numbered k && not (in_use t)) q ∙ and-false (numbered k), b.free_once);
          waiting_chain = put_cases (λ (j : ℕ) (y : Entry). stands_on j w.engine.waiting ≡ is_waiting y.state) k gone w.engine.slots (b.waiting_chain k ∙ ap is_waiting q) (λ j ne. b.waiting_chain j);
          kept = put_cases (λ (j : ℕ) (y : Entry). in_use y.state ≡ true → (s.kept j).command ≡ y.command) k gone w.engine.slots (λ h. wrong false h refl) (λ j ne. b.kept j);
          counted = let num = and_parts (leb 1 k) (leb k 16) (b.range k (ap in_use q)) in
              let one : in_use_count w.engine ≡ suc (in_use_count e') = tally_one 16 (λ j. in_use (e'.slots j).state) (λ j. in_use (w.engine.slots j).state) k (leb-true 1 k num.0) (leb-true k 16 num.1)
              (ap (λ (y : Entry). in_use y.state) (put_here k gone (w.engine.slots k))) (ap in_use q)
              (λ j ne. ap (λ (y : Entry). in_use y.state) (put_there j k gone (w.engine.slots j) ne)) in
              omega (arith, b.counted, one);
          well = put_cases (λ (j : ℕ) (y : Entry). in_use y.state ≡ true → well_sized y.command.bytes ≡ true) k gone w.engine.slots (λ h. wrong false h refl) (λ j ne. b.well j);
          lun_small = put_cases (λ (j : ℕ) (y : Entry). in_use y.state ≡ true → y.command.lun < 8) k gone w.engine.slots (λ h. wrong false h refl) (λ j ne. b.lun_small j);
          inside = put_cases (λ (j : ℕ) (y : Entry). in_use y.state ≡ true → y.command.base + y.command.length ≤ w.engine.size) k gone w.engine.slots (λ h. wrong false h refl) (λ j ne. b.inside j);
          apart = λ i j. put_cases (λ (u : ℕ) (y : Entry). in_use y.state ≡ true → in_use (e'.slots j).state ≡ true → (u ≡ j → ⊥) → is_in y.command.direction ≡ true → Apart y.command (e'.slots j).command) k gone w.engine.slots
              (λ h. wrong false h refl)
              (λ u nu. put_cases (λ (v : ℕ) (z : Entry). in_use (w.engine.slots u).state ≡ true → in_use z.state ≡ true → (u ≡ v → ⊥) → is_in (w.engine.slots u).command.direction ≡ true → Apart (w.engine.slots u).command z.command) k gone w.engine.slots
              (λ _ h. wrong false h refl) (λ v nv. b.apart u v) j) i;
        }

    done_part : (o : Outcome) → Ended o (w.engine.slots k) w.memory (s.kept k) (s.results k) → o ≡ Done → ((w.engine.slots k).status ≡ Some (s.results k).status) × ((w.engine.slots k).current ≡ (s.results k).count)
    done_part o h z = let g : AsServed (w.engine.slots k) w.memory (s.kept k) (s.results k) = subst (λ (v : Outcome). Ended v (w.engine.slots k) w.memory (s.kept k) (s.results k)) z h in (g.status, g.count)

    granted_one : (o : Outcome) → (w.engine.slots k).state ≡ Finished o → Called (collect k (Ok (record { outcome = o; status = (w.engine.slots k).status; count = (w.engine.slots k).current }))) w w'' s
    granted_one o q =
        record {
          inv = quiet_inv w.engine (λ k. false) w'' (lets_go k s) (fin o q) (λ k. refl)
              (record {
                core = record {
                  order = i.core.order;
                  shows = i.core.shows;
                  laws = i.core.laws;
                  shelf = i.core.shelf;
                  book = book' o q;
                  ties = reslot w.engine w.bus.cable w.memory s (lets_go k s) k gone (k ∷ w.engine.free) w.engine.waiting i.core.ties (ap is_open q) refl (λ j ne. refl) (λ j ne. refl) tt;
                };
                told = put_cases (λ (j : ℕ) (y : Entry). at_number k false s.reported j ≡ is_finished y.state) k gone w.engine.slots
                    (put_here k false (s.reported k)) (λ j ne. put_there j k false (s.reported j) ne ∙ i.told j);
              });
          answered = done_part o (subst (λ (t : State). Settled t (w.engine.slots k) w.memory (s.kept k) (s.results k)) q (i.core.ties.settled k));
          once = quiet_once w.engine e' _ s (fin o q) (λ j. refl);
        }

    go : (t : State) → (w.engine.slots k).state ≡ t → a ≡ collect_answer t (w.engine.slots k) → w' ≡ record { engine = collect_engine t k w.engine; bus = w.bus; memory = w.memory } → Called (collect k a) w w' s
    go Free q p r = same p r
    go Waiting q p r = same p r
    go Connected q p r = same p r
    go Away q p r = same p r
    go (Finished o) q p r = subst (λ (z : Result Collected ℕ). Called (collect k z) w w' s) (sym p)
        (subst (λ (v : World). Called (collect k (Ok (record { outcome = o; status = (w.engine.slots k).status; count = (w.engine.slots k).current }))) w v s) (sym r) (granted_one o q))
