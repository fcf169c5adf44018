-- Soundness over every list of calls, on every bus. Assumes nothing.
use Rattle.std.proofs.Common.{◌≡◌, ℕ, zero, suc, Bool, true, false, not, ◌&&◌, ◌||◌, List, [], ◌∷◌, ◌++◌, length, get_or, set, Some, None, Ok, Err, Option, sym, refl, ap, ◌∙◌, subst, length-set, get_or-set_other}
use Rattle.std.proofs.Math.Bool.{and-false, or-false, or-true}
use Rattle.std.proofs.lemmas.Bool.{and_parts, eq-eqb, ne_eqb, not-true}
use Rattle.bus.specs.State.{BusState}
use Rattle.slots.specs.declared.slot.State.{State}
use Rattle.slots.specs.declared.slot.State.TheVariants.{Free, Waiting, Connected, Away, Finished}
use Rattle.slots.specs.declared.answer.Answer.{Answer}
use Rattle.slots.specs.declared.answer.End.{End}
use Rattle.table.specs.Engine.{JustMade, Command, Entry, Engine, in_use, is_waiting, is_finished, is_in, is_out, numbered, stands_on, with_state}
use Rattle.table.specs.Script.{Script, return, look, ask, read, write, World, Runs}
use Rattle.table.specs.Table.{step as table_step}
use Rattle.table.specs.Calls.{end_by, Request, command_asked, earlier_refusal, just_accepted, taken_in, submit_engine, put_back, collect_engine, open_or_waiting, reset_engine, When, Row, fits, ends, Passes, Event, submit, step, run, collect, reset, owner, Does, at_end}
use Rattle.table.specs.Sound.{Once, Sound, SoundOnEveryBus}
use Rattle.table.specs.Regions.{InRegion, Within, SameRegions, OnlyInside, StepWritesInside, RunWritesInside}
use Rattle.table.proofs.Basics.{wrong, put_cases, put_there, nobody, stands_cons, stands_append, once_append}
use Rattle.table.proofs.States.{free_is, busy_used, still_waiting, reset_at, idle_unheld}
use Rattle.table.proofs.Theorem.{numbers, all_once}
use Rattle.table.proofs.Regions.{keeps_to_regions}
use Rattle.table.proofs.Isolated.{in_same}

-- what a script leaves
module _ (R W : ℕ → Type 0) (E : Engine → Type 0) (a : Answer) (w : World) where
  leaves : (p : Script) → Within R W E p → (b : BusState) (m : List ℕ) → Runs p b m a w → E w.engine
  leaves (return c e) h b m r = subst E (sym r.1) h
  leaves (look f) h b m r = leaves (f b.shown) (h b.shown) b m r
  leaves (ask c f) h b m r = leaves (f r.0) (h r.0) r.1 m r.3
  leaves (read x f) h b m r = leaves (f (get_or m x 0)) (h.1 (get_or m x 0)) b m r
  leaves (write x v p) h b m r = leaves p h.1 b (set m x v) r

  untouched : (p : Script) → Within R W E p → (b : BusState) (m : List ℕ) → Runs p b m a w → (i : ℕ) → (W i → ⊥) → get_or w.memory i 0 ≡ get_or m i 0
  untouched (return c e) h b m r i n = ap (λ (l : List ℕ). get_or l i 0) r.3
  untouched (look f) h b m r i n = untouched (f b.shown) (h b.shown) b m r i n
  untouched (ask c f) h b m r i n = untouched (f r.0) (h r.0) r.1 m r.3 i n
  untouched (read x f) h b m r i n = untouched (f (get_or m x 0)) (h.1 (get_or m x 0)) b m r i n
  untouched (write x v p) h b m r i n = untouched p h.1 b (set m x v) r i n ∙ get_or-set_other m x i v 0 (λ e. n (subst W (sym e) h.0))

  as_long : (p : Script) → (b : BusState) (m : List ℕ) → Runs p b m a w → length w.memory ≡ length m
  as_long (return c e) b m r = ap length r.3
  as_long (look f) b m r = as_long (f b.shown) b m r
  as_long (ask c f) b m r = as_long (f r.0) r.1 m r.3
  as_long (read x f) b m r = as_long (f (get_or m x 0)) b m r
  as_long (write x v p) b m r = as_long p b (set m x v) r ∙ length-set m x v

pub step_writes_inside : StepWritesInside
step_writes_inside w o a w' r =
    record {
      long = as_long (InRegion is_out w.engine) (InRegion is_in w.engine) Sound a w' (table_step w.engine) w.bus w.memory r;
      kept = untouched (InRegion is_out w.engine) (InRegion is_in w.engine) (λ e'. Sound e' × SameRegions w.engine e') a w' (table_step w.engine) (keeps_to_regions w.engine o) w.bus w.memory r;
    }

-- a row leaves a sound engine with the same regions
pub row_sound : (w : World) → Sound w.engine → (a : Answer) (w' : World) → Row w a w' → Sound w'.engine × SameRegions w.engine w'.engine
row_sound w o a w' r = leaves (InRegion is_out w.engine) (InRegion is_in w.engine) (λ e'. Sound e' × SameRegions w.engine e') a w' (table_step w.engine) (keeps_to_regions w.engine o) w.bus w.memory r

passes_sound : (n : ℕ) (w : World) → Sound w.engine → (made : ℕ) (end : End) (w' : World) → Passes n w made end w' → Sound w'.engine
passes_sound zero w o made end w' r = subst Sound (sym r.2) o
passes_sound (suc n) w o made end w' (a, e₁, b₁, m₁, r, d) = go (ends a) (λ m p. passes_sound n w₁ (row_sound w o a w₁ r).0 m end w' p) d
  where
    w₁ : World
    w₁ = record { engine = e₁; bus = b₁; memory = m₁ }

    go : (b : Bool) → ((m : ℕ) → Passes n w₁ m end w' → Sound w'.engine) → When b ((made ≡ 1) × (end ≡ end_by a) × (w'.engine ≡ e₁) × (w'.bus ≡ b₁) × (w'.memory ≡ m₁)) ((m : ℕ) × (made ≡ suc m) × Passes n w₁ m end w') → Sound w'.engine
    go true ih h = subst Sound (sym h.2) (row_sound w o a w₁ r).0
    go false ih (m, e, p) = ih m p

inside_on : (e e₁ : Engine) (m m₁ m₂ : List ℕ) → SameRegions e e₁ → OnlyInside e m m₁ → OnlyInside e₁ m₁ m₂ → OnlyInside e m m₂
inside_on e e₁ m m₁ m₂ s h g = record { long = g.long ∙ h.long; kept = λ i n. g.kept i (λ q. n (in_same is_in e e₁ s i q)) ∙ h.kept i n }

pub run_writes_inside : RunWritesInside
run_writes_inside zero w o made end w' r = record { long = ap length r.4; kept = λ i n. ap (λ (l : List ℕ). get_or l i 0) r.4 }
run_writes_inside (suc n) w o made end w' (a, e₁, b₁, m₁, r, d) = go (ends a) (λ m p. run_writes_inside n w₁ (row_sound w o a w₁ r).0 m end w' p) d
  where
    w₁ : World
    w₁ = record { engine = e₁; bus = b₁; memory = m₁ }

    go : (b : Bool) → ((m : ℕ) → Passes n w₁ m end w' → OnlyInside w₁.engine w₁.memory w'.memory)
        → When b ((made ≡ 1) × (end ≡ end_by a) × (w'.engine ≡ e₁) × (w'.bus ≡ b₁) × (w'.memory ≡ m₁)) ((m : ℕ) × (made ≡ suc m) × Passes n w₁ m end w') → OnlyInside w.engine w.memory w'.memory
    go true ih h = subst (OnlyInside w.engine w.memory) (sym h.4) (step_writes_inside w o a w₁ r)
    go false ih (m, e, p) = inside_on w.engine w₁.engine w.memory w₁.memory w'.memory (row_sound w o a w₁ r).1 (step_writes_inside w o a w₁ r) (ih m p)

module _ (e : Engine) (o : Sound e) where
  pub taken_sound : (c : Command) (f : List ℕ) → e.free ≡ f → Sound (taken_in c f e)
  taken_sound c [] q = o
  taken_sound c (k ∷ ks) q =
      record {
        range = put_cases (λ (j : ℕ) (y : Entry). in_use y.state ≡ true → numbered j ≡ true) k (just_accepted c) e.slots (λ _. on.0) (λ j ne. o.range j);
        free_chain = put_cases (λ (j : ℕ) (y : Entry). stands_on j ks ≡ (numbered j && not (in_use y.state))) k (just_accepted c) e.slots (once.0 ∙ sym (and-false (numbered k)))
            (λ j ne. sym (ap (stands_on j) q ∙ stands_cons j k ks ∙ ap (λ (t : Bool). t || stands_on j ks) (ne_eqb j k ne)) ∙ o.free_chain j);
        free_once = once.1;
        waiting_chain = put_cases (λ (j : ℕ) (y : Entry). stands_on j (e.waiting ++ k ∷ []) ≡ is_waiting y.state) k (just_accepted c) e.slots
            (stands_append k k e.waiting ∙ ap (λ (t : Bool). stands_on k e.waiting || t) (eq-eqb k k refl) ∙ or-true (stands_on k e.waiting))
            (λ j ne. stands_append j k e.waiting ∙ ap (λ (t : Bool). stands_on j e.waiting || t) (ne_eqb j k ne) ∙ or-false (stands_on j e.waiting) ∙ o.waiting_chain j);
        waiting_once = once_append k e.waiting o.waiting_once (o.waiting_chain k ∙ ap is_waiting (free_is _ on.1));
        holding = λ j bs r. let h = o.holding j bs r in
            ap (λ (y : Entry). y.state) (put_there j k (just_accepted c) (e.slots j) (λ z. wrong (in_use (e.slots j).state) (ap in_use h) (ap (λ (i : ℕ). in_use (e.slots i).state) z ∙ on.1))) ∙ h;
      }
    where
      on : (numbered k ≡ true) × (in_use (e.slots k).state ≡ false)
      on = let p = and_parts (numbered k) (not (in_use (e.slots k).state)) (sym (o.free_chain k) ∙ ap (stands_on k) q ∙ stands_cons k k ks ∙ ap (λ (t : Bool). t || stands_on k ks) (eq-eqb k k refl)) in (p.0, not-true _ p.1)

      once : (stands_on k ks ≡ false) × Once ks
      once = subst Once q o.free_once

  pub submit_sound : (p : Option ℕ) (r : Request) → Sound (submit_engine p r e)
  submit_sound (Some n) r = o
  submit_sound None r = taken_sound (command_asked r) e.free refl

  pub collect_sound : (k : ℕ) (t : State) → (e.slots k).state ≡ t → Sound (collect_engine t k e)
  collect_sound k Free q = o
  collect_sound k Waiting q = o
  collect_sound k Connected q = o
  collect_sound k Away q = o
  collect_sound k (Finished r) q =
      record {
        range = put_cases (λ (j : ℕ) (y : Entry). in_use y.state ≡ true → numbered j ≡ true) k (with_state Free (e.slots k)) e.slots (λ h. wrong false h refl) (λ j ne. o.range j);
        free_chain = put_cases (λ (j : ℕ) (y : Entry). stands_on j (k ∷ e.free) ≡ (numbered j && not (in_use y.state))) k (with_state Free (e.slots k)) e.slots
            (stands_cons k k e.free ∙ ap (λ (t : Bool). t || stands_on k e.free) (eq-eqb k k refl) ∙ sym (ap (λ (t : Bool). t && true) (o.range k (ap in_use q))))
            (λ j ne. stands_cons j k e.free ∙ ap (λ (t : Bool). t || stands_on j e.free) (ne_eqb j k ne) ∙ o.free_chain j);
        free_once = (o.free_chain k ∙ ap (λ (t : State). numbered k && not (in_use t)) q ∙ and-false (numbered k), o.free_once);
        waiting_chain = put_cases (λ (j : ℕ) (y : Entry). stands_on j e.waiting ≡ is_waiting y.state) k (with_state Free (e.slots k)) e.slots (o.waiting_chain k ∙ ap is_waiting q) (λ j ne. o.waiting_chain j);
        waiting_once = o.waiting_once;
        holding = λ j bs h. let s = o.holding j bs h in
            ap (λ (y : Entry). y.state) (put_there j k (with_state Free (e.slots k)) (e.slots j) (λ z. differ (sym s ∙ ap (λ (i : ℕ). (e.slots i).state) z ∙ q))) ∙ s;
      }
    where
      differ : Connected ≡ Finished r → ⊥
      differ h = cc

  -- a finished slot put back
  pub put_back_sound : (k : ℕ) → is_finished (e.slots k).state ≡ true → Sound (put_back k e)
  put_back_sound k h = subst Sound (is_put (e.slots k).state h) (collect_sound k (e.slots k).state refl)
    where
      is_put : (t : State) → is_finished t ≡ true → collect_engine t k e ≡ put_back k e
      is_put Free h = wrong false h refl
      is_put Waiting h = wrong false h refl
      is_put Connected h = wrong false h refl
      is_put Away h = wrong false h refl
      is_put (Finished o) h = refl

  pub reset_sound : Sound (reset_engine e)
  reset_sound =
      record {
        range = λ k. reset_at (λ (y : Entry). in_use y.state ≡ true → numbered k ≡ true) open_or_waiting (e.slots k) (λ h _. o.range k (busy_used _ h)) (λ _. o.range k);
        free_chain = λ k. reset_at (λ (y : Entry). stands_on k e.free ≡ (numbered k && not (in_use y.state))) open_or_waiting (e.slots k) (λ h. o.free_chain k ∙ ap (λ (t : Bool). numbered k && not t) (busy_used _ h)) (λ _. o.free_chain k);
        free_once = o.free_once;
        waiting_chain = λ k. nobody k ∙ sym (reset_at (λ (y : Entry). is_waiting y.state ≡ false) open_or_waiting (e.slots k) (λ _. refl) (λ h. still_waiting _ h));
        waiting_once = tt;
        holding = λ k bs h. absurd (idle_unheld k bs h);
      }

call_sound : (ev : Event) (w w' : World) → Sound w.engine → Does ev w w' → Sound w'.engine
call_sound (submit r a) w w' o d = subst (λ (v : World). Sound v.engine) (sym d.after) (submit_sound w.engine o (earlier_refusal w.engine r) r)
call_sound (step r) w w' o d = go (fits w) d
  where
    go : (b : Bool) → When b ((a : Answer) × (r ≡ Ok a) × Row w a w') ((r ≡ Err 8) × (w' ≡ w)) → Sound w'.engine
    go true (a, e, u) = (row_sound w o a w' u).0
    go false (e, u) = subst (λ (v : World). Sound v.engine) (sym u) o
call_sound (run n made r) w w' o d = go (fits w) d
  where
    go : (b : Bool) → When b ((end : End) × (r ≡ Ok end) × Passes n w made end w') ((made ≡ 0) × (r ≡ Err 8) × (w' ≡ w)) → Sound w'.engine
    go true (end, e, u) = passes_sound n w o made end w' u
    go false (m, e, u) = subst (λ (v : World). Sound v.engine) (sym u) o
call_sound (collect k a) w w' o d = subst (λ (v : World). Sound v.engine) (sym d.after) (collect_sound w.engine o k (w.engine.slots k).state refl)
call_sound reset w w' o d = subst Sound (sym d.engine) (reset_sound w.engine o)
call_sound owner w w' o d = subst Sound (sym d.engine) o

pub made_sound : (e : Engine) → JustMade e → Sound e
made_sound e h =
    record {
      range = λ k u. wrong (in_use (e.slots k).state) u (ap in_use (h.slots k));
      free_chain = λ k. ap (stands_on k) h.all_free ∙ numbers k ∙ ap (λ (t : State). numbered k && not (in_use t)) (sym (h.slots k));
      free_once = subst Once (sym h.all_free) all_once;
      waiting_chain = λ k. ap (stands_on k) h.waiting ∙ nobody k ∙ ap is_waiting (sym (h.slots k));
      waiting_once = subst Once (sym h.waiting) tt;
      holding = λ k bs q. absurd (idle_unheld k bs (sym h.line ∙ q));
    }

pub sound_on_every_bus : SoundOnEveryBus
sound_on_every_bus w h [] hs = made_sound w.engine h
sound_on_every_bus w h (s ∷ ss) hs = call_sound s.event (at_end w ss) s.after (sound_on_every_bus w h ss hs.0) hs.1
