-- Every list of calls keeps the guarantee. Assumes nothing.
use Rattle.std.proofs.Common.{◌≡◌, ℕ, zero, suc, ◌+◌, Bool, true, false, not, ◌&&◌, ◌||◌, eqb, leb, List, [], ◌∷◌, Some, None, sym, refl, ap, ◌∙◌, subst, arith}
use Rattle.shelf.specs.Serving.{Served}
use Rattle.bus.specs.State.{Line as BusLine}
use Rattle.bus.specs.Showing.{LineShows}
use Rattle.std.proofs.lemmas.Bool.Decides.{nat_tests}
use Rattle.slots.specs.declared.slot.State.{State}
use Rattle.table.specs.Engine.{all_numbers, in_use, is_open, is_finished, is_waiting, numbered, stands_on}
use Rattle.table.specs.Script.{World}
use Rattle.table.specs.Calls.{Event, submit, step, run, collect, reset, owner, Does, Step, at_end, History}
use Rattle.table.specs.Serving.{Kept, Serving, nothing_served, serving}
use Rattle.table.specs.Guarantee.{Begins, HoldsNow, Guarantee, EveryListKeeps, EveryCallIsLawful}
use Rattle.table.proofs.States.{idle_unheld}
use Rattle.table.proofs.Basics.{wrong, nobody, tally_none}
use Rattle.table.specs.Sound.{Once}
use Rattle.table.proofs.Invariant.{Settled, Inv, line_means, begun_means}
use Rattle.table.proofs.Callings.{Called, step_calls, run_calls, collect_calls, reset_calls, write_calls}
use Rattle.table.proofs.Submitting.{submit_calls}

-- what the invariant says at each moment
pub holds_now : (w : World) (s : Serving) → Inv w s → HoldsNow w s
holds_now w s i =
    record {
      shelf = i.core.shelf;
      done = λ k h. subst (λ (t : State). Settled t (w.engine.slots k) w.memory (s.kept k) (s.results k)) h (i.core.ties.settled k);
      counted = i.core.book.counted;
      others_free = λ k n. sym (ap not (i.core.book.free_chain k ∙ ap (λ (t : Bool). t && not (in_use (w.engine.slots k).state)) n) ∙ twice (in_use (w.engine.slots k).state));
    }
  where
    twice : (t : Bool) → not (not t) ≡ t
    twice true = refl
    twice false = refl

-- each call
pub keeps_call : (ev : Event) (w w' : World) (s : Serving) → Inv w s → Does ev w w' → Called ev w w' s
keeps_call (submit r a) w w' s i d = submit_calls w s i r a w' d
keeps_call (step a) w w' s i d = step_calls w s i a w' d
keeps_call (run n made a) w w' s i d = run_calls w s i n made a w' d
keeps_call (collect k a) w w' s i d = collect_calls w s i k a w' d
keeps_call reset w w' s i d = reset_calls w s i w' d
keeps_call owner w w' s i d = write_calls w s i w' d

-- the beginning
abbrev upward : ℕ → ℕ → List ℕ
upward a zero = []
upward a (suc n) = a ∷ upward (suc a) n

upward_from : (k a n : ℕ) → stands_on k (upward a n) ≡ (leb a k && leb (suc k) (a + n))
unfolding stands_on
upward_from k a zero = grind (arith, nat_tests)
upward_from k a (suc n) = ap (λ (t : Bool). eqb k a || t) (upward_from k (suc a) n) ∙ grind (arith, nat_tests)

pub numbers : (k : ℕ) → stands_on k all_numbers ≡ (numbered k && true)
numbers k = upward_from k 1 16 ∙ ends_at k
  where
    ends_at : (k : ℕ) → (leb 1 k && leb (suc k) 17) ≡ ((leb 1 k && leb k 16) && true)
    ends_at k = grind (arith, nat_tests)

pub all_once : Once all_numbers
unfolding stands_on
all_once = (refl, (refl, (refl, (refl, (refl, (refl, (refl, (refl, (refl, (refl, (refl, (refl, (refl, (refl, (refl, (refl, tt))))))))))))))))

begins : (w : World) → Begins w → (k : Kept) (r : Served) → Inv w (nothing_served w.bus.cable.shelf k r)
begins w h p r =
    record {
      core = record {
        order = h.rest.order;
        shows = h.shows;
        laws = h.lawful.owed;
        shelf = refl;
        book = record {
          range = λ k u. wrong (in_use (w.engine.slots k).state) u (unused k);
          free_chain = λ k. ap (stands_on k) h.made.all_free ∙ numbers k ∙ ap (λ (t : State). numbered k && not (in_use t)) (sym (h.made.slots k));
          free_once = subst Once (sym h.made.all_free) all_once;
          waiting_chain = λ k. ap (stands_on k) h.made.waiting ∙ nobody k ∙ ap is_waiting (sym (h.made.slots k));
          kept = λ k u. wrong (in_use (w.engine.slots k).state) u (unused k);
          counted = sym (ap (λ (n : ℕ). 0 + n) (tally_none 16 _ unused));
          well = λ k u. wrong (in_use (w.engine.slots k).state) u (unused k);
          lun_small = λ k u. wrong (in_use (w.engine.slots k).state) u (unused k);
          inside = λ k u. wrong (in_use (w.engine.slots k).state) u (unused k);
          apart = λ j k u. wrong (in_use (w.engine.slots j).state) u (unused j);
        };
        ties = record {
          line = h.rest.line ∙ ap (line_means w.engine) (sym h.made.line);
          begun = (subst (λ (l : BusLine). LineShows w.bus.cable l w.bus.shown) h.rest.line h.shows).0 ∙ ap begun_means (sym h.made.line);
          connected = λ k q. wrong (is_open (w.engine.slots k).state) (ap is_open q) (ap is_open (h.made.slots k));
          holding = λ k bs q. absurd (idle_unheld k bs (sym h.made.line ∙ q));
          nexus = λ k q. wrong (is_open (w.engine.slots k).state) q (ap is_open (h.made.slots k));
          owned = λ n y q. let z : None ≡ Some y = sym (h.rest.none n) ∙ q in let o : ◌≡◌ {A = ℕ} 0 1 = cc in absurd (omega arith);
          units = λ j k q. wrong (is_open (w.engine.slots j).state) q (ap is_open (h.made.slots j));
          settled = λ k. subst (λ (t : State). Settled t (w.engine.slots k) w.memory p r) (sym (h.made.slots k)) tt;
        };
      };
      told = λ k. ap is_finished (sym (h.made.slots k));
    }
  where
    unused : (k : ℕ) → in_use (w.engine.slots k).state ≡ false
    unused k = ap in_use (h.made.slots k)

-- the invariant after every list of calls, and the guarantee
invariant : (w : World) (s₀ : Serving) → Inv w s₀ → (ss : List Step) → History w ss → Inv (at_end w ss) (serving s₀ w ss)
invariant w s₀ i [] h = i
invariant w s₀ i (c ∷ ss) h = (keeps_call c.event (at_end w ss) c.after (serving s₀ w ss) (invariant w s₀ i ss h.0) h.1).inv

guarantee : (w : World) (s₀ : Serving) → Inv w s₀ → (ss : List Step) → History w ss → Guarantee s₀ w ss
guarantee w s₀ i [] h = holds_now w s₀ i
guarantee w s₀ i (c ∷ ss) h =
    let k = keeps_call c.event (at_end w ss) c.after (serving s₀ w ss) (invariant w s₀ i ss h.0) h.1 in
    (guarantee w s₀ i ss h.0, record { now = holds_now c.after (serving s₀ w (c ∷ ss)) k.inv; answered = k.answered; once = k.once })

pub every_list_keeps : EveryListKeeps
every_list_keeps w h k r ss hs = guarantee w (nothing_served w.bus.cable.shelf k r) (begins w h k r) ss hs

-- so every call does, by its own promise
pub lawful : EveryCallIsLawful
lawful ev w w' d = record {
  always = λ w₀ b k r ss h e. every_list_keeps w₀ b k r (record { event = ev; after = w' } ∷ ss) (h, subst (λ (v : World). Does ev v w') (sym e) d);
}
