-- What a step and a run did on a bus of any type, they did as played, and go the same way over memories alike where they may read. Assumes nothing.
use Rattle.std.proofs.Common.{◌≡◌, ℕ, zero, suc, Bool, true, false, List, [], ◌∷◌, ◌++◌, get_or, set, sym, refl, ap, ◌∙◌, subst}
use Rattle.bus.specs.declared.Shown.{Shown}
use Rattle.bus.specs.State.{BusState}
use Rattle.bus.specs.Calls.{Call, Reply, done}
use Rattle.bus.specs.Rules.{Did}
use Rattle.slots.specs.declared.answer.Answer.{Answer}
use Rattle.slots.specs.declared.answer.End.{End}
use Rattle.table.specs.Engine.{Engine}
use Rattle.table.specs.Script.{Script, return, look, ask, read, write, Plays}
use Rattle.table.specs.Table.{step}
use Rattle.table.specs.Calls.{When, end_by, ends, PlaysRun}
use Rattle.table.specs.Sound.{Sound}
use Rattle.table.specs.Isolation.{Answered, Answers, later, Exchange, looked, asked, Written, Played, play, writes, Ran, then_run, play_run, HappensBy, LeavesBy, RunLeavesBy, StepIsolated, RunIsolated, RunsAsPlayed, RunAsPlayed, SameOnEveryBus}
use Rattle.table.proofs.Isolated.{step_by_values, run_by_values}

---- what a script did, it did as played

-- one answer, and then the others
abbrev first_then : Answered → Answers → Answers
first_then a o zero = a
first_then a o (suc i) = o i

writes_on : (l k : List Written) (m : List ℕ) → writes (l ++ k) m ≡ writes k (writes l m)
writes_on [] k m = refl
writes_on (x ∷ l) k m = writes_on l k (set m x.at x.value)

module _ {B : Type 0} (see : B → Shown) (did : B → Call → Reply → B → Type 0) where
  -- with any answers to come after
  module _ (a : Answer) (e' : Engine) (b' : B) (m' : List ℕ) (rest : Answers) where
    played : (p : Script) (b : B) (m : List ℕ) → Plays see did p b m a e' b' m' → (o : Answers) × LeavesBy see did (play o p m) b m a e' b' m' × ((play o p m).left ≡ rest)
    played (return c e) b m r = (rest, record { transcript = r.2; answer = r.0; engine = r.1; memory = r.3 }, refl)
    played (look f) b m r =
        let i = played (f (see b)) b m r in (
          first_then (record { shown = see b; reply = done }) i.0,
          record { transcript = (refl, i.1.transcript); answer = i.1.answer; engine = i.1.engine; memory = i.1.memory },
          i.2,
        )
    played (ask c f) b m r =
        let i = played (f r.0) r.1 m r.3 in (
          first_then (record { shown = see b; reply = r.0 }) i.0,
          record { transcript = (r.1, r.2, i.1.transcript); answer = i.1.answer; engine = i.1.engine; memory = i.1.memory },
          i.2,
        )
    played (read x f) b m r =
        let i = played (f (get_or m x 0)) b m r in
        (i.0, record { transcript = i.1.transcript; answer = i.1.answer; engine = i.1.engine; memory = i.1.memory }, i.2)
    played (write x v p) b m r =
        let i = played p b (set m x v) r in
        (i.0, record { transcript = i.1.transcript; answer = i.1.answer; engine = i.1.engine; memory = i.1.memory }, i.2)

  -- what is played, it does
  plays_so : (p : Script) (b : B) (m : List ℕ) (a : Answer) (e' : Engine) (b' : B) (m' : List ℕ) (o : Answers) → LeavesBy see did (play o p m) b m a e' b' m' → Plays see did p b m a e' b' m'
  plays_so (return c e) b m a e' b' m' o h = (h.answer, h.engine, h.transcript, h.memory)
  plays_so (look f) b m a e' b' m' o h =
      subst (λ (s : Shown). Plays see did (f s) b m a e' b' m') h.transcript.0
      (plays_so (f (o 0).shown) b m a e' b' m' (later o) (record { transcript = h.transcript.1; answer = h.answer; engine = h.engine; memory = h.memory }))
  plays_so (ask c f) b m a e' b' m' o h = (
    (o 0).reply,
    h.transcript.0,
    h.transcript.1,
    plays_so (f (o 0).reply) h.transcript.0 m a e' b' m' (later o) (record { transcript = h.transcript.2; answer = h.answer; engine = h.engine; memory = h.memory }),
  )
  plays_so (read x f) b m a e' b' m' o h =
      plays_so (f (get_or m x 0)) b m a e' b' m' o (record { transcript = h.transcript; answer = h.answer; engine = h.engine; memory = h.memory })
  plays_so (write x v p) b m a e' b' m' o h =
      plays_so p b (set m x v) a e' b' m' o (record { transcript = h.transcript; answer = h.answer; engine = h.engine; memory = h.memory })

  pub step_isolated : (e : Engine) → Sound e → (b : B) (m : List ℕ) (a : Answer) (e' : Engine) (b' : B) (m' : List ℕ) → Plays see did (step e) b m a e' b' m' → StepIsolated see did e b m a e' b' m'
  step_isolated e s b m a e' b' m' h =
      let i = played a e' b' m' (λ _. record { shown = see b; reply = done }) (step e) b m h in
      record { answers = i.0; here = i.1; there = λ n l. step_by_values e s i.0 m n l }

  happens_on : (ts us : List Exchange) (b b₁ b₂ : B) → HappensBy see did ts b b₁ → HappensBy see did us b₁ b₂ → HappensBy see did (ts ++ us) b b₂
  happens_on [] us b b₁ b₂ h g = subst (λ (x : B). HappensBy see did us x b₂) h g
  happens_on (looked s ∷ ts) us b b₁ b₂ h g = (h.0, happens_on ts us b b₁ b₂ h.1 g)
  happens_on (asked c y ∷ ts) us b b₁ b₂ h g = (h.0, h.1, happens_on ts us h.0 b₁ b₂ h.2 g)

  module _ (end : End) (e' : Engine) (b' : B) (m' : List ℕ) (rest : Answers) where
    run_played : (n : ℕ) (e : Engine) (b : B) (m : List ℕ) (made : ℕ) → PlaysRun see did n e b m made end e' b' m'
        → (o : Answers) × RunLeavesBy see did (play_run n o e m) b m made end e' b' m'
    run_played zero e b m made (c, d, x, y, z) = (rest, record { transcript = y; steps = c; ended = d; engine = x; memory = z })
    run_played (suc n) e b m made (a, e₁, b₁, m₁, r, d) = go (ends a) refl (λ k p. run_played n e₁ b₁ m₁ k p) d
      where
        go : (t : Bool) → ends a ≡ t → ((k : ℕ) → PlaysRun see did n e₁ b₁ m₁ k end e' b' m' → (o : Answers) × RunLeavesBy see did (play_run n o e₁ m₁) b₁ m₁ k end e' b' m')
            → When t ((made ≡ 1) × (end ≡ end_by a) × (e' ≡ e₁) × (b' ≡ b₁) × (m' ≡ m₁)) ((k : ℕ) × (made ≡ suc k) × PlaysRun see did n e₁ b₁ m₁ k end e' b' m')
            → (o : Answers) × RunLeavesBy see did (play_run (suc n) o e m) b m made end e' b' m'
        go true q ih (c, x, u, v, y) =
            let i = played a e₁ b₁ m₁ rest (step e) b m r in
            let p : Played = play i.0 (step e) m in (
              i.0,
              subst (λ (t : Bool). RunLeavesBy see did (then_run t p (play_run n p.left p.engine (writes p.written m))) b m made end e' b' m') (sym (ap ends (sym i.1.answer) ∙ q))
                  (record {
                    transcript = subst (HappensBy see did p.transcript b) (sym v) i.1.transcript;
                    steps = c;
                    ended = x ∙ ap end_by i.1.answer;
                    engine = u ∙ i.1.engine;
                    memory = y ∙ i.1.memory;
                  }),
            )
        go false q ih (k, c, ps) =
            let j = ih k ps in
            let i = played a e₁ b₁ m₁ j.0 (step e) b m r in
            let p : Played = play i.0 (step e) m in
            let z : Ran = play_run n p.left p.engine (writes p.written m) in
            let l : RunLeavesBy see did (play_run n p.left p.engine (writes p.written m)) b₁ m₁ k end e' b' m' =
            subst (λ (x : Ran). RunLeavesBy see did x b₁ m₁ k end e' b' m') (λ h. play_run n (sym i.2 h) (i.1.engine h) (i.1.memory h)) j.1 in (
              i.0,
              subst (λ (t : Bool). RunLeavesBy see did (then_run t p (play_run n p.left p.engine (writes p.written m))) b m made end e' b' m') (sym (ap ends (sym i.1.answer) ∙ q))
                  (record {
                    transcript = happens_on p.transcript z.transcript b b₁ b' i.1.transcript l.transcript;
                    steps = c ∙ ap suc l.steps;
                    ended = l.ended;
                    engine = l.engine;
                    memory = l.memory ∙ ap (writes z.written) i.1.memory ∙ sym (writes_on p.written z.written m);
                  }),
            )

  pub run_isolated : (n : ℕ) (e : Engine) → Sound e → (b : B) (m : List ℕ) (made : ℕ) (end : End) (e' : Engine) (b' : B) (m' : List ℕ) → PlaysRun see did n e b m made end e' b' m'
      → RunIsolated see did n e b m made end e' b' m'
  run_isolated n e s b m made end e' b' m' h =
      let i = run_played end e' b' m' (λ _. record { shown = see b; reply = done }) n e b m made h in
      record { answers = i.0; here = i.1; there = λ k l. run_by_values n e s i.0 m k l }

---- on what a bus means

-- answers that never come to pass
abbrev no_more : BusState → Answers
no_more b i = record { shown = b.shown; reply = done }

pub runs_as_played : RunsAsPlayed
runs_as_played = record {
  played = λ p b m a w r. let i = played (λ b. b.shown) Did a w.engine w.bus w.memory (no_more b) p b m r in (i.0, i.1);
  runs = λ p b m a w o. plays_so (λ b. b.shown) Did p b m a w.engine w.bus w.memory o;
}

pub run_as_played : RunAsPlayed
run_as_played n w made end w' = run_played (λ b. b.shown) Did end w'.engine w'.bus w'.memory (no_more w.bus) n w.engine w.bus w.memory made

pub same_on_every_bus : SameOnEveryBus
same_on_every_bus e s b m n a w h r =
    let i = runs_as_played.played (step e) b m a w r in
    let q : play i.0 (step e) m ≡ play i.0 (step e) n = step_by_values e s i.0 m n h in
    record {
      answers = i.0;
      here = i.1;
      same = q;
      there = runs_as_played.runs (step e) b n a (record { engine = w.engine; bus = w.bus; memory = writes (play i.0 (step e) n).written n }) i.0
          (record {
            transcript = subst (λ (p : Played). HappensBy (λ b. b.shown) Did p.transcript b w.bus) q i.1.transcript;
            answer = i.1.answer ∙ ap (λ (p : Played). p.answer) q;
            engine = i.1.engine ∙ ap (λ (p : Played). p.engine) q;
            memory = refl;
          });
    }
