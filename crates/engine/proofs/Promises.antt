-- Each public call keeps the guarantee, the regions and isolation, by what it does. Assumes nothing.
use Rattle.std.proofs.Common.{◌≡◌, ℕ, zero, suc, ◌≤◌, Bool, true, false, eqb, List, length, get_or, Ok, Err, Result, sym, refl, ap, ◌∙◌, subst, arith}
use Rattle.slots.specs.declared.answer.Answer.{Answer}
use Rattle.slots.specs.declared.answer.End.{End}
use Rattle.slots.specs.declared.answer.End.TheVariants.{Spent}
use Rattle.slots.specs.declared.answer.Collected.{Collected}
use Rattle.slots.specs.declared.refusal.Refusal.{Refusal}
use Rattle.slots.specs.declared.refusal.Refusal.TheVariants.{MemorySize}
use Rattle.slots.specs.Numbers.{refused_by_number}
use Rattle.bus.specs.declared.Shown.{Shown}
use Rattle.bus.specs.State.{BusState}
use Rattle.bus.specs.Calls.{Call, Reply, done, reset as reset_bus}
use Rattle.bus.specs.Rules.{Did}
use Rattle.table.specs.Engine.{Engine}
use Rattle.table.specs.Script.{Plays, World}
use Rattle.table.specs.Table.{step as table_step}
use Rattle.table.specs.Calls.{Request, earlier_refusal, submit_answer, submit_engine, collect_answer, collect_engine, reset_engine, When, Row, end_by, is_end, ends, Passes, PlaysRun, submit, step, run, collect, reset}
use Rattle.table.specs.Guarantee.{Lawful}
use Rattle.table.specs.Sound.{Sound}
use Rattle.table.specs.Regions.{OnlyInside}
use Rattle.table.proofs.Basics.{wrong}
use Rattle.table.proofs.Meanings.{plays_runs, plays_passes}
use Rattle.table.proofs.Theorem.{lawful}
use Rattle.table.proofs.Sounds.{step_writes_inside, run_writes_inside}
use Rattle.table.proofs.Alone.{step_isolated, run_isolated}
use Rattle.engine.specs.Answers.{Stepped, StepAlone, Ran, Allowed, RunAlone}
use Rattle.engine.specs.Lawfully.{LawfulBeside}

pub submit_lawful : (e e' : Engine) (r : Request) (a : Result ℕ ℕ) → a ≡ submit_answer (earlier_refusal e r) e → e' ≡ submit_engine (earlier_refusal e r) r e → LawfulBeside (submit r a) e e'
submit_lawful e e' r a p q b m = lawful (submit r a) _ _ (record { answer = p; after = λ i. record { engine = q i; bus = b; memory = m } })

pub collect_lawful : (e e' : Engine) (k : ℕ) (a : Result Collected ℕ) → a ≡ collect_answer (e.slots k).state (e.slots k) → e' ≡ collect_engine (e.slots k).state k e → LawfulBeside (collect k a) e e'
collect_lawful e e' k a p q b m = lawful (collect k a) _ _ (record { answer = p; after = λ i. record { engine = q i; bus = b; memory = m } })

-- what is granted is not refused
granted_refused : {A : Type 0} {a : A} {n : ℕ} → ◌≡◌ {A = Result A ℕ} (Ok a) (Err n) → ⊥
granted_refused h = cc

-- a memory that is as it was
untouched : (e : Engine) (m m' : List ℕ) → m' ≡ m → OnlyInside e m m'
untouched e m m' h = record { long = ap length h; kept = λ i _. ap (λ (x : List ℕ). get_or x i 0) h }

module _ {B : Type 0} (means : B → BusState) (did : B → Call → Reply → B → Type 0) (law : (b : B) (c : Call) (y : Reply) (b' : B) → did b c y b' → Did (means b) c y (means b')) where
  abbrev see : B → Shown
  see b = (means b).shown

  abbrev world : Engine → B → List ℕ → World
  world e b m = record { engine = e; bus = means b; memory = m }

  ---- step

  module _ (e : Engine) (b : B) (m : List ℕ) (r : Result Answer Refusal) (e' : Engine) (b' : B) (m' : List ℕ) (h : Stepped see did e b m r e' b' m') where
    abbrev Made : Type 0
    Made = (a : Answer) × (r ≡ Ok a) × Plays see did (table_step e) b m a e' b' m'

    abbrev Refused : Type 0
    Refused = (r ≡ Err MemorySize) × (e' ≡ e) × (b' ≡ b) × (m' ≡ m)

    row : (a : Answer) → Plays see did (table_step e) b m a e' b' m' → Row (world e b m) a (world e' b' m')
    row a p = plays_runs see did means (λ b. refl) law (table_step e) b m a e' b' m' p

    pub step_lawful : Lawful (step (refused_by_number r)) (world e b m) (world e' b' m')
    step_lawful = lawful (step (refused_by_number r)) (world e b m) (world e' b' m') (go (eqb (length m) e.size) h)
      where
        go : (t : Bool) → When t Made Refused → When t ((a : Answer) × (refused_by_number r ≡ Ok a) × Row (world e b m) a (world e' b' m')) ((refused_by_number r ≡ Err 8) × (world e' b' m' ≡ world e b m))
        go true (a, q, p) = (a, ap refused_by_number q, row a p)
        go false (q, x, y, z) = (ap refused_by_number q, λ i. record { engine = x i; bus = means (y i); memory = z i })

    module _ (o : Sound e) where
      pub step_inside : OnlyInside e m m'
      step_inside = go (eqb (length m) e.size) h
        where
          go : (t : Bool) → When t Made Refused → OnlyInside e m m'
          go true (a, q, p) = step_writes_inside (world e b m) o a (world e' b' m') (row a p)
          go false (q, x, y, z) = untouched e m m' z

      pub step_alone : StepAlone see did e b m r e' b' m'
      step_alone = go (eqb (length m) e.size) h
        where
          refused_alone : (r : Result Answer Refusal) → refused_by_number r ≡ Err 8 → StepAlone see did e b m r e' b' m'
          refused_alone (Ok a) q = absurd (granted_refused q)
          refused_alone (Err x) q = tt

          go : (t : Bool) → When t Made Refused → StepAlone see did e b m r e' b' m'
          go true (a, q, p) = subst (λ (x : Result Answer Refusal). StepAlone see did e b m x e' b' m') (sym q) (step_isolated see did e o b m a e' b' m' p)
          go false (q, x, y, z) = refused_alone r (ap refused_by_number q)

  ---- run

  -- how many rows are passed
  counted : (n : ℕ) (e : Engine) (b : B) (m : List ℕ) (made : ℕ) (end : End) (e' : Engine) (b' : B) (m' : List ℕ) → PlaysRun see did n e b m made end e' b' m' → (made ≤ n) × (is_end end ≡ false → made ≡ n)
  counted zero e b m made end e' b' m' h = let z = h.0 in (omega (arith, z), λ _. z)
  counted (suc n) e b m made end e' b' m' (a, e₁, b₁, m₁, p, d) = go (ends a) refl (λ k x. counted n e₁ b₁ m₁ k end e' b' m' x) d
    where
      go : (t : Bool) → ends a ≡ t → ((k : ℕ) → PlaysRun see did n e₁ b₁ m₁ k end e' b' m' → (k ≤ n) × (is_end end ≡ false → k ≡ n))
          → When t ((made ≡ 1) × (end ≡ end_by a) × (e' ≡ e₁) × (b' ≡ b₁) × (m' ≡ m₁)) ((k : ℕ) × (made ≡ suc k) × PlaysRun see did n e₁ b₁ m₁ k end e' b' m') → (made ≤ suc n) × (is_end end ≡ false → made ≡ suc n)
      go true q ih (z, x, u, v, y) = (omega (arith, z), λ w. wrong (is_end end) (ap is_end x ∙ q) w)
      go false q ih (k, z, x) = let i = ih k x in let l = i.0 in (omega (arith, z, l), λ w. z ∙ ap suc (i.1 w))

  module _ (n : ℕ) (e : Engine) (b : B) (m : List ℕ) (made : ℕ) (r : Result End Refusal) (e' : Engine) (b' : B) (m' : List ℕ) (h : Ran see did n e b m made r e' b' m') where
    abbrev RunMade : Type 0
    RunMade = (end : End) × (r ≡ Ok end) × PlaysRun see did n e b m made end e' b' m'

    abbrev RunRefused : Type 0
    RunRefused = (made ≡ 0) × (r ≡ Err MemorySize) × (e' ≡ e) × (b' ≡ b) × (m' ≡ m)

    passes : (end : End) → PlaysRun see did n e b m made end e' b' m' → Passes n (world e b m) made end (world e' b' m')
    passes end p = plays_passes see did means (λ b. refl) law n e b m made end e' b' m' p

    pub run_lawful : Lawful (run n made (refused_by_number r)) (world e b m) (world e' b' m')
    run_lawful = lawful (run n made (refused_by_number r)) (world e b m) (world e' b' m') (go (eqb (length m) e.size) h)
      where
        go : (t : Bool) → When t RunMade RunRefused
            → When t ((end : End) × (refused_by_number r ≡ Ok end) × Passes n (world e b m) made end (world e' b' m')) ((made ≡ 0) × (refused_by_number r ≡ Err 8) × (world e' b' m' ≡ world e b m))
        go true (end, q, p) = (end, ap refused_by_number q, passes end p)
        go false (c, q, x, y, z) = (c, ap refused_by_number q, λ i. record { engine = x i; bus = means (y i); memory = z i })

    pub run_allowed : Allowed n made r
    run_allowed = go (eqb (length m) e.size) h
      where
        spent_is : {x : End} → ◌≡◌ {A = Result End Refusal} (Ok x) (Ok Spent) → x ≡ Spent
        spent_is h = cc

        go : (t : Bool) → When t RunMade RunRefused → Allowed n made r
        go true (end, q, p) = let c = counted n e b m made end e' b' m' p in record { at_most = c.0; spent = λ s. c.1 (ap is_end (spent_is (sym q ∙ s))) }
        go false (z, q, u, v, x) = record { at_most = omega (arith, z); spent = λ s. absurd (granted_refused (sym (ap refused_by_number s) ∙ ap refused_by_number q)) }

    module _ (o : Sound e) where
      pub run_inside : OnlyInside e m m'
      run_inside = go (eqb (length m) e.size) h
        where
          go : (t : Bool) → When t RunMade RunRefused → OnlyInside e m m'
          go true (end, q, p) = run_writes_inside n (world e b m) o made end (world e' b' m') (passes end p)
          go false (c, q, x, y, z) = untouched e m m' z

      pub run_alone : RunAlone see did n e b m made r e' b' m'
      run_alone = go (eqb (length m) e.size) h
        where
          refused_alone : (r : Result End Refusal) → refused_by_number r ≡ Err 8 → RunAlone see did n e b m made r e' b' m'
          refused_alone (Ok a) q = absurd (granted_refused q)
          refused_alone (Err x) q = tt

          go : (t : Bool) → When t RunMade RunRefused → RunAlone see did n e b m made r e' b' m'
          go true (end, q, p) = subst (λ (x : Result End Refusal). RunAlone see did n e b m made x e' b' m') (sym q) (run_isolated see did n e o b m made end e' b' m' p)
          go false (c, q, x, y, z) = refused_alone r (ap refused_by_number q)

  ---- reset

  pub reset_lawful : (e : Engine) (b : B) (e' : Engine) (b' : B) → did b reset_bus done b' → e' ≡ reset_engine e → (m : List ℕ) → Lawful reset (world e b m) (world e' b' m)
  reset_lawful e b e' b' d q m = lawful reset (world e b m) (world e' b' m) (record { reply = done; bus = law b reset_bus done b' d; engine = q; memory = refl })
