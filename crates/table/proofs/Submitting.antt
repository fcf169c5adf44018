-- Submit keeps the invariant. Assumes nothing.
use Rattle.std.proofs.Common.{◌≡◌, ℕ, suc, ◌+◌, ◌-◌, ◌<◌, ◌≤◌, Bool, true, false, cond, not, ◌&&◌, ◌||◌, eqb, ltb, leb, List, [], ◌∷◌, ◌++◌, get_or, Some, None, Ok, Err, Option, Result, sym, refl, ap, ◌∙◌, subst, arith}
use Rattle.std.proofs.Math.Bool.{and-false, or-false, or-true}
use Rattle.std.proofs.lemmas.Bool.{and_parts, and_from, eq-eqb, ne_eqb, ltb-false, lt-ltb, leb-true, le-leb, not-true, not-false}
use Rattle.scsi.specs.Commands.{well_sized}
use Rattle.shelf.specs.declared.Way.{Way}
use Rattle.shelf.specs.declared.Way.TheVariants.{Still, In, Out}
use Rattle.slots.specs.declared.slot.State.TheVariants.{Free, Waiting}
use Rattle.table.specs.Engine.{Command, Entry, Engine, in_use, is_open, is_waiting, is_finished, is_in, is_out, numbered, stands_on, every, put_slot}
use Rattle.table.specs.Script.{World}
use Rattle.table.specs.Calls.{Request, command_asked, share, clear_of, earlier_refusal, just_accepted, taken_in, ticket_or_7, submit_answer, submit_engine, Submits, submit}
use Rattle.table.specs.Serving.{Kept, Serving, keeps, region_bytes, at_number}
use Rattle.table.specs.Guarantee.{FullExactly, in_use_count}
use Rattle.table.proofs.Basics.{nobody, stands_cons, wrong, put_cases, put_here, put_there, every_at, stands_append, tally_one, tally_full, tally_all}
use Rattle.table.specs.Sound.{Once}
use Rattle.table.proofs.States.{free_is}
use Rattle.table.proofs.Invariant.{Book, Settled, Inv, Apart}
use Rattle.table.proofs.Callings.{Called, refused_call, quiet_inv, quiet_once, reslot}

-- the tests that passed
passed : (t : Bool) (n : ℕ) (o : Option ℕ) → cond t (Some n) o ≡ None → (t ≡ false) × (o ≡ None)
passed true n o h = absurd cc
passed false n o h = (refl, h)

-- what the earlier tests leave
record Passed (e : Engine) (r : Request) : Type 0 where
  lun : ltb 7 r.lun ≡ false
  well : not (well_sized r.bytes) ≡ false
  inside : ltb e.size (r.base + r.length) ≡ false
  clear : not (every 16 (clear_of e (command_asked r))) ≡ false

tests : (e : Engine) (r : Request) → earlier_refusal e r ≡ None → Passed e r
tests e r ok =
    let p1 = passed (ltb 6 r.target) 1 _ ok in
    let p2 = passed (ltb 7 r.lun) 2 _ p1.1 in
    let p3 = passed (not (well_sized r.bytes)) 3 _ p2.1 in
    let p4 = passed (ltb 2 r.manner || (ltb 2 r.direction || (eqb r.direction 0 && not (eqb r.length 0)))) 4 _ p3.1 in
    let p5 = passed (ltb e.size (r.base + r.length)) 5 _ p4.1 in
    let p6 = passed (not (every 16 (clear_of e (command_asked r)))) 6 _ p5.1 in
    record { lun = p2.0; well = p3.0; inside = p5.0; clear = p6.0 }

-- earlier tests have numbers below 7
small : (t : Bool) (n : ℕ) (o : Option ℕ) (m : ℕ) → n < 7 → (o ≡ Some m → m < 7) → cond t (Some n) o ≡ Some m → m < 7
small true n o m l ih h = let z : n ≡ m = cc in omega arith
small false n o m l ih h = ih h

never_7 : (e : Engine) (r : Request) (m : ℕ) → earlier_refusal e r ≡ Some m → m < 7
never_7 e r m =
    small (ltb 6 r.target) 1 _ m (omega arith)
    (small (ltb 7 r.lun) 2 _ m (omega arith)
    (small (not (well_sized r.bytes)) 3 _ m (omega arith)
    (small (ltb 2 r.manner || (ltb 2 r.direction || (eqb r.direction 0 && not (eqb r.length 0)))) 4 _ m (omega arith)
    (small (ltb e.size (r.base + r.length)) 5 _ m (omega arith)
    (small (not (every 16 (clear_of e (command_asked r)))) 6 None m (omega arith) (λ h. absurd cc))))))

-- regions that share no byte are apart
share_apart : (b n c m : ℕ) → share b n c m ≡ false → (i j : ℕ) → i < n → j < m → b + i ≡ c + j → ⊥
share_apart b n c m h i j p q e =
    wrong (share b n c m) (and_from _ _ (and_from _ _ (lt-ltb 0 n (omega arith)) (lt-ltb 0 m (omega arith))) (and_from _ _ (lt-ltb b (c + m) (omega arith)) (lt-ltb c (b + n) (omega arith)))) h

in_not_out : (w : Way) → is_in w ≡ true → is_out w ≡ false
in_not_out Still h = refl
in_not_out In h = refl
in_not_out Out h = wrong false h refl

unshared : (u s o p : Bool) → (not u || (not s || (o && p))) ≡ true → u ≡ true → (o && p) ≡ false → s ≡ false
unshared true true o p h a b = wrong (o && p) h b
unshared true false o p h a b = refl
unshared false s o p h a b = wrong false a refl

module _ (w : World) (s : Serving) (i : Inv w s) (r : Request) where
  abbrev e : Engine
  e = w.engine

  b : Book w.engine s
  b = i.core.book

  abbrev cmd : Command
  cmd = command_asked r

  -- refused by an earlier test, or with no free slot
  submit_refused : (n : ℕ) → FullExactly w.engine s r (Err n) → Called (submit r (Err n)) w w s
  submit_refused n f = record { inv = refused_call w s i; answered = f; once = quiet_once w.engine w.engine _ s (λ k h. h) (λ k. refl) }

  full_count : w.engine.free ≡ [] → s.accepted - s.collected ≡ 16
  full_count q =
      let f : in_use_count w.engine ≡ 16 = tally_full 16 _ (λ k l u. used k (and_from _ _ (le-leb 1 k l) (le-leb k 16 u)) (sym (b.free_chain k) ∙ ap (stands_on k) q ∙ nobody k)) in
      omega (arith, b.counted, f)
    where
      used : (k : ℕ) → numbered k ≡ true → (numbered k && not (in_use (w.engine.slots k).state)) ≡ false → in_use (w.engine.slots k).state ≡ true
      used k n h = not-false _ (sym (ap (λ (t : Bool). t && not (in_use (w.engine.slots k).state)) n) ∙ h)

  -- granted
  module _ (ok : earlier_refusal w.engine r ≡ None) (k : ℕ) (ks : List ℕ) (q : w.engine.free ≡ k ∷ ks) where
    on_chain : (numbered k ≡ true) × (in_use (w.engine.slots k).state ≡ false)
    on_chain =
        let h : (numbered k && not (in_use (w.engine.slots k).state)) ≡ true = sym (b.free_chain k) ∙ ap (stands_on k) q ∙ stands_cons k k ks ∙ ap (λ (t : Bool). t || stands_on k ks) (eq-eqb k k refl) in
        let p = and_parts (numbered k) (not (in_use (w.engine.slots k).state)) h in
        (p.0, not-true _ p.1)

    is_free : (w.engine.slots k).state ≡ Free
    is_free = free_is _ on_chain.1

    rest_once : (stands_on k ks ≡ false) × Once ks
    rest_once = subst Once q b.free_once

    abbrev x' : Entry
    x' = just_accepted (command_asked r)

    abbrev e' : Engine
    e' = record { slots = put_slot k x' w.engine.slots; free = ks; waiting = w.engine.waiting ++ k ∷ []; line = w.engine.line; size = w.engine.size }

    abbrev s' : Serving
    s' = keeps k (record { command = command_asked r; bytes = region_bytes w.memory (command_asked r) }) s

    -- the new region and that of another command
    new_apart : (j : ℕ) → in_use (w.engine.slots j).state ≡ true → (is_out cmd.direction && is_out (w.engine.slots j).command.direction) ≡ false
        → share cmd.base cmd.length (w.engine.slots j).command.base (w.engine.slots j).command.length ≡ false
    new_apart j u o =
        let num = and_parts (leb 1 j) (leb j 16) (b.range j u) in
        unshared (in_use (w.engine.slots j).state) _ (is_out cmd.direction) (is_out (w.engine.slots j).command.direction) (every_at 16 (clear_of w.engine (command_asked r)) (not-false _ (tests w.engine r ok).clear) j (leb-true 1 j num.0) (leb-true j 16 num.1)) u o

    book' : Book e' s'
    book' =
        record {
          range = put_cases (λ (j : ℕ) (y : Entry). in_use y.state ≡ true → numbered j ≡ true) k x' w.engine.slots (λ _. on_chain.0) (λ j ne. b.range j);
          free_chain = put_cases (λ (j : ℕ) (y : Entry). stands_on j ks ≡ (numbered j && not (in_use y.state))) k x' w.engine.slots
              (rest_once.0 ∙ sym (and-false (numbered k)))
              (λ j ne. sym (ap (stands_on j) q ∙ stands_cons j k ks ∙ ap (λ (t : Bool). t || stands_on j ks) (ne_eqb j k ne)) ∙ b.free_chain j);
          free_once = rest_once.1;
          waiting_chain = put_cases (λ (j : ℕ) (y : Entry). stands_on j (w.engine.waiting ++ k ∷ []) ≡ is_waiting y.state) k x' w.engine.slots
              (stands_append k k w.engine.waiting ∙ ap (λ (t : Bool). stands_on k w.engine.waiting || t) (eq-eqb k k refl) ∙ or-true (stands_on k w.engine.waiting))
              (λ j ne. stands_append j k w.engine.waiting ∙ ap (λ (t : Bool). stands_on j w.engine.waiting || t) (ne_eqb j k ne) ∙ or-false (stands_on j w.engine.waiting) ∙ b.waiting_chain j);
          kept = put_cases (λ (j : ℕ) (y : Entry). in_use y.state ≡ true → (s'.kept j).command ≡ y.command) k x' w.engine.slots
              (λ _. ap (λ (p : Kept). p.command) (put_here k _ (s.kept k)))
              (λ j ne h. ap (λ (p : Kept). p.command) (put_there j k _ (s.kept j) ne) ∙ b.kept j h);
          counted =
              let num = and_parts (leb 1 k) (leb k 16) on_chain.0 in
              let one : in_use_count e' ≡ suc (in_use_count w.engine) = tally_one 16 (λ j. in_use (w.engine.slots j).state) (λ j. in_use (e'.slots j).state) k (leb-true 1 k num.0) (leb-true k 16 num.1)
              on_chain.1 (ap (λ (y : Entry). in_use y.state) (put_here k x' (w.engine.slots k)))
              (λ j ne. sym (ap (λ (y : Entry). in_use y.state) (put_there j k x' (w.engine.slots j) ne))) in
              omega (arith, b.counted, one);
          well = put_cases (λ (j : ℕ) (y : Entry). in_use y.state ≡ true → well_sized y.command.bytes ≡ true) k x' w.engine.slots (λ _. not-false _ (tests w.engine r ok).well) (λ j ne. b.well j);
          lun_small = put_cases (λ (j : ℕ) (y : Entry). in_use y.state ≡ true → y.command.lun < 8) k x' w.engine.slots (λ _. let l : r.lun ≤ 7 = ltb-false _ _ (tests w.engine r ok).lun in omega arith) (λ j ne. b.lun_small j);
          inside = put_cases (λ (j : ℕ) (y : Entry). in_use y.state ≡ true → y.command.base + y.command.length ≤ w.engine.size) k x' w.engine.slots (λ _. ltb-false _ _ (tests w.engine r ok).inside) (λ j ne. b.inside j);
          apart = λ u v. put_cases (λ (a : ℕ) (y : Entry). in_use y.state ≡ true → in_use (e'.slots v).state ≡ true → (a ≡ v → ⊥) → is_in y.command.direction ≡ true → Apart y.command (e'.slots v).command) k x' w.engine.slots
              (put_cases (λ (c : ℕ) (z : Entry). in_use x'.state ≡ true → in_use z.state ≡ true → (k ≡ c → ⊥) → is_in x'.command.direction ≡ true → Apart x'.command z.command) k x' w.engine.slots
              (λ _ _ ne. absurd (ne refl))
              (λ c nc _ u _ d. share_apart _ _ _ _ (new_apart c u (ap (λ (t : Bool). t && is_out (w.engine.slots c).command.direction) (in_not_out _ d)))) v)
              (λ a na. put_cases (λ (c : ℕ) (z : Entry). in_use (w.engine.slots a).state ≡ true → in_use z.state ≡ true → (a ≡ c → ⊥) → is_in (w.engine.slots a).command.direction ≡ true → Apart (w.engine.slots a).command z.command) k x' w.engine.slots
              (λ u _ _ d i j l m z. share_apart _ _ _ _ (new_apart a u (ap (λ (t : Bool). is_out cmd.direction && t) (in_not_out _ d) ∙ and-false (is_out cmd.direction))) j i m l (sym z))
              (λ c nc. b.apart a c) v) u;
        }

    fin : (j : ℕ) → is_finished (e'.slots j).state ≡ true → is_finished (w.engine.slots j).state ≡ true
    fin = put_cases (λ (j : ℕ) (y : Entry). is_finished y.state ≡ true → is_finished (w.engine.slots j).state ≡ true) k x' w.engine.slots (λ h. wrong false h refl) (λ j ne h. h)

    settled_new : Settled Waiting x' w.memory (s'.kept k) (s'.results k)
    settled_new = subst (λ (p : Kept). Settled Waiting x' w.memory p (s'.results k)) (sym (put_here k _ (s.kept k)))
        (refl, refl, λ j l. sym (ap (λ (t : Bool). cond t (get_or w.memory (r.base + j) 0) 0) (lt-ltb j r.length l)))

    submit_granted : Called (submit r (Ok k)) w (record { engine = e'; bus = w.bus; memory = w.memory }) s
    submit_granted =
        record {
          inv = quiet_inv w.engine (λ k. false) (record { engine = e'; bus = w.bus; memory = w.memory }) s' fin (λ k. refl)
              (record {
                core = record {
                  order = i.core.order;
                  shows = i.core.shows;
                  laws = i.core.laws;
                  shelf = i.core.shelf;
                  book = book';
                  ties = reslot w.engine w.bus.cable w.memory s s' k x' ks (w.engine.waiting ++ k ∷ []) i.core.ties (ap is_open is_free) refl
                      (λ j ne. put_there j k _ (s.kept j) ne) (λ j ne. refl) settled_new;
                };
                told = put_cases (λ (j : ℕ) (y : Entry). at_number k false s.reported j ≡ is_finished y.state) k x' w.engine.slots
                    (put_here k false (s.reported k)) (λ j ne. put_there j k false (s.reported j) ne ∙ i.told j);
              });
          answered = record {
            only = λ h. absurd cc;
            always = λ h _. absurd (not_full h);
          };
          once = quiet_once w.engine e' _ s fin (λ j. refl);
        }
      where
        not_full : s.accepted - s.collected ≡ 16 → ⊥
        not_full h =
            let f : in_use_count w.engine ≡ 16 = omega (arith, b.counted, h) in
            let num = and_parts (leb 1 k) (leb k 16) on_chain.0 in
            wrong (in_use (w.engine.slots k).state) (tally_all 16 _ f k (leb-true 1 k num.0) (leb-true k 16 num.1)) on_chain.1

  pub submit_calls : (a : Result ℕ ℕ) (w' : World) → Submits w r a w' → Called (submit r a) w w' s
  submit_calls a w' d = go (earlier_refusal w.engine r) refl w.engine.free refl d.answer d.after
    where
      to : (a₀ : Result ℕ ℕ) (w₀ : World) → a ≡ a₀ → w' ≡ w₀ → Called (submit r a₀) w w₀ s → Called (submit r a) w w' s
      to a₀ w₀ p q c = subst (λ (z : Result ℕ ℕ). Called (submit r z) w w' s) (sym p) (subst (λ (v : World). Called (submit r a₀) w v s) (sym q) c)

      go : (o : Option ℕ) → earlier_refusal w.engine r ≡ o → (f : List ℕ) → w.engine.free ≡ f → a ≡ submit_answer o w.engine
          → w' ≡ record { engine = submit_engine o r w.engine; bus = w.bus; memory = w.memory } → Called (submit r a) w w' s
      go (Some n) q f g p t = to (Err n) w p t
          (submit_refused n (record {
            only = λ h. let l = never_7 w.engine r n q in let z : n ≡ 7 = cc in absurd (omega arith);
            always = λ _ h. absurd cc;
          }))
      go None q [] g p t = to (Err 7) w (p ∙ ap ticket_or_7 g) (t ∙ ap (λ (l : List ℕ). record { engine = taken_in (command_asked r) l w.engine; bus = w.bus; memory = w.memory }) g)
          (submit_refused 7 (record { only = λ _. (full_count g, q); always = λ _ _. refl }))
      go None q (k ∷ ks) g p t = to (Ok k) _ (p ∙ ap ticket_or_7 g) (t ∙ ap (λ (l : List ℕ). record { engine = taken_in (command_asked r) l w.engine; bus = w.bus; memory = w.memory }) g) (submit_granted q k ks g)
