-- One turn further with a command underway, on a bus in order. Assumes nothing.
use Rattle.std.proofs.Common.{rules, ◌≡◌, ℕ, suc, ◌+◌, ◌<◌, List, [], length, get_or, set, Some, None, Option, sym, refl, ap, ◌∙◌, subst, add-one, arith, length-set, get_or-set_other, get_or-set_same}
use Rattle.std.proofs.lemmas.Grind.{common_steps}
use Rattle.shelf.specs.declared.Way.{Way}
use Rattle.shelf.specs.declared.Way.TheVariants.{In, Out}
use Rattle.shelf.specs.Model.{Model, way_of, count_of, byte_of, status_of, finished}
use Rattle.shelf.specs.Serving.{outs}
use Rattle.bus.specs.declared.Shown.{Shown}
use Rattle.bus.specs.declared.Shown.TheVariants.{DataOut, DataIn, Command, Status, MessageIn}
use Rattle.bus.specs.State.{Name, Nexus, BusState, sent, given, moved, ended, put}
use Rattle.bus.specs.Calls.{Call, Reply, command, give, take, done, took}
use Rattle.bus.specs.Effects.{finishes}
use Rattle.bus.specs.Showing.{Shows, Utters, MessageBy, MayShow}
use Rattle.bus.specs.Rules.{Did}
use Rattle.bus.proofs.Single.{showing, shown_to, did_command, did_give, did_take_data, did_take_status, did_take_complete}
use Rattle.carrier.specs.declared.Carried.{Carried}
use Rattle.carrier.specs.Carrying.{ServedWhole}
use Rattle.carrier.specs.Underway.{Moved, Told, SoFar, Going, Over}

outs_none : (w : Way) (f : ℕ → ℕ) → outs w 0 f ≡ []
outs_none w f = grind arith

-- the bus of a command underway, at what it shows
is_showing : (m : Model) (n : Name) (c out : List ℕ) (u : Carried) (into : List ℕ) (b : BusState) (g : Going m n c out u into b) (s : Shown) → b.shown ≡ s → b ≡ showing m n g.nexus s
is_showing m n c out u into b g s e = λ i. record { cable = g.cable i; shown = e i; order = g.order i }

-- what may be shown to its nexus, and what a call does
met : (m : Model) (n : Name) (c out : List ℕ) (u : Carried) (into : List ℕ) (b b' : BusState) (g : Going m n c out u into b) (s : Shown) (k : Call) (r : Reply) → b.shown ≡ s → Shows b → Did b k r b'
    → MayShow m (put n (Some g.nexus) (λ j. None)) n g.nexus s × Did (showing m n g.nexus s) k r b'
met m n c out u into b b' g s k r e h d =
    let path = is_showing m n c out u into b g s e in
    (shown_to m n g.nexus s (subst Shows path h), subst (λ (a : BusState). Did a k r b') path d)

-- the command is sent
pub commanded : (m : Model) (n : Name) (c out : List ℕ) (u : Carried) (into : List ℕ) (b b' : BusState) → Going m n c out u into b → b.shown ≡ Command → Shows b
    → Did b (command c) done b' → Going m n c out u into b'
commanded m n c out u into b b' g e s d =
    let x = g.nexus in
    let seen = met m n c out u into b b' g Command (command c) done e s d in
    let see = seen.0 in
    let far = g.so_far in
    let start : (x.place ≡ 0) × (x.collected ≡ []) = search rules in
    record {
      nexus = sent c x;
      order = (d.keeps_rules g.order refl).order;
      cable = did_command m n x c b' seen.1;
      place = g.place;
      so_far =
          let none = fresh x start.0 start.1 in
          search rules;
    }
  where
    fresh : (x : Nexus) → x.place ≡ 0 → x.collected ≡ [] → Moved m n c out x.place into (sent c x)
    fresh x p q =
        record {
          given = grind (arith, outs_none);
          enough = λ w. omega (arith, p);
          room = λ w. omega (arith, p);
          taken = λ w i h. absurd (omega (arith, p));
        }

-- with one byte more moved
abbrev one_more : Carried → Carried
one_more u = record { status = u.status; moved = u.moved + 1 }

-- an out byte is given
pub gave : (m : Model) (n : Name) (c out : List ℕ) (u : Carried) (into : List ℕ) (b b' : BusState) (v : ℕ) → Going m n c out u into b → b.shown ≡ DataOut → Shows b
    → u.moved < length out → v ≡ get_or out u.moved 0 → Did b (give v) done b' → Going m n c out (one_more u) into b'
gave m n c out u into b b' v g e s left byte d =
    let x = g.nexus in
    let seen = met m n c out u into b b' g DataOut (give v) done e s d in
    let see = seen.0 in
    let far = g.so_far in
    let now : (see.sent ≡ c) × Moved m n c out x.place into x = search rules in
    let out_way = subst (λ (k : List ℕ). way_of m n.target n.lun k ≡ Out) now.0 see.out_way in
    record {
      nexus = given v x;
      order = (d.keeps_rules g.order refl).order;
      cable = did_give m n x v b' seen.1;
      place = ap suc g.place ∙ sym (add-one u.moved);
      so_far =
          let further = more x out_way g.place (byte ∙ ap (λ (k : ℕ). get_or out k 0) (sym g.place)) now.1 in
          search rules;
    }
  where
    more : (x : Nexus) → way_of m n.target n.lun c ≡ Out → x.place ≡ u.moved → v ≡ get_or out x.place 0 → Moved m n c out x.place into x → Moved m n c out (suc x.place) into (given v x)
    more x w place byte h =
        record {
          given = rw (h.given, w, byte) refl;
          enough = λ w'. omega (arith, place);
          room = λ w'. absurd cc;
          taken = λ w' i l. absurd cc;
        }

-- an in byte is taken, and put at its place
pub took_byte : (m : Model) (n : Name) (c out : List ℕ) (u : Carried) (into : List ℕ) (b b' : BusState) (v w : ℕ) → Going m n c out u into b → b.shown ≡ DataIn w → Shows b
    → u.moved < length into → Did b take (took v) b' → Going m n c out (one_more u) (set into u.moved v) b'
took_byte m n c out u into b b' v w g e s room d =
    let x = g.nexus in
    let seen = met m n c out u into b b' g (DataIn w) take (took v) e s d in
    let see = seen.0 in
    let d' = did_take_data m n x v w b' seen.1 in
    let far = g.so_far in
    let now : (see.sent ≡ c) × Moved m n c out x.place into x = search rules in
    let in_way = subst (λ (k : List ℕ). way_of m n.target n.lun k ≡ In) now.0 see.in_way in
    let byte = subst (λ (k : List ℕ). w ≡ byte_of m n.target n.lun k x.place) now.0 see.the_byte in
    record {
      nexus = moved x;
      order = (d.keeps_rules g.order refl).order;
      cable = d'.1;
      place = ap suc g.place ∙ sym (add-one u.moved);
      so_far =
          let further = more x in_way g.place (d'.0 ∙ byte) now.1 in
          search rules;
    }
  where
    more : (x : Nexus) → way_of m n.target n.lun c ≡ In → x.place ≡ u.moved → v ≡ byte_of m n.target n.lun c x.place → Moved m n c out x.place into x
        → Moved m n c out (suc x.place) (set into u.moved v) (moved x)
    more x w place byte h =
        record {
          given = rw (h.given, w) refl;
          enough = λ w'. absurd cc;
          room = λ w'. simp length-set (omega (arith, place));
          taken = λ w' i l. grind (arith, common_steps, get_or-set_same, get_or-set_other, h.taken w);
        }

-- the status is taken
pub took_status : (m : Model) (n : Name) (c out : List ℕ) (u : Carried) (into : List ℕ) (b b' : BusState) (v w : ℕ) → Going m n c out u into b → b.shown ≡ Status w → Shows b
    → Did b take (took v) b' → Going m n c out (record { status = v; moved = u.moved }) into b'
took_status m n c out u into b b' v w g e s d =
    let x = g.nexus in
    let seen = met m n c out u into b b' g (Status w) take (took v) e s d in
    let see = seen.0 in
    let d' = did_take_status m n x v w b' seen.1 in
    let far = g.so_far in
    let now : (see.sent ≡ c) × Moved m n c out x.place into x = search rules in
    let told : Told m n c (record { status = v; moved = u.moved }) v = record {
      noted = refl;
      status = d'.0 ∙ subst (λ (k : List ℕ). w ≡ status_of m n.target n.lun k) now.0 see.the_status;
      count = sym g.place ∙ subst (λ (k : List ℕ). x.place ≡ count_of m n.target n.lun k) now.0 see.at_count;
    }
    in
    record {
      nexus = ended v x;
      order = (d.keeps_rules g.order refl).order;
      cable = d'.1;
      place = g.place;
      so_far =
          let as_far : Moved m n c out x.place into (ended v x) = record { given = now.1.given; enough = now.1.enough; room = now.1.room; taken = now.1.taken } in
          search rules;
    }

-- COMMAND COMPLETE is no message before status
never_complete : (x : Nexus) (v : ℕ) → Utters x v → v ≡ 0 → ⊥
never_complete x v u e = grind arith

-- COMMAND COMPLETE is taken: the command is served
pub completed_turn : (m : Model) (n : Name) (c out : List ℕ) (u : Carried) (into : List ℕ) (b b' : BusState) (v : ℕ) → Going m n c out u into b → b.shown ≡ MessageIn 0 → Shows b
    → Did b take (took v) b' → Over m n c out u into b'
completed_turn m n c out u into b b' v g e s d =
    let x = g.nexus in
    let seen = met m n c out u into b b' g (MessageIn 0) take (took v) e s d in
    let see = seen.0 in
    let rest = did_take_complete m n x v b' seen.1 in
    record {
      order = (d.keeps_rules g.order refl).order;
      after = finishes n x.command x.collected m;
      cable = rest;
      served = whole x x.command x.status g.place see g.so_far;
    }
  where
    whole : (x : Nexus) (o : Option (List ℕ)) (st : Option ℕ) → x.place ≡ u.moved → MessageBy x st 0 → SoFar m n c out u into x o st
        → ServedWhole m n.target n.lun c out u into (finishes n o x.collected m)
    whole x o None p see far = absurd (never_complete x 0 see refl)
    whole x None (Some st) p see far = let z : ◌≡◌ {A = ℕ} 0 1 = cc far.2 in absurd (omega arith)
    whole x (Some k) (Some st) p see far =
        record {
          status = far.2.noted ∙ far.2.status;
          count = far.2.count;
          bytes = λ w i h. far.1.taken w i (omega (arith, p));
          room = λ w. omega (arith, p, far.1.room w);
          enough = λ w. omega (arith, p, far.1.enough w);
          shelf = ap (λ (d : List ℕ). finished m n.target n.lun d x.collected) far.0
              ∙ ap (finished m n.target n.lun c) (far.1.given ∙ ap (λ (j : ℕ). outs (way_of m n.target n.lun c) j (λ i. get_or out i 0)) (p ∙ far.2.count));
        }
