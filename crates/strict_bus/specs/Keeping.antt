-- A strict bus keeps the rules of a bus. Assumes nothing.
use Rattle.std.specs.Prelude.{◌≡◌, ℕ, Bool, true, false, cond, not, List, is_some, Some, None, Option, ◌==◌, ◌≢◌, nat_lt, refl}
use Rattle.std.proofs.Common.{sym, ap, subst, ◌∙◌}
use Rattle.std.proofs.lemmas.Bool.{ltb-true, eqb-true, false≢true}
use Rattle.scsi.specs.Greetings.{greeting_of}
use Rattle.shelf.specs.declared.Way.{Way}
use Rattle.shelf.specs.declared.Way.TheVariants.{Still, In, Out}
use Rattle.shelf.specs.Model.{Model, is_present, way_of, count_of, byte_of, status_of}
use Rattle.bus.specs.declared.Shown.TheVariants.{Status, Pause}
use Rattle.bus.specs.Kinds.{byte_shown, target_shown}
use Rattle.bus.specs.State.{Name, Nexus, Heard, Line, free, retaken, held, Cable, BusState, put}
use Rattle.bus.specs.Calls.{Call, select, accept, command, give, take, speak, wait, reset, Reply, refused, selected, absent, is_refused, took_shown}
use Rattle.bus.specs.Refusals.{due}
use Rattle.bus.specs.Effects.{Selects, Takes, retakes, opens, on_holder}
use Rattle.bus.specs.Showing.{Shows, MayShow, MessageBy, NoReader, data_shown}
use Rattle.bus.specs.Rules.{Rule, Did, taken}
use Rattle.bus.proofs.Names.{put_here, put_only}
use Rattle.bus.proofs.Texts.{turned_down, granted_by, took_it}
use Rattle.strict_bus.specs.Text.{underway, by_status, by_command, strict, granted, does, takes_shown, Strictly}
use Rattle.strict_bus.specs.Holding.{state}

---- what is shown

-- the only nexus is no reader where its command goes out
no_reader : (m : Model) (n : Name) (x : Nexus) (d : List ℕ) → x.command ≡ Some d → way_of m n.target n.lun d ≡ Out
    → NoReader m (put n (Some x) (λ k. None)) n.target n.lun
no_reader m n x d c out k y e there sent in_way =
    let same : x ≡ y = put_only n x (record { target = n.target; lun = n.lun; tag = k }) y there in
    cc

underway_shows : (m : Model) (n : Name) (x : Nexus) (d : List ℕ) → x.command ≡ Some d → x.status ≡ None
    → MayShow m (put n (Some x) (λ k. None)) n x (underway m n d x.place)
underway_shows m n x d c s =
    go (nat_lt x.place (count_of m n.target n.lun d)) refl (way_of m n.target n.lun d) refl (x.place == count_of m n.target n.lun d) refl
  where
    go : (less : Bool) → nat_lt x.place (count_of m n.target n.lun d) ≡ less → (w : Way) → way_of m n.target n.lun d ≡ w
        → (last : Bool) → (x.place == count_of m n.target n.lun d) ≡ last
        → MayShow m (put n (Some x) (λ k. None)) n x
        (cond less (data_shown w (byte_of m n.target n.lun d x.place)) (cond last (Status (status_of m n.target n.lun d)) Pause))
    go true e Still w last f = tt
    go true e In w last f = record { sent = d; commanded = c; before_status = s; in_way = w; more = ltb-true _ _ e; the_byte = refl }
    go true e Out w last f = record { sent = d; commanded = c; before_status = s; out_way = w; more = ltb-true _ _ e }
    go false e way w true f =
        record { sent = d; commanded = c; before_status = s; at_count = eqb-true _ _ f; the_status = refl; alone = no_reader m n x d c }
    go false e way w false f = tt

-- what a strict bus shows to the nexus that holds the line
pub state_shows : (m : Model) (n : Name) (x : Nexus) → (x.command ≡ None → x.status ≡ None) → Shows (state m n x)
state_shows m n x h = (x, put_here n (Some x) (λ k. None), by x.command refl)
  where
    ended : (d : List ℕ) → x.command ≡ Some d → (s : Option ℕ) → x.status ≡ s → MayShow m (put n (Some x) (λ k. None)) n x (by_status m n d x.place s)
    ended d c None s = underway_shows m n x d c s
    ended d c (Some st) s = subst (λ (o : Option ℕ). MessageBy x o 0) (sym s) refl

    by : (o : Option (List ℕ)) → x.command ≡ o → MayShow m (put n (Some x) (λ k. None)) n x (by_command m n x o)
    by None c = (c, h c)
    by (Some d) c = ended d c x.status refl

---- what a call does

-- the line is free or held, and no target is shown
pub record Settled (b : BusState) : Type 0 where
  pub never_retaken : (t : ℕ) (h : Heard) → b.cable.line ≢ retaken t h
  pub no_target : target_shown b.shown ≡ None

selects : (c : Cable) (t : ℕ) (g : List ℕ) (p : Bool) → is_present c.shelf t ≡ p → Selects c t g (cond p selected absent) (cond p (opens t (greeting_of g) c) c)
selects c t g true h = (h, refl)
selects c t g false h = (h, refl)

takes_it : (b : BusState) (l : Line) → ((t : ℕ) (h : Heard) → l ≢ retaken t h) → (o : Option ℕ) → not (is_some o) ≡ false
    → Takes l b.shown (taken (took_shown o)) b.cable (on_holder (takes_shown b.shown o) l b.cable)
takes_it b free never o d = refl
takes_it b (retaken t h) never o d = absurd (never t h refl)
takes_it b (held n) never None d = absurd (false≢true (sym d))
takes_it b (held n) never (Some v) d = refl

rule : (b : BusState) (c : Call) → Settled b → due b c ≡ false → Rule b c (granted b c) (does b c)
rule b (select t g) s h = selects b.cable t g (is_present b.cable.shelf t) refl
rule b accept s h = sym (ap (λ (o : Option ℕ). retakes o b.cable) s.no_target)
rule b (command d) s h = refl
rule b (give v) s h = refl
rule b take s h = takes_it b b.cable.line s.never_retaken (byte_shown b.shown) h
rule b (speak m) s h = refl
rule b wait s h = refl
rule b reset s h = refl

found_it : (p : Bool) → is_refused (cond p selected absent) ≡ false
found_it true = refl
found_it false = refl

-- what is allowed is not refused
not_refused : (b : BusState) (c : Call) → due b c ≡ false → is_refused (granted b c) ≡ false
not_refused b (select t g) h = found_it (is_present b.cable.shelf t)
not_refused b accept h = refl
not_refused b (command d) h = refl
not_refused b (give v) h = refl
not_refused b take h = took_it (byte_shown b.shown) h
not_refused b (speak m) h = refl
not_refused b wait h = refl
not_refused b reset h = refl

-- one call of a strict bus keeps the rules
pub keeps : (b : BusState) (c : Call) (r : Reply) (b' : BusState) → Settled b → Strictly b c r b' → Shows b' → b'.order ≡ true → Did b c r b'
keeps b c r b' s did shows order = go (due b c) refl did.answer did.after
  where
    go : (t : Bool) → due b c ≡ t → r ≡ cond t (refused 11) (granted b c) → b' ≡ cond t b (strict (does b c)) → Did b c r b'
    go true d a e = turned_down b c r b' d a e
    go false d a e =
        granted_by b c r b' d (ap is_refused a ∙ not_refused b c d) (λ v is_take byte. a ∙ ap (granted b) is_take ∙ ap took_shown byte)
        (λ o.
        record {
          rule = subst (λ (q : Reply). Rule b c q b'.cable) (sym a) (subst (λ (x : BusState). Rule b c (granted b c) x.cable) (sym e) (rule b c s d));
          shows = shows;
          order = order;
        })
