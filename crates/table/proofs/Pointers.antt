-- One command and its nexus, row by row: data, command, status, pointers, disconnection. Assumes nothing.
use Rattle.std.proofs.Common.{◌≡◌, ℕ, suc, ◌+◌, ◌<◌, ◌≤◌, Bool, true, false, cond, eqb, List, [], ◌∷◌, ◌++◌, length, get_or, set, Some, None, Option, sym, refl, ap, ◌∙◌, subst, arith, get_or-set_other, get_or-set_same}
use Rattle.std.proofs.lemmas.Bool.{eqb-true, eqb-false}
use Rattle.shelf.specs.Model.{Model, way_of, count_of, byte_of, status_of}
use Rattle.shelf.specs.Serving.{outs}
use Rattle.shelf.specs.declared.Way.{Way}
use Rattle.shelf.specs.declared.Way.TheVariants.{Still, In, Out}
use Rattle.bus.specs.State.{Name, Nexus, sent, moved, given, ended, saves, restored, fresh_nexus, same_name}
use Rattle.bus.specs.Showing.{Offers, Asks, Closes}
use Rattle.slots.specs.declared.slot.State.TheVariants.{Connected, Away}
use Rattle.bus.proofs.Names.{same_name_is}
use Rattle.table.specs.Engine.{Entry, is_in, is_out, with_pointers, with_sent, with_status, with_state, name_for}
use Rattle.table.proofs.Basics.{wrong, take_outs}
use Rattle.table.proofs.Invariant.{Underway}

-- what a nexus was sent is the command
pub was_sent : (t : Bool) (o : Option (List ℕ)) (bs d : List ℕ) → o ≡ cond t (Some bs) None → o ≡ Some d → (t ≡ true) × (d ≡ bs)
was_sent true o bs d p q = (refl, cc)
was_sent false o bs d p q = absurd cc

pub no_status : {A : Type 0} (o : Option ℕ) (st : ℕ) → o ≡ None → o ≡ Some st → A
no_status o st p q = absurd cc

outs_in : (w : Way) (p q : ℕ) (f : ℕ → ℕ) → w ≡ In → outs w p f ≡ outs w q f
outs_in Still p q f h = refl
outs_in In p q f h = refl
outs_in Out p q f h = absurd cc

outs_out : (w : Way) (p : ℕ) (f : ℕ → ℕ) → w ≡ Out → outs w (suc p) f ≡ outs w p f ++ f p ∷ []
outs_out Still p f h = absurd cc
outs_out In p f h = absurd cc
outs_out Out p f h = refl

module _ (sh : Model) (f f' : Name → Option Nexus) (m : List ℕ) (x : Entry) (p : ℕ → ℕ) (y : Nexus) (u : Underway sh f m x p y) where
  -- DATA IN
  pub data_in : (k v : ℕ) → x.state ≡ Connected → is_in x.command.direction ≡ true → Offers sh (name_for k x.command) y v → x.command.base + x.current < length m
      → Underway sh f' (set m (x.command.base + x.current) v) (with_pointers (suc x.current) x.saved x) p (moved y)
  data_in k v c dir o fits =
      record {
        command = u.command;
        status = u.status;
        place_on = λ _. ap suc at;
        place_away = λ h. absurd (clash h);
        saved = u.saved;
        low = omega (arith, u.low);
        unsent = λ h. wrong x.sent ws.0 h;
        out = u.out ∙ outs_in _ y.place (suc y.place) p way;
        fetched = λ d w i l g. new d w i l g (eqb i y.place) refl;
        untouched = λ i l h. get_or-set_other m _ _ v 0 (λ e. apart i h e) ∙ u.untouched i l h;
        closing = λ st q. no_status y.status st o.before_status q;
      }
    where
      at : y.place ≡ x.current
      at = u.place_on c

      ws : (x.sent ≡ true) × (o.sent ≡ x.command.bytes)
      ws = was_sent x.sent y.command x.command.bytes o.sent u.command o.commanded

      clash : x.state ≡ Away → ⊥
      clash h = cc

      way : way_of sh x.command.target x.command.lun x.command.bytes ≡ In
      way = subst (λ (d : List ℕ). way_of sh x.command.target x.command.lun d ≡ In) ws.1 o.in_way

      more : y.place < count_of sh x.command.target x.command.lun x.command.bytes
      more = subst (λ (d : List ℕ). y.place < count_of sh x.command.target x.command.lun d) ws.1 o.more

      byte : v ≡ byte_of sh x.command.target x.command.lun x.command.bytes y.place
      byte = subst (λ (d : List ℕ). v ≡ byte_of sh x.command.target x.command.lun d y.place) ws.1 o.the_byte

      apart : (i : ℕ) → (is_in x.command.direction ≡ true → way_of sh x.command.target x.command.lun x.command.bytes ≡ In → count_of sh x.command.target x.command.lun x.command.bytes ≤ i)
          → x.command.base + i ≡ x.command.base + x.current → ⊥
      apart i h e = let g = h dir way in omega (arith, more, at, e, g)

      new : is_in x.command.direction ≡ true → way_of sh x.command.target x.command.lun x.command.bytes ≡ In → (i : ℕ) → i < suc y.place → i < x.command.length
          → (b : Bool) → eqb i y.place ≡ b
          → get_or (set m (x.command.base + x.current) v) (x.command.base + i) 0 ≡ byte_of sh x.command.target x.command.lun x.command.bytes i
      new d w i l g true e =
          let q : i ≡ y.place = eqb-true i y.place e in
          let r : x.command.base + i ≡ x.command.base + x.current = omega (arith, q, at) in
          rw r (get_or-set_same m _ v 0 fits) ∙ byte ∙ ap (byte_of sh x.command.target x.command.lun x.command.bytes) (sym q)
      new d w i l g false e =
          let ne = eqb-false i y.place e in
          get_or-set_other m _ _ v 0 (λ r. ne (omega (arith, r, at))) ∙ u.fetched d w i (omega arith) g

  -- DATA OUT
  pub data_out : (k : ℕ) → x.state ≡ Connected → is_out x.command.direction ≡ true → Asks sh (name_for k x.command) y → x.current < x.command.length
      → Underway sh f' m (with_pointers (suc x.current) x.saved x) p (given (get_or m (x.command.base + x.current) 0) y)
  data_out k c dir o fits =
      record {
        command = u.command;
        status = u.status;
        place_on = λ _. ap suc at;
        place_away = λ h. absurd (clash h);
        saved = u.saved;
        low = omega (arith, u.low);
        unsent = λ h. wrong x.sent ws.0 h;
        out = ap (λ (l : List ℕ). l ++ get_or m (x.command.base + x.current) 0 ∷ []) u.out
            ∙ ap (λ (v : ℕ). outs (way_of sh x.command.target x.command.lun x.command.bytes) y.place p ++ v ∷ []) byte
            ∙ sym (outs_out _ y.place p way);
        fetched = λ d w i l g. wrong (is_in x.command.direction) d (not_in x.command.direction dir);
        untouched = u.untouched;
        closing = λ st q. no_status y.status st o.before_status q;
      }
    where
      at : y.place ≡ x.current
      at = u.place_on c

      ws : (x.sent ≡ true) × (o.sent ≡ x.command.bytes)
      ws = was_sent x.sent y.command x.command.bytes o.sent u.command o.commanded

      clash : x.state ≡ Away → ⊥
      clash h = cc

      not_in : (w : Way) → is_out w ≡ true → is_in w ≡ false
      not_in Still h = refl
      not_in In h = wrong false h refl
      not_in Out h = refl

      way : way_of sh x.command.target x.command.lun x.command.bytes ≡ Out
      way = subst (λ (d : List ℕ). way_of sh x.command.target x.command.lun d ≡ Out) ws.1 o.out_way

      byte : get_or m (x.command.base + x.current) 0 ≡ p y.place
      byte = u.untouched x.current fits (λ d w. wrong (is_in x.command.direction) d (not_in x.command.direction dir)) ∙ ap p (sym at)

  -- COMMAND
  pub commanded : x.state ≡ Connected → y.command ≡ None → y.status ≡ None → Underway sh f' m (with_sent x) p (sent x.command.bytes y)
  commanded c h n =
      record {
        command = refl;
        status = u.status;
        place_on = u.place_on;
        place_away = u.place_away;
        saved = u.saved;
        low = u.low;
        unsent = λ q. wrong true refl q;
        out = u.out;
        fetched = u.fetched;
        untouched = u.untouched;
        closing = λ st q. no_status y.status st n q;
      }

  -- STATUS
  pub status_taken : (k v : ℕ) → x.state ≡ Connected → f (name_for k x.command) ≡ Some y → Closes sh f (name_for k x.command) y v
      → f' (name_for k x.command) ≡ Some (ended v y) → ((n : Name) → same_name n (name_for k x.command) ≡ false → f' n ≡ f n)
      → Underway sh f' m (with_status v x) p (ended v y)
  status_taken k v c here o now there =
      record {
        command = u.command;
        status = refl;
        place_on = u.place_on;
        place_away = u.place_away;
        saved = u.saved;
        low = u.low;
        unsent = u.unsent;
        out = u.out;
        fetched = u.fetched;
        untouched = u.untouched;
        closing = λ st q. record {
          connected = c;
          sent = ws.0;
          the_status = sym (some q) ∙ subst (λ (d : List ℕ). v ≡ status_of sh x.command.target x.command.lun d) ws.1 o.the_status;
          at_count = subst (λ (d : List ℕ). y.place ≡ count_of sh x.command.target x.command.lun d) ws.1 o.at_count;
          alone = λ w g z d h cm r. by (same_name (record { target = x.command.target; lun = x.command.lun; tag = g }) (name_for k x.command)) refl
              (subst (λ (d : List ℕ). way_of sh x.command.target x.command.lun d ≡ Out) (sym ws.1) w) g z d h cm r;
        };
      }
    where
      ws : (x.sent ≡ true) × (o.sent ≡ x.command.bytes)
      ws = was_sent x.sent y.command x.command.bytes o.sent u.command o.commanded

      some : {st : ℕ} → Some v ≡ Some st → v ≡ st
      some q = cc

      in_out : (w : Way) → w ≡ In → w ≡ Out → ⊥
      in_out w a b = cc

      by : {g : Option ℕ} (b : Bool) → same_name (record { target = x.command.target; lun = x.command.lun; tag = g }) (name_for k x.command) ≡ b
          → way_of sh x.command.target x.command.lun o.sent ≡ Out → (g' : Option ℕ) (z : Nexus) (d : List ℕ) → f' (record { target = x.command.target; lun = x.command.lun; tag = g }) ≡ Some z
          → z.command ≡ Some d → way_of sh x.command.target x.command.lun d ≡ In → ⊥
      by true e w g' z d h cm r =
          let q : Some (ended v y) ≡ Some z = sym now ∙ sym (ap f' (same_name_is _ _ e)) ∙ h in
          let zz : ended v y ≡ z = cc in
          let dd : Some o.sent ≡ Some d = sym o.commanded ∙ ap (λ (t : Nexus). t.command) zz ∙ cm in
          let d' : o.sent ≡ d = cc in
          in_out _ r (subst (λ (t : List ℕ). way_of sh x.command.target x.command.lun t ≡ Out) d' w)
      by false e w g' z d h cm r = o.alone w _ z d (sym (there _ e) ∙ h) cm r

  -- SAVE DATA POINTER
  pub saving : x.state ≡ Connected → y.status ≡ None → Underway sh f' m (with_pointers x.current x.current x) p (saves y)
  saving c n =
      record {
        command = u.command;
        status = u.status;
        place_on = u.place_on;
        place_away = λ h. absurd (clash h);
        saved = u.place_on c;
        low = omega arith;
        unsent = u.unsent;
        out = u.out;
        fetched = u.fetched;
        untouched = u.untouched;
        closing = λ st q. no_status y.status st n q;
      }
    where
      clash : x.state ≡ Away → ⊥
      clash h = cc

  -- RESTORE POINTERS
  pub restoring : x.state ≡ Connected → y.status ≡ None → Underway sh f' m (with_pointers x.saved x.saved x) p (restored y)
  restoring c n =
      record {
        command = u.command;
        status = u.status;
        place_on = λ _. u.saved;
        place_away = λ _. u.saved;
        saved = u.saved;
        low = omega arith;
        unsent = λ h. omega (arith, u.unsent h, u.low);
        out = ap (λ (l : List ℕ). lib.ListN.take y.saved l) u.out ∙ take_outs y.saved y.place _ p u.low;
        fetched = λ d w i l g. u.fetched d w i (omega (arith, u.low)) g;
        untouched = u.untouched;
        closing = λ st q. no_status y.status st n q;
      }

  -- DISCONNECT
  pub leaving : y.status ≡ None → Underway sh f' m (with_state Away x) p (restored y)
  leaving n =
      record {
        command = u.command;
        status = u.status;
        place_on = λ h. absurd (clash h);
        place_away = λ _. u.saved;
        saved = u.saved;
        low = omega arith;
        unsent = λ h. omega (arith, u.unsent h, u.low);
        out = ap (λ (l : List ℕ). lib.ListN.take y.saved l) u.out ∙ take_outs y.saved y.place _ p u.low;
        fetched = λ d w i l g. u.fetched d w i (omega (arith, u.low)) g;
        untouched = u.untouched;
        closing = λ st q. no_status y.status st n q;
      }
    where
      clash : Away ≡ Connected → ⊥
      clash h = cc

  -- reselection
  pub returning : x.state ≡ Away → Underway sh f' m (with_state Connected (with_pointers x.saved x.saved x)) p y
  returning a =
      record {
        command = u.command;
        status = u.status;
        place_on = λ _. u.place_away a;
        place_away = λ h. absurd (clash h);
        saved = u.saved;
        low = u.low;
        unsent = u.unsent;
        out = u.out;
        fetched = u.fetched;
        untouched = u.untouched;
        closing = λ st q. absurd (clash (sym (u.closing st q).connected ∙ a));
      }
    where
      clash : Connected ≡ Away → ⊥
      clash h = cc

-- a fresh nexus
pub beginning : (sh : Model) (f : Name → Option Nexus) (m : List ℕ) (x : Entry) (p : ℕ → ℕ) (leave : Bool)
    → x.sent ≡ false → x.status ≡ None → ((i : ℕ) → i < x.command.length → get_or m (x.command.base + i) 0 ≡ p i)
    → Underway sh f m (with_state Connected (with_pointers 0 0 x)) p (fresh_nexus leave)
beginning sh f m x p leave s n h =
    record {
      command = ap (λ (t : Bool). cond t (Some x.command.bytes) None) (sym s);
      status = sym n;
      place_on = λ _. refl;
      place_away = λ _. refl;
      saved = refl;
      low = omega arith;
      unsent = λ _. refl;
      out = none (way_of sh x.command.target x.command.lun x.command.bytes);
      fetched = λ d w i l g. absurd (omega arith);
      untouched = λ i l _. h i l;
      closing = λ st q. no_status None st refl q;
    }
  where
    none : (w : Way) → [] ≡ outs w 0 p
    none Still = refl
    none In = refl
    none Out = refl
