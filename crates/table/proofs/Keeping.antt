-- How parts of the invariant carry over a change of one slot and its nexus. Assumes nothing.
use Rattle.std.proofs.Common.{◌≡◌, ℕ, ◌+◌, ◌<◌, ◌≤◌, Bool, true, false, cond, not, ◌&&◌, List, [], get_or, Some, None, Option, sym, refl, ap, ◌∙◌, subst, arith}
use Rattle.std.proofs.lemmas.Bool.{and_from, eq-eqb}
use Rattle.scsi.specs.Commands.{well_sized}
use Rattle.shelf.specs.Model.{Model}
use Rattle.shelf.specs.Serving.{Served}
use Rattle.bus.specs.State.{Name, Nexus, Cable, BusState, same_name, adjust, change, Line as BusLine}
use Rattle.bus.specs.Calls.{Call, Reply}
use Rattle.bus.specs.Rules.{Did, InOrder}
use Rattle.bus.specs.Refusals.{due}
use Rattle.slots.specs.declared.command.Manner.{Manner}
use Rattle.slots.specs.declared.command.Manner.TheVariants.{Plain, Leaving, Tagged}
use Rattle.slots.specs.declared.slot.Outcome.TheVariants.{Done, Absent, Overrun, WrongWay, Dropped, Reset}
use Rattle.slots.specs.declared.slot.State.{State}
use Rattle.slots.specs.declared.slot.State.TheVariants.{Free, Waiting, Connected, Away, Finished}
use Rattle.bus.proofs.Names.{same_name_refl, same_name_is, apart_name}
use Rattle.table.specs.Engine.{Command, Entry, Engine, Line, idle, greeted, named, tag_due, held, in_use, is_open, is_waiting, is_in, tagged, tag_for, name_for, same_unit, numbered, stands_on, put_slot, set_slot}
use Rattle.table.specs.Serving.{Kept, Serving}
use Rattle.table.specs.Guarantee.{AsServed}
use Rattle.table.proofs.Basics.{wrong, put_cases, put_here, put_there, tally_same}
use Rattle.table.proofs.States.{open_used}
use Rattle.table.specs.Sound.{Once}
use Rattle.table.proofs.Invariant.{Book, Underway, HasNexus, Settled, Ties, Apart, line_means, begun_means}

-- the same slots in use, with the same commands
pub book_keeps : (e e' : Engine) (s : Serving) → e'.free ≡ e.free → e'.size ≡ e.size
    → ((j : ℕ) → in_use (e'.slots j).state ≡ in_use (e.slots j).state) → ((j : ℕ) → (e'.slots j).command ≡ (e.slots j).command)
    → ((j : ℕ) → stands_on j e'.waiting ≡ is_waiting (e'.slots j).state) → Book e s → Book e' s
book_keeps e e' s f z u c w b =
    record {
      range = λ k h. b.range k (sym (u k) ∙ h);
      free_chain = λ k. ap (stands_on k) f ∙ b.free_chain k ∙ ap (λ (t : Bool). numbered k && not t) (sym (u k));
      free_once = subst Once (sym f) b.free_once;
      waiting_chain = w;
      kept = λ k h. b.kept k (sym (u k) ∙ h) ∙ sym (c k);
      counted = b.counted ∙ ap (λ (n : ℕ). s.collected + n) (tally_same 16 _ _ (λ k l h. sym (u k)));
      well = λ k h. ap (λ (d : Command). well_sized d.bytes) (c k) ∙ b.well k (sym (u k) ∙ h);
      lun_small = λ k h. subst (λ (d : Command). d.lun < 8) (sym (c k)) (b.lun_small k (sym (u k) ∙ h));
      inside = λ k h. subst (λ (n : ℕ). (e'.slots k).command.base + (e'.slots k).command.length ≤ n) (sym z)
          (subst (λ (d : Command). d.base + d.length ≤ e.size) (sym (c k)) (b.inside k (sym (u k) ∙ h)));
      apart = λ j k g h ne d. subst (λ (x : Command). Apart (e'.slots j).command x) (sym (c k))
          (subst (λ (x : Command). Apart x (e.slots k).command) (sym (c j))
          (b.apart j k (sym (u j) ∙ g) (sym (u k) ∙ h) ne (ap (λ (x : Command). is_in x.direction) (sym (c j)) ∙ d)));
    }

-- open commands have different names
pub tag_apart : (j k : ℕ) (a b : Manner) → (j ≡ k → ⊥) → tagged a ≡ true → tagged b ≡ true → tag_for j a ≡ tag_for k b → ⊥
tag_apart j k Plain b ne p q r = wrong false p refl
tag_apart j k Leaving b ne p q r = wrong false p refl
tag_apart j k Tagged Plain ne p q r = wrong false q refl
tag_apart j k Tagged Leaving ne p q r = wrong false q refl
tag_apart j k Tagged Tagged ne p q r = let z : j ≡ k = cc in ne z

pub names_apart : (e : Engine) (c : Cable) (m : List ℕ) (s : Serving) → Ties e c m s → (j k : ℕ)
    → is_open (e.slots j).state ≡ true → is_open (e.slots k).state ≡ true → (j ≡ k → ⊥)
    → same_name (name_for j (e.slots j).command) (name_for k (e.slots k).command) ≡ false
names_apart e c m s t j k g h ne = apart_name _ _ clash
  where
    clash : name_for j (e.slots j).command ≡ name_for k (e.slots k).command → ⊥
    clash q =
        let u = t.units j k g h ne (and_from _ _ (eq-eqb _ _ (ap (λ (n : Name). n.target) q)) (eq-eqb _ _ (ap (λ (n : Name). n.lun) q))) in
        tag_apart j k (e.slots j).command.manner (e.slots k).command.manner ne u.0 u.1 (ap (λ (n : Name). n.tag) q)

-- memory that agrees on a region
abbrev pub Agrees : List ℕ → List ℕ → Command → Type 0
Agrees m m' c = (i : ℕ) → i < c.length → get_or m' (c.base + i) 0 ≡ get_or m (c.base + i) 0

pub served_on : (x : Entry) (m m' : List ℕ) (p : Kept) (r : Served) → Agrees m m' x.command → AsServed x m p r → AsServed x m' p r
served_on x m m' p r g h = record { status = h.status; count = h.count; region = λ d i l. g i l ∙ h.region d i l }

pub settled_on : (t : State) (x : Entry) (m m' : List ℕ) (p : Kept) (r : Served) → (in_use t ≡ true → Agrees m m' x.command) → Settled t x m p r → Settled t x m' p r
settled_on Free x m m' p r g h = tt
settled_on Waiting x m m' p r g h = (h.0, h.1, λ i l. g refl i l ∙ h.2 i l)
settled_on Connected x m m' p r g h = tt
settled_on Away x m m' p r g h = tt
settled_on (Finished Done) x m m' p r g h = served_on x m m' p r (g refl) h
settled_on (Finished Absent) x m m' p r g h = tt
settled_on (Finished Overrun) x m m' p r g h = tt
settled_on (Finished WrongWay) x m m' p r g h = tt
settled_on (Finished Dropped) x m m' p r g h = tt
settled_on (Finished Reset) x m m' p r g h = tt

pub settled_open : (t : State) (x : Entry) (m : List ℕ) (p : Kept) (r : Served) → is_open t ≡ true → Settled t x m p r
settled_open Free x m p r h = wrong false h refl
settled_open Waiting x m p r h = wrong false h refl
settled_open Connected x m p r h = tt
settled_open Away x m p r h = tt
settled_open (Finished o) x m p r h = wrong false h refl

-- a granted call of a bus in order
pub granted : {b : BusState} {c : Call} {y : Reply} {b' : BusState} → Did b c y b' → b.order ≡ true → due b c ≡ false → InOrder b c y b'
granted d o h = d.keeps_rules o (d.turned_down ∙ h)

-- the nexus changed, and the others
pub change_here : (n : Name) (f : Nexus → Nexus) (c : Cable) (y : Nexus) → c.nexuses n ≡ Some y → (change n f c).nexuses n ≡ Some (f y)
change_here n f c y h = ap (λ (t : Bool). cond t (adjust f (c.nexuses n)) (c.nexuses n)) (same_name_refl n) ∙ ap (adjust f) h

-- underway still, for a command that is not connected: same shelf, same bytes in its region
pub underway_on : (sh sh' : Model) (f f' : Name → Option Nexus) (m m' : List ℕ) (x : Entry) (p : ℕ → ℕ) (y : Nexus)
    → sh' ≡ sh → (x.state ≡ Connected → ⊥) → Agrees m m' x.command → Underway sh f m x p y → Underway sh' f' m' x p y
underway_on sh sh' f f' m m' x p y e nc g h = subst (λ (z : Model). Underway z f' m' x p y) (sym e)
    (record {
      command = h.command;
      status = h.status;
      place_on = h.place_on;
      place_away = h.place_away;
      saved = h.saved;
      low = h.low;
      unsent = h.unsent;
      out = h.out;
      fetched = λ d w i l u. g i u ∙ h.fetched d w i l u;
      untouched = λ i l n. g i l ∙ h.untouched i l n;
      closing = λ st q. absurd (nc (h.closing st q).connected);
    })

pub line_same : (e e' : Engine) (l : Line) → ((j : ℕ) → (e'.slots j).command ≡ (e.slots j).command) → line_means e' l ≡ line_means e l
line_same e e' idle h = refl
line_same e e' (greeted t) h = refl
line_same e e' (named t l) h = refl
line_same e e' (tag_due t l) h = refl
line_same e e' (held k bs) h = ap (λ (c : Command). BusLine.held (name_for k c)) (h k)

-- one open command moves on, with its nexus
pub record Move (e : Engine) (c : Cable) (m : List ℕ) (s : Serving) (k : ℕ) (x : Entry) (l : Line) (c' : Cable) (m' : List ℕ) : Type 0 where
  pub was : is_open (e.slots k).state ≡ true
  pub now : is_open x.state ≡ true
  pub same_command : x.command ≡ (e.slots k).command
  pub alone : (j : ℕ) → (j ≡ k → ⊥) → (e.slots j).state ≡ Connected → ⊥
  pub line : c'.line ≡ line_means e l
  pub begun : c'.begun ≡ begun_means l
  pub connected : x.state ≡ Connected → (bs : List ℕ) × (l ≡ held k bs)
  pub holding : (j : ℕ) (bs : List ℕ) → l ≡ held j bs → (j ≡ k) × (x.state ≡ Connected)
  pub shelf : c'.shelf ≡ c.shelf
  pub nexus : Nexus
  pub here : c'.nexuses (name_for k (e.slots k).command) ≡ Some nexus
  pub there : (n : Name) → same_name n (name_for k (e.slots k).command) ≡ false → c'.nexuses n ≡ c.nexuses n
  pub memory : (j : ℕ) → (j ≡ k → ⊥) → in_use (e.slots j).state ≡ true → Agrees m m' (e.slots j).command
  pub underway : Underway c'.shelf c'.nexuses m' x (s.kept k).bytes nexus

module _ (e : Engine) (c : Cable) (m : List ℕ) (s : Serving) (k : ℕ) (x : Entry) (l : Line) (c' : Cable) (m' : List ℕ) where
  move_commands : x.command ≡ (e.slots k).command → (j : ℕ) → ((set_slot k x l e).slots j).command ≡ (e.slots j).command
  move_commands q = put_cases (λ (j : ℕ) (y : Entry). y.command ≡ (e.slots j).command) k x e.slots q (λ j ne. refl)

  move_opens : is_open x.state ≡ is_open (e.slots k).state → (j : ℕ) → is_open ((set_slot k x l e).slots j).state ≡ is_open (e.slots j).state
  move_opens q = put_cases (λ (j : ℕ) (y : Entry). is_open y.state ≡ is_open (e.slots j).state) k x e.slots q (λ j ne. refl)

  pub retie : Ties e c m s → Move e c m s k x l c' m' → Ties (set_slot k x l e) c' m' s
  retie t v =
      let cs = move_commands v.same_command in
      let os = move_opens (v.now ∙ sym v.was) in
      record {
        line = v.line ∙ sym (line_same e (set_slot k x l e) l cs);
        begun = v.begun;
        connected = put_cases (λ (j : ℕ) (y : Entry). y.state ≡ Connected → (bs : List ℕ) × (l ≡ held j bs)) k x e.slots
            v.connected (λ j ne q. absurd (v.alone j ne q));
        holding = λ j bs q. let r = v.holding j bs q in
            subst (λ (i : ℕ). (put_slot k x e.slots i).state ≡ Connected) (sym r.0) (ap (λ (y : Entry). y.state) (put_here k x (e.slots k)) ∙ r.1);
        nexus = put_cases (λ (j : ℕ) (y : Entry). is_open y.state ≡ true → HasNexus c' m' j y (s.kept j).bytes) k x e.slots
            (λ q. record { nexus = v.nexus; here = ap (λ (d : Command). c'.nexuses (name_for k d)) v.same_command ∙ v.here; underway = v.underway })
            (λ j ne q. let h = t.nexus j q in
            record {
              nexus = h.nexus;
              here = v.there _ (names_apart e c m s t j k q v.was ne) ∙ h.here;
              underway = underway_on _ _ _ _ m m' (e.slots j) (s.kept j).bytes h.nexus v.shelf (v.alone j ne) (v.memory j ne (open_used _ q)) h.underway;
            });
        owned = λ n y q. own cs os n y q (same_name n (name_for k (e.slots k).command)) refl;
        units = λ i j p q ne u. two cs i j (t.units i j (sym (os i) ∙ p) (sym (os j) ∙ q) ne (uu cs i j ∙ u));
        settled = put_cases (λ (j : ℕ) (y : Entry). Settled y.state y m' (s.kept j) (s.results j)) k x e.slots
            (settled_open x.state x m' _ _ v.now)
            (λ j ne. settled_on (e.slots j).state (e.slots j) m m' _ _ (v.memory j ne) (t.settled j));
      }
    where
      own : ((j : ℕ) → ((set_slot k x l e).slots j).command ≡ (e.slots j).command) → ((j : ℕ) → is_open ((set_slot k x l e).slots j).state ≡ is_open (e.slots j).state)
          → (n : Name) (y : Nexus) → c'.nexuses n ≡ Some y → (b : Bool) → same_name n (name_for k (e.slots k).command) ≡ b
          → (j : ℕ) × (is_open ((set_slot k x l e).slots j).state ≡ true) × (name_for j ((set_slot k x l e).slots j).command ≡ n)
      own cs os n y q true r = (k, os k ∙ v.was, ap (name_for k) (cs k) ∙ sym (same_name_is n _ r))
      own cs os n y q false r = let h = t.owned n y (sym (v.there n r) ∙ q) in (h.0, os h.0 ∙ h.1, ap (name_for h.0) (cs h.0) ∙ h.2)

      uu : ((j : ℕ) → ((set_slot k x l e).slots j).command ≡ (e.slots j).command) → (i j : ℕ)
          → same_unit (e.slots i).command (e.slots j).command ≡ same_unit ((set_slot k x l e).slots i).command ((set_slot k x l e).slots j).command
      uu cs i j = rw (cs i, cs j) refl

      two : ((j : ℕ) → ((set_slot k x l e).slots j).command ≡ (e.slots j).command) → (i j : ℕ)
          → (tagged (e.slots i).command.manner ≡ true) × (tagged (e.slots j).command.manner ≡ true)
          → (tagged ((set_slot k x l e).slots i).command.manner ≡ true) × (tagged ((set_slot k x l e).slots j).command.manner ≡ true)
      two cs i j h = (ap (λ (d : Command). tagged d.manner) (cs i) ∙ h.0, ap (λ (d : Command). tagged d.manner) (cs j) ∙ h.1)

-- one open command ends, and its nexus closes
pub record Close (e : Engine) (c : Cable) (m : List ℕ) (s s' : Serving) (k : ℕ) (x : Entry) (c' : Cable) : Type 0 where
  pub was : is_open (e.slots k).state ≡ true
  pub now : is_open x.state ≡ false
  pub same_command : x.command ≡ (e.slots k).command
  pub alone : (j : ℕ) → (j ≡ k → ⊥) → (e.slots j).state ≡ Connected → ⊥
  pub line : c'.line ≡ BusLine.free
  pub begun : c'.begun ≡ []
  pub here : c'.nexuses (name_for k (e.slots k).command) ≡ None
  pub there : (n : Name) → same_name n (name_for k (e.slots k).command) ≡ false → c'.nexuses n ≡ c.nexuses n
  pub others : (j : ℕ) → (j ≡ k → ⊥) → is_open (e.slots j).state ≡ true → (y : Nexus) → c.nexuses (name_for j (e.slots j).command) ≡ Some y
      → Underway c.shelf c.nexuses m (e.slots j) (s.kept j).bytes y → Underway c'.shelf c'.nexuses m (e.slots j) (s'.kept j).bytes y
  pub ended : Settled x.state x m (s'.kept k) (s'.results k)
  pub settled : (j : ℕ) → (j ≡ k → ⊥) → Settled (e.slots j).state (e.slots j) m (s'.kept j) (s'.results j)

module _ (e : Engine) (c : Cable) (m : List ℕ) (s s' : Serving) (k : ℕ) (x : Entry) (c' : Cable) where
  pub untie : Ties e c m s → Close e c m s s' k x c' → Ties (set_slot k x idle e) c' m s'
  untie t v =
      record {
        line = v.line;
        begun = v.begun;
        connected = put_cases (λ (j : ℕ) (y : Entry). y.state ≡ Connected → (bs : List ℕ) × (idle ≡ held j bs)) k x e.slots
            (λ q. wrong (is_open x.state) (ap is_open q) v.now) (λ j ne q. absurd (v.alone j ne q));
        holding = λ j bs q. let o : ◌≡◌ {A = ℕ} 0 1 = cc in absurd (omega arith);
        nexus = put_cases (λ (j : ℕ) (y : Entry). is_open y.state ≡ true → HasNexus c' m j y (s'.kept j).bytes) k x e.slots
            (λ q. wrong (is_open x.state) q v.now)
            (λ j ne q. let h = t.nexus j q in
            record {
              nexus = h.nexus;
              here = v.there _ (names_apart e c m s t j k q v.was ne) ∙ h.here;
              underway = v.others j ne q h.nexus h.here h.underway;
            });
        owned = λ n y q. own n y q (same_name n (name_for k (e.slots k).command)) refl;
        units = λ i j. put_cases (λ (a : ℕ) (y : Entry). is_open y.state ≡ true → is_open ((set_slot k x idle e).slots j).state ≡ true → (a ≡ j → ⊥)
            → same_unit y.command ((set_slot k x idle e).slots j).command ≡ true → (tagged y.command.manner ≡ true) × (tagged ((set_slot k x idle e).slots j).command.manner ≡ true)) k x e.slots
            (λ p. wrong (is_open x.state) p v.now)
            (λ a na. put_cases (λ (b : ℕ) (z : Entry). is_open (e.slots a).state ≡ true → is_open z.state ≡ true → (a ≡ b → ⊥)
            → same_unit (e.slots a).command z.command ≡ true → (tagged (e.slots a).command.manner ≡ true) × (tagged z.command.manner ≡ true)) k x e.slots
            (λ p r. wrong (is_open x.state) r v.now) (λ b nb. t.units a b) j) i;
        settled = put_cases (λ (j : ℕ) (y : Entry). Settled y.state y m (s'.kept j) (s'.results j)) k x e.slots v.ended v.settled;
      }
    where
      own : (n : Name) (y : Nexus) → c'.nexuses n ≡ Some y → (b : Bool) → same_name n (name_for k (e.slots k).command) ≡ b
          → (j : ℕ) × (is_open ((set_slot k x idle e).slots j).state ≡ true) × (name_for j ((set_slot k x idle e).slots j).command ≡ n)
      own n y q true r =
          let z : None ≡ Some y = sym v.here ∙ sym (ap c'.nexuses (same_name_is n _ r)) ∙ q in
          let o : ◌≡◌ {A = ℕ} 0 1 = cc in absurd (omega arith)
      own n y q false r =
          let h = t.owned n y (sym (v.there n r) ∙ q) in
          (h.0, ap (λ (y : Entry). is_open y.state) (other h) ∙ h.1, ap (λ (y : Entry). name_for h.0 y.command) (other h) ∙ h.2)
        where
          other : (h : (j : ℕ) × (is_open (e.slots j).state ≡ true) × (name_for j (e.slots j).command ≡ n)) → put_slot k x e.slots h.0 ≡ e.slots h.0
          other h = put_there h.0 k x (e.slots h.0)
              (λ w. wrong (same_name n (name_for k (e.slots k).command))
              (ap (λ (z : Name). same_name z (name_for k (e.slots k).command)) (sym h.2 ∙ ap (λ (i : ℕ). name_for i (e.slots i).command) w) ∙ same_name_refl (name_for k (e.slots k).command)) r)
