-- A whim bus keeps the rules of a bus: calls on a held line. Assumes nothing.
use Rattle.std.specs.Prelude.{◌≡◌, ℕ, suc, ◌<◌, ◌≤◌, Bool, true, cond, ◌&&◌, ltb, List, [], ◌∷◌, ◌++◌, length, get_or, Some, Option, nat_le, nat_lt, slice_index_or, refl}
use Rattle.std.proofs.Common.{sym, ap, ap₂, subst, ◌∙◌, arith}
use Rattle.std.proofs.lemmas.Bool.{eq-eqb, le-leb, and_parts, and_from}
use Rattle.shelf.specs.declared.Way.{Way}
use Rattle.shelf.specs.declared.Way.TheVariants.{Still, In, Out}
use Rattle.shelf.specs.Model.{Model, way_of, count_of, finished}
use Rattle.shelf.specs.Serving.{outs}
use Rattle.bus.specs.State.{Name, Nexus, Cable, close, change, moved, given, saves as saved, restored, free, with_line as with_bus_line, sent as commands, ended as ends}
use Rattle.bus.specs.Effects.{leaves as bus_leaves}
use Rattle.whim_bus.specs.declared.state.Line.TheVariants.{Free, Held}
use Rattle.whim_bus.specs.Rows.{Stage, empty, fresh, commanded, ended, Row, blank, row_name, is_open, is_named, at_stage, moved_on, filled, saving, going_back}
use Rattle.whim_bus.specs.State.{Whim, with_row, with_line}
use Rattle.whim_bus.specs.Means.{command_sent, status_taken, collected, nexus, found, cable, apart, stage_sound, row_sound, all_sound, sound}
use Rattle.whim_bus.specs.Text.{sent, closes_row}
use Rattle.whim_bus.specs.Sound.{each_at, fresh_placed, underway_placed}
use Rattle.whim_bus.specs.Held.{firsts_given, nexus_back, changed_cable, changed_sound, closed_cable, closed_sound}

---- finishing a command on the shelf leaves every nexus as it is

collected_stays : (m : Model) (t l : ℕ) (d o : List ℕ) (r : Row) (g : Stage) → collected (finished m t l d o) r g ≡ collected m r g
collected_stays m t l d o r empty = refl
collected_stays m t l d o r fresh = refl
collected_stays m t l d o r (commanded c) = refl
collected_stays m t l d o r (ended c st) = refl

nexus_stays : (m : Model) (t l : ℕ) (d o : List ℕ) (r : Row) → nexus (finished m t l d o) r ≡ nexus m r
nexus_stays m t l d o r =
    λ i.
    record {
      leave = (nexus m r).leave;
      command = (nexus m r).command;
      status = (nexus m r).status;
      place = r.place;
      saved = r.saved;
      collected = collected_stays m t l d o r r.stage i;
    }

pub found_stays : (m : Model) (t l : ℕ) (d o : List ℕ) (rs : List Row) (n : Name) → found (finished m t l d o) rs n ≡ found m rs n
found_stays m t l d o [] n = refl
found_stays m t l d o (r ∷ rs) n = ap₂ (λ (x : Nexus) (y : Option Nexus). cond (is_named n r) (Some x) y) (nexus_stays m t l d o r) (found_stays m t l d o rs n)

stage_stays : (m : Model) (t l : ℕ) (d o : List ℕ) (r : Row) (g : Stage) → stage_sound (finished m t l d o) r g ≡ stage_sound m r g
stage_stays m t l d o r empty = refl
stage_stays m t l d o r fresh = refl
stage_stays m t l d o r (commanded c) = refl
stage_stays m t l d o r (ended c st) = refl

pub each_stays : (m : Model) (t l : ℕ) (d o : List ℕ) (rs : List Row) → all_sound (finished m t l d o) rs ≡ all_sound m rs
each_stays m t l d o [] = refl
each_stays m t l d o (r ∷ rs) =
    ap₂ (λ (x y : Bool). (nat_lt r.greeting.lun 8 && x) && y) (stage_stays m t l d o r r.stage) (each_stays m t l d o rs)

---- the nexus after each change of its row

module _ (m : Model) (r : Row) where
  nexus_sent : (d : List ℕ) → r.stage ≡ fresh → r.place ≡ 0 → nexus m (sent d r) ≡ commands d (nexus m r)
  nexus_sent d e p =
      λ i.
      record {
        leave = r.greeting.leave;
        command = Some d;
        status = ap status_taken (sym e) i;
        place = r.place;
        saved = r.saved;
        collected = path i;
      }
    where
      none : (w : Way) → outs w 0 r.bytes ≡ []
      none Still = refl
      none In = refl
      none Out = refl

      path : outs (way_of m r.target r.greeting.lun d) r.place r.bytes ≡ collected m r r.stage
      path =
          ap (λ (n : ℕ). outs (way_of m r.target r.greeting.lun d) n r.bytes) p
          ∙ none (way_of m r.target r.greeting.lun d)
          ∙ sym (ap (λ (g : Stage). collected m r g) e)

  nexus_moved : (d : List ℕ) → r.stage ≡ commanded d → way_of m r.target r.greeting.lun d ≡ In → nexus m (moved_on r) ≡ moved (nexus m r)
  nexus_moved d e w =
      λ i.
      record {
        leave = r.greeting.leave;
        command = command_sent r.stage;
        status = status_taken r.stage;
        place = suc r.place;
        saved = r.saved;
        collected = path i;
      }
    where
      path : collected m (moved_on r) r.stage ≡ collected m r r.stage
      path =
          ap (λ (g : Stage). collected m (moved_on r) g) e
          ∙ ap (λ (x : Way). outs x (suc r.place) r.bytes) w
          ∙ sym (ap (λ (x : Way). outs x r.place r.bytes) w)
          ∙ sym (ap (λ (g : Stage). collected m r g) e)

  nexus_given : (d : List ℕ) (v : ℕ) → r.stage ≡ commanded d → way_of m r.target r.greeting.lun d ≡ Out → nexus m (filled v r) ≡ given v (nexus m r)
  nexus_given d v e w =
      λ i.
      record {
        leave = r.greeting.leave;
        command = command_sent r.stage;
        status = status_taken r.stage;
        place = suc r.place;
        saved = r.saved;
        collected = path i;
      }
    where
      path : collected m (filled v r) r.stage ≡ collected m r r.stage ++ v ∷ []
      path =
          ap (λ (g : Stage). collected m (filled v r) g) e
          ∙ ap (λ (x : Way). outs x (suc r.place) (filled v r).bytes) w
          ∙ firsts_given r.place v r.bytes
          ∙ sym (ap (λ (x : Way). outs x r.place r.bytes ++ v ∷ []) w)
          ∙ sym (ap (λ (g : Stage). collected m r g ++ v ∷ []) e)

  nexus_ended : (d : List ℕ) (v : ℕ) → r.stage ≡ commanded d → nexus m (at_stage (ended d v) r) ≡ ends v (nexus m r)
  nexus_ended d v e =
      λ i.
      record {
        leave = r.greeting.leave;
        command = ap command_sent (sym e) i;
        status = Some v;
        place = r.place;
        saved = r.saved;
        collected = ap (λ (g : Stage). collected m r g) (sym e) i;
      }

---- a sound row stays sound

module _ (m : Model) (r : Row) (h : row_sound m r ≡ true) where
  low : ltb r.greeting.lun 8 ≡ true
  low = (and_parts (nat_lt r.greeting.lun 8) _ h).0

  sent_sound : (d : List ℕ) → r.stage ≡ fresh → row_sound m (sent d r) ≡ true
  sent_sound d e =
      let p = fresh_placed m r h e in
      and_from (nat_lt r.greeting.lun 8) _ low
      (and_from (nat_le r.saved r.place) _ (le-leb _ _ (omega (arith, p.0, p.1))) (le-leb _ _ (omega (arith, p.0))))

  -- a row with its command, at these places
  underway_sound : (d : List ℕ) (r' : Row) → r'.stage ≡ commanded d → nat_lt r'.greeting.lun 8 ≡ true → r'.saved ≤ r'.place
      → r'.place ≤ count_of m r'.target r'.greeting.lun d → row_sound m r' ≡ true
  underway_sound d r' e l p q =
      and_from (nat_lt r'.greeting.lun 8) _ l
      (subst (λ (g : Stage). stage_sound m r' g ≡ true) (sym e) (and_from (nat_le r'.saved r'.place) _ (le-leb _ _ p) (le-leb _ _ q)))

  ended_sound : (d : List ℕ) (v : ℕ) → r.stage ≡ commanded d → count_of m r.target r.greeting.lun d ≤ r.place → row_sound m (at_stage (ended d v) r) ≡ true
  ended_sound d v e l =
      let p = underway_placed m r h d e in
      let all : r.place ≡ count_of m r.target r.greeting.lun d = omega arith in
      and_from (nat_lt r.greeting.lun 8) _ low (and_from (nat_le r.saved r.place) _ (le-leb _ _ p.0) (eq-eqb _ _ all))

---- calls

-- a bus that means this, and is in order
abbrev pub Leads : Whim → Cable → Type 0
Leads w c = (cable w ≡ c) × (sound w ≡ true)

-- a whim bus whose line is held by row k
abbrev pub holding : Model → List Row → ℕ → List ℕ → ℕ → ℕ → Whim
holding m rs k whims at draw = record { shelf = m; rows = rs; line = Held k; whims = whims; at = at; draw = draw }

module _ (m : Model) (rs : List Row) (k : ℕ) (whims : List ℕ) (at draw : ℕ) (sixteen : length rs ≡ 16) (different : apart rs ≡ true) (each : all_sound m rs ≡ true)
    (o : is_open (slice_index_or rs k blank) ≡ true) where
  -- its row is changed and stays open
  changes : (r' : Row) (f : Nexus → Nexus) → row_name r' ≡ row_name (slice_index_or rs k blank) → is_open r' ≡ true → nexus m r' ≡ f (nexus m (slice_index_or rs k blank)) → row_sound m r' ≡ true
      → Leads (with_row k r' (holding m rs k whims at draw)) (change (row_name (slice_index_or rs k blank)) f (cable (holding m rs k whims at draw)))
  changes r' f same o' e s = (
    changed_cable (holding m rs k whims at draw) k different each sixteen o refl r' f same o' e,
    (changed_sound (holding m rs k whims at draw) k different each sixteen o r' same o' s).0,
  )

  sound_row : row_sound m (slice_index_or rs k blank) ≡ true
  sound_row = each_at m rs k each

  pub send_leads : (d : List ℕ) → (get_or rs k blank).stage ≡ fresh
      → Leads (with_row k (sent d (slice_index_or rs k blank)) (holding m rs k whims at draw)) (change (row_name (slice_index_or rs k blank)) (commands d) (cable (holding m rs k whims at draw)))
  send_leads d e =
      changes (sent d (slice_index_or rs k blank)) (commands d) refl refl (nexus_sent m (slice_index_or rs k blank) d e (fresh_placed m (slice_index_or rs k blank) sound_row e).0) (sent_sound m (slice_index_or rs k blank) sound_row d e)

  module _ (d : List ℕ) (e : (get_or rs k blank).stage ≡ commanded d) where
    placed : ((get_or rs k blank).saved ≤ (get_or rs k blank).place) × ((get_or rs k blank).place ≤ count_of m (get_or rs k blank).target (get_or rs k blank).greeting.lun d)
    placed = underway_placed m (slice_index_or rs k blank) sound_row d e

    lowest : ltb (get_or rs k blank).greeting.lun 8 ≡ true
    lowest = low m (slice_index_or rs k blank) sound_row

    pub give_leads : (v : ℕ) → way_of m (get_or rs k blank).target (get_or rs k blank).greeting.lun d ≡ Out
        → (get_or rs k blank).place < count_of m (get_or rs k blank).target (get_or rs k blank).greeting.lun d
        → Leads (with_row k (filled v (slice_index_or rs k blank)) (holding m rs k whims at draw)) (change (row_name (slice_index_or rs k blank)) (given v) (cable (holding m rs k whims at draw)))
    give_leads v w l =
        changes (filled v (slice_index_or rs k blank)) (given v) refl o (nexus_given m (slice_index_or rs k blank) d v e w)
        (underway_sound m (slice_index_or rs k blank) sound_row d (filled v (slice_index_or rs k blank)) e lowest (omega (arith, placed.0)) l)

    pub move_leads : way_of m (get_or rs k blank).target (get_or rs k blank).greeting.lun d ≡ In
        → (get_or rs k blank).place < count_of m (get_or rs k blank).target (get_or rs k blank).greeting.lun d
        → Leads (with_row k (moved_on (slice_index_or rs k blank)) (holding m rs k whims at draw)) (change (row_name (slice_index_or rs k blank)) moved (cable (holding m rs k whims at draw)))
    move_leads w l =
        changes (moved_on (slice_index_or rs k blank)) moved refl o (nexus_moved m (slice_index_or rs k blank) d e w)
        (underway_sound m (slice_index_or rs k blank) sound_row d (moved_on (slice_index_or rs k blank)) e lowest (omega (arith, placed.0)) l)

    pub save_leads : Leads (with_row k (saving (slice_index_or rs k blank)) (holding m rs k whims at draw)) (change (row_name (slice_index_or rs k blank)) saved (cable (holding m rs k whims at draw)))
    save_leads =
        changes (saving (slice_index_or rs k blank)) saved refl o refl
        (underway_sound m (slice_index_or rs k blank) sound_row d (saving (slice_index_or rs k blank)) e lowest (omega arith) placed.1)

    back_sound : row_sound m (going_back (slice_index_or rs k blank)) ≡ true
    back_sound = underway_sound m (slice_index_or rs k blank) sound_row d (going_back (slice_index_or rs k blank)) e lowest (omega arith) (omega (arith, placed.0, placed.1))

    pub back_leads : Leads (with_row k (going_back (slice_index_or rs k blank)) (holding m rs k whims at draw)) (change (row_name (slice_index_or rs k blank)) restored (cable (holding m rs k whims at draw)))
    back_leads = changes (going_back (slice_index_or rs k blank)) restored refl o (nexus_back m (slice_index_or rs k blank) placed.0) back_sound

    pub leave_leads : Leads (with_line Free (with_row k (going_back (slice_index_or rs k blank)) (holding m rs k whims at draw))) (bus_leaves (row_name (slice_index_or rs k blank)) (cable (holding m rs k whims at draw)))
    leave_leads = (
      ap (λ (c : Cable). with_bus_line free c) back_leads.0,
      (changed_sound (holding m rs k whims at draw) k different each sixteen o (going_back (slice_index_or rs k blank)) refl o back_sound).1,
    )

    pub end_leads : (v : ℕ) → count_of m (get_or rs k blank).target (get_or rs k blank).greeting.lun d ≤ (get_or rs k blank).place
        → Leads (with_row k (at_stage (ended d v) (slice_index_or rs k blank)) (holding m rs k whims at draw)) (change (row_name (slice_index_or rs k blank)) (ends v) (cable (holding m rs k whims at draw)))
    end_leads v l =
        changes (at_stage (ended d v) (slice_index_or rs k blank)) (ends v) refl refl (nexus_ended m (slice_index_or rs k blank) d v e) (ended_sound m (slice_index_or rs k blank) sound_row d v e l)

  pub close_leads : Leads (closes_row k (slice_index_or rs k blank) (holding m rs k whims at draw)) (close (row_name (slice_index_or rs k blank)) (cable (holding m rs k whims at draw)))
  close_leads = (closed_cable (holding m rs k whims at draw) k different each sixteen o, closed_sound (holding m rs k whims at draw) k different each sixteen o)
