-- A whim bus keeps the rules of a bus: a command completed, and bytes taken on a held line. Assumes nothing.
use Rattle.std.specs.Prelude.{◌≡◌, ℕ, ◌-◌, ◌≤◌, true, false, cond, not, List, [], length, get_or, is_some, Some, None, Option, slice_index_or, refl}
use Rattle.std.specs.List.{count_by}
use Rattle.std.proofs.Common.{sym, ap, subst, ◌∙◌}
use Rattle.std.proofs.lemmas.Bool.{false≢true}
use Rattle.shelf.specs.Model.{Model, way_of, count_of, finished}
use Rattle.shelf.specs.Serving.{outs, served}
use Rattle.bus.specs.declared.Shown.{Shown}
use Rattle.bus.specs.declared.Shown.TheVariants.{MessageIn}
use Rattle.bus.specs.Kinds.{kind_of, byte_shown, shows_command, shows_data_out}
use Rattle.bus.specs.State.{Nexus, Cable, free, same_name, close, change, given, with_shelf as with_model, sent as commands, ended as ends}
use Rattle.bus.specs.Effects.{finishes, takes as bus_takes, completes as bus_completes}
use Rattle.bus.specs.Rules.{taken}
use Rattle.whim_bus.specs.Rows.{Stage, commanded, ended, Row, blank, row_name, is_open, at_stage, filled}
use Rattle.whim_bus.specs.State.{Whim, with_row}
use Rattle.whim_bus.specs.Means.{command_sent, collected, nexus, found, cable, apart, all_sound}
use Rattle.bus.specs.Calls.{took_shown}
use Rattle.whim_bus.specs.Text.{sent, status_kept, ending, completes, held_hears, takes}
use Rattle.whim_bus.specs.Going.{saves, restores, leaves, offers, asks, closes, pauses, Meets, new, going, over}
use Rattle.whim_bus.specs.Sound.{each_at, ended_placed}
use Rattle.whim_bus.specs.Held.{there}
use Rattle.whim_bus.specs.Keeping.{Leads, holding, found_stays, each_stays, give_leads, send_leads, move_leads, save_leads, back_leads, leave_leads, end_leads, close_leads}

module _ (m : Model) (rs : List Row) (k : ℕ) (whims : List ℕ) (at draw : ℕ) (sixteen : length rs ≡ 16) (different : apart rs ≡ true) (each : all_sound m rs ≡ true)
    (o : is_open (slice_index_or rs k blank) ≡ true) where
  -- what the command is finished with is what was collected
  finish_is : (d : List ℕ) (st : ℕ) → (get_or rs k blank).stage ≡ ended d st
      → served m (get_or rs k blank).target (get_or rs k blank).greeting.lun d (get_or rs k blank).bytes
      ≡ finishes (row_name (slice_index_or rs k blank)) (command_sent (get_or rs k blank).stage) (collected m (slice_index_or rs k blank) (get_or rs k blank).stage) m
  finish_is d st e =
      ap (λ (n : ℕ). finished m r.target r.greeting.lun d (outs (way_of m r.target r.greeting.lun d) n r.bytes))
      (sym (ended_placed m r (each_at m rs k each) d st e).1)
      ∙ sym (ap (λ (g : Stage). finishes (row_name r) (command_sent g) (collected m r g) m) e)
    where
      r : Row
      r = slice_index_or rs k blank

  complete_leads : (d : List ℕ) (st : ℕ) → (get_or rs k blank).stage ≡ ended d st
      → Leads (completes d k (slice_index_or rs k blank) (holding m rs k whims at draw)) (bus_takes 7 0 (row_name (slice_index_or rs k blank)) (cable (holding m rs k whims at draw)))
  complete_leads d st e =
      let served_leads = close_leads m' rs k whims at draw sixteen different (each_stays m r.target r.greeting.lun d out rs ∙ each) o in
      (served_leads.0 ∙ path ∙ sym (ap (λ (x : Option Nexus). bus_completes (row_name r) x (cable (holding m rs k whims at draw))) found_it), served_leads.1)
    where
      r : Row
      r = slice_index_or rs k blank

      out : List ℕ
      out = outs (way_of m r.target r.greeting.lun d) (count_of m r.target r.greeting.lun d) r.bytes

      m' : Model
      m' = finished m r.target r.greeting.lun d out

      found_it : found m rs (row_name r) ≡ Some (nexus m r)
      found_it = there (holding m rs k whims at draw) k different each sixteen o

      path : close (row_name r) (cable (holding m' rs k whims at draw))
          ≡ close (row_name r) (with_model (finishes (row_name r) (command_sent r.stage) (collected m r r.stage) m) (cable (holding m rs k whims at draw)))
      path =
          λ i.
          record {
            shelf = finish_is d st e i;
            nexuses = λ j. cond (same_name j (row_name r)) None (found_stays m r.target r.greeting.lun d out rs j i);
            opened = count_by is_open rs - 1;
            line = free;
            begun = [];
          }

  -- a byte taken
  heard : (v : ℕ) (g : Stage) (w' : Whim) (c : Cable) → (get_or rs k blank).stage ≡ g → held_hears v k (slice_index_or rs k blank) g (holding m rs k whims at draw) ≡ w' → Leads w' c
      → Leads (takes (MessageIn v) (holding m rs k whims at draw)) c
  heard v g w' c e f l =
      subst (λ (w : Whim). Leads w c) (sym (ap (λ (s : Stage). held_hears v k (slice_index_or rs k blank) s (holding m rs k whims at draw)) e ∙ f)) l

  status_leads : (d : List ℕ) → (get_or rs k blank).stage ≡ commanded d → (v : ℕ) → count_of m (get_or rs k blank).target (get_or rs k blank).greeting.lun d ≤ (get_or rs k blank).place
      → Leads (with_row k (ending v (slice_index_or rs k blank)) (holding m rs k whims at draw)) (change (row_name (slice_index_or rs k blank)) (ends v) (cable (holding m rs k whims at draw)))
  status_leads d e v l =
      subst
      (λ (t : Stage). Leads (with_row k (at_stage t (slice_index_or rs k blank)) (holding m rs k whims at draw)) (change (row_name (slice_index_or rs k blank)) (ends v) (cable (holding m rs k whims at draw))))
      (ap (λ (t : Stage). status_kept v t) (sym e)) (end_leads m rs k whims at draw sixteen different each o d e v l)

  pub take_leads : (g : Stage) → (get_or rs k blank).stage ≡ g → (s : Shown) → Meets m rs (slice_index_or rs k blank) g s → not (is_some (byte_shown s)) ≡ false
      → Leads (takes s (holding m rs k whims at draw))
      (bus_takes (kind_of s) (taken (took_shown (byte_shown s))) (row_name (slice_index_or rs k blank)) (cable (holding m rs k whims at draw)))
  take_leads g e s new h = absurd (false≢true (sym h))
  take_leads g e s (going d saves) h = heard 2 (commanded d) _ _ e refl (save_leads m rs k whims at draw sixteen different each o d e)
  take_leads g e s (going d restores) h = heard 3 (commanded d) _ _ e refl (back_leads m rs k whims at draw sixteen different each o d e)
  take_leads g e s (going d (leaves l)) h = heard 4 (commanded d) _ _ e refl (leave_leads m rs k whims at draw sixteen different each o d e)
  take_leads g e s (going d (offers w l)) h = move_leads m rs k whims at draw sixteen different each o d e w l
  take_leads g e s (going d (asks w l)) h = absurd (false≢true (sym h))
  take_leads g e s (going d (closes l f)) h = status_leads d e _ l
  take_leads g e s (going d pauses) h = absurd (false≢true (sym h))
  take_leads g e s (over d st) h = heard 0 (ended d st) _ _ e refl (complete_leads d st e)

  -- a byte given
  pub fill_leads : (v : ℕ) (g : Stage) → (get_or rs k blank).stage ≡ g → (s : Shown) → Meets m rs (slice_index_or rs k blank) g s → shows_data_out s ≡ true
      → Leads (with_row k (filled v (slice_index_or rs k blank)) (holding m rs k whims at draw)) (change (row_name (slice_index_or rs k blank)) (given v) (cable (holding m rs k whims at draw)))
  fill_leads v g e s new h = absurd (false≢true h)
  fill_leads v g e s (going d saves) h = absurd (false≢true h)
  fill_leads v g e s (going d restores) h = absurd (false≢true h)
  fill_leads v g e s (going d (leaves l)) h = absurd (false≢true h)
  fill_leads v g e s (going d (offers w l)) h = absurd (false≢true h)
  fill_leads v g e s (going d (asks w l)) h = give_leads m rs k whims at draw sixteen different each o d e v w l
  fill_leads v g e s (going d (closes l f)) h = absurd (false≢true h)
  fill_leads v g e s (going d pauses) h = absurd (false≢true h)
  fill_leads v g e s (over d st) h = absurd (false≢true h)

  -- a command sent
  pub command_leads : (c : List ℕ) (g : Stage) → (get_or rs k blank).stage ≡ g → (s : Shown) → Meets m rs (slice_index_or rs k blank) g s → shows_command s ≡ true
      → Leads (with_row k (sent c (slice_index_or rs k blank)) (holding m rs k whims at draw)) (change (row_name (slice_index_or rs k blank)) (commands c) (cable (holding m rs k whims at draw)))
  command_leads c g e s new h = send_leads m rs k whims at draw sixteen different each o c e
  command_leads c g e s (going d saves) h = absurd (false≢true h)
  command_leads c g e s (going d restores) h = absurd (false≢true h)
  command_leads c g e s (going d (leaves l)) h = absurd (false≢true h)
  command_leads c g e s (going d (offers w l)) h = absurd (false≢true h)
  command_leads c g e s (going d (asks w l)) h = absurd (false≢true h)
  command_leads c g e s (going d (closes l f)) h = absurd (false≢true h)
  command_leads c g e s (going d pauses) h = absurd (false≢true h)
  command_leads c g e s (over d st) h = absurd (false≢true h)
