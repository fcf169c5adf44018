-- A whim bus keeps the rules of a bus, call by call. Assumes nothing.
use Rattle.std.specs.Prelude.{◌≡◌, ℕ, Bool, true, false, cond, not, ◌&&◌, List, [], length, get_or, is_some, Some, None, Option, ◌≢◌, slice_index_or, refl}
use Rattle.std.specs.List.{position_or_len}
use Rattle.std.proofs.Common.{sym, ap, subst, ◌∙◌}
use Rattle.std.proofs.lemmas.Bool.{leb-false, and_parts, and_from, or_parts, not-false, false≢true}
use Rattle.std.proofs.lemmas.List.{length-map}
use Rattle.scsi.specs.declared.greeting.Greeting.{Greeting}
use Rattle.scsi.specs.Greetings.{greeting_of}
use Rattle.scsi.specs.Commands.{well_sized}
use Rattle.shelf.specs.Model.{Model, is_present}
use Rattle.bus.specs.declared.Shown.{Shown}
use Rattle.bus.specs.declared.Shown.TheVariants.{Free as FREE, Reselect}
use Rattle.bus.specs.Kinds.{byte_shown, target_shown, shows_command, shows_free, shows_reselect}
use Rattle.bus.specs.State.{free, held, Cable, close, with_line as with_bus_line}
use Rattle.bus.specs.Calls.{Call, select, accept, command, give, take, speak, wait, reset, Reply, refused, selected, lost, absent, is_refused, took_shown}
use Rattle.bus.proofs.Texts.{turned_down, granted_by, took_it}
use Rattle.bus.specs.Refusals.{name_of, greeting_refused, due}
use Rattle.bus.specs.Effects.{Selects, retakes, comes_back as bus_comes_back, Takes, aborts}
use Rattle.bus.specs.Rules.{taken, Rule, InOrder, Did}
use Rattle.whim_bus.specs.declared.state.Line.{Line}
use Rattle.whim_bus.specs.declared.state.Line.TheVariants.{Free, Retaken, Held}
use Rattle.whim_bus.specs.declared.state.Heard.{Heard}
use Rattle.whim_bus.specs.declared.state.Heard.TheVariants.{Nothing, Named, TagDue}
use Rattle.whim_bus.specs.Rows.{Stage, Row, blank, row_name, is_open, is_tagged, emptied}
use Rattle.whim_bus.specs.State.{Whim, row, odd, next_whim, drawn}
use Rattle.whim_bus.specs.Showing.{tag_byte, greeting_shown, held_shown, shown}
use Rattle.whim_bus.specs.Means.{nexus, found, line_of, cable, apart, all_sound, heard_sound, line_sound, sound, meaning}
use Rattle.whim_bus.specs.Text.{draw_due, settled, selects, selection, named_by, closes_row, takes, granted, does, Whimsical}
use Rattle.whim_bus.specs.Lookup.{found_cleared, number_cleared, apart_cleared}
use Rattle.whim_bus.specs.Refusing.{found_any}
use Rattle.whim_bus.specs.Going.{saves, restores, leaves, offers, asks, closes, pauses, Meets, new, going, over, meets}
use Rattle.whim_bus.specs.Sound.{Sound, is_sound, sound_is, each_cleared}
use Rattle.whim_bus.specs.Shows.{there, named_byte, tagged_there, shows}
use Rattle.whim_bus.specs.Keeping.{Leads, close_leads}
use Rattle.whim_bus.specs.Selecting.{greeting_low, chosen}
use Rattle.whim_bus.specs.Completing.{take_leads, fill_leads, command_leads}

-- a granted call keeps its rule and leaves the bus in order
pub record Kept (w : Whim) (c : Call) : Type 0 where
  pub rule : Rule (meaning w) c (granted w c) (cable (does w c))
  pub order : sound (does w c) ≡ true

---- select

select_kept : (w : Whim) (t : ℕ) (bs : List ℕ) → Sound w.shelf w.rows (row w) w.line → due (meaning w) (select t bs) ≡ false → Kept w (select t bs)
select_kept w t bs s d = let both = go (greeting_of bs) refl (or_parts (not (shows_free (shown w))) _ d).1 in record { rule = both.0; order = both.1 }
  where
    go : (o : Option Greeting) → greeting_of bs ≡ o → greeting_refused (cable w) t o ≡ false
        → Selects (cable w) t bs (selection t w) (cable (selects t o w)) × (sound (selects t o w) ≡ true)
    go None e h = absurd (false≢true (sym h))
    go (Some g) e h =
        let p = or_parts (is_some (found w.shelf w.rows (name_of t g))) _ h in
        chosen w s t g (greeting_low bs g e) (sym (found_any w.shelf w.rows (name_of t g)) ∙ p.0) (leb-false 16 _ p.1) bs e

---- waiting and resetting

wait_kept : (w : Whim) → Sound w.shelf w.rows (row w) w.line → Kept w wait
wait_kept w s = record { rule = refl; order = sound_is w s }

reset_kept : (w : Whim) → Sound w.shelf w.rows (row w) w.line → Kept w reset
reset_kept w s =
    record {
      rule = λ i.
          record { shelf = w.shelf; nexuses = λ n. found_cleared w.shelf w.rows n i; opened = number_cleared w.rows i; line = free; begun = [] };
      order =
          sound_is (does w reset)
          (record {
            sixteen = length-map w.rows emptied ∙ s.sixteen;
            different = apart_cleared w.rows;
            each = each_cleared w.shelf w.rows s.each;
            held_open = refl;
          });
    }

---- by the line

abbrev standing : Model → List Row → Line → List ℕ → ℕ → ℕ → Whim
standing m rs l whims at draw = record { shelf = m; rows = rs; line = l; whims = whims; at = at; draw = draw }

-- a nexus that holds the line is never shown RESELECT
no_return : (m : Model) (rs : List Row) (r : Row) (g : Stage) (s : Shown) → Meets m rs r g s → not (shows_reselect s) ≢ false
no_return m rs r g s new h = false≢true (sym h)
no_return m rs r g s (going d saves) h = false≢true (sym h)
no_return m rs r g s (going d restores) h = false≢true (sym h)
no_return m rs r g s (going d (leaves l)) h = false≢true (sym h)
no_return m rs r g s (going d (offers w l)) h = false≢true (sym h)
no_return m rs r g s (going d (asks w l)) h = false≢true (sym h)
no_return m rs r g s (going d (closes l f)) h = false≢true (sym h)
no_return m rs r g s (going d pauses) h = false≢true (sym h)
no_return m rs r g s (over d st) h = false≢true (sym h)

module _ (m : Model) (rs : List Row) (whims : List ℕ) (at draw : ℕ) (sixteen : length rs ≡ 16) (different : apart rs ≡ true) (each : all_sound m rs ≡ true) where
  -- rows that stay, with a line that fits them
  line_order : (l : Line) → line_sound (λ k. get_or rs k blank) l ≡ true → sound (standing m rs l whims at draw) ≡ true
  line_order l h = sound_is (standing m rs l whims at draw) (record { sixteen = sixteen; different = different; each = each; held_open = h })

  free_kept : (c : Call) → due (meaning (standing m rs Free whims at draw)) c ≡ false → Kept (standing m rs Free whims at draw) c
  free_kept (select t g) d =
      select_kept (standing m rs Free whims at draw) t g (record { sixteen = sixteen; different = different; each = each; held_open = refl }) d
  free_kept accept d = let both = go (odd draw && is_open (slice_index_or rs (position_or_len is_open rs) blank)) refl d in record { rule = both.0; order = both.1 }
    where
      go : (b : Bool) → odd draw && is_open (slice_index_or rs (position_or_len is_open rs) blank) ≡ b
          → not (shows_reselect (cond b (Reselect (get_or rs (position_or_len is_open rs) blank).target) FREE)) ≡ false
          → (cable (standing m rs (Retaken (position_or_len is_open rs) Nothing) whims at draw)
          ≡ retakes (target_shown (cond b (Reselect (get_or rs (position_or_len is_open rs) blank).target) FREE)) (cable (standing m rs Free whims at draw)))
          × (sound (standing m rs (Retaken (position_or_len is_open rs) Nothing) whims at draw) ≡ true)
      go true e h = (refl, line_order (Retaken (position_or_len is_open rs) Nothing) (and_from _ true (and_parts (odd draw) _ e).1 refl))
      go false e h = absurd (false≢true (sym h))
  free_kept (command c) d = record { rule = refl; order = line_order Free refl }
  free_kept (give v) d = record { rule = refl; order = line_order Free refl }
  free_kept take d = let both = go (odd draw && is_open (slice_index_or rs (position_or_len is_open rs) blank)) d in record { rule = both.0; order = both.1 }
    where
      go : (b : Bool) → not (is_some (byte_shown (cond b (Reselect (get_or rs (position_or_len is_open rs) blank).target) FREE))) ≡ false
          → (cable (takes (cond b (Reselect (get_or rs (position_or_len is_open rs) blank).target) FREE) (standing m rs Free whims at draw)) ≡ cable (standing m rs Free whims at draw))
          × (sound (takes (cond b (Reselect (get_or rs (position_or_len is_open rs) blank).target) FREE) (standing m rs Free whims at draw)) ≡ true)
      go true h = absurd (false≢true (sym h))
      go false h = absurd (false≢true (sym h))
  free_kept (speak b) d = let both = go (aborts b) in record { rule = both.0; order = both.1 }
    where
      go : (t : Bool) → (cable (cond t (standing m rs Free whims at draw) (standing m rs Free whims at draw)) ≡ cond t (cable (standing m rs Free whims at draw)) (cable (standing m rs Free whims at draw)))
          × (sound (cond t (standing m rs Free whims at draw) (standing m rs Free whims at draw)) ≡ true)
      go true = (refl, line_order Free refl)
      go false = (refl, line_order Free refl)
  free_kept wait d = wait_kept (standing m rs Free whims at draw) (record { sixteen = sixteen; different = different; each = each; held_open = refl })
  free_kept reset d = reset_kept (standing m rs Free whims at draw) (record { sixteen = sixteen; different = different; each = each; held_open = refl })

  module _ (k : ℕ) (o : is_open (slice_index_or rs k blank) ≡ true) where
    -- one byte more of the greeting of the row that comes back
    greets : (h : Heard) → heard_sound (slice_index_or rs k blank) h ≡ true
        → Takes (line_of (λ j. get_or rs j blank) (Retaken k h)) (greeting_shown (slice_index_or rs k blank) h) (taken (took_shown (byte_shown (greeting_shown (slice_index_or rs k blank) h))))
        (cable (standing m rs (Retaken k h) whims at draw)) (cable (takes (greeting_shown (slice_index_or rs k blank) h) (standing m rs (Retaken k h) whims at draw)))
        × (sound (takes (greeting_shown (slice_index_or rs k blank) h) (standing m rs (Retaken k h) whims at draw)) ≡ true)
    greets Nothing s =
        let both = go (get_or rs k blank).greeting.tag refl in (
          (
            (get_or rs k blank).greeting.lun,
            (get_or rs k blank).greeting.tag,
            nexus m (slice_index_or rs k blank),
            there (standing m rs Free whims at draw) different each k o,
            named_byte (standing m rs Free whims at draw) different each k,
            both.0,
          ),
          both.1,
        )
      where
        go : (t : Option ℕ) → (get_or rs k blank).greeting.tag ≡ t
            → (cable (standing m rs (named_by k t) whims at draw)
            ≡ with_bus_line (bus_comes_back (get_or rs k blank).target (get_or rs k blank).greeting.lun t) (cable (standing m rs (Retaken k Nothing) whims at draw)))
            × (sound (standing m rs (named_by k t) whims at draw) ≡ true)
        go None e = (
          ap
              (λ (t : Option ℕ).
              with_bus_line (held (record { target = (get_or rs k blank).target; lun = (get_or rs k blank).greeting.lun; tag = t })) (cable (standing m rs (Retaken k Nothing) whims at draw)))
              e,
          line_order (Held k) o,
        )
        go (Some v) e = (refl, line_order (Retaken k Named) (and_from _ _ o (ap is_tagged e)))
    greets Named s = ((refl, refl), line_order (Retaken k TagDue) (and_from _ _ o s))
    greets TagDue s =
        ((nexus m (slice_index_or rs k blank), tagged_there (standing m rs Free whims at draw) different each k o s, path (get_or rs k blank).greeting.tag refl s), line_order (Held k) o)
      where
        path : (t : Option ℕ) → (get_or rs k blank).greeting.tag ≡ t → is_tagged t ≡ true
            → cable (standing m rs (Held k) whims at draw)
            ≡ with_bus_line (held (record { target = (get_or rs k blank).target; lun = (get_or rs k blank).greeting.lun; tag = Some (tag_byte t) })) (cable (standing m rs (Retaken k TagDue) whims at draw))
        path None e h = absurd (false≢true h)
        path (Some v) e h =
            ap
            (λ (t : Option ℕ).
            with_bus_line (held (record { target = (get_or rs k blank).target; lun = (get_or rs k blank).greeting.lun; tag = t })) (cable (standing m rs (Retaken k TagDue) whims at draw)))
            e

    retaken_kept : (h : Heard) → heard_sound (slice_index_or rs k blank) h ≡ true → (c : Call) → due (meaning (standing m rs (Retaken k h) whims at draw)) c ≡ false
        → Kept (standing m rs (Retaken k h) whims at draw) c
    retaken_kept h s (select t g) d =
        select_kept (standing m rs (Retaken k h) whims at draw) t g (record { sixteen = sixteen; different = different; each = each; held_open = and_from _ _ o s }) d
    retaken_kept h s accept d = absurd (go h d)
      where
        go : (h : Heard) → not (shows_reselect (greeting_shown (slice_index_or rs k blank) h)) ≢ false
        go Nothing e = false≢true (sym e)
        go Named e = false≢true (sym e)
        go TagDue e = false≢true (sym e)
    retaken_kept h s (command c) d = record { rule = refl; order = line_order (Retaken k h) (and_from _ _ o s) }
    retaken_kept h s (give v) d = record { rule = refl; order = line_order (Retaken k h) (and_from _ _ o s) }
    retaken_kept h s take d = let both = greets h s in record { rule = both.0; order = both.1 }
    retaken_kept h s (speak b) d = let both = go (aborts b) in record { rule = both.0; order = both.1 }
      where
        go : (t : Bool)
            → (cable (cond t (standing m rs Free whims at draw) (standing m rs (Retaken k h) whims at draw))
            ≡ cond t (with_bus_line free (cable (standing m rs (Retaken k h) whims at draw))) (cable (standing m rs (Retaken k h) whims at draw)))
            × (sound (cond t (standing m rs Free whims at draw) (standing m rs (Retaken k h) whims at draw)) ≡ true)
        go true = (refl, line_order Free refl)
        go false = (refl, line_order (Retaken k h) (and_from _ _ o s))
    retaken_kept h s wait d = wait_kept (standing m rs (Retaken k h) whims at draw) (record { sixteen = sixteen; different = different; each = each; held_open = and_from _ _ o s })
    retaken_kept h s reset d = reset_kept (standing m rs (Retaken k h) whims at draw) (record { sixteen = sixteen; different = different; each = each; held_open = and_from _ _ o s })

    met : Meets m rs (slice_index_or rs k blank) (get_or rs k blank).stage (held_shown m rs (slice_index_or rs k blank) (get_or rs k blank).stage draw)
    met = meets m rs (slice_index_or rs k blank) (get_or rs k blank).stage draw o

    held_kept : (c : Call) → due (meaning (standing m rs (Held k) whims at draw)) c ≡ false → Kept (standing m rs (Held k) whims at draw) c
    held_kept (select t g) d =
        select_kept (standing m rs (Held k) whims at draw) t g (record { sixteen = sixteen; different = different; each = each; held_open = o }) d
    held_kept accept d = absurd (no_return m rs (slice_index_or rs k blank) (get_or rs k blank).stage _ met d)
    held_kept (command c) d =
        let fits = and_parts (shows_command (shown (standing m rs (Held k) whims at draw))) (well_sized c) (not-false _ d) in
        let both = command_leads m rs k whims at draw sixteen different each o c (get_or rs k blank).stage refl _ met fits.0 in
        record { rule = both.0; order = both.1 }
    held_kept (give v) d =
        let both = fill_leads m rs k whims at draw sixteen different each o v (get_or rs k blank).stage refl _ met (not-false _ d) in
        record { rule = both.0; order = both.1 }
    held_kept take d =
        let both = take_leads m rs k whims at draw sixteen different each o (get_or rs k blank).stage refl _ met d in
        record { rule = both.0; order = both.1 }
    held_kept (speak b) d = let both = go (aborts b) (close_leads m rs k whims at draw sixteen different each o) in record { rule = both.0; order = both.1 }
      where
        go : (t : Bool) → Leads (closes_row k (slice_index_or rs k blank) (standing m rs (Held k) whims at draw)) (close (row_name (slice_index_or rs k blank)) (cable (standing m rs (Held k) whims at draw)))
            → (cable (cond t (closes_row k (slice_index_or rs k blank) (standing m rs (Held k) whims at draw)) (standing m rs (Held k) whims at draw))
            ≡ cond t (close (row_name (slice_index_or rs k blank)) (cable (standing m rs (Held k) whims at draw))) (cable (standing m rs (Held k) whims at draw)))
            × (sound (cond t (closes_row k (slice_index_or rs k blank) (standing m rs (Held k) whims at draw)) (standing m rs (Held k) whims at draw)) ≡ true)
        go true l = l
        go false l = (refl, line_order (Held k) o)
    held_kept wait d = wait_kept (standing m rs (Held k) whims at draw) (record { sixteen = sixteen; different = different; each = each; held_open = o })
    held_kept reset d = reset_kept (standing m rs (Held k) whims at draw) (record { sixteen = sixteen; different = different; each = each; held_open = o })

  line_kept : (l : Line) → line_sound (λ k. get_or rs k blank) l ≡ true → (c : Call) → due (meaning (standing m rs l whims at draw)) c ≡ false → Kept (standing m rs l whims at draw) c
  line_kept Free s c d = free_kept c d
  line_kept (Retaken k h) s c d = let p = and_parts (is_open (slice_index_or rs k blank)) _ s in retaken_kept k p.0 h p.1 c d
  line_kept (Held k) s c d = held_kept k s c d

kept : (w : Whim) (c : Call) → sound w ≡ true → due (meaning w) c ≡ false → Kept w c
kept w c h d =
    let s = is_sound w h in
    line_kept w.shelf w.rows w.whims w.at w.draw s.sixteen s.different s.each w.line s.held_open c d

---- every call

found_it : (p q : Bool) → is_refused (cond p (cond q lost selected) absent) ≡ false
found_it true true = refl
found_it true false = refl
found_it false q = refl

-- what is allowed is not refused
not_refused : (w : Whim) (c : Call) → due (meaning w) c ≡ false → is_refused (granted w c) ≡ false
not_refused w (select t g) h = found_it (is_present w.shelf t) (odd (next_whim w))
not_refused w accept h = refl
not_refused w (command d) h = refl
not_refused w (give v) h = refl
not_refused w take h = took_it (byte_shown (shown w)) h
not_refused w (speak m) h = refl
not_refused w wait h = refl
not_refused w reset h = refl

-- a draw changes only what is shown
settled_means : (w : Whim) → (cable (settled w) ≡ cable w) × (sound (settled w) ≡ sound w)
settled_means w = go (draw_due w w.line)
  where
    go : (t : Bool) → (cable (cond t (drawn w) w) ≡ cable w) × (sound (cond t (drawn w) w) ≡ sound w)
    go true = (refl, refl)
    go false = (refl, refl)

-- one call of a whim bus keeps the rules
pub keeps : (w : Whim) (c : Call) (r : Reply) (w' : Whim) → Whimsical w c r w' → Did (meaning w) c r (meaning w')
keeps w c r w' did = go (due (meaning w) c) refl did.answers did.leads_to
  where
    in_order : sound w ≡ true → due (meaning w) c ≡ false → r ≡ granted w c → w' ≡ settled (does w c) → InOrder (meaning w) c r (meaning w')
    in_order o d a e =
        let k = kept w c o d in
        let m = settled_means (does w c) in
        let order : sound w' ≡ true = ap sound e ∙ m.1 ∙ k.order in
        record {
          rule =
              subst (λ (q : Reply). Rule (meaning w) c q (cable w')) (sym a)
              (subst (λ (x : Cable). Rule (meaning w) c (granted w c) x) (sym (ap cable e ∙ m.0)) k.rule);
          shows = shows w' order;
          order = order;
        }

    go : (t : Bool) → due (meaning w) c ≡ t → r ≡ cond t (refused 11) (granted w c) → w' ≡ cond t w (settled (does w c)) → Did (meaning w) c r (meaning w')
    go true d a e = turned_down (meaning w) c r (meaning w') d a (ap meaning e)
    go false d a e =
        granted_by (meaning w) c r (meaning w') d (ap is_refused a ∙ not_refused w c d) (λ v is_take byte. a ∙ ap (granted w) is_take ∙ ap took_shown byte)
        (λ o. in_order o d a e)
