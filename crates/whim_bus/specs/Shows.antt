-- A whim bus in order shows what a bus may show. Assumes nothing.
use Rattle.std.specs.Prelude.{◌≡◌, ℕ, ◌+◌, ◌≤◌, Bool, true, false, cond, ◌&&◌, List, [], ◌∷◌, Some, None, Option, ◌==◌, ◌≢◌, refl}
use Rattle.std.specs.List.{list_any}
use Rattle.std.proofs.Common.{sym, ap, subst, ◌∙◌, arith}
use Rattle.std.proofs.lemmas.Bool.{eq-eqb, and_parts, and_from, or_parts, false≢true}
use Rattle.scsi.specs.Messages.{identify_byte}
use Rattle.shelf.specs.declared.Way.{Way}
use Rattle.shelf.specs.declared.Way.TheVariants.{In, Out}
use Rattle.shelf.specs.Model.{Model, way_of, count_of}
use Rattle.bus.specs.declared.Shown.{Shown}
use Rattle.bus.specs.declared.Shown.TheVariants.{Free as FREE, Reselect}
use Rattle.bus.specs.State.{Name, Nexus}
use Rattle.bus.specs.Showing.{Shows, LineShows, FreeShows, Utters, saving, restoring, leaving, MessageBy, MayShow, NoReader}
use Rattle.whim_bus.specs.declared.state.Line.{Line}
use Rattle.whim_bus.specs.declared.state.Line.TheVariants.{Free, Retaken, Held}
use Rattle.whim_bus.specs.declared.state.Heard.{Heard}
use Rattle.whim_bus.specs.declared.state.Heard.TheVariants.{Nothing, Named, TagDue}
use Rattle.whim_bus.specs.Rows.{Stage, empty, fresh, commanded, ended, Row, row_name, is_open, is_named, is_in, stage_reads, reads, is_tagged}
use Rattle.whim_bus.specs.State.{Whim, row, odd}
use Rattle.whim_bus.specs.Showing.{returner, tag_byte, is_out, must_wait, line_shown}
use Rattle.whim_bus.specs.Means.{command_sent, status_taken, nexus, found, line_of, cable, apart, row_sound, all_sound, heard_sound, line_sound, sound, meaning}
use Rattle.whim_bus.specs.Lookup.{name_eq, open_alone, found_here}
use Rattle.whim_bus.specs.Going.{Going, saves, restores, leaves, offers, asks, closes, pauses, Meets, new, going, over, meets}
use Rattle.whim_bus.specs.Sound.{is_sound, each_at, low_lun, underway_placed}

---- no reader

stage_reader : (m : Model) (t l : ℕ) (d : List ℕ) (g : Stage) → command_sent g ≡ Some d → way_of m t l d ≡ In → stage_reads m t l g ≡ true
stage_reader m t l d empty e w = absurd cc
stage_reader m t l d fresh e w = absurd cc
stage_reader m t l d (commanded c) e w = let same : c ≡ d = cc in ap (λ (x : List ℕ). is_in (way_of m t l x)) same ∙ ap is_in w
stage_reader m t l d (ended c st) e w = let same : c ≡ d = cc in ap (λ (x : List ℕ). is_in (way_of m t l x)) same ∙ ap is_in w

no_reader : (m : Model) (rs : List Row) (t l : ℕ) → list_any (reads m t l) rs ≡ false → NoReader m (found m rs) t l
no_reader m [] t l h k y d e c w = cc
no_reader m (r ∷ rs) t l h k y d e c w =
    go (is_named (record { target = t; lun = l; tag = k }) r) refl e (no_reader m rs t l (or_parts (reads m t l r) _ h).1 k y d)
  where
    go : (b : Bool) → is_named (record { target = t; lun = l; tag = k }) r ≡ b → cond b (Some (nexus m r)) (found m rs (record { target = t; lun = l; tag = k })) ≡ Some y
        → (found m rs (record { target = t; lun = l; tag = k }) ≡ Some y → y.command ≡ Some d → way_of m t l d ≢ In)
        → ⊥
    go false f g rest = rest g c w
    go true f g rest =
        let same : nexus m r ≡ y = cc in
        let n : record { target = t; lun = l; tag = k } ≡ row_name r = name_eq _ _ (and_parts (is_open r) _ f).1 in
        let reader : reads m t l r ≡ true =
        and_from (r.target == t) _ (eq-eqb _ _ (ap (λ (x : Name). x.target) (sym n)))
        (and_from (r.greeting.lun == l) _ (eq-eqb _ _ (ap (λ (x : Name). x.lun) (sym n)))
        (stage_reader m t l d r.stage (ap (λ (x : Nexus). x.command) same ∙ c) w)) in
        false≢true (sym (or_parts (reads m t l r) _ h).0 ∙ reader)

---- a held line

module _ (m : Model) (rs : List Row) (r : Row) where
  -- a message before status
  utters : (d : List ℕ) (v : ℕ) → r.stage ≡ commanded d → Utters (nexus m r) v → MessageBy (nexus m r) (status_taken r.stage) v
  utters d v e u = subst (λ (o : Option ℕ). MessageBy (nexus m r) o v) (sym (ap status_taken e)) u

  alone : (d : List ℕ) → must_wait m rs r d ≡ false → way_of m r.target r.greeting.lun d ≡ Out → NoReader m (found m rs) r.target r.greeting.lun
  alone d h w =
      no_reader m rs r.target r.greeting.lun
      (ap (λ (x : Way). is_out x && list_any (reads m r.target r.greeting.lun) rs) (sym w) ∙ h)

  underway_may : (d : List ℕ) → r.stage ≡ commanded d → r.place ≤ count_of m r.target r.greeting.lun d → (s : Shown) → Going m rs r d s
      → MayShow m (found m rs) (row_name r) (nexus m r) s
  underway_may d e p s saves = utters d 2 e (saving d (ap command_sent e))
  underway_may d e p s restores = utters d 3 e (restoring d (ap command_sent e))
  underway_may d e p s (leaves l) = utters d 4 e (leaving d (ap command_sent e) l)
  underway_may d e p s (offers w l) =
      record { sent = d; commanded = ap command_sent e; before_status = ap status_taken e; in_way = w; more = l; the_byte = refl }
  underway_may d e p s (asks w l) = record { sent = d; commanded = ap command_sent e; before_status = ap status_taken e; out_way = w; more = l }
  underway_may d e p s (closes l h) =
      record { sent = d; commanded = ap command_sent e; before_status = ap status_taken e; at_count = omega arith; the_status = refl; alone = alone d h }
  underway_may d e p s pauses = tt

  held_may : row_sound m r ≡ true → (g : Stage) → r.stage ≡ g → (s : Shown) → Meets m rs r g s → MayShow m (found m rs) (row_name r) (nexus m r) s
  held_may h g e s new = (ap command_sent e, ap status_taken e)
  held_may h g e s (going d x) = underway_may d e (underway_placed m r h d e).1 s x
  held_may h g e s (over d st) = subst (λ (o : Option ℕ). MessageBy (nexus m r) o 0) (sym (ap status_taken e)) refl

---- every line

module _ (w : Whim) (different : apart w.rows ≡ true) (each : all_sound w.shelf w.rows ≡ true) where
  pub there : (k : ℕ) → is_open (row w k) ≡ true → found w.shelf w.rows (row_name (row w k)) ≡ Some (nexus w.shelf (row w k))
  there k o = found_here w.shelf k w.rows o (open_alone k w.rows different o)

  free_may : (t : Bool) → odd w.draw && is_open (row w (returner w)) ≡ t → FreeShows (cable w) (cond t (Reselect (row w (returner w)).target) FREE)
  free_may true e =
      let r = row w (returner w) in
      (r.greeting.lun, r.greeting.tag, nexus w.shelf r, there (returner w) (and_parts (odd w.draw) _ e).1)
  free_may false e = tt

  -- 80h + LUN
  pub named_byte : (k : ℕ) → identify_byte false (row w k).greeting.lun ≡ 128 + (row w k).greeting.lun
  named_byte k = let l = low_lun w.shelf (row w k) (each_at w.shelf w.rows k each) in omega arith

  -- the tag
  pub tagged_there : (k : ℕ) → is_open (row w k) ≡ true → is_tagged (row w k).greeting.tag ≡ true
      → found w.shelf w.rows (record { target = (row w k).target; lun = (row w k).greeting.lun; tag = Some (tag_byte (row w k).greeting.tag) })
      ≡ Some (nexus w.shelf (row w k))
  tagged_there k o h = go (row w k).greeting.tag refl h
    where
      go : (t : Option ℕ) → (row w k).greeting.tag ≡ t → is_tagged t ≡ true
          → found w.shelf w.rows (record { target = (row w k).target; lun = (row w k).greeting.lun; tag = Some (tag_byte t) })
          ≡ Some (nexus w.shelf (row w k))
      go None e h = absurd (false≢true h)
      go (Some v) e h =
          ap (λ (t : Option ℕ). found w.shelf w.rows (record { target = (row w k).target; lun = (row w k).greeting.lun; tag = t })) (sym e)
          ∙ there k o

  greeting_may : (k : ℕ) (h : Heard) → is_open (row w k) && heard_sound (row w k) h ≡ true
      → LineShows (cable w) (line_of (row w) (Retaken k h)) (line_shown w (Retaken k h))
  greeting_may k Nothing s =
      let r = row w k in
      (r.greeting.lun, r.greeting.tag, nexus w.shelf r, there k (and_parts (is_open r) _ s).0, named_byte k)
  greeting_may k Named s = refl
  greeting_may k TagDue s =
      let p = and_parts (is_open (row w k)) _ s in
      (nexus w.shelf (row w k), tagged_there k p.0 p.1)

  line_may : (l : Line) → line_sound (row w) l ≡ true → LineShows (cable w) (line_of (row w) l) (line_shown w l)
  line_may Free s = (refl, free_may (odd w.draw && is_open (row w (returner w))) refl)
  line_may (Retaken k h) s = greeting_may k h s
  line_may (Held k) s = (
    nexus w.shelf (row w k),
    there k s,
    held_may w.shelf w.rows (row w k) (each_at w.shelf w.rows k each) (row w k).stage refl _
        (meets w.shelf w.rows (row w k) (row w k).stage w.draw s),
  )

pub shows : (w : Whim) → sound w ≡ true → Shows (meaning w)
shows w h = let s = is_sound w h in line_may w s.different s.each w.line s.held_open
