-- Rows and line that fit together, and what keeps them so. Assumes nothing.
use Rattle.std.specs.Prelude.{◌≡◌, ℕ, zero, suc, ◌<◌, ◌≤◌, true, List, [], ◌∷◌, map, length, ◌==◌, nat_le, nat_lt, slice_index_or, slice_set, refl}
use Rattle.std.proofs.Common.{subst}
use Rattle.std.proofs.lemmas.Bool.{eqb-true, eq-eqb, leb-true, ltb-true, and_parts, and_from}
use Rattle.shelf.specs.Model.{Model, count_of}
use Rattle.whim_bus.specs.declared.state.Line.{Line}
use Rattle.whim_bus.specs.Rows.{Stage, fresh, commanded, ended, Row, blank, emptied}
use Rattle.whim_bus.specs.State.{Whim, row}
use Rattle.whim_bus.specs.Means.{apart, stage_sound, row_sound, all_sound, line_sound, sound}

pub record Sound (m : Model) (rs : List Row) (at : ℕ → Row) (l : Line) : Type 0 where
  pub sixteen : length rs ≡ 16
  pub different : apart rs ≡ true
  pub each : all_sound m rs ≡ true
  pub held_open : line_sound at l ≡ true

pub is_sound : (w : Whim) → sound w ≡ true → Sound w.shelf w.rows (row w) w.line
is_sound w h =
    let p = and_parts (length w.rows == 16) _ h in
    let q = and_parts (apart w.rows) _ p.1 in
    let s = and_parts (all_sound w.shelf w.rows) _ q.1 in
    record { sixteen = eqb-true _ _ p.0; different = q.0; each = s.0; held_open = s.1 }

pub sound_is : (w : Whim) → Sound w.shelf w.rows (row w) w.line → sound w ≡ true
sound_is w s =
    and_from (length w.rows == 16) _ (eq-eqb _ _ s.sixteen)
    (and_from (apart w.rows) _ s.different (and_from (all_sound w.shelf w.rows) _ s.each s.held_open))

---- each row

pub each_at : (m : Model) (rs : List Row) (k : ℕ) → all_sound m rs ≡ true → row_sound m (slice_index_or rs k blank) ≡ true
each_at m [] k h = refl
each_at m (r ∷ rs) zero h = (and_parts (row_sound m r) _ h).0
each_at m (r ∷ rs) (suc k) h = each_at m rs k (and_parts (row_sound m r) _ h).1

pub each_set : (m : Model) (rs : List Row) (k : ℕ) (r' : Row) → all_sound m rs ≡ true → row_sound m r' ≡ true → all_sound m (slice_set rs k r') ≡ true
each_set m [] k r' h s = refl
each_set m (r ∷ rs) zero r' h s = and_from _ _ s (and_parts (row_sound m r) _ h).1
each_set m (r ∷ rs) (suc k) r' h s = and_from (row_sound m r) _ (and_parts (row_sound m r) _ h).0 (each_set m rs k r' (and_parts (row_sound m r) _ h).1 s)

-- an emptied row
pub emptied_sound : (m : Model) (r : Row) → row_sound m r ≡ true → row_sound m (emptied r) ≡ true
emptied_sound m r h = and_from (nat_lt r.greeting.lun 8) true (and_parts (nat_lt r.greeting.lun 8) _ h).0 refl

pub each_cleared : (m : Model) (rs : List Row) → all_sound m rs ≡ true → all_sound m (map emptied rs) ≡ true
each_cleared m [] h = refl
each_cleared m (r ∷ rs) h =
    and_from (row_sound m (emptied r)) _ (emptied_sound m r (and_parts (row_sound m r) _ h).0) (each_cleared m rs (and_parts (row_sound m r) _ h).1)

---- one row

pub low_lun : (m : Model) (r : Row) → row_sound m r ≡ true → r.greeting.lun < 8
low_lun m r h = ltb-true _ _ (and_parts (nat_lt r.greeting.lun 8) _ h).0

module _ (m : Model) (r : Row) (h : row_sound m r ≡ true) where
  pub at_stage_sound : (g : Stage) → r.stage ≡ g → stage_sound m r g ≡ true
  at_stage_sound g e = subst (λ (s : Stage). stage_sound m r s ≡ true) e (and_parts (nat_lt r.greeting.lun 8) _ h).1

  pub fresh_placed : r.stage ≡ fresh → (r.place ≡ 0) × (r.saved ≡ 0)
  fresh_placed e = let p = and_parts (r.place == 0) _ (at_stage_sound fresh e) in (eqb-true _ _ p.0, eqb-true _ _ p.1)

  pub underway_placed : (d : List ℕ) → r.stage ≡ commanded d → (r.saved ≤ r.place) × (r.place ≤ count_of m r.target r.greeting.lun d)
  underway_placed d e = let p = and_parts (nat_le r.saved r.place) _ (at_stage_sound (commanded d) e) in (leb-true _ _ p.0, leb-true _ _ p.1)

  pub ended_placed : (d : List ℕ) (st : ℕ) → r.stage ≡ ended d st → (r.saved ≤ r.place) × (r.place ≡ count_of m r.target r.greeting.lun d)
  ended_placed d st e = let p = and_parts (nat_le r.saved r.place) _ (at_stage_sound (ended d st) e) in (leb-true _ _ p.0, eqb-true _ _ p.1)
