-- A data byte is shown only of a row whose place has room. Assumes nothing.
use Rattle.std.proofs.Common.{◌≡◌, ℕ, ◌%◌, ◌<◌, ◌≤◌, Bool, true, false, cond, not, ◌&&◌, eqb, ltb, List, refl, sym, ap, ◌∙◌, subst, arith}
use Rattle.std.proofs.lemmas.Bool.{ltb-true, false≢true}
use Rattle.std.proofs.lemmas.Option.{slice_get_within, get_or_from_slice_get}
use Rattle.shelf.specs.Model.{Model, way_of, count_of, byte_of, status_of}
use Rattle.bus.specs.declared.Shown.{Shown}
use Rattle.bus.specs.declared.Shown.TheVariants.{Status, MessageIn, Pause}
use Rattle.bus.specs.Kinds.{kind_of}
use Rattle.bus.specs.Showing.{data_shown}
use Rattle.whim_bus.specs.declared.rows.Row.{Row as KeptRow}
use Rattle.whim_bus.specs.declared.state.Line.{Line}
use Rattle.whim_bus.specs.declared.state.WhimBus.{WhimBus}
use Rattle.whim_bus.specs.Rows.{Stage, empty, fresh, commanded, ended, Row}
use Rattle.whim_bus.specs.State.{row}
use Rattle.whim_bus.specs.Showing.{must_wait, next_shown, underway_shown, held_shown, line_shown, shown}
use Rattle.whim_bus.specs.View.{row_of, view, HasLine}
use Rattle.whim_bus.proofs.Changing.{row_at}

-- what is shown of a command that is underway, by the draw
by_draw : (P : Shown → Type 0) (m : Model) (rs : List Row) (r : Row) (d : List ℕ) (v : ℕ) → ((n : ℕ) → P (MessageIn n)) → P (next_shown m rs r d)
    → P (underway_shown m rs r d v)
by_draw P m rs r d v message next = go (eqb (v % 4) 1) (eqb (v % 4) 2) (eqb (v % 4) 3 && r.greeting.leave)
  where
    go : (a b c : Bool) → P (cond a (MessageIn 2) (cond b (MessageIn 3) (cond c (MessageIn 4) (next_shown m rs r d))))
    go true b c = message 2
    go false true c = message 3
    go false false true = message 4
    go false false false = next

-- what is shown next, by the place
by_place : (P : Shown → Type 0) (m : Model) (rs : List Row) (r : Row) (d : List ℕ)
    → (r.place < count_of m r.target r.greeting.lun d → P (data_shown (way_of m r.target r.greeting.lun d) (byte_of m r.target r.greeting.lun d r.place)))
    → ((n : ℕ) → P (MessageIn n)) → P Pause → P (Status (status_of m r.target r.greeting.lun d)) → P (next_shown m rs r d)
by_place P m rs r d «data» message pause status =
    go (ltb r.place (count_of m r.target r.greeting.lun d)) refl (must_wait m rs r d) (not (eqb r.saved r.place)) r.greeting.leave
  where
    go : (a : Bool) → ltb r.place (count_of m r.target r.greeting.lun d) ≡ a → (b s l : Bool)
        → P
        (cond a (data_shown (way_of m r.target r.greeting.lun d) (byte_of m r.target r.greeting.lun d r.place))
        (cond b (cond s (MessageIn 2) (cond l (MessageIn 4) Pause)) (Status (status_of m r.target r.greeting.lun d))))
    go true e b s l = «data» (ltb-true _ _ e)
    go false e true true l = message 2
    go false e true false true = message 4
    go false e true false false = pause
    go false e false s l = status

---- a data byte

abbrev is_data : Shown → Bool
is_data s = ltb (kind_of s) 2

held_room : (m : Model) (rs : List Row) (r : Row) → ((t l : ℕ) (d : List ℕ) → count_of m t l d ≤ 2048) → (s : Stage) (v : ℕ)
    → is_data (held_shown m rs r s v) ≡ true → r.place < 2048
held_room m rs r small empty v h = absurd (false≢true h)
held_room m rs r small fresh v h = absurd (false≢true h)
held_room m rs r small (commanded d) v h =
    by_draw (λ x. is_data x ≡ true → r.place < 2048) m rs r d v (λ n h. absurd (false≢true h))
    (by_place (λ x. is_data x ≡ true → r.place < 2048) m rs r d (λ l h. omega (arith, l, small r.target r.greeting.lun d)) (λ n h. absurd (false≢true h))
    (λ h. absurd (false≢true h)) (λ h. absurd (false≢true h))) h
held_room m rs r small (ended d st) v h = absurd (false≢true h)

pub data_room : {X : Type 0} (model : X → Model) (s : WhimBus X) → ((t l : ℕ) (d : List ℕ) → count_of (model s.shelf) t l d ≤ 2048)
    → is_data (shown (view model s)) ≡ true → (r : KeptRow) → HasLine s r → r.place < 2048
data_room model s small h r (k, e, is) =
    let at = row_at s.rows k r (slice_get_within s.rows k r is) ∙ ap row_of (get_or_from_slice_get s.rows k r r is) in
    subst (λ (r : Row). r.place < 2048) at
    (held_room (model s.shelf) (view model s).rows (row (view model s) k) small (row (view model s) k).stage s.draw
    (ap (λ (l : Line). is_data (line_shown (view model s) l)) (sym e) ∙ h))
