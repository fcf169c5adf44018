-- What a nexus that holds the line is shown, case by case. Assumes nothing.
use Rattle.std.specs.Prelude.{◌≡◌, ℕ, ◌%◌, ◌<◌, ◌≤◌, Bool, true, false, cond, not, ◌&&◌, List, ◌==◌, nat_lt, refl}
use Rattle.std.proofs.lemmas.Bool.{ltb-true, ltb-false, and_parts, false≢true}
use Rattle.shelf.specs.declared.Way.{Way}
use Rattle.shelf.specs.declared.Way.TheVariants.{Still, In, Out}
use Rattle.shelf.specs.Model.{Model, way_of, count_of, byte_of, status_of}
use Rattle.bus.specs.declared.Shown.{Shown}
use Rattle.bus.specs.declared.Shown.TheVariants.{DataOut, DataIn, Command, Status, MessageIn, Pause}
use Rattle.whim_bus.specs.Rows.{Stage, empty, fresh, commanded, ended, Row, stage_open}
use Rattle.bus.specs.Showing.{data_shown}
use Rattle.whim_bus.specs.Showing.{must_wait, waiting_shown, next_shown, underway_shown, held_shown}

-- of a command that is underway
pub data Going (m : Model) (rs : List Row) (r : Row) (d : List ℕ) : Shown → Type 0 where
  saves : Going m rs r d (MessageIn 2)
  restores : Going m rs r d (MessageIn 3)
  leaves : r.greeting.leave ≡ true → Going m rs r d (MessageIn 4)
  offers : way_of m r.target r.greeting.lun d ≡ In → r.place < count_of m r.target r.greeting.lun d
      → Going m rs r d (DataIn (byte_of m r.target r.greeting.lun d r.place))
  asks : way_of m r.target r.greeting.lun d ≡ Out → r.place < count_of m r.target r.greeting.lun d → Going m rs r d DataOut
  closes : count_of m r.target r.greeting.lun d ≤ r.place → must_wait m rs r d ≡ false
      → Going m rs r d (Status (status_of m r.target r.greeting.lun d))
  pauses : Going m rs r d Pause

module _ (m : Model) (rs : List Row) (r : Row) (d : List ℕ) where
  waiting_goes : Going m rs r d (waiting_shown r)
  waiting_goes = go (not (r.saved == r.place)) r.greeting.leave refl
    where
      go : (a b : Bool) → r.greeting.leave ≡ b → Going m rs r d (cond a (MessageIn 2) (cond b (MessageIn 4) Pause))
      go true b h = saves
      go false true h = leaves h
      go false false h = pauses

  data_goes : (w : Way) → way_of m r.target r.greeting.lun d ≡ w → r.place < count_of m r.target r.greeting.lun d
      → Going m rs r d (data_shown w (byte_of m r.target r.greeting.lun d r.place))
  data_goes Still w l = pauses
  data_goes In w l = offers w l
  data_goes Out w l = asks w l

  next_goes : Going m rs r d (next_shown m rs r d)
  next_goes = go (nat_lt r.place (count_of m r.target r.greeting.lun d)) refl (must_wait m rs r d) refl
    where
      go : (a : Bool) → nat_lt r.place (count_of m r.target r.greeting.lun d) ≡ a → (b : Bool) → must_wait m rs r d ≡ b
          → Going m rs r d
          (cond a (data_shown (way_of m r.target r.greeting.lun d) (byte_of m r.target r.greeting.lun d r.place))
          (cond b (waiting_shown r) (Status (status_of m r.target r.greeting.lun d))))
      go true e b f = data_goes (way_of m r.target r.greeting.lun d) refl (ltb-true _ _ e)
      go false e true f = waiting_goes
      go false e false f = closes (ltb-false _ _ e) f

  underway_goes : (v : ℕ) → Going m rs r d (underway_shown m rs r d v)
  underway_goes v = go (v % 4 == 1) (v % 4 == 2) (v % 4 == 3 && r.greeting.leave) refl
    where
      go : (a b c : Bool) → (v % 4 == 3) && r.greeting.leave ≡ c
          → Going m rs r d (cond a (MessageIn 2) (cond b (MessageIn 3) (cond c (MessageIn 4) (next_shown m rs r d))))
      go true b c e = saves
      go false true c e = restores
      go false false true e = leaves (and_parts (v % 4 == 3) _ e).1
      go false false false e = next_goes

-- of any nexus that holds the line
pub data Meets (m : Model) (rs : List Row) (r : Row) : Stage → Shown → Type 0 where
  new : Meets m rs r fresh Command
  going : {s : Shown} → (d : List ℕ) → Going m rs r d s → Meets m rs r (commanded d) s
  over : (d : List ℕ) (st : ℕ) → Meets m rs r (ended d st) (MessageIn 0)

pub meets : (m : Model) (rs : List Row) (r : Row) (g : Stage) (v : ℕ) → stage_open g ≡ true → Meets m rs r g (held_shown m rs r g v)
meets m rs r empty v o = absurd (false≢true o)
meets m rs r fresh v o = new
meets m rs r (commanded d) v o = going d (underway_goes m rs r d v)
meets m rs r (ended d st) v o = over d st
