-- A strict bus at each of its stages. Assumes nothing.
use Rattle.std.specs.Prelude.{◌≡◌, ℕ, Bool, true, List, Some, None, refl}
use Rattle.scsi.specs.Kept.{cdb_bytes}
use Rattle.shelf.specs.Model.{Model}
use Rattle.bus.specs.declared.Shown.{Shown}
use Rattle.bus.specs.Kinds.{target_shown}
use Rattle.bus.specs.State.{Name, Cable, held}
use Rattle.bus.specs.Showing.{Shows}
use Rattle.bus.specs.declared.Stage.{Stage}
use Rattle.bus.specs.declared.Stage.TheVariants.{Empty, Fresh, Commanded, Ended}
use Rattle.strict_bus.specs.Means.{nexus_at, at}
use Rattle.strict_bus.specs.Holding.{underway_is}
use Rattle.strict_bus.specs.Keeping.{state_shows, Settled}

pub stage_shows : (m : Model) (n : Name) (leave : Bool) (p : ℕ) (out : List ℕ) (g : Stage) → Shows (at m n leave p out g)
stage_shows m n leave p out Empty = (refl, tt)
stage_shows m n leave p out Fresh = state_shows m n (nexus_at leave p out None None) (λ _. refl)
stage_shows m n leave p out (Commanded d) = state_shows m n (nexus_at leave p out (Some (cdb_bytes d)) None) (λ _. refl)
stage_shows m n leave p out (Ended d st) = state_shows m n (nexus_at leave p out (Some (cdb_bytes d)) (Some st)) (λ e. cc)

held_settled : (n : Name) (s : Shown) (c : Cable) → c.line ≡ held n → target_shown s ≡ None → Settled (record { cable = c; shown = s; order = true })
held_settled n s c e t = record { never_retaken = λ u h f. cc; no_target = t }

pub stage_settled : (m : Model) (n : Name) (leave : Bool) (p : ℕ) (out : List ℕ) (g : Stage) → Settled (at m n leave p out g)
stage_settled m n leave p out Empty = record { never_retaken = λ t h e. cc; no_target = refl }
stage_settled m n leave p out Fresh = held_settled n _ _ refl refl
stage_settled m n leave p out (Commanded d) =
    held_settled n _ _ refl (underway_is (λ (v : Shown). target_shown v ≡ None) refl (λ v. refl) (λ v. refl) refl m n (cdb_bytes d) p)
stage_settled m n leave p out (Ended d st) = held_settled n _ _ refl refl
