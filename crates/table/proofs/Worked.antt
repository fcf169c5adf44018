-- The worked cases stand. Assumes nothing.
use Rattle.std.proofs.Common.{refl}
use Rattle.table.specs.Engine.{seek}
use Rattle.table.specs.Cases.{Worked}

pub worked : Worked
unfolding seek
worked = record { lun_3 = refl; tag_5 = refl; saved_at_2 = refl; not_saved = refl }
