-- The worked cases stand. Assumes nothing.
use Rattle.std.proofs.Common.{refl}
use Rattle.scsi.specs.Cases.{Worked}

pub worked : Worked
worked = record { factor_25 = refl; lacks_256 = refl; lun_3 = refl; tag_5 = refl }
