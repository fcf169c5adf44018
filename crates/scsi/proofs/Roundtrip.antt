-- IDENTIFY as it is written is understood as it was meant. Assumes nothing.
use Rattle.std.proofs.Common.{◌≡◌, ℕ, ◌%◌, Bool, true, false, Some, Option, arith}
use Rattle.std.proofs.lemmas.Bool.Decides.{nat_tests}
use Rattle.scsi.specs.Messages.{identify_byte}
use Rattle.scsi.specs.Greetings.{greeting}

pub understood : (leave : Bool) (lun : ℕ) (tag : Option ℕ) → greeting (identify_byte leave lun) tag ≡ Some (record { lun = lun % 8; leave = leave; tag = tag })
understood true lun tag = grind (arith, nat_tests)
understood false lun tag = grind (arith, nat_tests)
