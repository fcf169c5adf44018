use Rattle.std.proofs.Common.{arith}
use lib.Bits.{and_high}
use Rattle.std.proofs.lemmas.Bool.Decides.{nat_tests}
use Rattle.scsi.proofs.message.permits_leave.Goals as goal

pub returns : goal.returns
returns c = grind (arith, nat_tests, and_high c.args.identify 1 6)
