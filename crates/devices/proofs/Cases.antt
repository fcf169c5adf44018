-- The worked examples stand. Assumes nothing.
use Rattle.std.proofs.Common.{arith}
use Rattle.std.proofs.lemmas.Bool.Decides.{nat_tests}
use Rattle.devices.specs.Cases.{DiskCases}

pub disk_cases : DiskCases
disk_cases = grind (arith, nat_tests)
