use Rattle.scsi.proofs.Worked.{worked}
use Rattle.devices.proofs.Cases.{disk_cases}
use Rattle.table.proofs.Worked.{worked as table_cases}
use Rattle.worked.proofs.worked_examples_stand.Goals as goal

pub returns : goal.returns
returns c = record { words = worked; disk = disk_cases; table = table_cases }
