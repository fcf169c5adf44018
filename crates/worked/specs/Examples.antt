-- The worked examples, as one fact about the definitions. Assumes nothing.
use Rattle.scsi.specs.Cases.{Worked}
use Rattle.devices.specs.Cases.{DiskCases}
use Rattle.table.specs.Cases.{Worked as TableCases}

pub record Examples : Type 0 where
  -- messages and greetings
  pub words : Worked
  -- reads at the end of a disk of 64 blocks
  pub disk : DiskCases
  -- the engine's greetings, and data pointers over a disconnection
  pub table : TableCases
