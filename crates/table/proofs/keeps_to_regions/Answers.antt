use Rattle.table.proofs.Regions.{keeps_to_regions}
use Rattle.table.proofs.Sounds.{step_writes_inside, run_writes_inside}
use Rattle.table.proofs.keeps_to_regions.Goals as goal

pub returns : goal.returns
returns c = record { regions = keeps_to_regions; step = step_writes_inside; run = run_writes_inside }
