use Rattle.table.proofs.Isolated.{step_by_values, run_by_values}
use Rattle.table.proofs.Alone.{runs_as_played, run_as_played, same_on_every_bus}
use Rattle.table.proofs.isolated_by_values.Goals as goal

pub returns : goal.returns
returns c = record { step = step_by_values; run = run_by_values; step_as_played = runs_as_played; run_as_played = run_as_played; on_every_bus = same_on_every_bus }
