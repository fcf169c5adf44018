use Rattle.table.proofs.Reached.{done_is_reached}
use Rattle.table.proofs.done_is_reached.Goals as goal

pub returns : goal.returns
returns c = done_is_reached
