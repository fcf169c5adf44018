use Rattle.table.proofs.Theorem.{every_list_keeps}
use Rattle.table.proofs.every_list_keeps.Goals as goal

pub returns : goal.returns
returns c = every_list_keeps
