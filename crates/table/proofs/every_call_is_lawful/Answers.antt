use Rattle.table.proofs.Theorem.{lawful}
use Rattle.table.proofs.every_call_is_lawful.Goals as goal

pub returns : goal.returns
returns c = lawful
