use Rattle.bus.proofs.Pausing.{pausing_is_allowed}
use Rattle.bus.proofs.pausing_is_allowed.Goals as goal

pub returns : goal.returns
returns c = pausing_is_allowed
