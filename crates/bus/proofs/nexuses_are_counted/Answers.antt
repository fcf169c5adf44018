use Rattle.bus.proofs.Counting.{always_counted}
use Rattle.bus.proofs.nexuses_are_counted.Goals as goal

pub returns : goal.returns
returns c = always_counted
