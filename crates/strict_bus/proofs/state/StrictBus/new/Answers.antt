use Rattle.strict_bus.proofs.Straight.{straight_through}
use Rattle.strict_bus.proofs.state.StrictBus.new.Goals as goal

pub returns-clause-straight : goal.returns-clause-straight
returns-clause-straight g c = straight_through _ (g.met.S.Shelf.lawful c.args.shelf)
