use Rattle.whim_bus.proofs.Beginning.{begun}
use Rattle.whim_bus.proofs.state.WhimBus.new.Goals as goal

pub returns-clause-rests : goal.returns-clause-rests
returns-clause-rests g c = begun (g.S.Shelf.model c.args.shelf) c.args.whims 2048
