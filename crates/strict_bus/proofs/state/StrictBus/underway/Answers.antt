use Rattle.std.proofs.Common.{arith}
use Rattle.strict_bus.proofs.state.StrictBus.underway.Goals as goal

pub returns-then-self-count-clause-room : goal.returns-then-self-count-clause-room
returns-then-self-count-clause-room g c = λ _. omega (arith, (g.met.S.Shelf.lawful c.args.self.now.shelf).owed.small, c.way-way.ensures.count)
