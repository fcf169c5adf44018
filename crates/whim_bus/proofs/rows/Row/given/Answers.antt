use Rattle.std.proofs.Common.{arith}
use Rattle.whim_bus.proofs.Filling.{outs_first}
use Rattle.whim_bus.proofs.rows.Row.given.Goals as goal

pub returns-in-Out : goal.returns-in-Out
returns-in-Out c = outs_first _ _ c.args.count c.args.self.now.out c.in-Out.is c.from.ensures (omega arith)
