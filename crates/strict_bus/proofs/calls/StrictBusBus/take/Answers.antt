use Rattle.std.proofs.Common.{rules, sym}
use Rattle.strict_bus.proofs.calls.StrictBusBus.take.Goals as goal

pub returns-in-DataIn : goal.returns-in-DataIn
returns-in-DataIn g c = let e = sym c.in-DataIn.ensures.value in rw (c.in-Commanded.is, e) (search rules)

pub returns-in-Status : goal.returns-in-Status
returns-in-Status g c = let e = sym c.in-Status.ensures.value in rw (c.in-Commanded.is, e) (search rules)
