use Rattle.std.proofs.Common.{◌≡◌, ◌-◌}
use Rattle.table.specs.View.{chain, nexts, before}
use Rattle.engine.proofs.chains.before.Given as goal

abbrev pub invariant-loop : goal.invariant-loop
invariant-loop l = before l.k l.at (chain (15 - l.counter) (nexts l.slots) (nexts l.slots l.at)) ≡ before l.k l.fn.head (chain 15 (nexts l.slots) (nexts l.slots l.fn.head))
