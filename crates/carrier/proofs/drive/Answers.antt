use Rattle.std.proofs.Common.{rules}
use Rattle.carrier.proofs.drive.Goals as goal

pub returns-in_err-turn-clause-ends : goal.returns-in_err-turn-clause-ends
returns-in_err-turn-clause-ends g c m n h =
    let went = c.in_err-turn.ensures.goes m n (c.loop.invariant.1 m n h) in
    search rules

pub returns-then-is_break-clause-ends : goal.returns-then-is_break-clause-ends
returns-then-is_break-clause-ends g c m n h =
    let went = c.in_ok-turn.ensures.goes m n (c.loop.invariant.1 m n h) in
    search rules

pub returns-clause-ends : goal.returns-clause-ends
returns-clause-ends g c m n h =
    let went = c.loop.invariant.1 m n h in
    search rules
