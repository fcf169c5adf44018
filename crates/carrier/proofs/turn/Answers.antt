use Rattle.std.proofs.Common.{◌≡◌, ◌<◌, length, get_or, sym, ap, ◌∙◌, rules}
use Rattle.bus.specs.declared.Shown.TheVariants.{MessageIn}
use Rattle.carrier.proofs.Turning.{commanded, gave, took_byte, took_status, completed_turn}
use Rattle.carrier.proofs.turn.Goals as goal

pub returns-in_ok-command-in-Command-clause-goes : goal.returns-in_ok-command-in-Command-clause-goes
returns-in_ok-command-in-Command-clause-goes g c m n h =
    commanded m n _ _ _ _ _ _ h (sym c.look.ensures ∙ c.in-Command.is) (g.met.B.Bus.shows _ h.order) (g.met.B.Bus.keeps _ _ _ _ c.in_ok-command-in-Command.ensures)

pub returns-in_ok-give-in-DataOut-clause-goes : goal.returns-in_ok-give-in-DataOut-clause-goes
returns-in_ok-give-in-DataOut-clause-goes g c m n h =
    let left : c.args.carried.now.moved < length c.args.sent.out.now = search rules in
    let byte : c.in_ok-byte-in-DataOut.byte ≡ get_or c.args.sent.out.now c.args.carried.now.moved 0 = search rules in
    gave m n _ _ _ _ _ _ _ h (sym c.look.ensures ∙ c.in-DataOut.is) (g.met.B.Bus.shows _ h.order) left byte (g.met.B.Bus.keeps _ _ _ _ c.in_ok-give-in-DataOut.ensures)

pub returns-in_ok-into-in-DataIn-clause-goes : goal.returns-in_ok-into-in-DataIn-clause-goes
returns-in_ok-into-in-DataIn-clause-goes g c m n h =
    took_byte m n _ _ _ _ _ _ _ _ h (sym c.look.ensures ∙ c.in-DataIn.is) (g.met.B.Bus.shows _ h.order) c.if-carried-into.false (g.met.B.Bus.keeps _ _ _ _ c.in_ok-into-in-DataIn.ensures)

pub returns-in_ok-carried-in-Status-clause-goes : goal.returns-in_ok-carried-in-Status-clause-goes
returns-in_ok-carried-in-Status-clause-goes g c m n h =
    took_status m n _ _ _ _ _ _ _ _ h (sym c.look.ensures ∙ c.in-Status.is) (g.met.B.Bus.shows _ h.order) (g.met.B.Bus.keeps _ _ _ _ c.in_ok-carried-in-Status.ensures)

pub returns-in-MessageIn-eq0-clause-goes : goal.returns-in-MessageIn-eq0-clause-goes
returns-in-MessageIn-eq0-clause-goes g c m n h =
    let complete : c.in-MessageIn-eq0.field-0 ≡ 0 = search rules in
    completed_turn m n _ _ _ _ _ _ _ h (sym c.look.ensures ∙ c.in-MessageIn-eq0.is ∙ ap MessageIn complete) (g.met.B.Bus.shows _ h.order) (g.met.B.Bus.keeps _ _ _ _ c.in_ok-take-in-MessageIn-eq0.ensures)
