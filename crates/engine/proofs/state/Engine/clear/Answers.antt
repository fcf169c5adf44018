use Rattle.table.specs.Engine.{is_open}
use Rattle.table.proofs.Views.{view_cleared}
use Rattle.engine.proofs.Kept.{whole_cleared}
use Rattle.engine.proofs.state.Engine.clear.Goals as goal

pub invariant_of-self : goal.invariant_of-self
invariant_of-self c = whole_cleared c.args.self.now c.reset_where.new.slots c.clear.new.self c.clear.ensures (c.reset_where.ensures is_open (λ s t h. h.1))

pub returns : goal.returns
returns c = view_cleared c.args.self.now.state c.reset_where.new.slots c.clear.new.self (c.reset_where.ensures is_open (λ s t h. h.1))
