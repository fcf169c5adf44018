use Rattle.table.specs.Calls.{open_or_waiting}
use Rattle.table.proofs.Views.{view_reset}
use Rattle.engine.proofs.Kept.{whole_ended}
use Rattle.engine.proofs.state.Engine.clear_all.Goals as goal

pub invariant_of-self : goal.invariant_of-self
invariant_of-self c = whole_ended c.args.self.now c.reset_where.new.slots c.clear.new.self c.clear.ensures (c.reset_where.ensures open_or_waiting (λ s t h. h.1))

pub returns : goal.returns
returns c = view_reset c.args.self.now.state c.reset_where.new.slots c.clear.new.self (c.reset_where.ensures open_or_waiting (λ s t h. h.1))
