use Rattle.std.proofs.Common.{refl}
use Rattle.slots.specs.declared.line.Line.TheVariants.{Idle}
use Rattle.table.proofs.Views.{made_fresh}
use Rattle.engine.proofs.Whole.{whole_fresh}
use Rattle.engine.proofs.state.Engine.new.Goals as goal

pub invariant_of-result : goal.invariant_of-result
invariant_of-result c = whole_fresh (record { slots = c.fresh_slots.result; free = 1; waiting = 0; line = Idle; begun = c.new.result; size = c.args.size.bytes }) c.fresh_slots.ensures refl refl refl c.new.ensures

pub returns : goal.returns
returns c = record {
  made = made_fresh (record { slots = c.fresh_slots.result; free = 1; waiting = 0; line = Idle; begun = c.new.result; size = c.args.size.bytes }) c.fresh_slots.ensures refl refl refl;
  size = refl;
  fields = λ i. record { slots = c.fresh_slots.ensures i; free = 1; waiting = 0; line = Idle; begun = record { items = c.new.ensures i }; size = c.args.size.bytes };
}
