use Rattle.std.proofs.Common.{◌≡◌, Bool, ◌++◌, map, take, drop}
use Rattle.slots.specs.declared.slot.State.{State}
use Rattle.table.specs.View.{reset_slot}
use Rattle.engine.specs.Fields.{Decides}
use Rattle.engine.proofs.changes.reset_where.Given as goal

abbrev pub invariant-loop-slot : goal.invariant-loop-slot
invariant-loop-slot g l = (p : State → Bool) → Decides (goal.F-post g l.passes) p → l.slots ≡ map (reset_slot p) (take l.slot-index l.initial.slots) ++ drop l.slot-index l.initial.slots
