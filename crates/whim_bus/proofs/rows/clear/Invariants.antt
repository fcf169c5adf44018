use Rattle.std.proofs.Common.{◌≡◌, map, ◌++◌, take, drop}
use Rattle.whim_bus.specs.Rows.{emptied}
use Rattle.whim_bus.specs.View.{row_of}
use Rattle.whim_bus.proofs.rows.clear.Given as goal

abbrev pub invariant-loop-row : goal.invariant-loop-row
invariant-loop-row l =
    map row_of l.rows ≡ map emptied (take l.row-index (map row_of l.initial.rows)) ++ drop l.row-index (map row_of l.initial.rows)
