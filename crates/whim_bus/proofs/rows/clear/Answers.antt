use Rattle.whim_bus.proofs.Clearing.{clear_more, clear_all}
use Rattle.whim_bus.proofs.rows.clear.Goals as goal

pub loop-row-preserved : goal.loop-row-preserved
loop-row-preserved c = clear_more c.args.rows.now c.loop-row.rows _ _ _ c.loop-row-test.true c.loop-row.auto.rows c.loop-row.invariant c.close.ensures

pub returns : goal.returns
returns c = clear_all c.args.rows.now c.loop-row.rows _ c.loop-row-test.false c.loop-row.invariant
