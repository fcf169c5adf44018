use Rattle.std.proofs.Common.{◌∙◌}
use Rattle.table.specs.Calls.{clear_by}
use Rattle.table.specs.View.{command_of}
use Rattle.engine.proofs.Scans.{every_slot}
use Rattle.engine.proofs.state.Engine.is_clear.Goals as goal

pub returns : goal.returns
returns c = c.clear_of_all.ensures ∙ every_slot (clear_by (command_of c.args.command)) c.args.self.now.state.slots c.args.self.now.long
