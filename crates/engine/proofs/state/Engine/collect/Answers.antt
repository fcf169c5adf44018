use Rattle.std.proofs.Common.{rules}
use Rattle.table.specs.View.{view}
use Rattle.engine.proofs.Promises.{collect_lawful}
use Rattle.engine.proofs.state.Engine.collect.Goals as goal

pub returns-in_default-clause-lawful : goal.returns-in_default-clause-lawful
returns-in_default-clause-lawful c = collect_lawful (view c.args.self.now.state) (view c.args.self.now.state) c.args.ticket.slot _ (search rules) (search rules)

pub returns-clause-lawful : goal.returns-clause-lawful
returns-clause-lawful c = collect_lawful (view c.args.self.now.state) (view c.put_back.new.self.state) c.args.ticket.slot _ (search rules) (search rules)
