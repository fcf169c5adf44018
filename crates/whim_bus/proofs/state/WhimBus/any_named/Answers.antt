use Rattle.std.proofs.Common.{rules, tests, ◌∙◌}
use Rattle.std.proofs.lemmas.Iterator.{YieldsList-from_slice}
use Rattle.std.proofs.lemmas.Iterator.Search.{any_from_yields_List}
use Rattle.bus.specs.Refusals.{name_of}
use Rattle.whim_bus.specs.Rows.{is_named}
use Rattle.whim_bus.specs.View.{row_of}
use Rattle.whim_bus.proofs.Looking.{any_row}
use Rattle.whim_bus.proofs.state.WhimBus.any_named.Goals as goal

pub returns : goal.returns
returns g c =
    let rows = c.args.self.now.rows in
    let named = is_named (name_of c.args.opened.now.target c.args.opened.now.greeting) in
    any_from_yields_List (λ x. named (row_of x)) _ _ _ c.any.ensures.ran (YieldsList-from_slice rows cc) (λ x b q k. search (rules, tests)) ∙ any_row named rows
