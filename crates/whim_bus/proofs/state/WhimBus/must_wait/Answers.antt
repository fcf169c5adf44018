use Rattle.std.proofs.Common.{rules, tests, ◌∙◌}
use Rattle.std.proofs.lemmas.Iterator.{YieldsList-from_slice}
use Rattle.std.proofs.lemmas.Iterator.Search.{any_from_yields_List}
use Rattle.whim_bus.specs.Rows.{reads}
use Rattle.whim_bus.specs.View.{row_of}
use Rattle.whim_bus.proofs.Looking.{any_row, goes_out}
use Rattle.whim_bus.proofs.state.WhimBus.must_wait.Goals as goal

pub returns-then-eq : goal.returns-then-eq
returns-then-eq g c =
    let s = c.args.self.now in
    let reader = reads (g.S.Shelf.model s.shelf) c.args.unit.target c.args.unit.lun in
    goes_out c.args.way _ _ (search (rules, tests))
    (any_from_yields_List (λ x. reader (row_of x)) _ _ _ c.any.ensures.ran (YieldsList-from_slice s.rows cc) (λ x b q k. search (rules, tests))
    ∙ any_row reader s.rows)
