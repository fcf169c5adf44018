use Rattle.std.proofs.Common.{rules, tests, map, arith, sym, ◌∙◌}
use Rattle.std.proofs.lemmas.Iterator.{YieldsList-from_slice}
use Rattle.std.proofs.lemmas.Iterator.Search.{position_from_yields_List}
use Rattle.std.proofs.lemmas.List.{length-map}
use Rattle.whim_bus.specs.Rows.{is_open}
use Rattle.whim_bus.specs.View.{row_of, view}
use Rattle.whim_bus.proofs.Looking.{position_row, numbered, passing_open}
use Rattle.whim_bus.proofs.state.WhimBus.returner.Goals as goal

pub returns : goal.returns
returns g c =
    let s = c.args.self.now in
    numbered is_open (map row_of s.rows) _ _ (length-map s.rows row_of ∙ omega arith)
    (position_from_yields_List (λ x. is_open (row_of x)) _ _ _ c.position.ensures.ran (YieldsList-from_slice s.rows cc) (λ x b q k. search (rules, tests))
    ∙ position_row is_open s.rows)
    c.and_then.ensures
    ∙ passing_open (view g.S.Shelf.model s) (sym c.is_odd.ensures ∙ c.if-not-is_odd.false)
