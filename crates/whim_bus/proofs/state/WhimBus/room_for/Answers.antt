use Rattle.std.proofs.Common.{rules, tests, ◌≡◌, map, length, arith, sym, ◌∙◌}
use Rattle.std.proofs.lemmas.Iterator.{YieldsList-from_slice}
use Rattle.std.proofs.lemmas.Iterator.Search.{position_from_yields_List}
use Rattle.std.proofs.lemmas.List.{length-map}
use Rattle.whim_bus.specs.Rows.{is_empty}
use Rattle.whim_bus.specs.View.{row_of}
use Rattle.whim_bus.proofs.Looking.{position_row, numbered, no_room, room}
use Rattle.whim_bus.proofs.state.WhimBus.room_for.Goals as goal

pub returns-then-any_named : goal.returns-then-any_named
returns-then-any_named g c =
    let s = c.args.self.now in
    no_room (g.S.Shelf.model s.shelf) (map row_of s.rows) _ (sym c.if-any_named.true ∙ c.any_named.ensures)

pub returns : goal.returns
returns g c =
    let s = c.args.self.now in
    let sixteen : length (map row_of s.rows) ≡ 16 = length-map s.rows row_of ∙ omega arith in
    numbered is_empty (map row_of s.rows) _ _ sixteen
    (position_from_yields_List (λ x. is_empty (row_of x)) _ _ _ c.position.ensures.ran (YieldsList-from_slice s.rows cc) (λ x b q k. search (rules, tests))
    ∙ position_row is_empty s.rows)
    c.and_then.ensures
    ∙ room (g.S.Shelf.model s.shelf) (map row_of s.rows) _ sixteen (sym c.if-any_named.false ∙ c.any_named.ensures)
