use Rattle.std.proofs.Common.{◌+◌, sym, ap, ◌∙◌, arith}
use Rattle.std.specs.Option.{option_map}
use Rattle.std.proofs.lemmas.List.Quantifiers.{position-Some}
use Rattle.table.specs.View.{no_slot}
use Rattle.engine.specs.Fields.{away_with_by}
use Rattle.engine.proofs.Numbers.{number_at}
use Rattle.engine.proofs.Scans.{seek_slot}
use Rattle.engine.proofs.state.Engine.find_away.Goals as goal

pub returns : goal.returns
returns c =
    let l = (position-Some _ c.args.self.now.state.slots c.in_ok-first_away.field-0 no_slot (sym c.first_away.ensures ∙ c.in_ok-first_away.was)).0 in
    let n = c.args.self.now.long in
    number_at _ c.at.result c.at.ensures.valid c.at.ensures.value (omega (arith, l, n))
    ∙ ap (option_map (λ i. i + 1)) (sym c.in_ok-first_away.was ∙ c.first_away.ensures)
    ∙ seek_slot (away_with_by c.args.tagged c.args.unit.target c.args.unit.lun) c.args.self.now.state.slots c.args.self.now.long

pub returns-in_err-first_away : goal.returns-in_err-first_away
returns-in_err-first_away c =
    c.from_residual.ensures ∙ ap (option_map (λ i. i + 1)) (sym c.in_err-first_away.was ∙ c.first_away.ensures)
    ∙ seek_slot (away_with_by c.args.tagged c.args.unit.target c.args.unit.lun) c.args.self.now.state.slots c.args.self.now.long
