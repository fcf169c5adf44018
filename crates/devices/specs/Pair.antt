-- Two shelves as one: the first answers where it is present, the second everywhere else. Assumes nothing.
use Rattle.std.specs.Prelude.{cond, ◌||◌}
use Rattle.shelf.specs.Model.{Kind, Model}

abbrev pub pair_kind : Kind → Kind → Kind
pair_kind a b = record {
  present = λ t. a.present t || b.present t;
  way = λ t l c. cond (a.present t) (a.way t l c) (b.way t l c);
  count = λ t l c. cond (a.present t) (a.count t l c) (b.count t l c);
  byte = λ t l held c i. cond (a.present t) (a.byte t l held c i) (b.byte t l held c i);
  status = λ t l held c. cond (a.present t) (a.status t l held c) (b.status t l held c);
  after = λ t l held c o. cond (a.present t) (a.after t l held c o) (b.after t l held c o);
}

abbrev pub pair_model : Model → Model → Model
pair_model a b = record {
  kind = pair_kind a.kind b.kind;
  holds = λ t l. cond (a.kind.present t) (a.holds t l) (b.holds t l);
}
