-- How a table is written: a row is a test and what it gives, and the first row whose test is met counts. Assumes nothing.
use Rattle.std.specs.Prelude.{Bool, cond}

infix 20 ◌then◌
infixr 15 ◌else◌
abbrev pub ◌then◌ : {A : Type 0} → Bool → A → Bool × A
◌then◌ test given = (test, given)

abbrev pub ◌else◌ : {A : Type 0} → Bool × A → A → A
◌else◌ row others = cond row.0 row.1 others
