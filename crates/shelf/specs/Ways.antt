-- Ways by their numbers. Assumes nothing.
use Rattle.std.specs.Prelude.{◌≡◌, ℕ, ◌<◌, Result, MatchResult}
use Rattle.shelf.specs.declared.Way.{Way}
use Rattle.shelf.specs.declared.NoSuchWay.{NoSuchWay}
use Rattle.shelf.specs.Model.{way_number}

-- the way of this number; above 2 there is none
abbrev pub GivesWay : ℕ → Result Way NoSuchWay → Type 0
GivesWay n r = MatchResult r (λ w. way_number w ≡ n) (λ e. (e.0 ≡ n) × (2 < n))
