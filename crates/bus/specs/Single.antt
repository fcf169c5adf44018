-- A bus with at most one nexus. Assumes nothing.
use Rattle.std.specs.Prelude.{[], Some, None}
use Rattle.shelf.specs.Model.{Model}
use Rattle.bus.specs.State.{Name, Nexus, free, held, Cable, put}

-- a free line and no nexus
abbrev pub resting : Model → Cable
resting m = record { shelf = m; nexuses = λ n. None; opened = 0; line = free; begun = [] }

-- one nexus, which holds the line
abbrev pub holding : Model → Name → Nexus → Cable
holding m n x = record { shelf = m; nexuses = put n (Some x) (λ k. None); opened = 1; line = held n; begun = [] }
