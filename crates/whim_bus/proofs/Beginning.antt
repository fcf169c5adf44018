-- How a whim bus begins. Assumes nothing.
use Rattle.std.proofs.Common.{◌≡◌, ℕ, zero, suc, false, List, ◌∷◌, None, map, get_or, replicate, refl, ap₂}
use Rattle.shelf.specs.Model.{Model}
use Rattle.bus.specs.declared.Stage.TheVariants.{Empty}
use Rattle.whim_bus.specs.declared.rows.Row.{Row as KeptRow}
use Rattle.whim_bus.specs.declared.state.Line.TheVariants.{Free}
use Rattle.whim_bus.specs.Rows.{Row, empty, blank}
use Rattle.whim_bus.specs.State.{Whim, resting}
use Rattle.whim_bus.specs.View.{row_of}

-- a row that never had a nexus, with n out bytes
abbrev pub unused : ℕ → KeptRow
unused n = record {
  opened = record { target = 0; greeting = record { lun = 0; leave = false; tag = None } };
  stage = Empty;
  place = 0;
  saved = 0;
  out = replicate n 0;
}

nothing_written : (n i : ℕ) → get_or {A = ℕ} (replicate n 0) i 0 ≡ 0
nothing_written zero i = refl
nothing_written (suc n) zero = refl
nothing_written (suc n) (suc i) = nothing_written n i

unused_rows : (k n : ℕ) → map row_of (replicate k (unused n)) ≡ replicate k blank
unused_rows zero n = refl
unused_rows (suc k) n =
    ap₂ (λ (b : ℕ → ℕ) (rs : List Row). record { target = 0; greeting = blank.greeting; stage = empty; place = 0; saved = 0; bytes = b } ∷ rs)
    (λ i j. nothing_written n j i) (unused_rows k n)

pub begun : (m : Model) (whims : List ℕ) (n : ℕ)
    → ◌≡◌ {A = Whim} (record { shelf = m; rows = map row_of (replicate 16 (unused n)); line = Free; whims = whims; at = 0; draw = 0 }) (resting m whims)
begun m whims n = λ i. record { shelf = m; rows = unused_rows 16 n i; line = Free; whims = whims; at = 0; draw = 0 }
