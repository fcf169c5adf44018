-- To serve a command is to answer way, count, in bytes and status, and to finish it. Assumes nothing.
use Rattle.std.specs.Prelude.{ℕ, zero, suc, List, [], ◌∷◌, ◌++◌}
use Rattle.shelf.specs.declared.Way.{Way}
use Rattle.shelf.specs.declared.Way.TheVariants.{Still, In, Out}
use Rattle.shelf.specs.Model.{Model, way_of, count_of, byte_of, status_of, finished}

-- what serving answers: way, count, in bytes by place, status
pub record Served : Type 0 where
  pub way : Way
  pub count : ℕ
  pub byte : ℕ → ℕ
  pub status : ℕ

abbrev pub answers : Model → ℕ → ℕ → List ℕ → Served
answers m t l c = record { way = way_of m t l c; count = count_of m t l c; byte = byte_of m t l c; status = status_of m t l c }

-- the first n values of a function of the place
abbrev pub firsts : ℕ → (ℕ → ℕ) → List ℕ
firsts zero f = []
firsts (suc n) f = firsts n f ++ f n ∷ []

-- the bytes that a command of this way and count is finished with, where its region holds these
abbrev pub outs : Way → ℕ → (ℕ → ℕ) → List ℕ
outs Still n f = []
outs In n f = []
outs Out n f = firsts n f

-- the shelf after serving: finished, an out command with the first bytes that its region held
abbrev pub served : Model → ℕ → ℕ → List ℕ → (ℕ → ℕ) → Model
served m t l c held = finished m t l c (outs (way_of m t l c) (count_of m t l c) held)
