-- What carrying one command comes to. Assumes nothing.
use Rattle.std.specs.Prelude.{◌≡◌, ℕ, ◌<◌, ◌≤◌, List, length, Ok, Err, Result, slice_index}
use Rattle.shelf.specs.declared.Way.TheVariants.{In, Out}
use Rattle.shelf.specs.Model.{Model, way_of, count_of, byte_of, status_of}
use Rattle.shelf.specs.Serving.{served}
use Rattle.bus.specs.State.{BusState, AtRest}
use Rattle.carrier.specs.declared.Carried.{Carried}
use Rattle.carrier.specs.declared.Trouble.{Trouble}

-- from this place on the buffer holds what it held
abbrev pub KeptFrom : ℕ → List ℕ → List ℕ → Type 0
KeptFrom n before after = (k : ℕ) → n ≤ k → slice_index after k ≡ slice_index before k

-- the command was served on the shelf m: status and count are those of the serving, an in command's bytes are all in the buffer,
-- and the shelf is the one after it, an out command finished with the first of the out bytes, of which there are enough
pub record ServedWhole (m : Model) (t l : ℕ) (c out : List ℕ) (x : Carried) (into : List ℕ) (after : Model) : Type 0 where
  pub status : x.status ≡ status_of m t l c
  pub count : x.moved ≡ count_of m t l c
  pub bytes : way_of m t l c ≡ In → (i : ℕ) → i < x.moved → slice_index into i ≡ byte_of m t l c i
  pub room : way_of m t l c ≡ In → x.moved ≤ length into
  pub enough : way_of m t l c ≡ Out → x.moved ≤ length out
  pub shelf : after ≡ served m t l c (λ i. slice_index out i)

-- a command that ran to its end was served; one in trouble left the shelf as it was
abbrev pub ComesTo : Model → ℕ → ℕ → List ℕ → List ℕ → Result Carried Trouble → List ℕ → Model → Type 0
ComesTo m t l c out (Ok x) into after = ServedWhole m t l c out x into after
ComesTo m t l c out (Err e) into after = after ≡ m

-- over a bus at rest: all or nothing, and the bus is at rest again
pub record Carries (b : BusState) (t l : ℕ) (c out : List ℕ) (r : Result Carried Trouble) (into : List ℕ) (b' : BusState) : Type 0 where
  pub comes_to : ComesTo b.cable.shelf t l c out r into b'.cable.shelf
  pub rests : AtRest b'
