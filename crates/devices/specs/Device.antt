-- A device at one target. Its LUN 0 takes commands of 6 bytes; a command of another length, or to another LUN or target,
-- ends 02h without data. Assumes nothing.
use Rattle.std.specs.Prelude.{ℕ, ◌+◌, Bool, cond, ◌&&◌, List, [], ◌++◌, length, take, drop, ◌==◌, slice_index}
use Rattle.shelf.specs.declared.Way.{Way}
use Rattle.shelf.specs.declared.Way.TheVariants.{Still, In, Out}
use Rattle.shelf.specs.Model.{Kind, Model}

-- What a device makes of a command of 6 bytes at its LUN 0. Arguments in order: what it holds (where the answer may
-- depend on it), the command, then the place of an in byte, or the out bytes.
pub record Device : Type 0 where
  -- which way the command's data goes, and where it has data the number of bytes
  pub way : List ℕ → Way
  pub count : List ℕ → ℕ
  pub byte : List ℕ → List ℕ → ℕ → ℕ
  -- whether there is space for the out bytes, and what the device holds with them
  pub space : List ℕ → List ℕ → Bool
  pub filled : List ℕ → List ℕ → List ℕ → List ℕ

-- a command of 6 bytes to LUN 0 of this target
abbrev pub heard : ℕ → ℕ → ℕ → List ℕ → Bool
heard at t l c = t == at && l == 0 && length c == 6

-- TEST UNIT READY is 00h
abbrev pub ready : ℕ → ℕ → ℕ → List ℕ → Bool
ready at t l c = heard at t l c && slice_index c 0 == 0

abbrev pub device_way : ℕ → Device → ℕ → ℕ → List ℕ → Way
device_way at d t l c = cond (heard at t l c) (d.way c) Still

abbrev pub data_count : Way → ℕ → ℕ
data_count Still n = 0
data_count In n = n
data_count Out n = n

-- 0 for any command but an in command
abbrev pub data_byte : Way → ℕ → ℕ
data_byte Still b = 0
data_byte In b = b
data_byte Out b = 0

-- without data 00h for TEST UNIT READY and 02h for all else, and 02h for an out command without space
abbrev pub data_status : Way → Bool → Bool → ℕ
data_status Still is_ready fits = cond is_ready 0 2
data_status In is_ready fits = 0
data_status Out is_ready fits = cond fits 0 2

abbrev pub data_held : Way → Bool → List ℕ → List ℕ → List ℕ
data_held Still fits held new = held
data_held In fits held new = held
data_held Out fits held new = cond fits new held

-- an out command that is finished with another number of bytes than it speaks of changes nothing
abbrev pub device_kind : ℕ → Device → Kind
device_kind at d = record {
  present = λ t. (t == at);
  way = device_way at d;
  count = λ t l c. data_count (device_way at d t l c) (d.count c);
  byte = λ t l held c i. data_byte (device_way at d t l c) (d.byte held c i);
  status = λ t l held c. data_status (device_way at d t l c) (ready at t l c) (d.space held c);
  after = λ t l held c o. data_held (device_way at d t l c) (length o == d.count c && d.space held c) held (d.filled held c o);
}

-- the shelf of this one device, whose LUN 0 holds these bytes
abbrev pub device_model : ℕ → Device → List ℕ → Model
device_model at d held = record {
  kind = device_kind at d;
  holds = λ t l. cond (t == at && l == 0) held [];
}

-- these bytes over what lies from a place on
abbrev pub overlaid : List ℕ → ℕ → List ℕ → List ℕ
overlaid held at o = take at held ++ o ++ drop (at + length o) held
