-- A disk of blocks of 512 bytes. Assumes nothing.
use Rattle.std.specs.Prelude.{ℕ, ◌+◌, ◌*◌, ◌%◌, Bool, true, cond, ◌&&◌, List, Some, None, Option, ◌==◌, nat_le, slice_index}
use Rattle.shelf.specs.declared.Way.{Way}
use Rattle.shelf.specs.declared.Way.TheVariants.{Still, In, Out}
use Rattle.devices.specs.declared.device.MakeError.{MakeError}
use Rattle.devices.specs.declared.device.MakeError.TheVariants.{TooManyBlocks}
use Rattle.devices.specs.Making.{refused_at}
use Rattle.devices.specs.Device.{Device, overlaid}

-- the first block that a command speaks of, and how many; 0 means 256
abbrev pub first_block : List ℕ → ℕ
first_block c = (slice_index c 1 % 32) * 65536 + slice_index c 2 * 256 + slice_index c 3

abbrev pub block_count : List ℕ → ℕ
block_count c = cond (slice_index c 4 == 0) 256 (slice_index c 4)

-- at most 4 blocks, none past the end of a disk of so many
abbrev pub on_disk : ℕ → List ℕ → Bool
on_disk blocks c = nat_le (block_count c) 4 && nat_le (first_block c + block_count c) blocks

-- 08h reads and 0Ah writes
abbrev pub code_way : ℕ → Way
code_way code = cond (code == 8) In (cond (code == 10) Out Still)

-- a disk of so many blocks
abbrev pub disk : ℕ → Device
disk blocks = record {
  way = λ c. cond (on_disk blocks c) (code_way (slice_index c 0)) Still;
  count = λ c. block_count c * 512;
  byte = λ held c i. slice_index held (first_block c * 512 + i);
  space = λ held c. true;
  filled = λ held c o. overlaid held (first_block c * 512) o;
}

-- why no disk of so many blocks is made at this target
abbrev pub disk_refused : ℕ → ℕ → Option MakeError
disk_refused at blocks = refused_at at (cond (nat_le blocks 2097152) None (Some TooManyBlocks))
