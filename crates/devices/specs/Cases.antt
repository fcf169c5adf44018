-- Worked examples: reads from block 63 on, on a disk of 64 blocks. Assumes nothing.
use Rattle.std.specs.Prelude.{◌≡◌, ℕ, List, [], ◌∷◌}
use Rattle.shelf.specs.declared.Way.TheVariants.{Still, In}
use Rattle.shelf.specs.Model.{Kind}
use Rattle.devices.specs.Device.{device_kind}
use Rattle.devices.specs.Disk.{disk}

-- the read whose count byte is this
abbrev pub read_63 : ℕ → List ℕ
read_63 count = 8 ∷ 0 ∷ 0 ∷ 63 ∷ count ∷ 0 ∷ []

-- a command to LUN 0 of this target ends 02h without data, whatever is held
pub record TurnedDown (k : Kind) (t : ℕ) (c : List ℕ) : Type 0 where
  pub way : k.way t 0 c ≡ Still
  pub count : k.count t 0 c ≡ 0
  pub status : (held : List ℕ) → k.status t 0 held c ≡ 2

pub record DiskCases : Type 0 where
  pub one_block_way : (t : ℕ) → (device_kind t (disk 64)).way t 0 (read_63 1) ≡ In
  pub one_block_count : (t : ℕ) → (device_kind t (disk 64)).count t 0 (read_63 1) ≡ 512
  pub two_blocks : (t : ℕ) → TurnedDown (device_kind t (disk 64)) t (read_63 2)
  -- a count byte of 0 means 256
  pub blocks_256 : (t : ℕ) → TurnedDown (device_kind t (disk 64)) t (read_63 0)
