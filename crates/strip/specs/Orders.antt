-- What an order's bytes ask of a disk or a recorder. Assumes nothing.
use Rattle.std.specs.Prelude.{◌≡◌, ℕ, ◌/◌, ◌%◌, List, [], ◌∷◌}
use Rattle.devices.specs.Disk.{first_block, block_count}
use Rattle.devices.specs.Recorder.{print_count}
use Rattle.strip.specs.declared.orders.Order.{Order}
use Rattle.strip.specs.declared.orders.Order.TheVariants.{Read, Write, Print}

-- the command with this code for one block: its bytes, and that they are read as that block; block numbers have 21 bits
pub record OneBlock (code block : ℕ) (c : List ℕ) : Type 0 where
  pub bytes : c ≡ code ∷ block / 65536 % 32 ∷ block / 256 % 256 ∷ block % 256 ∷ 1 ∷ 0 ∷ []
  pub first : first_block c ≡ block % 2097152
  pub one : block_count c ≡ 1

-- PRINT of so many bytes
pub record Prints (count : ℕ) (c : List ℕ) : Type 0 where
  pub bytes : c ≡ 0x0A ∷ 0 ∷ 0 ∷ count / 256 ∷ count % 256 ∷ 0 ∷ []
  pub counted : print_count c ≡ count

abbrev pub Asks : Order → List ℕ → Type 0
Asks (Read block) c = OneBlock 0x08 block c
Asks (Write block) c = OneBlock 0x0A block c
Asks (Print count) c = Prints count c
