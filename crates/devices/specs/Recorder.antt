-- A film recorder. Assumes nothing.
use Rattle.std.specs.Prelude.{ℕ, ◌+◌, ◌*◌, ◌%◌, Bool, cond, ◌&&◌, List, ◌++◌, length, ◌==◌, nat_le, slice_index}
use Rattle.shelf.specs.declared.Way.TheVariants.{Still, Out}
use Rattle.devices.specs.Device.{Device}

-- how many bytes a PRINT speaks of
abbrev pub print_count : List ℕ → ℕ
print_count c = slice_index c 2 * 65536 + slice_index c 3 * 256 + slice_index c 4

-- PRINT is 0Ah, with a multiple of 128 bytes up to 2,048
abbrev pub printable : List ℕ → Bool
printable c = slice_index c 0 == 10 && nat_le (print_count c) 2048 && print_count c % 128 == 0

-- a recorder with space for so many bytes
abbrev pub recorder : ℕ → Device
recorder capacity = record {
  way = λ c. cond (printable c) Out Still;
  count = print_count;
  byte = λ held c i. 0;
  space = λ held c. nat_le (length held + print_count c) capacity;
  filled = λ held c o. held ++ o;
}
