-- The strip that is printed, and the checksum that tells it. Assumes nothing.
use Rattle.std.specs.Prelude.{ℕ, ◌+◌, ◌*◌, ◌/◌, ◌%◌, List, [], ◌∷◌}

-- the byte at a place: 7 brighter from byte to byte, and 1 more at each line of 128 bytes, modulo 256
abbrev pub ramp : ℕ → ℕ
ramp i = (7 * i + i / 128) % 256

-- Adler-32: two sums modulo 65,521, of the bytes and of the first sum after each byte
abbrev pub adler_from : ℕ → ℕ → List ℕ → ℕ
adler_from a b [] = b * 65536 + a
adler_from a b (x ∷ xs) = adler_from ((a + x) % 65521) ((b + (a + x) % 65521) % 65521) xs

abbrev pub adler : List ℕ → ℕ
adler xs = adler_from 1 0 xs
