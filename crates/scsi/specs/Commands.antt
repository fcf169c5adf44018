-- How long a command is. Assumes nothing.
use Rattle.std.specs.Prelude.{ℕ, ◌/◌, Bool, false, cond, ◌||◌, List, [], ◌∷◌, length, Some, None, Option, ◌==◌}
use Rattle.scsi.specs.Rows.{◌then◌, ◌else◌}

-- the length of a group's commands; 0 where the group has none
abbrev pub group_length : ℕ → ℕ
group_length g =
    (g == 0) then 6
    else (g == 1) || g == 2 then 10
    else (g == 5) then 12
    else 0

-- a command's length by its first byte, whose top three bits are the group
abbrev pub length_of : ℕ → Option ℕ
length_of first = cond (group_length (first / 0x20) == 0) None (Some (group_length (first / 0x20)))

-- whether a command has its group's length
abbrev pub well_sized : List ℕ → Bool
well_sized [] = false
well_sized (first ∷ bs) = group_length (first / 0x20) == length (first ∷ bs)
