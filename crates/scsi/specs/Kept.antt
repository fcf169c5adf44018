-- A command as it is kept. Assumes nothing.
use Rattle.std.specs.Prelude.{ℕ, cond, List, Some, None, Option}
use Rattle.scsi.specs.declared.cdb.Cdb.{Cdb}
use Rattle.scsi.specs.declared.cdb.Cdb.TheVariants.{Six, Ten, Twelve}
use Rattle.scsi.specs.Commands.{well_sized}

-- its bytes
abbrev pub cdb_bytes : Cdb → List ℕ
cdb_bytes (Six bs) = bs
cdb_bytes (Ten bs) = bs
cdb_bytes (Twelve bs) = bs

-- what is kept of these bytes: all of them, where they are as many as their group has
abbrev pub kept : List ℕ → Option (List ℕ)
kept bs = cond (well_sized bs) (Some bs) None
