-- Worked cases of the message table and of greetings. Assumes nothing.
use Rattle.std.specs.Prelude.{◌≡◌, true, [], ◌∷◌, Some, None}
use Rattle.scsi.specs.Messages.{sdtr, one, read_of}
use Rattle.scsi.specs.Greetings.{greeting_bytes}

pub record Worked : Type 0 where
  -- SDTR with period factor 25 and offset 15
  pub factor_25 : read_of (0x01 ∷ 0x03 ∷ 0x01 ∷ 0x19 ∷ 0x0F ∷ []) ≡ one (sdtr 25 15) []
  -- an extended message that lacks its 256 bytes is unfinished
  pub lacks_256 : read_of (0x01 ∷ 0x00 ∷ []) ≡ None
  -- LUN 3, may disconnect
  pub lun_3 : greeting_bytes true 3 None ≡ 0xC3 ∷ []
  -- LUN 0, may disconnect, tag 5
  pub tag_5 : greeting_bytes true 0 (Some 5) ≡ 0xC0 ∷ 0x20 ∷ 0x05 ∷ []
