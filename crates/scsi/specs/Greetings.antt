-- What opens a nexus: IDENTIFY, and for a tagged command its tag. Assumes nothing.
use Rattle.std.specs.Prelude.{◌≡◌, ℕ, ◌%◌, Bool, cond, List, [], ◌∷◌, Some, None, Option, ◌==◌, nat_le}
use Rattle.scsi.specs.declared.greeting.Greeting.{Greeting}
use Rattle.scsi.specs.declared.greeting.GreetingBytes.{GreetingBytes}
use Rattle.scsi.specs.declared.greeting.GreetingBytes.TheVariants.{Untagged, Tagged}
use Rattle.scsi.specs.Messages.{simple_tag, identify, one, permits_leave, lun_of, read_of, identify_byte}

-- the bytes of a greeting: whether the target may disconnect, the LUN, the tag if any
abbrev pub greeting_bytes : Bool → ℕ → Option ℕ → List ℕ
greeting_bytes leave lun None = identify_byte leave lun ∷ []
greeting_bytes leave lun (Some tag) = identify_byte leave lun ∷ 0x20 ∷ tag ∷ []

-- from these bytes IDENTIFY is read, then the tag message of a tagged command, and this rest is left
abbrev pub ReadsGreeting : Bool → ℕ → Option ℕ → List ℕ → List ℕ → Type 0
ReadsGreeting leave lun None bs rest = read_of bs ≡ one (identify leave (lun % 8)) rest
ReadsGreeting leave lun (Some tag) bs rest =
    (read_of bs ≡ one (identify leave (lun % 8)) (0x20 ∷ tag ∷ rest)) × (read_of (0x20 ∷ tag ∷ rest) ≡ one (simple_tag tag) rest)

-- a greeting as it is understood, from IDENTIFY (any of 80h to FFh) and the tag if any
abbrev pub greeting : ℕ → Option ℕ → Option Greeting
greeting b tag = cond (nat_le 0x80 b) (Some (record { lun = lun_of b; leave = permits_leave b; tag = tag })) None

-- the greeting that these bytes are; no others are one
abbrev pub greeting_of : List ℕ → Option Greeting
greeting_of [] = None
greeting_of (b ∷ []) = greeting b None
greeting_of (b ∷ x ∷ []) = None
greeting_of (b ∷ x ∷ tag ∷ []) = cond (x == 0x20) (greeting b (Some tag)) None
greeting_of (b ∷ x ∷ y ∷ z ∷ bs) = None

-- the bytes that a written greeting holds
abbrev pub bytes_in : GreetingBytes → List ℕ
bytes_in (Untagged bs) = bs
bytes_in (Tagged bs) = bs
