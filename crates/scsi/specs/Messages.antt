-- How the bytes of a message are read. Assumes nothing.
use Rattle.std.specs.Prelude.{◌≡◌, ℕ, ◌+◌, ◌/◌, ◌%◌, Bool, cond, ◌&&◌, List, [], ◌∷◌, ◌++◌, length, take, drop, Some, None, Option, ◌==◌, nat_le, slice_index}
use Rattle.std.specs.Option.{option_map}
use Rattle.scsi.specs.Rows.{◌then◌, ◌else◌}

-- a message: its kind, with the part of the bytes that is its argument
pub data Message : Type 0 where
  complete save restore disconnect abort reject no_operation abort_tag : Message
  extended : List ℕ → Message
  -- period factor and offset
  sdtr : ℕ → ℕ → Message
  simple_tag : ℕ → Message
  -- whether disconnection is permitted, and the LUN
  identify : Bool → ℕ → Message
  -- the first byte, and a second where there is one
  other : ℕ → List ℕ → Message

-- a message that was read, and the bytes that follow it
pub record Read : Type 0 where
  pub message : Message
  pub rest : List ℕ

-- a message of one byte, and what follows
abbrev pub one : Message → List ℕ → Option Read
one m rest = Some (record { message = m; rest = rest })

-- a message of two bytes, from its second byte on
abbrev pub two : (ℕ → Message) → List ℕ → Option Read
two m [] = None
two m (argument ∷ rest) = one (m argument) rest

-- the length of an extended message's body; a length byte of 0 stands for 256
abbrev pub body_length : ℕ → ℕ
body_length n = cond (n == 0) 256 n

-- the extended message with this body: three bytes, of which the first is 1, are SDTR's
abbrev pub bodied : List ℕ → Message
bodied body = cond (length body == 3 && slice_index body 0 == 1) (sdtr (slice_index body 1) (slice_index body 2)) (extended body)

-- an extended message, from its length byte on
abbrev pub long : List ℕ → Option Read
long [] = None
long (n ∷ bs) = cond (nat_le (body_length n) (length bs)) (one (bodied (take (body_length n) bs)) (drop (body_length n) bs)) None

-- bit 6 of IDENTIFY permits disconnection
abbrev pub permits_leave : ℕ → Bool
permits_leave b = b / 0x40 % 2 == 1

-- bits 0 to 2 of IDENTIFY are the LUN
abbrev pub lun_of : ℕ → ℕ
lun_of b = b % 8

-- the message table, by the first byte; none where the bytes are too few
abbrev pub read_of : List ℕ → Option Read
read_of [] = None
read_of (b ∷ bs) =
    (b == 0x00) then one complete bs
    else (b == 0x01) then long bs
    else (b == 0x02) then one save bs
    else (b == 0x03) then one restore bs
    else (b == 0x04) then one disconnect bs
    else (b == 0x06) then one abort bs
    else (b == 0x07) then one reject bs
    else (b == 0x08) then one no_operation bs
    else (b == 0x0D) then one abort_tag bs
    else (b == 0x20) then two simple_tag bs
    else nat_le 0x21 b && nat_le b 0x2F then two (λ x. other b (x ∷ [])) bs
    else nat_le 0x80 b then one (identify (permits_leave b) (lun_of b)) bs
    else one (other b []) bs

-- the message alone
abbrev pub message_of : List ℕ → Option Message
message_of bs = option_map (λ r. r.message) (read_of bs)

-- bytes from which this message is read, whatever follows them, and what follows is handed back
abbrev pub ReadsBack : List ℕ → Message → Type 0
ReadsBack bs m = (rest : List ℕ) → read_of (bs ++ rest) ≡ one m rest

-- IDENTIFY: 80h, plus 40h where disconnection is permitted, plus the LUN in the low three bits
abbrev pub identify_byte : Bool → ℕ → ℕ
identify_byte leave lun = 0x80 + cond leave 0x40 0 + lun % 8
