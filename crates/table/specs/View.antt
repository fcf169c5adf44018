-- The engine of the step table as a function of the fields that the code keeps. Assumes nothing.
use Rattle.std.specs.Prelude.{◌≡◌, ℕ, zero, suc, ◌-◌, Bool, true, false, cond, List, [], ◌∷◌, map, None, ◌==◌, slice_index_or}
use Rattle.scsi.specs.declared.cdb.Cdb.TheVariants.{Six}
use Rattle.scsi.specs.Kept.{cdb_bytes}
use Rattle.shelf.specs.declared.Way.TheVariants.{Still}
use Rattle.slots.specs.declared.command.Command.{Command as Stored}
use Rattle.slots.specs.declared.command.Manner.TheVariants.{Plain}
use Rattle.slots.specs.declared.slot.State.{State}
use Rattle.slots.specs.declared.slot.State.TheVariants.{Free, Finished}
use Rattle.slots.specs.declared.slot.Outcome.TheVariants.{Reset}
use Rattle.slots.specs.declared.slot.Slot.{Slot}
use Rattle.slots.specs.declared.slot.Slots.{Slots}
use Rattle.slots.specs.declared.line.Line.{Line as KeptLine}
use Rattle.slots.specs.declared.line.Line.TheVariants.{Idle, Greeted, Named, TagDue, Held}
use Rattle.table.specs.Engine.{Command, Entry, Line, idle, greeted, named, tag_due, held, Engine, numbered}

---- slots by number

abbrev pub command_of : Stored → Command
command_of c = record {
  target = c.unit.target;
  lun = c.unit.lun;
  manner = c.manner;
  direction = c.direction;
  bytes = cdb_bytes c.bytes;
  base = c.region.base;
  length = c.region.length;
}

abbrev pub entry_of : Slot → Entry
entry_of s = record { state = s.state; command = command_of s.command; current = s.current; saved = s.saved; sent = s.sent; status = s.status }

-- what stands for a slot where there is none
abbrev pub no_slot : Slot
no_slot = record {
  next = 0;
  state = Free;
  command = record { unit = record { target = 0; lun = 0 }; manner = Plain; direction = Still; bytes = Six []; region = record { base = 0; length = 0 } };
  current = 0;
  saved = 0;
  sent = false;
  status = None;
}

-- slot k stands at place k - 1
abbrev pub slot_at : List Slot → ℕ → Slot
slot_at xs k = slice_index_or xs (k - 1) no_slot

-- 1 to 16 are slots; any other number has none
abbrev pub entries : List Slot → ℕ → Entry
entries xs k = cond (numbered k) (entry_of (slot_at xs k)) (entry_of no_slot)

abbrev pub nexts : List Slot → ℕ → ℕ
nexts xs k = cond (numbered k) (slot_at xs k).next 0

---- chains

-- at most n slots from h on by next numbers; zero ends a chain, and so does any number that is no slot's
unfoldable pub chain : ℕ → (ℕ → ℕ) → ℕ → List ℕ
chain zero next h = []
chain (suc n) next h = cond (numbered h) (h ∷ chain n next (next h)) []

-- from h on these slots follow one another, and then zero
abbrev pub Links : (ℕ → ℕ) → ℕ → List ℕ → Type 0
Links next h [] = h ≡ 0
Links next h (k ∷ ks) = (h ≡ k) × (numbered k ≡ true) × Links next (next k) ks

-- the one before k in a chain that begins with d, or the last of it
abbrev pub before : ℕ → ℕ → List ℕ → ℕ
before k d [] = d
before k d (j ∷ js) = cond (j == k) d (before k j js)

---- the line, and the whole

abbrev pub line_of : KeptLine → List ℕ → Line
line_of Idle bs = idle
line_of (Greeted t) bs = greeted t
line_of (Named u) bs = named u.target u.lun
line_of (TagDue u) bs = tag_due u.target u.lun
line_of (Held k) bs = cond (numbered k) (held k bs) idle

abbrev pub view : Slots → Engine
view s = record {
  slots = entries s.slots;
  free = chain 16 (nexts s.slots) s.free;
  waiting = chain 16 (nexts s.slots) s.waiting;
  line = line_of s.line s.begun.items;
  size = s.size;
}

-- each chain of next numbers ends at zero, after at most sixteen slots
pub record Linked (s : Slots) : Type 0 where
  pub free : Links (nexts s.slots) s.free (view s).free
  pub waiting : Links (nexts s.slots) s.waiting (view s).waiting

---- slots as they are made and reset

-- a free slot with this next number
abbrev pub fresh_slot : ℕ → Slot
fresh_slot n = record {
  next = n;
  state = Free;
  command = record { unit = record { target = 0; lun = 0 }; manner = Plain; direction = Still; bytes = Six (0 ∷ 0 ∷ 0 ∷ 0 ∷ 0 ∷ 0 ∷ []); region = record { base = 0; length = 0 } };
  current = 0;
  saved = 0;
  sent = false;
  status = None;
}

-- the slots of an engine just made: the free chain is 1 to 16
abbrev pub fresh_slots : List Slot
fresh_slots = map fresh_slot (2 ∷ 3 ∷ 4 ∷ 5 ∷ 6 ∷ 7 ∷ 8 ∷ 9 ∷ 10 ∷ 11 ∷ 12 ∷ 13 ∷ 14 ∷ 15 ∷ 16 ∷ 0 ∷ [])

-- all that an engine just made keeps, for a memory of this size
abbrev pub fresh_fields : ℕ → Slots
fresh_fields n = record { slots = fresh_slots; free = 1; waiting = 0; line = Idle; begun = record { items = [] }; size = n }

-- finished RESET, where its state passes the test
abbrev pub reset_slot : (State → Bool) → Slot → Slot
reset_slot p s = record {
  next = s.next;
  state = cond (p s.state) (Finished Reset) s.state;
  command = s.command;
  current = s.current;
  saved = s.saved;
  sent = s.sent;
  status = s.status;
}
