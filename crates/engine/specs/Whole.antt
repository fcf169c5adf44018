-- What is always true of the fields that the engine keeps. Assumes nothing.
use Rattle.std.specs.Prelude.{◌≡◌, ℕ, zero, suc, ◌≤◌, Bool, true, false, cond, not, ◌&&◌, List, [], ◌∷◌, length, ◌==◌}
use Rattle.slots.specs.declared.slot.State.{State}
use Rattle.slots.specs.declared.slot.State.TheVariants.{Free, Waiting, Connected, Away, Finished}
use Rattle.slots.specs.declared.slot.Slots.{Slots}
use Rattle.slots.specs.declared.line.Line.{Line}
use Rattle.slots.specs.declared.line.Line.TheVariants.{Idle, Greeted, Named, TagDue, Held}
use Rattle.table.specs.Engine.{Entry, in_use, is_waiting, numbered, stands_on}
use Rattle.table.specs.View.{nexts, view}

-- from h on, at most n slots follow one another by next numbers, and then zero
unfoldable pub ends : ℕ → (ℕ → ℕ) → ℕ → Bool
ends zero next h = h == 0
ends (suc n) next h = cond (numbered h) (ends n next (next h)) (h == 0)

-- a chain without repetition
unfoldable pub once : List ℕ → Bool
once [] = true
once (k ∷ ks) = not (stands_on k ks) && once ks

abbrev pub is_connected : State → Bool
is_connected Free = false
is_connected Waiting = false
is_connected Connected = true
is_connected Away = false
is_connected (Finished o) = false

-- a slot that holds the line is connected
abbrev pub held_right : Line → (ℕ → Entry) → Bool
held_right Idle f = true
held_right (Greeted t) f = true
held_right (Named u) f = true
held_right (TagDue u) f = true
held_right (Held k) f = is_connected (f k).state

-- each chain of next numbers ends at zero
abbrev pub Ended : Slots → Type 0
Ended s = (ends 16 (nexts s.slots) s.free ≡ true) × (ends 16 (nexts s.slots) s.waiting ≡ true)

-- exactly the free slots stand on the free chain, each once
abbrev pub FreeChain : Slots → Type 0
FreeChain s = ((k : ℕ) → stands_on k (view s).free ≡ (numbered k && not (in_use ((view s).slots k).state))) × (once (view s).free ≡ true)

-- exactly the waiting ones stand on the waiting chain, each once
abbrev pub WaitingChain : Slots → Type 0
WaitingChain s = ((k : ℕ) → stands_on k (view s).waiting ≡ is_waiting ((view s).slots k).state) × (once (view s).waiting ≡ true)

-- the slot that holds the line is connected, and a begun message is shorter than the longest one, for which there is room
abbrev pub LineKept : Slots → Type 0
LineKept s = (held_right s.line (view s).slots ≡ true) × (length s.begun.items ≤ 257)
