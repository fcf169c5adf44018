-- What a row of the step table knows of the fields. Assumes nothing.
use Rattle.std.specs.Prelude.{◌≡◌, ℕ, ◌+◌, Bool, true, false, cond, not, ◌&&◌, ◌||◌, Ok, Err, Result, ◌==◌, nat_lt}
use Rattle.shelf.specs.declared.Way.{Way}
use Rattle.shelf.specs.declared.Way.TheVariants.{Still, In, Out}
use Rattle.slots.specs.declared.line.Line.{Line}
use Rattle.slots.specs.declared.line.Line.TheVariants.{Idle, Greeted, Named, TagDue, Held}
use Rattle.slots.specs.declared.slot.Slot.{Slot}
use Rattle.slots.specs.declared.slot.Outcome.{Outcome}
use Rattle.slots.specs.declared.slot.Outcome.TheVariants.{Overrun, WrongWay}
use Rattle.slots.specs.declared.slot.State.{State}
use Rattle.table.specs.Engine.{Engine, Entry, in_use, is_in, is_out, is_waiting, tagged}
use Rattle.table.specs.Table.{away_by}
use Rattle.engine.specs.Whole.{is_connected}

-- a command is away, of this target and LUN, and tagged or not
abbrev pub away_with_by : Bool → ℕ → ℕ → Entry → Bool
away_with_by true t l x = away_by t l x && tagged x.command.manner
away_with_by false t l x = away_by t l x && not (tagged x.command.manner)

abbrev pub away_with : Bool → Engine → ℕ → ℕ → ℕ → Bool
away_with b e t l k = away_with_by b t l (e.slots k)

-- data of this direction goes this way
abbrev pub goes : Way → Way → Bool
goes Still d = not (is_in d || is_out d)
goes In d = is_in d
goes Out d = is_out d

-- where the next byte that goes this way is, or how the command ends if none may
abbrev pub place_for : Way → Entry → Result ℕ Outcome
place_for w x =
    cond (goes w x.command.direction)
    (cond (nat_lt x.current x.command.length) (Ok (x.command.base + x.current)) (Err Overrun))
    (Err WrongWay)

-- the line goes idle, or is held by slot k, which is connected then
abbrev pub line_for : Line → ℕ → State → Bool
line_for Idle k s = true
line_for (Greeted t) k s = false
line_for (Named u) k s = false
line_for (TagDue u) k s = false
line_for (Held j) k s = j == k && is_connected s

-- x is what becomes of slot k as it leaves the waiting chain
pub record GoesOn (k : ℕ) (x : Slot) (l : Line) : Type 0 where
  pub used : in_use x.state ≡ true
  pub gone : is_waiting x.state ≡ false
  pub line_right : line_for l k x.state ≡ true

-- the line is held by no slot
abbrev pub unheld : Line → Bool
unheld Idle = true
unheld (Greeted t) = true
unheld (Named u) = true
unheld (TagDue u) = true
unheld (Held k) = false

-- a call with this result answers as the test p
abbrev pub Decides : (State → Bool → Type 0) → (State → Bool) → Type 0
Decides post p = (s : State) (t : Bool) → post s t → t ≡ p s
