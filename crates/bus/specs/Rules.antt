-- The rules of a bus, call by call. Assumes nothing.
use Rattle.std.specs.Prelude.{◌≡◌, ℕ, true, false, Some}
use Rattle.bus.specs.declared.Shown.TheVariants.{Pause}
use Rattle.bus.specs.Kinds.{byte_shown}
use Rattle.bus.specs.State.{Cable, BusState, change, clear, sent, given}
use Rattle.bus.specs.Calls.{Call, select, accept, command, give, take, speak, wait, reset, Reply, refused, selected, lost, absent, done, took, is_refused}
use Rattle.bus.specs.Refusals.{due}
use Rattle.bus.specs.Effects.{Selects, accepts, on_holder, Takes, speaks}
use Rattle.bus.specs.Showing.{Shows}

-- the byte in a reply
abbrev pub taken : Reply → ℕ
taken (refused n) = 0
taken selected = 0
taken lost = 0
taken absent = 0
taken done = 0
taken (took v) = v

-- what each granted call does, and that it changes nothing else; waiting changes only what is shown
abbrev pub Rule : BusState → Call → Reply → Cable → Type 0
Rule b (select t g) r c' = Selects b.cable t g r c'
Rule b accept r c' = c' ≡ accepts b.shown b.cable
Rule b (command d) r c' = c' ≡ on_holder (λ n. change n (sent d)) b.cable.line b.cable
Rule b (give v) r c' = c' ≡ on_holder (λ n. change n (given v)) b.cable.line b.cable
Rule b take r c' = Takes b.cable.line b.shown (taken r) b.cable c'
Rule b (speak m) r c' = c' ≡ speaks m b.cable
Rule b wait r c' = c' ≡ b.cable
Rule b reset r c' = c' ≡ clear b.cable

-- a granted call of a bus in order: it keeps its rule, shows afterwards what it may, and stays in order
pub record InOrder (b : BusState) (c : Call) (r : Reply) (b' : BusState) : Type 0 where
  pub rule : Rule b c r b'.cable
  pub shows : Shows b'
  pub order : b'.order ≡ true

-- every bus refuses exactly where due, with number 11, changing nothing, and answers the byte shown; one in order keeps the rules
pub record Did (b : BusState) (c : Call) (r : Reply) (b' : BusState) : Type 0 where
  pub turned_down : is_refused r ≡ due b c
  pub number : (n : ℕ) → r ≡ refused n → n ≡ 11
  pub kept : is_refused r ≡ true → b' ≡ b
  pub byte : (v : ℕ) → c ≡ take → byte_shown b.shown ≡ Some v → r ≡ took v
  pub keeps_rules : b.order ≡ true → is_refused r ≡ false → InOrder b c r b'

-- the same bus with a pause shown
abbrev pub pausing : BusState → BusState
pausing b = record { cable = b.cable; shown = Pause; order = true }

pub record PausingIsAllowed : Type 0 where
  -- whatever a call did, the bus may pause after it
  pub after_any_call : (b : BusState) (c : Call) (r : Reply) (b' : BusState) → InOrder b c r b' → InOrder b c r (pausing b')
  -- a bus in order that pauses can answer every call by the rules and pause again
  pub for_ever : (b : BusState) → b.order ≡ true → b.shown ≡ Pause → Shows b → (c : Call)
      → (r : Reply) × (b' : BusState) × Did b c r b' × (b'.shown ≡ Pause)
