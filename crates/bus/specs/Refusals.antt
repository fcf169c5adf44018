-- Where a call is refused, on every bus, in order or not. Assumes nothing.
use Rattle.std.specs.Prelude.{ℕ, Bool, true, false, not, ◌&&◌, ◌||◌, is_some, Some, None, Option, nat_le}
use Rattle.scsi.specs.declared.greeting.Greeting.{Greeting}
use Rattle.scsi.specs.Greetings.{greeting_of}
use Rattle.scsi.specs.Commands.{well_sized}
use Rattle.bus.specs.Kinds.{byte_shown, shows_data_out, shows_command, shows_free, shows_reselect}
use Rattle.bus.specs.State.{Name, Cable, BusState}
use Rattle.bus.specs.Calls.{Call, select, accept, command, give, take, speak, wait, reset}

-- the name of the nexus that a greeting of this target opens
abbrev pub name_of : ℕ → Greeting → Name
name_of t g = record { target = t; lun = g.lun; tag = g.tag }

-- selection refuses what is no greeting, the name of an open nexus, and a seventeenth nexus
abbrev pub greeting_refused : Cable → ℕ → Option Greeting → Bool
greeting_refused c t None = true
greeting_refused c t (Some g) = is_some (c.nexuses (name_of t g)) || nat_le 16 c.opened

-- a call is refused exactly where it does not fit what is shown; waiting and resetting always fit
abbrev pub due : BusState → Call → Bool
due b (select t g) = not (shows_free b.shown) || greeting_refused b.cable t (greeting_of g)
due b accept = not (shows_reselect b.shown)
due b (command d) = not (shows_command b.shown && well_sized d)
due b (give v) = not (shows_data_out b.shown)
due b take = not (is_some (byte_shown b.shown))
due b (speak m) = shows_free b.shown || shows_reselect b.shown
due b wait = false
due b reset = false
