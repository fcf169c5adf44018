-- The eleven kinds that a bus shows, by their numbers, and what goes with them. Assumes nothing.
use Rattle.std.specs.Prelude.{ℕ, Bool, Some, None, Option, ◌==◌}
use Rattle.bus.specs.declared.Shown.{Shown}
use Rattle.bus.specs.declared.Shown.TheVariants.{DataOut, DataIn, Command, Status, Reserved4, Reserved5, MessageOut, MessageIn, Free, Reselect, Pause}

abbrev pub kind_of : Shown → ℕ
kind_of DataOut = 0
kind_of (DataIn v) = 1
kind_of Command = 2
kind_of (Status v) = 3
kind_of Reserved4 = 4
kind_of Reserved5 = 5
kind_of MessageOut = 6
kind_of (MessageIn v) = 7
kind_of Free = 8
kind_of (Reselect t) = 9
kind_of Pause = 10

-- the byte that is shown: kinds 1, 3 and 7 carry one
abbrev pub byte_shown : Shown → Option ℕ
byte_shown DataOut = None
byte_shown (DataIn v) = Some v
byte_shown Command = None
byte_shown (Status v) = Some v
byte_shown Reserved4 = None
byte_shown Reserved5 = None
byte_shown MessageOut = None
byte_shown (MessageIn v) = Some v
byte_shown Free = None
byte_shown (Reselect t) = None
byte_shown Pause = None

-- the target that is shown: RESELECT carries one
abbrev pub target_shown : Shown → Option ℕ
target_shown DataOut = None
target_shown (DataIn v) = None
target_shown Command = None
target_shown (Status v) = None
target_shown Reserved4 = None
target_shown Reserved5 = None
target_shown MessageOut = None
target_shown (MessageIn v) = None
target_shown Free = None
target_shown (Reselect t) = Some t
target_shown Pause = None

abbrev pub shows_data_out : Shown → Bool
shows_data_out s = kind_of s == 0

abbrev pub shows_command : Shown → Bool
shows_command s = kind_of s == 2

abbrev pub shows_free : Shown → Bool
shows_free s = kind_of s == 8

abbrev pub shows_reselect : Shown → Bool
shows_reselect s = kind_of s == 9
