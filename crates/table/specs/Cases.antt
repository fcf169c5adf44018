-- Worked cases of the step table: greetings, and data pointers over a disconnection. Assumes nothing.
use Rattle.std.specs.Prelude.{◌≡◌, ℕ, true, List, [], ◌∷◌, None}
use Rattle.shelf.specs.declared.Way.TheVariants.{In}
use Rattle.bus.specs.declared.Shown.{Shown}
use Rattle.bus.specs.declared.Shown.TheVariants.{DataIn, MessageIn, Reselect}
use Rattle.bus.specs.Calls.{done}
use Rattle.slots.specs.declared.command.Manner.{Manner}
use Rattle.slots.specs.declared.command.Manner.TheVariants.{Leaving, Tagged}
use Rattle.slots.specs.declared.slot.State.TheVariants.{Connected}
use Rattle.table.specs.Engine.{Command, Engine, held, put_slot}
use Rattle.table.specs.Table.{greeting_for, step}
use Rattle.table.specs.View.{entry_of, no_slot}
use Rattle.table.specs.Isolation.{Played, Written, play}

-- a reading command of 8 bytes, of target 0
abbrev pub reading : Manner → ℕ → Command
reading m l = record { target = 0; lun = l; manner = m; direction = In; bytes = []; base = 0; length = 8 }

-- slot 1 holds the line with such a command
abbrev pub underway : Engine
underway = record {
  slots = put_slot 1 (record { state = Connected; command = reading Leaving 0; current = 0; saved = 0; sent = true; status = None }) (λ _. entry_of no_slot);
  free = [];
  waiting = [];
  line = held 1 [];
  size = 8;
}

-- a step while this is shown, each call granted
abbrev pub shown_this : Shown → Engine → Played
shown_this s e = play (λ _. record { shown = s; reply = done }) (step e) []

-- one step after another
abbrev pub shown_in_turn : List Shown → Engine → Engine
shown_in_turn [] e = e
shown_in_turn (s ∷ ss) e = shown_in_turn ss (shown_this s e).engine

-- what is written once all these have been shown
abbrev pub written_last : List Shown → Shown → List Written
written_last ss s = (shown_this s (shown_in_turn ss underway)).written

pub record Worked : Type 0 where
  -- may disconnect, LUN 3
  pub lun_3 : greeting_for 1 (reading Leaving 3) ≡ 0xC3 ∷ []
  -- tagged, LUN 0, slot 5
  pub tag_5 : greeting_for 5 (reading Tagged 0) ≡ 0xC0 ∷ 0x20 ∷ 0x05 ∷ []
  -- 41h 42h, SAVE DATA POINTER, 43h, DISCONNECT and reselection: the next byte goes to place 2
  pub saved_at_2 :
      written_last (DataIn 0x41 ∷ DataIn 0x42 ∷ MessageIn 0x02 ∷ DataIn 0x43 ∷ MessageIn 0x04 ∷ Reselect 0 ∷ MessageIn 0x80 ∷ []) (DataIn 0x44)
      ≡ record { at = 2; value = 0x44 } ∷ []
  -- without the SAVE DATA POINTER, to place 0
  pub not_saved :
      written_last (DataIn 0x41 ∷ DataIn 0x42 ∷ DataIn 0x43 ∷ MessageIn 0x04 ∷ Reselect 0 ∷ MessageIn 0x80 ∷ []) (DataIn 0x44)
      ≡ record { at = 0; value = 0x44 } ∷ []
