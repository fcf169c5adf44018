-- DONE is reached: one command over a bus that keeps the rules. Assumes nothing.
use Rattle.std.proofs.Common.{◌≡◌, true, false, List, [], ◌∷◌, Some, None, Ok, sym, refl, ap, arith}
use Rattle.scsi.specs.Greetings.{greeting_of}
use Rattle.shelf.specs.Model.{Model}
use Rattle.shelf.specs.Laws.{Laws}
use Rattle.shelf.proofs.Lawful.{lawful}
use Rattle.shelf.specs.declared.Way.TheVariants.{Still}
use Rattle.bus.specs.State.{Name, Cable, BusState, free, change, sent}
use Rattle.bus.specs.Calls.{Call, selected, done, took}
use Rattle.bus.specs.Rules.{Did}
use Rattle.bus.specs.Effects.{opens, takes}
use Rattle.bus.specs.declared.Shown.TheVariants.{Command as CommandOut, Status, MessageIn, Free as FreeLine}
use Rattle.slots.specs.declared.slot.Outcome.TheVariants.{Done}
use Rattle.slots.specs.declared.answer.Answer.TheVariants.{Selected, Told, Finished as FinishedAnswer}
use Rattle.table.specs.View.{entry_of, no_slot}
use Rattle.table.specs.Engine.{Engine, idle, held, all_numbers, every, first_of, without, set_slot, unlink_slot, with_state, with_pointers, with_sent, with_status}
use Rattle.table.specs.Script.{World}
use Rattle.table.specs.Table.{finish_by}
use Rattle.table.specs.Calls.{Request, command_asked, taken_in, submit, step, Step}
use Rattle.table.specs.Guarantee.{Begins, DoneIsReached}

-- a shelf where every command is without data and ends 00h
abbrev plain : Model
plain = record { kind = record { present = λ t. true; way = λ t l c. Still; count = λ t l c. 0; byte = λ t l h c i. 0; status = λ t l h c. 0; after = λ t l h c o. h }; holds = λ t l. [] }

plain_laws : Laws plain
plain_laws = lawful plain (record { small = λ t l c. omega arith; still = λ t l c e. refl; only_out = λ t l h c o e. refl; only_good = λ t l h c o e. refl })

abbrev cable₀ : Cable
cable₀ = record { shelf = plain; nexuses = λ n. None; opened = 0; line = free; begun = [] }

abbrev bus₀ : BusState
bus₀ = record { cable = cable₀; shown = FreeLine; order = true }

-- TEST UNIT READY
abbrev asked : Request
asked = record { target = 0; lun = 0; manner = 0; direction = 0; bytes = 0 ∷ 0 ∷ 0 ∷ 0 ∷ 0 ∷ 0 ∷ []; base = 0; length = 0 }

abbrev engine₀ : Engine
engine₀ = record { slots = λ k. entry_of no_slot; free = all_numbers; waiting = []; line = idle; size = 0 }

abbrev w₀ : World
w₀ = record { engine = engine₀; bus = bus₀; memory = [] }

begun : Begins w₀
begun = record {
  made = record { slots = λ k. refl; all_free = refl; waiting = refl; line = refl };
  rest = record { order = refl; line = refl; none = λ n. refl; no_count = refl };
  shows = (refl, tt);
  lawful = plain_laws;
}

-- submit, selection, command, status, COMMAND COMPLETE
abbrev name₁ : Name
name₁ = record { target = 0; lun = 0; tag = None }

abbrev bus₁ : BusState
bus₁ = record { cable = opens 0 (greeting_of (128 ∷ [])) cable₀; shown = CommandOut; order = true }

abbrev bus₂ : BusState
bus₂ = record { cable = change name₁ (sent (0 ∷ 0 ∷ 0 ∷ 0 ∷ 0 ∷ 0 ∷ [])) bus₁.cable; shown = Status 0; order = true }

abbrev bus₃ : BusState
bus₃ = record { cable = takes 3 0 name₁ bus₂.cable; shown = MessageIn 0; order = true }

abbrev bus₄ : BusState
bus₄ = record { cable = takes 7 0 name₁ bus₃.cable; shown = FreeLine; order = true }

abbrev e₁ : Engine
e₁ = taken_in (command_asked asked) engine₀.free engine₀

abbrev e₂ : Engine
e₂ = unlink_slot 1 (with_state Rattle.slots.specs.declared.slot.State.TheVariants.Connected (with_pointers 0 0 (e₁.slots 1))) (held 1 []) e₁

abbrev e₃ : Engine
e₃ = set_slot 1 (with_sent (e₂.slots 1)) (held 1 []) e₂

abbrev e₄ : Engine
e₄ = set_slot 1 (with_status 0 (e₃.slots 1)) (held 1 []) e₃

abbrev e₅ : Engine
e₅ = finish_by e₄ 1 (e₄.slots 1) Done

no : {A : Type 0} → true ≡ false → A
no h = absurd cc

did₁ : Did bus₀ (Call.select 0 (128 ∷ [])) selected bus₁
did₁ = record {
  turned_down = refl;
  number = λ n e. absurd cc;
  kept = λ h. no (sym h);
  byte = λ v h q. absurd cc;
  keeps_rules = λ _ _. record { rule = (refl, refl); shows = (_, refl, (refl, refl)); order = refl };
}

did₂ : Did bus₁ (Call.command (0 ∷ 0 ∷ 0 ∷ 0 ∷ 0 ∷ 0 ∷ [])) done bus₂
did₂ = record {
  turned_down = refl;
  number = λ n e. absurd cc;
  kept = λ h. no (sym h);
  byte = λ v h q. absurd cc;
  keeps_rules = λ _ _. record { rule = refl; shows = (_, refl, record { sent = _; commanded = refl; before_status = refl; at_count = refl; the_status = refl; alone = λ h. absurd cc }); order = refl };
}

did₃ : Did bus₂ Call.take (took 0) bus₃
did₃ = record {
  turned_down = refl;
  number = λ n e. absurd cc;
  kept = λ h. no (sym h);
  byte = λ v h q. let z : 0 ≡ v = cc in ap took z;
  keeps_rules = λ _ _. record { rule = refl; shows = (_, refl, refl); order = refl };
}

did₄ : Did bus₃ Call.take (took 0) bus₄
did₄ = record {
  turned_down = refl;
  number = λ n e. absurd cc;
  kept = λ h. no (sym h);
  byte = λ v h q. let z : 0 ≡ v = cc in ap took z;
  keeps_rules = λ _ _. record { rule = refl; shows = (refl, tt); order = refl };
}

abbrev calls : List Step
calls =
    record { event = step (Ok (FinishedAnswer 1)); after = record { engine = e₅; bus = bus₄; memory = [] } }
    ∷ record { event = step (Ok (Told (Some 1))); after = record { engine = e₄; bus = bus₃; memory = [] } }
    ∷ record { event = step (Ok (Told (Some 1))); after = record { engine = e₃; bus = bus₂; memory = [] } }
    ∷ record { event = step (Ok (Selected 1)); after = record { engine = e₂; bus = bus₁; memory = [] } }
    ∷ record { event = submit asked (Ok 1); after = record { engine = e₁; bus = bus₀; memory = [] } }
    ∷ []

pub done_is_reached : DoneIsReached
unfolding every first_of without
done_is_reached = record {
  first = w₀;
  begins = begun;
  calls = calls;
  slot = 1;
  done = refl;
  history = (
    (
      (
        (
          (tt, record { answer = refl; after = refl }),
          (Selected 1, refl, (selected, bus₁, did₁, (refl, refl, refl, refl))),
        ),
        (Told (Some 1), refl, (done, bus₂, did₂, (refl, refl, refl, refl))),
      ),
      (Told (Some 1), refl, (took 0, bus₃, did₃, (refl, refl, refl, refl))),
    ),
    (FinishedAnswer 1, refl, (took 0, bus₄, did₄, (refl, refl, refl, refl))),
  );
}
