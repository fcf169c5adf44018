-- What one test of a slot's state, of the line or of what is shown says of another. Assumes nothing.
use Rattle.std.proofs.Common.{◌≡◌, ℕ, Bool, true, false, not, eqb, List, Some, None, refl}
use Rattle.std.proofs.lemmas.Bool.{and_parts, eqb-true, cond_both}
use Rattle.bus.specs.declared.Shown.{Shown}
use Rattle.bus.specs.declared.Shown.TheVariants.{DataOut, DataIn, Command, Status, Reserved4, Reserved5, MessageOut, MessageIn, Free as FreeLine, Reselect, Pause}
use Rattle.bus.specs.Kinds.{kind_of, target_shown}
use Rattle.slots.specs.declared.slot.Outcome.TheVariants.{Reset}
use Rattle.slots.specs.declared.slot.State.{State}
use Rattle.slots.specs.declared.slot.State.TheVariants.{Free, Waiting, Connected, Away, Finished}
use Rattle.table.specs.Engine.{Line, idle, greeted, named, tag_due, held, Entry, in_use, is_waiting, is_open, is_away, is_finished, is_done, with_state, reset_where}
use Rattle.table.specs.Table.{byte_told}
use Rattle.table.specs.Calls.{open_or_waiting}
use Rattle.table.specs.Serving.{is_told}
use Rattle.table.proofs.Basics.{wrong}

---- open: connected or away

pub open_used : (t : State) → is_open t ≡ true → in_use t ≡ true
open_used Free h = wrong false h refl
open_used Waiting h = wrong false h refl
open_used Connected h = refl
open_used Away h = refl
open_used (Finished o) h = wrong false h refl

pub open_not_waiting : (t : State) → is_open t ≡ true → is_waiting t ≡ false
open_not_waiting Free h = refl
open_not_waiting Waiting h = wrong false h refl
open_not_waiting Connected h = refl
open_not_waiting Away h = refl
open_not_waiting (Finished o) h = refl

pub open_unfinished : (t : State) → is_open t ≡ true → is_finished t ≡ false
open_unfinished Free h = refl
open_unfinished Waiting h = refl
open_unfinished Connected h = refl
open_unfinished Away h = refl
open_unfinished (Finished o) h = wrong false h refl

pub away_is : (t : State) → is_away t ≡ true → t ≡ Away
away_is Free h = wrong false h refl
away_is Waiting h = wrong false h refl
away_is Connected h = wrong false h refl
away_is Away h = refl
away_is (Finished o) h = wrong false h refl

pub open_away : (t : State) → is_open t ≡ true → (t ≡ Connected → ⊥) → is_away t ≡ true
open_away Free h n = wrong false h refl
open_away Waiting h n = wrong false h refl
open_away Connected h n = absurd (n refl)
open_away Away h n = refl
open_away (Finished o) h n = wrong false h refl

---- waiting, free, finished

pub waiting_is : (t : State) → is_waiting t ≡ true → t ≡ Waiting
waiting_is Free h = wrong false h refl
waiting_is Waiting h = refl
waiting_is Connected h = wrong false h refl
waiting_is Away h = wrong false h refl
waiting_is (Finished o) h = wrong false h refl

pub free_is : (t : State) → in_use t ≡ false → t ≡ Free
free_is Free h = refl
free_is Waiting h = wrong true refl h
free_is Connected h = wrong true refl h
free_is Away h = wrong true refl h
free_is (Finished o) h = wrong true refl h

pub done_finished : (t : State) → is_done t ≡ true → is_finished t ≡ true
done_finished Free h = wrong false h refl
done_finished Waiting h = wrong false h refl
done_finished Connected h = wrong false h refl
done_finished Away h = wrong false h refl
done_finished (Finished o) h = refl

pub finished_used : (t : State) → is_finished t ≡ true → in_use t ≡ true
finished_used Free h = wrong false h refl
finished_used Waiting h = refl
finished_used Connected h = refl
finished_used Away h = refl
finished_used (Finished o) h = refl

pub finished_not_waiting : (t : State) → is_finished t ≡ true → is_waiting t ≡ false
finished_not_waiting Free h = refl
finished_not_waiting Waiting h = wrong false h refl
finished_not_waiting Connected h = refl
finished_not_waiting Away h = refl
finished_not_waiting (Finished o) h = refl

---- open or waiting

pub busy_used : (t : State) → open_or_waiting t ≡ true → in_use t ≡ true
busy_used Free h = wrong false h refl
busy_used Waiting h = refl
busy_used Connected h = refl
busy_used Away h = refl
busy_used (Finished o) h = wrong false h refl

pub busy_unfinished : (t : State) → open_or_waiting t ≡ true → is_finished t ≡ false
busy_unfinished Free h = refl
busy_unfinished Waiting h = refl
busy_unfinished Connected h = refl
busy_unfinished Away h = refl
busy_unfinished (Finished o) h = wrong false h refl

pub still_waiting : (t : State) → open_or_waiting t ≡ false → is_waiting t ≡ false
still_waiting Free h = refl
still_waiting Waiting h = wrong true refl h
still_waiting Connected h = refl
still_waiting Away h = refl
still_waiting (Finished o) h = refl

pub still_open : (t : State) → open_or_waiting t ≡ false → is_open t ≡ false
still_open Free h = refl
still_open Waiting h = refl
still_open Connected h = wrong true refl h
still_open Away h = wrong true refl h
still_open (Finished o) h = refl

-- a property of a slot that is finished RESET where its state passes a test
pub reset_at : (P : Entry → Type 0) (p : State → Bool) (x : Entry) → (p x.state ≡ true → P (with_state (Finished Reset) x)) → (p x.state ≡ false → P x)
    → P (reset_where p x)
reset_at P p x h g = cond_both (p x.state) (with_state (Finished Reset) x) x P h g

---- which slot holds the line, and which is told

pub held_is : {k j : ℕ} {bs cs : List ℕ} → held k bs ≡ held j cs → j ≡ k
held_is h = cc

-- no slot holds the line
abbrev pub Unheld : Line → Type 0
Unheld l = (k : ℕ) (bs : List ℕ) → l ≡ held k bs → ⊥

pub idle_unheld : Unheld idle
idle_unheld k bs h = cc

pub greeted_unheld : (t : ℕ) → Unheld (greeted t)
greeted_unheld t k bs h = cc

pub named_unheld : (t l : ℕ) → Unheld (named t l)
named_unheld t l k bs h = cc

pub tag_due_unheld : (t l : ℕ) → Unheld (tag_due t l)
tag_due_unheld t l k bs h = cc

pub told_is : (j k : ℕ) → is_told j k ≡ true → k ≡ j
told_is j k h = eqb-true k j (and_parts (not (eqb k 0)) (eqb k j) h).1

---- what is shown

pub message_is : (s : Shown) → eqb (kind_of s) 7 ≡ true → s ≡ MessageIn (byte_told s)
message_is DataOut h = wrong false h refl
message_is (DataIn v) h = wrong false h refl
message_is Command h = wrong false h refl
message_is (Status v) h = wrong false h refl
message_is Reserved4 h = wrong false h refl
message_is Reserved5 h = wrong false h refl
message_is MessageOut h = wrong false h refl
message_is (MessageIn v) h = refl
message_is FreeLine h = wrong false h refl
message_is (Reselect t) h = wrong false h refl
message_is Pause h = wrong false h refl

no_target : {A : Type 0} {t : ℕ} → None ≡ Some t → A
no_target h = absurd cc

pub reselect_is : (s : Shown) (t : ℕ) → target_shown s ≡ Some t → s ≡ Reselect t
reselect_is DataOut t h = no_target h
reselect_is (DataIn v) t h = no_target h
reselect_is Command t h = no_target h
reselect_is (Status v) t h = no_target h
reselect_is Reserved4 t h = no_target h
reselect_is Reserved5 t h = no_target h
reselect_is MessageOut t h = no_target h
reselect_is (MessageIn v) t h = no_target h
reselect_is FreeLine t h = no_target h
reselect_is (Reselect u) t h = cc
reselect_is Pause t h = no_target h
