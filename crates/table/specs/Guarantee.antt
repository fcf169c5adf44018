-- A command never shows that it shared the cable: what holds after every list of calls. Assumes nothing.
use Rattle.std.specs.Prelude.{◌≡◌, ℕ, ◌+◌, ◌-◌, ◌<◌, true, false, cond, not, ◌&&◌, List, [], ◌∷◌, Some, None, Ok, Err, Result, nat_lt, slice_index}
use Rattle.shelf.specs.Laws.{Laws}
use Rattle.shelf.specs.Serving.{Served}
use Rattle.bus.specs.State.{AtRest}
use Rattle.bus.specs.Showing.{Shows}
use Rattle.slots.specs.declared.answer.Collected.{Collected}
use Rattle.slots.specs.declared.slot.Outcome.TheVariants.{Done}
use Rattle.slots.specs.declared.slot.State.TheVariants.{Finished}
use Rattle.table.specs.Engine.{Entry, Engine, JustMade, in_use, is_in, numbered, tally, stands_on}
use Rattle.table.specs.Script.{World}
use Rattle.table.specs.Calls.{Request, earlier_refusal, Event, submit, step, run, collect, reset, owner, Does, Step, at_end, History}
use Rattle.table.specs.Serving.{Kept, Serving, nothing_served, serving, reports, event_names, finished_at}

-- how a list of calls begins: an engine just made, a bus at rest that shows what it may, a lawful shelf
pub record Begins (w : World) : Type 0 where
  pub made : JustMade w.engine
  pub rest : AtRest w.bus
  pub shows : Shows w.bus
  pub lawful : Laws w.bus.cable.shelf

-- a finished command: status and count as served, and its reading region holds the bytes served and past them what it held at submit
pub record AsServed (x : Entry) (m : List ℕ) (kept : Kept) (r : Served) : Type 0 where
  pub status : x.status ≡ Some r.status
  pub count : x.current ≡ r.count
  pub region : is_in x.command.direction ≡ true → (i : ℕ) → i < x.command.length
      → slice_index m (x.command.base + i) ≡ cond (is_in r.way && nat_lt i r.count) (r.byte i) (kept.bytes i)

-- what collect answers DONE with
abbrev pub CollectServed : Result Collected ℕ → Served → Type 0
CollectServed (Ok a) r = a.outcome ≡ Done → (a.status ≡ Some r.status) × (a.count ≡ r.count)
CollectServed (Err n) r = Unit {0}

abbrev pub in_use_count : Engine → ℕ
in_use_count e = tally 16 (λ k. in_use (e.slots k).state)

-- number 7 exactly when accepted less collected is 16 and no earlier test refuses
pub record FullExactly (e : Engine) (s : Serving) (r : Request) (a : Result ℕ ℕ) : Type 0 where
  pub only : a ≡ Err 7 → (s.accepted - s.collected ≡ 16) × (earlier_refusal e r ≡ None)
  pub always : s.accepted - s.collected ≡ 16 → earlier_refusal e r ≡ None → a ≡ Err 7

-- what is promised of a call, by its kind; s is the serving before it
abbrev pub Answered : Event → Engine → Serving → Type 0
Answered (submit r a) e s = FullExactly e s r a
Answered (step a) e s = Unit {0}
Answered (run n made a) e s = Unit {0}
Answered (collect k a) e s = CollectServed a (s.results k)
Answered reset e s = Unit {0}
Answered owner e s = Unit {0}

-- no command is reported finished twice
abbrev pub ReportedOnce : Event → Engine → Engine → Serving → Type 0
ReportedOnce ev e e' s = (k : ℕ) → reports (finished_at e) (event_names ev) e' k ≡ true → s.reported k ≡ false

-- what holds at every moment; s is the serving so far
pub record HoldsNow (w : World) (s : Serving) : Type 0 where
  pub shelf : w.bus.cable.shelf ≡ s.shelf
  pub done : (k : ℕ) → (w.engine.slots k).state ≡ Finished Done → AsServed (w.engine.slots k) w.memory (s.kept k) (s.results k)
  pub counted : s.accepted ≡ s.collected + in_use_count w.engine
  pub others_free : (k : ℕ) → numbered k ≡ true → in_use (w.engine.slots k).state ≡ not (stands_on k w.engine.free)

pub record CallKept (ev : Event) (w w' : World) (s s' : Serving) : Type 0 where
  pub now : HoldsNow w' s'
  pub answered : Answered ev w.engine s
  pub once : ReportedOnce ev w.engine w'.engine s

-- the guarantee of a list of calls: after each call
abbrev pub Guarantee : Serving → World → List Step → Type 0
Guarantee s₀ w [] = HoldsNow w s₀
Guarantee s₀ w (s ∷ ss) = Guarantee s₀ w ss × CallKept s.event (at_end w ss) s.after (serving s₀ w ss) (serving s₀ w (s ∷ ss))

-- every list of calls keeps it
abbrev pub EveryListKeeps : Type 0
EveryListKeeps = (w : World) → Begins w → (k : Kept) (r : Served) (ss : List Step) → History w ss
    → Guarantee (nothing_served w.bus.cable.shelf k r) w ss

-- what a public call promises: after every list of calls that ends where it begins, the guarantee holds of the list with this call added
pub record Lawful (ev : Event) (w w' : World) : Type 0 where
  pub always : (w₀ : World) → Begins w₀ → (k : Kept) (r : Served) (ss : List Step) → History w₀ ss → at_end w₀ ss ≡ w
      → Guarantee (nothing_served w₀.bus.cable.shelf k r) w₀ (record { event = ev; after = w' } ∷ ss)

abbrev pub EveryCallIsLawful : Type 0
EveryCallIsLawful = (ev : Event) (w w' : World) → Does ev w w' → Lawful ev w w'

-- the guarantee speaks of something: there is a list of calls after which a command is finished DONE
pub record DoneIsReached : Type 0 where
  pub first : World
  pub begins : Begins first
  pub calls : List Step
  pub history : History first calls
  pub slot : ℕ
  pub done : ((at_end first calls).engine.slots slot).state ≡ Finished Done
