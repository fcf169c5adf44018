-- Reports, and the serving of the commands reported DONE, one by one, on the first shelf. Assumes nothing.
use Rattle.std.specs.Prelude.{ℕ, zero, suc, ◌+◌, Bool, false, cond, not, ◌&&◌, ◌||◌, List, [], ◌∷◌, Ok, Err, Result, ◌==◌, nat_lt, slice_index}
use Rattle.shelf.specs.Model.{Model}
use Rattle.shelf.specs.Serving.{Served, answers, served}
use Rattle.slots.specs.declared.answer.Answer.{Answer}
use Rattle.slots.specs.declared.answer.Collected.{Collected}
use Rattle.slots.specs.declared.answer.End.{End}
use Rattle.slots.specs.declared.answer.End.TheVariants.{Spent, Finished as FinishedEnd, Fault as FaultEnd}
use Rattle.slots.specs.Numbers.{fault_slot}
use Rattle.table.specs.Engine.{Command, Engine, is_finished, is_done}
use Rattle.table.specs.Script.{World}
use Rattle.table.specs.Calls.{command_asked, end_by, Event, submit, step, run, collect, reset, owner, Step, at_end}

---- reports

-- whether k is the slot that is told, where 0 is none
abbrev pub is_told : ℕ → ℕ → Bool
is_told j k = not (k == 0) && k == j

-- whether an end is FINISHED, or a fault, with this slot
abbrev pub end_names : End → ℕ → Bool
end_names Spent k = false
end_names (FinishedEnd j) k = is_told j k
end_names (FaultEnd f) k = is_told (fault_slot f) k

abbrev pub names : Answer → ℕ → Bool
names a k = end_names (end_by a) k

abbrev pub step_names : Result Answer ℕ → ℕ → Bool
step_names (Ok a) k = names a k
step_names (Err n) k = false

abbrev pub run_names : Result End ℕ → ℕ → Bool
run_names (Ok a) k = end_names a k
run_names (Err n) k = false

abbrev pub event_names : Event → ℕ → Bool
event_names (submit r a) k = false
event_names (step a) k = step_names a k
event_names (run n made a) k = run_names a k
event_names (collect j a) k = false
event_names reset k = false
event_names owner k = false

abbrev pub finished_at : Engine → ℕ → Bool
finished_at e k = is_finished (e.slots k).state

-- a call reports k finished: it makes it so, or answers FINISHED or a fault with it
abbrev pub reports : (ℕ → Bool) → (ℕ → Bool) → Engine → ℕ → Bool
reports was told e k = (finished_at e k && not (was k)) || told k

-- DONE, if collect would now answer DONE
abbrev pub reports_done : (ℕ → Bool) → (ℕ → Bool) → Engine → ℕ → Bool
reports_done was told e k = reports was told e k && is_done (e.slots k).state

---- the serving

-- a granted submit: the command and the bytes of its region then, by place
pub record Kept : Type 0 where
  pub command : Command
  pub bytes : ℕ → ℕ

abbrev pub region_bytes : List ℕ → Command → ℕ → ℕ
region_bytes m c i = cond (nat_lt i c.length) (slice_index m (c.base + i)) 0

-- the shelf as served, what was kept and served by slot, which commands were reported, how many accepted and collected
pub record Serving : Type 0 where
  pub shelf : Model
  pub kept : ℕ → Kept
  pub results : ℕ → Served
  pub reported : ℕ → Bool
  pub accepted : ℕ
  pub collected : ℕ

abbrev pub at_number : {A : Type 0} → ℕ → A → (ℕ → A) → ℕ → A
at_number k a f j = cond (j == k) a (f j)

-- a command served
abbrev pub serves : ℕ → Serving → Serving
serves k s =
    let c : Command = (s.kept k).command in
    record {
      shelf = served s.shelf c.target c.lun c.bytes (s.kept k).bytes;
      kept = s.kept;
      results = at_number k (answers s.shelf c.target c.lun c.bytes) s.results;
      reported = s.reported;
      accepted = s.accepted;
      collected = s.collected;
    }

-- those of the slots 1 to n that pass, served
unfoldable pub serves_all : ℕ → (ℕ → Bool) → Serving → Serving
serves_all zero p s = s
serves_all (suc n) p s = cond (p (suc n)) (serves (suc n) (serves_all n p s)) (serves_all n p s)

abbrev pub marks : (ℕ → Bool) → Serving → Serving
marks p s = record { shelf = s.shelf; kept = s.kept; results = s.results; reported = λ k. p k || s.reported k; accepted = s.accepted; collected = s.collected }

-- the reports of a call: each DONE serves its command
abbrev pub hears_reports : (ℕ → Bool) → (ℕ → Bool) → Engine → Serving → Serving
hears_reports was told e s = marks (reports was told e) (serves_all 16 (reports_done was told e) s)

-- a granted submit is kept
abbrev pub keeps : ℕ → Kept → Serving → Serving
keeps k x s = record { shelf = s.shelf; kept = at_number k x s.kept; results = s.results; reported = at_number k false s.reported; accepted = suc s.accepted; collected = s.collected }

-- a granted collect is counted
abbrev pub lets_go : ℕ → Serving → Serving
lets_go k s = record { shelf = s.shelf; kept = s.kept; results = s.results; reported = at_number k false s.reported; accepted = s.accepted; collected = suc s.collected }

abbrev pub hears_submit : Result ℕ ℕ → Command → List ℕ → Serving → Serving
hears_submit (Ok k) c m s = keeps k (record { command = c; bytes = region_bytes m c }) s
hears_submit (Err n) c m s = s

abbrev pub hears_collect : ℕ → Result Collected ℕ → Serving → Serving
hears_collect k (Ok a) s = lets_go k s
hears_collect k (Err n) s = s

abbrev pub hears_call : Event → World → Serving → Serving
hears_call (submit r a) w s = hears_submit a (command_asked r) w.memory s
hears_call (step a) w s = s
hears_call (run n made a) w s = s
hears_call (collect k a) w s = hears_collect k a s
hears_call reset w s = s
hears_call owner w s = s

-- one call: what it asked, and then its reports
abbrev pub hears : Event → World → World → Serving → Serving
hears ev w w' s = hears_reports (finished_at w.engine) (event_names ev) w'.engine (hears_call ev w s)

-- before the first call
abbrev pub nothing_served : Model → Kept → Served → Serving
nothing_served m k r = record { shelf = m; kept = λ _. k; results = λ _. r; reported = λ _. false; accepted = 0; collected = 0 }

abbrev pub serving : Serving → World → List Step → Serving
serving s₀ w [] = s₀
serving s₀ w (s ∷ ss) = hears s.event (at_end w ss) s.after (serving s₀ w ss)
