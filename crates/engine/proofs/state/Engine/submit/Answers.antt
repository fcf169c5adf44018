use Rattle.std.proofs.Common.{◌≡◌, Ok, Err, Result, sym, refl, ap, ◌∙◌, rules}
use Rattle.slots.specs.declared.refusal.Refusal.{Refusal}
use Rattle.slots.specs.declared.refusal.Refusal.TheVariants.{Full}
use Rattle.slots.specs.declared.slot.Slots.{Slots}
use Rattle.table.specs.Engine.{Command}
use Rattle.table.specs.Calls.{taken_in}
use Rattle.table.specs.View.{view}
use Rattle.engine.specs.Answers.{asked, ticket_told, RefusedChangesNothing}
use Rattle.engine.proofs.Numbers.{new_some, new_none, granted, refused, error_of}
use Rattle.engine.proofs.Promises.{submit_lawful}
use Rattle.engine.proofs.Submits.{full_answer, full_engine, granted_answer, granted_engine}
use Rattle.engine.proofs.state.Engine.submit.Goals as goal

unchanged : {A : Type 0} (r : Result A Refusal) (s : Slots) (e : Refusal) → r ≡ Err e → RefusedChangesNothing r s s
unchanged (Ok a) s e q = tt
unchanged (Err x) s e q = refl

pub returns : goal.returns
returns c =
    let e = c.args.self.now in
    let r = new_some _ c.new.result c.new.ensures.valid c.new.ensures.value c.in_ok-k.k (granted _ _ _ (sym c.in_ok-k.was ∙ c.ok_or.ensures.value)) in
    let p = ap Ok r.1 ∙ granted_answer e.state (asked c.args.request) c.in_ok-command.ensures.refused r.0 in
    let q = granted_engine e.state (asked c.args.request) c.in_ok-command.ensures.refused c.enqueue.new.self.state
    (c.enqueue.ensures ∙ ap (λ (k : Command). taken_in k (view e.state).free (view e.state)) c.in_ok-command.ensures.command) in
    record { answer = p; after = q; lawful = submit_lawful (view e.state) _ (asked c.args.request) _ p q; refused = tt }

pub returns-in_err-k : goal.returns-in_err-k
returns-in_err-k c =
    let e = c.args.self.now in
    let r = refused _ _ _ (sym c.in_err-k.was ∙ c.ok_or.ensures.value) in
    let m = new_none _ c.new.result c.new.ensures.valid c.new.ensures.value r.0 in
    let x = error_of c.from_residual-in_err-k.result c.from_residual-in_err-k.ensures.1 in
    let f : c.from_residual-in_err-k.result ≡ Err Full = x.1 ∙ ap Err (x.2 ∙ r.1) in
    let p = ap ticket_told f ∙ full_answer e.state (asked c.args.request) c.in_ok-command.ensures.refused m in
    let q = full_engine e.state (asked c.args.request) c.in_ok-command.ensures.refused m in
    record { answer = p; after = q; lawful = submit_lawful (view e.state) _ (asked c.args.request) _ p q; refused = unchanged _ e.state Full f }

pub returns-in_err-command-clause-lawful : goal.returns-in_err-command-clause-lawful
returns-in_err-command-clause-lawful c = submit_lawful (view c.args.self.now.state) (view c.args.self.now.state) (asked c.args.request) _ (search rules) (search rules)
