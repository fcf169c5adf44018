-- What a submit comes to, where no earlier test refuses it. Assumes nothing.
use Rattle.std.proofs.Common.{◌≡◌, ℕ, true, false, List, None, Ok, Err, Option, sym, ap, ◌∙◌}
use Rattle.slots.specs.declared.slot.Slots.{Slots}
use Rattle.table.specs.Engine.{numbered}
use Rattle.table.specs.Calls.{Request, command_asked, earlier_refusal, taken_in, ticket_or_7, submit_answer, submit_engine}
use Rattle.table.specs.View.{view, nexts}
use Rattle.table.proofs.Walks.{chain_cons, chain_none}

module _ (s : Slots) (r : Request) (p : None ≡ earlier_refusal (view s) r) where
  pub full_answer : numbered s.free ≡ false → Err 7 ≡ submit_answer (earlier_refusal (view s) r) (view s)
  full_answer m = sym (ap ticket_or_7 (chain_none 16 (nexts s.slots) s.free m)) ∙ ap (λ (o : Option ℕ). submit_answer o (view s)) p

  pub full_engine : numbered s.free ≡ false → view s ≡ submit_engine (earlier_refusal (view s) r) r (view s)
  full_engine m =
      sym (ap (λ (l : List ℕ). taken_in (command_asked r) l (view s)) (chain_none 16 (nexts s.slots) s.free m)) ∙ ap (λ (o : Option ℕ). submit_engine o r (view s)) p

  pub granted_answer : numbered s.free ≡ true → Ok s.free ≡ submit_answer (earlier_refusal (view s) r) (view s)
  granted_answer m = sym (ap ticket_or_7 (chain_cons 15 (nexts s.slots) s.free m)) ∙ ap (λ (o : Option ℕ). submit_answer o (view s)) p

  pub granted_engine : (s' : Slots) → view s' ≡ taken_in (command_asked r) (view s).free (view s) → view s' ≡ submit_engine (earlier_refusal (view s) r) r (view s)
  granted_engine s' q = q ∙ ap (λ (o : Option ℕ). submit_engine o r (view s)) p
