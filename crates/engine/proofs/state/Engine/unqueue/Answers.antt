use Rattle.std.proofs.Common.{◌≡◌, sym, ◌∙◌}
use Rattle.std.proofs.lemmas.Bool.{not-true, not-false, eqb-true, eqb-false}
use Rattle.table.proofs.Basics.{wrong}
use Rattle.engine.proofs.Numbers.{at_place, new_some, new_none}
use Rattle.engine.proofs.Kept.{with_next}
use Rattle.engine.proofs.Queue.{goes_off, head_numbered, view_unqueue_head, whole_unqueue_head, view_unqueue_later, whole_unqueue_later}
use Rattle.engine.proofs.state.Engine.unqueue.Goals.{in-Some, in_default, in_default-via-in-Some+else-ne, in_default-via-in_default}
use Rattle.engine.proofs.state.Engine.unqueue.Goals as goal

pub invariant_of-self : goal.invariant_of-self
invariant_of-self c = elim c.match-new.branch [
  | in-Some w ↦
      let r = new_some _ c.new.result c.new.ensures.valid c.new.ensures.value w.in-Some.head w.in-Some.is in
      rw (w.self-is, at_place c.place.ensures.value, at_place c.place-2.ensures.value, at_place w.place-in-Some.ensures.value)
      (whole_unqueue_later c.args.self.now c.args.k (with_next 0 c.args.slot) c.args.line c.clear.new.self c.clear.ensures c.requires.waits (goes_off c.requires.goes_on)
      w.in-Some.head w.before-at.result (sym r.1) (eqb-false _ _ (not-true _ (sym w.ne.ensures ∙ w.if-ne.true))) w.before-at.ensures)
  | in_default w ↦
      let head : c.args.self.now.state.waiting ≡ c.args.k = elim w.in_default.branch [
        | in_default-via-in-Some+else-ne w' ↦
            sym (new_some _ c.new.result c.new.ensures.valid c.new.ensures.value w'.in-Some.head w'.in-Some.is).1 ∙ eqb-true _ _ (not-false _ (sym w'.ne.ensures ∙ w'.if-ne.false))
        | in_default-via-in_default w' ↦ wrong _ (head_numbered c.args.self.now.state c.args.k c.requires.waits) (new_none _ c.new.result c.new.ensures.valid c.new.ensures.value w'.in_default.is)
      ] in
      rw (w.self-is, at_place c.place.ensures.value, at_place c.place-2.ensures.value)
      (whole_unqueue_head c.args.self.now c.args.k (with_next 0 c.args.slot) c.args.line c.clear.new.self c.clear.ensures c.requires.waits (goes_off c.requires.goes_on) head)
]

pub returns : goal.returns
returns c = elim c.match-new.branch [
  | in-Some w ↦
      let r = new_some _ c.new.result c.new.ensures.valid c.new.ensures.value w.in-Some.head w.in-Some.is in
      rw (w.self-is, at_place c.place.ensures.value, at_place c.place-2.ensures.value, at_place w.place-in-Some.ensures.value)
      (view_unqueue_later c.args.self.now c.args.k (with_next 0 c.args.slot) c.args.line c.clear.new.self c.clear.ensures c.requires.waits (goes_off c.requires.goes_on)
      w.in-Some.head w.before-at.result (sym r.1) (eqb-false _ _ (not-true _ (sym w.ne.ensures ∙ w.if-ne.true))) w.before-at.ensures)
  | in_default w ↦
      let head : c.args.self.now.state.waiting ≡ c.args.k = elim w.in_default.branch [
        | in_default-via-in-Some+else-ne w' ↦
            sym (new_some _ c.new.result c.new.ensures.valid c.new.ensures.value w'.in-Some.head w'.in-Some.is).1 ∙ eqb-true _ _ (not-false _ (sym w'.ne.ensures ∙ w'.if-ne.false))
        | in_default-via-in_default w' ↦ wrong _ (head_numbered c.args.self.now.state c.args.k c.requires.waits) (new_none _ c.new.result c.new.ensures.valid c.new.ensures.value w'.in_default.is)
      ] in
      rw (w.self-is, at_place c.place.ensures.value, at_place c.place-2.ensures.value)
      (view_unqueue_head c.args.self.now c.args.k (with_next 0 c.args.slot) c.args.line c.clear.new.self c.clear.ensures c.requires.waits (goes_off c.requires.goes_on) head)
]
