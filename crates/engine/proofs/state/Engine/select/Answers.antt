use Rattle.std.proofs.Common.{◌∙◌, subst}
use Rattle.bus.specs.Calls.{Call, refused, refusal_number}
use Rattle.engine.proofs.Rows.{selects}
use Rattle.engine.proofs.state.Engine.select.Goals as goal

pub returns-in-Err : goal.returns-in-Err
returns-in-Err g c = λ m. (
  refused (refusal_number c.in-Err.field-0),
  c.select.new.self,
  subst (λ (a : Call). g.B.Bus.did c.args.bus.now a (refused (refusal_number c.in-Err.field-0)) c.select.new.self)
      (selects c.args.self.now.state c.args.k c.slot-slot.result c.slot-slot.ensures.numbered c.slot-slot.ensures.slot c.greeting.result c.as_slice.result.now (c.as_slice.ensures ∙ c.bytes.ensures.bytes)
      c.greeting.ensures.lun c.greeting.ensures.leave c.greeting.ensures.tag)
      c.in-Err.ensures,
  c.violation.ensures m,
)
