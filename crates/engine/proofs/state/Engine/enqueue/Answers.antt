use Rattle.std.proofs.Common.{sym, ap, ◌∙◌}
use Rattle.table.specs.Engine.{numbered}
use Rattle.table.specs.View.{command_of}
use Rattle.engine.proofs.Numbers.{at_place, place_numbered, new_some, new_none}
use Rattle.engine.proofs.Kept.{view_start, whole_start, view_appended, whole_appended}
use Rattle.engine.proofs.state.Engine.enqueue.Goals.{in-Some, in_default}
use Rattle.engine.proofs.state.Engine.enqueue.Goals as goal

pub invariant_of-self : goal.invariant_of-self
invariant_of-self c = elim c.match-new.branch [
  | in-Some w ↦
      let r = new_some _ c.new.result c.new.ensures.valid c.new.ensures.value w.in-Some.head w.in-Some.is in
      rw (w.self-is, at_place c.place.ensures.value, at_place c.place-2.ensures.value, at_place w.place-in-Some.ensures.value, w.get.ensures.value)
      (whole_appended c.args.self.now c.args.k c.accepted.result (command_of c.args.command) c.requires.free_head (place_numbered c.place.ensures.value c.place.ensures.inside) c.accepted.ensures.next c.accepted.ensures.entry
      w.in-Some.head w.before-last.result (sym r.1) (ap numbered r.1 ∙ r.0) w.before-last.ensures (place_numbered w.place-in-Some.ensures.value w.place-in-Some.ensures.inside))
  | in_default w ↦
      rw (w.self-is, at_place c.place.ensures.value, at_place c.place-2.ensures.value, w.get-self.ensures.value)
      (whole_start c.args.self.now c.args.k c.accepted.result (command_of c.args.command) c.requires.free_head (place_numbered c.place.ensures.value c.place.ensures.inside) c.accepted.ensures.next c.accepted.ensures.entry
      (new_none _ c.new.result c.new.ensures.valid c.new.ensures.value w.in_default.is))
]

pub returns : goal.returns
returns c = elim c.match-new.branch [
  | in-Some w ↦
      let r = new_some _ c.new.result c.new.ensures.valid c.new.ensures.value w.in-Some.head w.in-Some.is in
      rw (w.self-is, at_place c.place.ensures.value, at_place c.place-2.ensures.value, at_place w.place-in-Some.ensures.value, w.get.ensures.value)
      (view_appended c.args.self.now c.args.k c.accepted.result (command_of c.args.command) c.requires.free_head (place_numbered c.place.ensures.value c.place.ensures.inside) c.accepted.ensures.next c.accepted.ensures.entry
      w.in-Some.head w.before-last.result (sym r.1) (ap numbered r.1 ∙ r.0) w.before-last.ensures (place_numbered w.place-in-Some.ensures.value w.place-in-Some.ensures.inside))
  | in_default w ↦
      rw (w.self-is, at_place c.place.ensures.value, at_place c.place-2.ensures.value, w.get-self.ensures.value)
      (view_start c.args.self.now c.args.k c.accepted.result (command_of c.args.command) c.requires.free_head (place_numbered c.place.ensures.value c.place.ensures.inside) c.accepted.ensures.next c.accepted.ensures.entry
      (new_none _ c.new.result c.new.ensures.valid c.new.ensures.value w.in_default.is))
]
