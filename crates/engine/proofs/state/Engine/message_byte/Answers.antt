use Rattle.std.proofs.Common.{◌≡◌, ℕ, List, [], ◌∷◌, ◌++◌, Option, IsNone, ap, ◌∙◌}
use Rattle.scsi.specs.Messages.{message_of}
use Rattle.slots.specs.declared.line.Heard.{Heard}
use Rattle.table.specs.Engine.{Engine, Entry, held, set_line}
use Rattle.table.specs.Table.{heard_of, by_heard}
use Rattle.table.specs.View.{view, entry_of}
use Rattle.table.proofs.Meanings.{plays_as}
use Rattle.engine.proofs.Rows.{by_heard_same}
use Rattle.engine.proofs.state.Engine.message_byte.Goals as goal

-- what the message comes to, said of the engine before its last byte
said : (e e' : Engine) (k : ℕ) (x : Entry) (bs bs' : List ℕ) (h : Option Heard) → e' ≡ set_line (held k bs') e → h ≡ heard_of (message_of bs) → (IsNone h → bs' ≡ bs)
    → by_heard e' k x bs' h x.status ≡ by_heard e k x bs (heard_of (message_of bs)) x.status
said e e' k x bs bs' h p q r =
    ap (λ (e : Engine). by_heard e k x bs' h x.status) p
    ∙ by_heard_same e (held k bs') k x bs' bs h x.status r
    ∙ ap (λ (h : Option Heard). by_heard e k x bs h x.status) q

pub returns : goal.returns
returns g c = λ m. (
  _,
  _,
  c.take.ensures,
  plays_as (λ b. (g.B.Bus.means b).shown) g.B.Bus.did _ _
      (said (view c.args.self.now.state) (view c.hear-heard.new.self.state) c.args.held.now.k (entry_of c.args.held.now.slot)
      (c.args.self.now.state.begun.items ++ c.args.byte ∷ []) c.hear-heard.new.self.state.begun.items c.hear-heard.result
      c.hear-heard.ensures.after c.hear-heard.ensures.heard c.hear-heard.ensures.goes_on)
      _ m _ _ _ m (c.obey.ensures m),
)
