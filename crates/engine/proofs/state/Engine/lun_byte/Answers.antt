use Rattle.table.specs.View.{view}
use Rattle.table.proofs.Meanings.{plays_as}
use Rattle.engine.proofs.Rows.{lun_listed}
use Rattle.engine.proofs.state.Engine.lun_byte.Goals as goal

pub returns : goal.returns
returns g c = λ m. plays_as (λ b. (g.B.Bus.means b).shown) g.B.Bus.did _ _
    (lun_listed (view c.args.self.now.state) c.args.target c.args.byte c.if-byte-lt128.false c.if-byte-ge136.false)
    c.args.bus.now m c.unit_named.result (view c.unit_named.new.self.state) c.unit_named.new.bus m (_, _, c.take.ensures, c.unit_named.ensures m)
