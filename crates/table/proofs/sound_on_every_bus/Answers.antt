use Rattle.table.proofs.Sounds.{sound_on_every_bus}
use Rattle.table.proofs.sound_on_every_bus.Goals as goal

pub returns : goal.returns
returns c = sound_on_every_bus
