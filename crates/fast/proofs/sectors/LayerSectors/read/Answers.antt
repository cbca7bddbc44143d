use Rattle.fast.proofs.Turns.{read_after}
use Rattle.fast.proofs.sectors.LayerSectors.read.Goals as goal

pub returns : goal.returns
returns g c = record { reply = c.read.ensures.reply; after = read_after _ _ _ }
