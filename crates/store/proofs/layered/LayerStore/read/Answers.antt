use Rattle.std.proofs.Common.{◌∙◌}
use Rattle.fast.specs.Told.{layer_of}
use Rattle.fast.proofs.Turns.{read_after}
use Rattle.store.proofs.Layers.{layer_reads}
use Rattle.store.proofs.layered.LayerStore.read.Goals as goal

pub returns : goal.returns
returns g c =
    record {
      shows = c.read.ensures.reply ∙ layer_reads (layer_of g.D.Device.flash c.args.self.now) c.args.sector.0 c.args.buffer.now;
      made = record { reply = c.read.ensures.reply; after = read_after _ _ _ };
    }
