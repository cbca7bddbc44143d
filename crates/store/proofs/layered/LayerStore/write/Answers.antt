use Rattle.fast.specs.Told.{layer_of}
use Rattle.store.proofs.Layers.{layer_written}
use Rattle.store.proofs.layered.LayerStore.write.Goals as goal

pub returns-clause-after : goal.returns-clause-after
returns-clause-after g c way =
    layer_written (layer_of g.D.Device.flash c.args.self.now) way c.args.sector.0 c.args.bytes.now c.write.result (layer_of g.D.Device.flash c.write.new.self) c.write.ensures.reply c.write.ensures.after
