use Rattle.std.proofs.Common.{vec_items, ap, ◌∙◌, subst}
use Rattle.console.specs.Lines.{lines}
use Rattle.console.specs.Running.{Asks, ByLine, Prints}
use Rattle.fast.specs.Makes.{Made}
use Rattle.fast.specs.Told.{started}
use Rattle.flash.specs.Stored.{image_flash}
use Rattle.scheme.specs.Runs.{format}
use Rattle.store.specs.Layered.{layer_table}
use Rattle.bench.proofs.Module.{module_of}
use Rattle.bench.proofs.fresh.respond_on_module.Goals as goal

pub returns : goal.returns
returns c =
    let left = c.new.ensures.means ∙ (ap image_flash c.deref_mut.ensures.value ∙ c.in_ok-left.ensures.means) in
    let right = c.new-2.ensures.means ∙ (ap image_flash c.deref_mut-2.ensures.value ∙ c.in_ok-right.ensures.means) in
    let device = c.two_chips-module.ensures ∙ module_of _ _ left right in
    let done = c.in_ok-respond_fresh.ensures in
    let text = lines c.args.input.now in
    record {
      prints = λ short. let told = done.prints short in (told.0, subst (λ f. Prints (layer_table (format (started f 4 2 1))) 1 text (vec_items c.in_ok-respond_fresh.field-0) told.0) device told.1);
      made = λ short. let told = done.made short in (told.0, subst (λ f. ByLine (Asks Made) (format (started f 4 2 1)) 1 text (vec_items c.in_ok-respond_fresh.field-0) told.0) device told.1);
      refuses = done.refuses;
    }
