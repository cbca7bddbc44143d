use Rattle.std.proofs.Common.{◌+◌, [], ◌∷◌, None, sym, ap₂, ◌∙◌, subst}
use Rattle.flash.specs.Patched.{all_patched}
use Rattle.store.specs.Meaning.{Written}
use Rattle.store.specs.Plain.{plain_table}
use Rattle.store.proofs.Slots.{set_written}
use Rattle.store.proofs.plain.PlainStoreStore.write.Goals as goal

pub returns-clause-after : goal.returns-clause-after
returns-clause-after c _ =
    let slot = c.in_ok-at.ensures in
    let whole = rw c.unwrap-bytes.ensures at c.as_array.ensures.cases in
    let bytes = c.put.ensures ∙ ap₂ (λ at ys. all_patched c.args.self.now.bytes.now ((at, 1 ∷ []) ∷ (at + 1, ys) ∷ [])) slot.2 whole.same in
    subst (λ bs. Written (plain_table c.args.self.now.bytes.now) (plain_table bs) c.args.sector.0 c.args.bytes.now None) (sym bytes)
    (set_written c.args.self.now.bytes.now c.args.bytes.now c.args.sector.0 slot.0 slot.1)
