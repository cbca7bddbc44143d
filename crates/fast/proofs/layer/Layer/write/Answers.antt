use Rattle.std.proofs.Common.{◌≡◌, Some, None, Err, refl, sym, ap, subst, rules}
use Rattle.scheme.specs.Ledger.{Reply, refused, write, wrote}
use Rattle.fast.specs.Told.{meant, refusal_number}
use Rattle.fast.specs.declared.refusal.Refusal.TheVariants.{NoSuchSector}
use Rattle.fast.proofs.Turns.{lawful, Written, refused_write, no_sectors, accepted_write}
use Rattle.fast.proofs.layer.Layer.write.Goals as goal

pub returns-in_err-tables : goal.returns-in_err-tables
returns-in_err-tables g c =
    let f = g.D.Device.flash c.args.self.now.device in
    let n = c.args.sector.0 in
    let x = c.args.bytes.now in
    let r : Reply = record { answer = refused 13; buffer = x } in
    let none : c.args.self.now.tables ≡ None = search rules in
    let left : c.take.new.self ≡ None = search rules in
    let refusal : c.from_residual.result ≡ Err NoSuchSector = search rules in
    let w : Written (meant f c.args.self.now.tables) (meant f c.take.new.self) n x r =
    subst (λ q. Written (meant f q) (meant f c.take.new.self) n x r) (sym none)
    (refused_write (meant f None) (meant f c.take.new.self) n 13 x (no_sectors f n x) (ap (meant f) left)) in
    rw refusal (record { reply = w.reply; after = w.after; law = lawful _ _ (write n x) r w.reply w.after })

pub returns-in-Err : goal.returns-in-Err
returns-in-Err g c =
    let f = g.D.Device.flash c.args.self.now.device in
    let n = c.args.sector.0 in
    let x = c.args.bytes.now in
    let t = c.in_ok-tables.tables in
    let m = refusal_number c.in-Err.refusal in
    let r : Reply = record { answer = refused m; buffer = x } in
    let has : c.args.self.now.tables ≡ Some t = search rules in
    let w : Written (meant f c.args.self.now.tables) (meant f (Some t)) n x r =
    subst (λ q. Written (meant f q) (meant f (Some t)) n x r) (sym has)
    (refused_write (meant f (Some t)) (meant f (Some t)) n m x c.in-Err.ensures.refusal refl) in
    record { reply = w.reply; after = w.after; law = lawful _ _ (write n x) r w.reply w.after }

pub returns-in-Ok : goal.returns-in-Ok
returns-in-Ok g c =
    let flash = g.D.Device.flash in
    let f = flash c.args.self.now.device in
    let n = c.args.sector.0 in
    let x = c.args.bytes.now in
    let t = c.in_ok-tables.tables in
    let d = c.write_accepted-step.ensures in
    let u = c.write_accepted-step.result.tables in
    let e = flash c.write_accepted-step.new.device in
    let r : Reply = record { answer = wrote c.write_accepted-step.result.erases c.write_accepted-step.result.copies; buffer = x } in
    let has : c.args.self.now.tables ≡ Some t = search rules in
    let w : Written (meant f c.args.self.now.tables) (meant e (Some u)) n x r =
    subst (λ q. Written (meant f q) (meant e (Some u)) n x r) (sym has) (accepted_write f e t u n x _ _ c.in-Ok.ensures.refusal d.work d.sized) in
    record { reply = w.reply; after = w.after; law = lawful _ _ (write n x) r w.reply w.after }
