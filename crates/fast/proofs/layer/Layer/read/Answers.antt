use Rattle.std.proofs.Common.{◌≡◌, ◌*◌, length, Some, None, Err, sym, ap, ◌∙◌, subst, ap₂, arith, rules}
use Rattle.scheme.specs.Ledger.{read, refused, shown}
use Rattle.scheme.specs.Place.{place}
use Rattle.scheme.specs.Runs.{call}
use Rattle.scheme.specs.Work.{line, seen}
use Rattle.fast.specs.Meaning.{view_of}
use Rattle.fast.specs.Told.{meant, read_told, Addressed}
use Rattle.fast.specs.declared.refusal.Refusal.TheVariants.{NoSuchSector}
use Rattle.fast.proofs.Turns.{read_lawful, read_no_sector, read_not_addressed, read_shows}
use Rattle.fast.proofs.layer.Layer.read.Goals as goal

pub returns-in_err-tables : goal.returns-in_err-tables
returns-in_err-tables g c =
    let f = g.D.Device.flash c.args.self.now.device in
    let n = c.args.sector.0 in
    let x = c.args.buffer.now in
    let none : c.args.self.now.tables ≡ None = search rules in
    let refusal : c.from_residual.result ≡ Err NoSuchSector = search rules in
    let e = ap (λ r. read_told r x) refusal ∙ subst (λ q. record { answer = refused 13; buffer = x } ≡ (call (meant f q) (read n x)).reply) (sym none) (read_no_sector (meant f None) n x (omega arith)) in
    record { reply = e; law = read_lawful _ n x _ e }

pub returns-in_err-addressed : goal.returns-in_err-addressed
returns-in_err-addressed g c =
    let f = g.D.Device.flash c.args.self.now.device in
    let n = c.args.sector.0 in
    let x = c.args.buffer.now in
    let t = c.in_ok-tables.tables.now in
    let has : c.args.self.now.tables ≡ Some t = search rules in
    let err = c.in_err-addressed.field-0.0 in
    let said : Addressed n (t.sizes.logical * t.sizes.pages) (length x) (Err err) = subst (λ m. Addressed n m (length x) (Err err)) c.sectors.ensures c.in_err-addressed.ensures in
    let refusal : c.from_residual-in_err-addressed.result ≡ Err err = search rules in
    let e = ap (λ r. read_told r x) refusal ∙ read_not_addressed (meant f (Some t)) n x err said ∙ ap (λ q. (call (meant f q) (read n x)).reply) (sym has) in
    record { reply = e; law = read_lawful _ n x _ e }

pub returns : goal.returns
returns g c =
    let f = g.D.Device.flash c.args.self.now.device in
    let n = c.args.sector.0 in
    let x = c.args.buffer.now in
    let t = c.in_ok-tables.tables.now in
    let P = t.sizes.pages in
    let y = meant f (Some t) in
    let has : c.args.self.now.tables ≡ Some c.in_ok-tables.tables.now = search rules in
    let r = c.show.ensures ∙ ap₂ (λ b p. shown (line (seen f b p))) c.place.ensures.block c.place.ensures.page ∙ ap₂ (λ b o. shown (line (seen f (place P (view_of t) b o).block (place P (view_of t) b o).page))) c.split.ensures.block c.split.ensures.offset ∙ read_shows y n x (omega (arith, c.sectors.ensures, c.in_ok-addressed.ensures.0)) c.in_ok-addressed.ensures.1 in
    let e = r ∙ ap (λ q. (call (meant f q) (read n x)).reply) (sym has) in
    record { reply = e; law = read_lawful _ n x _ e }
