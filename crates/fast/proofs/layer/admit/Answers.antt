use Rattle.std.proofs.Common.{◌≡◌, ℕ, ◌*◌, ◌/◌, ◌%◌, ◌<◌, true, false, length, get_or, Some, Err, vec_items, ap, subst, ◌∙◌, arith, rules}
use Rattle.flash.specs.Calls.{is_blank}
use Rattle.flash.specs.Meaning.{Flash}
use Rattle.flash.specs.declared.numbers.Block.{Block}
use Rattle.scheme.specs.Work.{seen}
use Rattle.fast.specs.Leaves.{is_first}
use Rattle.fast.specs.Meaning.{view_of}
use Rattle.fast.specs.Told.{meant, admitted_told, Addressed}
use Rattle.fast.specs.declared.steps.WriteKind.{WriteKind}
use Rattle.fast.specs.declared.tables.Tables.{Tables}
use Rattle.fast.proofs.Barred.{not_addressed, wears, no_life, no_stamp, no_bar}
use Rattle.fast.proofs.Counts.{get_or_numbers}
use Rattle.fast.proofs.Measures.{in_block}
use Rattle.fast.proofs.layer.admit.Goals as goal

pub returns-in_err-addressed-clause-refusal : goal.returns-in_err-addressed-clause-refusal
returns-in_err-addressed-clause-refusal g c =
    let t = c.args.tables.now in
    let e = c.in_err-addressed.field-0.0 in
    let said : Addressed c.args.sector.0 (t.sizes.logical * t.sizes.pages) (length c.args.bytes.now) (Err e) = subst (λ m. Addressed c.args.sector.0 m (length c.args.bytes.now) (Err e)) c.sectors.ensures c.in_err-addressed.ensures in
    let same : c.from_residual.result ≡ Err e = search rules in
    ap admitted_told same ∙ not_addressed (meant (g.D.Device.flash c.args.device.now) (Some t)) c.args.sector.0 c.args.bytes.now e said

-- what was found of the sector's data page

shown : (f : Flash) (t : Tables) (n : ℕ) (b : Block) (kind : WriteKind) → n < t.sizes.logical * t.sizes.pages → b ≡ get_or (vec_items t.map) (n / t.sizes.pages) b
    → is_first kind ≡ is_blank (seen f b.0 (n % t.sizes.pages)) → is_first kind ≡ is_blank (seen f ((view_of t).data_block (n / t.sizes.pages)) (n % t.sizes.pages))
shown f t n b kind h e found =
    let known : n / t.sizes.pages < t.sizes.logical = in_block n t.sizes.logical t.sizes.pages (omega (arith, t.sizes.pages_fit)) h in
    let i : n / t.sizes.pages < length (vec_items t.map) = omega (arith, t.map.ok.0, t.mapped) in
    found ∙ ap (λ k. is_blank (seen f k (n % t.sizes.pages))) (get_or_numbers (vec_items t.map) (n / t.sizes.pages) b i e)

pub returns-then-wears_out-clause-refusal : goal.returns-then-wears_out-clause-refusal
returns-then-wears_out-clause-refusal g c =
    let t = c.args.tables.now in
    let f = g.D.Device.flash c.args.device.now in
    let y = meant f (Some t) in
    let n = c.args.sector.0 in
    let known : n < t.sizes.logical * t.sizes.pages = omega (arith, c.sectors.ensures, c.in_ok-addressed.ensures.0) in
    let found = shown f t n c.index.result.now c.kind_of-kind.result known (rw c.split.ensures.block at c.index.ensures) (rw c.split.ensures.offset at c.kind_of-kind.ensures) in
    no_life y n c.args.bytes.now known c.in_ok-addressed.ensures.1 (wears y n c.args.bytes.now (is_first c.kind_of-kind.result) true found c.if-wears_out.ensures)

pub returns-then-tables-clause-refusal : goal.returns-then-tables-clause-refusal
returns-then-tables-clause-refusal g c =
    let t = c.args.tables.now in
    let f = g.D.Device.flash c.args.device.now in
    let y = meant f (Some t) in
    let n = c.args.sector.0 in
    let known : n < t.sizes.logical * t.sizes.pages = omega (arith, c.sectors.ensures, c.in_ok-addressed.ensures.0) in
    let found = shown f t n c.index.result.now c.kind_of-kind.result known (rw c.split.ensures.block at c.index.ensures) (rw c.split.ensures.offset at c.kind_of-kind.ensures) in
    no_stamp y n c.args.bytes.now known c.in_ok-addressed.ensures.1 (wears y n c.args.bytes.now (is_first c.kind_of-kind.result) false found c.if-wears_out.ensures) c.if-tables.true

pub returns-clause-refusal : goal.returns-clause-refusal
returns-clause-refusal g c =
    let t = c.args.tables.now in
    let f = g.D.Device.flash c.args.device.now in
    let y = meant f (Some t) in
    let n = c.args.sector.0 in
    let known : n < t.sizes.logical * t.sizes.pages = omega (arith, c.sectors.ensures, c.in_ok-addressed.ensures.0) in
    let found = shown f t n c.index.result.now c.kind_of-kind.result known (rw c.split.ensures.block at c.index.ensures) (rw c.split.ensures.offset at c.kind_of-kind.ensures) in
    no_bar y n c.args.bytes.now known c.in_ok-addressed.ensures.1 (wears y n c.args.bytes.now (is_first c.kind_of-kind.result) false found c.if-wears_out.ensures) c.if-tables.false

pub returns-clause-found : goal.returns-clause-found
returns-clause-found g c =
    shown (g.D.Device.flash c.args.device.now) c.args.tables.now c.args.sector.0 c.index.result.now c.kind_of-kind.result (omega (arith, c.sectors.ensures, c.in_ok-addressed.ensures.0)) (rw c.split.ensures.block at c.index.ensures) (rw c.split.ensures.offset at c.kind_of-kind.ensures)
