use Rattle.std.proofs.Common.{◌*◌, [], ◌∷◌, ◌++◌, deque_items, ap, ◌∙◌, arith}
use Rattle.scheme.specs.Tables.{live}
use Rattle.fast.specs.Rules.{uses}
use Rattle.fast.specs.Views.{entries_view}
use Rattle.fast.proofs.Counts.{noted_live}
use Rattle.fast.proofs.tables.Tables.note.Goals as goal

pub invariant_of-result-clause-one_role : goal.invariant_of-result-clause-one_role
invariant_of-result-clause-one_role c =
    let t = c.args.self in
    let logs = ap deque_items (c.append.ensures.blocks ∙ c.expire_sector.ensures.blocks) in
    λ b. omega (arith, t.one_role b, ap (uses b) logs)

pub invariant_of-result-clause-one_live : goal.invariant_of-result-clause-one_live
invariant_of-result-clause-one_live c =
    let t = c.args.self in
    let stale = c.expire_sector.ensures.entries in
    let e = c.append.ensures.entries ∙ ap (λ es. es ++ (live c.args.sector.0 ∷ [])) stale in
    noted_live (t.sizes.logical * t.sizes.pages) c.args.sector.0 (entries_view (deque_items t.rw.entries)) _ c.requires.known t.one_live e
