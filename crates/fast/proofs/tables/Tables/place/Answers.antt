use Rattle.std.proofs.Common.{◌≡◌, sym, ap, ◌∙◌}
use Rattle.scheme.specs.Place.{Place, place, behind}
use Rattle.fast.specs.Meaning.{view_of}
use Rattle.fast.specs.Views.{sw_view}
use Rattle.fast.proofs.Places.{place_none, place_other, place_here}
use Rattle.fast.proofs.tables.Tables.place.Goals as goal
use Rattle.fast.proofs.tables.Tables.place.Goals.{in_default-via-in-Some+else-has, in_default-via-in_default}

pub returns-in-Some : goal.returns-in-Some
returns-in-Some c =
    let t = c.args.self.now in
    let e = place_here t.sizes.pages (view_of t) c.args.c.0 c.args.o.0 _ (ap sw_view c.in-Some.is) (sym c.if-has.ensures) in
    record { block = ap (λ (a : Place). a.block) e; page = ap (λ (a : Place). a.page) e }

pub returns-in_default : goal.returns-in_default
returns-in_default c =
    let t = c.args.self.now in
    let e : behind t.sizes.pages (view_of t) c.args.c.0 c.args.o.0 ≡ place t.sizes.pages (view_of t) c.args.c.0 c.args.o.0 =
    elim c.in_default.branch [
      | in_default-via-in-Some+else-has w ↦ place_other t.sizes.pages (view_of t) c.args.c.0 c.args.o.0 _ (ap sw_view w.in-Some.is) (sym w.if-has.ensures)
      | in_default-via-in_default w ↦ place_none t.sizes.pages (view_of t) c.args.c.0 c.args.o.0 (ap sw_view w.in_default.is)
    ] in
    record { block = c.behind.ensures.block ∙ ap (λ (a : Place). a.block) e; page = c.behind.ensures.page ∙ ap (λ (a : Place). a.page) e }
