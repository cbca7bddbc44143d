use Rattle.std.proofs.Common.{◌≡◌, ◌/◌, ◌%◌, length, get_or, deque_items, sym, ap, ◌∙◌, ap₂}
use Rattle.scheme.specs.Work.{put_page}
use Rattle.fast.specs.Leaves.{page_made}
use Rattle.fast.specs.Meaning.{view_of}
use Rattle.fast.specs.Views.{numbers, entries_view}
use Rattle.fast.proofs.Entries.{length_views}
use Rattle.fast.proofs.Rooms.{appended}
use Rattle.fast.proofs.steps.writes.append_rw.Goals as goal

pub returns : goal.returns
returns g c =
    let t = c.args.tables in
    let flash = g.D.Device.flash in
    let m = c.len-used.result in
    let x = page_made c.args.page in
    let lens : m ≡ length (entries_view (deque_items t.rw.entries)) = c.len-used.ensures ∙ t.rw.entries.ok.0 ∙ sym (length_views (deque_items t.rw.entries)) in
    let d = c.page_of.ensures in
    record {
      work = record {
        writes =
            appended t.sizes.pages c.args.page.mark.sector.0 x (flash c.args.device.now) (flash c.program.new.self) (view_of t) (view_of c.note.result)
            (c.program.ensures.after ∙ ap₂ (λ b p. put_page (flash c.args.device.now) b p x) (d.block ∙ ap (λ n. get_or (numbers (deque_items t.rw.blocks)) (n / t.sizes.pages) 0) lens) (d.page ∙ ap (λ n. n % t.sizes.pages) lens))
            c.note.ensures.tables;
        sized = c.note.ensures.sized;
      };
    }
