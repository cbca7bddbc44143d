use Rattle.std.proofs.Common.{deque_items, sym, ◌∙◌, subst}
use Rattle.std.specs.Option.{IsSome}
use Rattle.fast.proofs.Counts.{some_free, first_some, first_number}
use Rattle.fast.proofs.tables.Tables.first_free.Goals as goal

pub unwrap-requires : goal.unwrap-requires
unwrap-requires c = subst IsSome (sym c.front.ensures) (first_some (deque_items c.args.self.now.free.blocks) (some_free c.args.self.now))

pub returns : goal.returns
returns c = first_number (deque_items c.args.self.now.free.blocks) c.unwrap.result (sym c.front.ensures ∙ c.unwrap.ensures)
