-- The sizes of a layer, one by one, and the block that an index lies in.
use Rattle.std.proofs.Common.{ℕ, ◌*◌, ◌/◌, ◌<◌, div-lt_iff_lt-mul}
use Rattle.fast.specs.declared.tables.Sizes.{Sizes}

abbrev pub pages_of : Sizes → ℕ
pages_of z = z.pages

abbrev pub logical_of : Sizes → ℕ
logical_of z = z.logical

abbrev pub random_of : Sizes → ℕ
random_of z = z.random

-- index i lies in one of n blocks of P pages
pub in_block : (i n P : ℕ) → 0 < P → i < n * P → i / P < n
in_block i n P pos h = (div-lt_iff_lt-mul pos).1 h
