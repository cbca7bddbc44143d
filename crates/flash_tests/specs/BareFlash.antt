-- A device of blocks without pages, which cannot be erased.
use Rattle.std.specs.Prelude.{ℕ}
use Rattle.flash.specs.Meaning.{blank, Flash}

abbrev pub bare_flash : ℕ → Flash
bare_flash n = record {
  blocks = n;
  pages = 0;
  life = 0;
  count = λ _. 0;
  page = λ _ _. blank;
}
