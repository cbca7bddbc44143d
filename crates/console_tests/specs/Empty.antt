-- The table of a store that has no sectors.
use Rattle.std.specs.Prelude.{None}
use Rattle.store.specs.Meaning.{Table}

abbrev pub no_table : Table
no_table = record { size = 0; line = λ _. None; bar = λ _. 0 }
