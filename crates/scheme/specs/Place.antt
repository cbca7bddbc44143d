-- The place of a sector: the page that is read for it.
use Rattle.std.specs.Prelude.{ℕ, suc, ◌+◌, ◌*◌, ◌/◌, ◌%◌, cond, ◌&&◌, List, [], ◌∷◌, Some, None, Option, ◌==◌, nat_lt, slice_index}
use Rattle.scheme.specs.Tables.{Tables, Sequential, Entry, live, stale}

pub record Place : Type 0 where
  pub block : ℕ
  pub page : ℕ

abbrev pub or_else : {A : Type 0} → Option A → A → A
or_else (Some x) d = x
or_else None d = d

-- the number of the first live entry of sector n, counted from i
abbrev pub entry_of : ℕ → ℕ → List Entry → Option ℕ
entry_of n i [] = None
entry_of n i (live m ∷ es) = cond (m == n) (Some i) (entry_of n (suc i) es)
entry_of n i (stale ∷ es) = entry_of n (suc i) es

-- the page of the sequential log block that holds offset o of logical block b, if one does
abbrev pub sequential_place : Option Sequential → ℕ → ℕ → Option Place
sequential_place None b o = None
sequential_place (Some k) b o =
    cond (k.owner == b && nat_lt o k.fill) (Some (record { block = k.block; page = o })) None

module _ (P : ℕ) where
  -- the page that entry i stands for
  abbrev pub entry_place : List ℕ → ℕ → Place
  entry_place logs i = record { block = slice_index logs (i / P); page = i % P }

  abbrev pub placed : List ℕ → Option ℕ → Option Place
  placed logs (Some i) = Some (entry_place logs i)
  placed logs None = None

  -- the page of the live entry of sector n, if it has one
  abbrev pub random_place : Tables → ℕ → Option Place
  random_place t n = placed t.logs (entry_of n 0 t.entries)

  -- the place if the sequential log block does not have the sector: a random log block's page, else the data block's
  abbrev pub behind : Tables → ℕ → ℕ → Place
  behind t b o = or_else (random_place t (b * P + o)) (record { block = t.data_block b; page = o })

  -- the place of offset o of logical block b
  unfoldable pub place : Tables → ℕ → ℕ → Place
  place t b o = or_else (sequential_place t.sequential b o) (behind t b o)
