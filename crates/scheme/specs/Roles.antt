-- The roles of blocks: how a role may change, which role the tables give a block, and tables that give each block just one.
use Rattle.std.specs.Prelude.{◌≡◌, ℕ, ◌+◌, ◌*◌, ◌<◌, ◌≤◌, true, false, cond, List, [], ◌∷◌, length, Some, None, Option, ◌==◌, nat_lt, slice_index_or}
use Rattle.scheme.specs.Functions.{sum_below}
use Rattle.scheme.specs.Tables.{Tables, Sequential, live, stale}

pub data Role : Type 0 where
  free : Role
  stores_data : Role
  sequential_log : Role
  random_log : Role

-- What changes a role. A block that is `erased` becomes free as the tables change, and the steps ask for its erase before they take any block.
pub data Event : Type 0 where
  taken_as_data : Event
  taken_as_sequential : Event
  taken_as_random : Event
  finished : Event
  erased : Event

-- Which change is allowed, and what it gives: only a free block is taken, only the sequential log block is finished, and only a block
-- in use is erased.
abbrev pub after : Role → Event → Option Role
after free taken_as_data = Some stores_data
after free taken_as_sequential = Some sequential_log
after free taken_as_random = Some random_log
after free finished = None
after free erased = None
after stores_data taken_as_data = None
after stores_data taken_as_sequential = None
after stores_data taken_as_random = None
after stores_data finished = None
after stores_data erased = Some free
after sequential_log taken_as_data = None
after sequential_log taken_as_sequential = None
after sequential_log taken_as_random = None
after sequential_log finished = Some stores_data
after sequential_log erased = Some free
after random_log taken_as_data = None
after random_log taken_as_sequential = None
after random_log taken_as_random = None
after random_log finished = None
after random_log erased = Some free

-- an event, and the block that it happens to
pub record Change : Type 0 where
  pub block : ℕ
  pub event : Event

abbrev pub and_then : Option Role → (Role → Option Role) → Option Role
and_then None next = None
and_then (Some r) next = next r

-- the role that block b comes to from r by its own changes among these, in order; none where one of them is not allowed
abbrev pub led : ℕ → List Change → Role → Option Role
led b [] r = Some r
led b (c ∷ cs) r = elim (c.block == b) [ true ↦ and_then (after r c.event) (led b cs) | false ↦ led b cs r ]

-- 1 if the two are the same block
abbrev pub is_block : ℕ → ℕ → ℕ
is_block a b = cond (a == b) 1 0

-- how often b stands in a list
abbrev pub times : ℕ → List ℕ → ℕ
times b [] = 0
times b (x ∷ xs) = is_block x b + times b xs

abbrev pub times_sequential : ℕ → Option Sequential → ℕ
times_sequential b None = 0
times_sequential b (Some k) = is_block k.block b

-- how many of L logical blocks have b as their data block
abbrev pub times_data : ℕ → Tables → ℕ → ℕ
times_data L t b = sum_below L (λ c. is_block (t.data_block c) b)

-- how many roles the tables give block b
abbrev pub roles_of : ℕ → Tables → ℕ → ℕ
roles_of L t b = times_data L t b + times_sequential b t.sequential + times b t.logs + times b t.free

-- the role of a block that has just one
abbrev pub role_of : Tables → ℕ → Role
role_of t b =
    cond (nat_lt 0 (times b t.free)) free
    (cond (nat_lt 0 (times b t.logs)) random_log
    (cond (nat_lt 0 (times_sequential b t.sequential)) sequential_log stores_data))

-- the changes lead the role that each of B blocks has by t to the one that it has by u, and the match allows every one of them
abbrev pub Led : ℕ → Tables → List Change → Tables → Type 0
Led B t changes u = (b : ℕ) → b < B → led b changes (role_of t b) ≡ Some (role_of u b)

-- Tables for B blocks of P pages, L logical blocks and at most R random log blocks, in which each block has just one role and no sector
-- two live entries.
pub record TablesRight (P L R B : ℕ) (t : Tables) : Type 0 where
  pub one_role : (b : ℕ) → b < B → roles_of L t b ≡ 1
  pub one_live : (n i j : ℕ) → slice_index_or t.entries i stale ≡ live n → slice_index_or t.entries j stale ≡ live n → i ≡ j
  pub filled : (k : Sequential) → t.sequential ≡ Some k → (k.owner < L) × (0 < k.fill) × (k.fill ≤ P)
  pub few_logs : length t.logs ≤ R
  pub no_more_entries : length t.entries ≤ P * length t.logs
  pub all_but_last_full : P * length t.logs ≤ length t.entries + P
