-- What the code's tables mean to the steps, and which parts of them a step leaves alone.
use Rattle.std.specs.Prelude.{◌≡◌, ℕ, ◌*◌, ◌<◌, ◌≤◌, List, drop, vec_items, slice_index}
use Rattle.std.specs.VecDeque.{deque_items, deque_len}
use Rattle.scheme.specs.Tables as scheme
use Rattle.fast.specs.Views.{view}
use Rattle.fast.specs.declared.tables.Tables.{Tables}

abbrev pub view_of : Tables → scheme.Tables
view_of t = view (vec_items t.map) t.sw (deque_items t.rw.blocks) (deque_items t.rw.entries) (deque_items t.free.blocks) t.next

-- the free block that is taken next, and those behind it
abbrev pub front_of : Tables → ℕ
front_of t = slice_index (view_of t).free 0

abbrev pub rest_of : Tables → List ℕ
rest_of t = drop 1 (view_of t).free

-- the layer is as large, and the next stamp the same
abbrev pub Sized : Tables → Tables → Type 0
Sized t u = (t.sizes ≡ u.sizes) × (t.next ≡ u.next)

-- all random log blocks are full
abbrev pub Full : Tables → Type 0
Full t = t.sizes.pages * deque_len t.rw.blocks ≤ deque_len t.rw.entries

-- the last random log block has a blank page
abbrev pub HasRoom : Tables → Type 0
HasRoom t = deque_len t.rw.entries < t.sizes.pages * deque_len t.rw.blocks

-- there are as many random log blocks, and as many filled pages in them
abbrev pub Logged : Tables → Tables → Type 0
Logged t u = (deque_len t.rw.blocks ≡ deque_len u.rw.blocks) × (deque_len t.rw.entries ≡ deque_len u.rw.entries)
