-- The tables: which block holds the data of each logical block, the log blocks with what is in them, the free blocks and the next stamp.
use Rattle.std.specs.Prelude.{ℕ, Bool, cond, List, map, Some, None, Option, ◌==◌}

-- The sequential log block: its pages 0 to fill - 1 hold the offsets 0 to fill - 1 of its owner, a logical block.
pub record Sequential : Type 0 where
  pub owner : ℕ
  pub block : ℕ
  pub fill : ℕ

-- What the tables say of a filled page of a random log block: it holds the newest bytes of a sector, or nothing of use any more.
pub data Entry : Type 0 where
  live : ℕ → Entry
  stale : Entry

-- The random log blocks stand oldest first, and so do the entries of their filled pages: with P pages a block, entry i is that of page
-- i mod P of block i div P of the list, and the pages past the entries are blank.
pub record Tables : Type 0 where
  pub data_block : ℕ → ℕ
  pub sequential : Option Sequential
  pub logs : List ℕ
  pub entries : List Entry
  pub free : List ℕ
  pub next : ℕ

-- the tables with one of them replaced
abbrev pub with_map : (ℕ → ℕ) → Tables → Tables
with_map m t =
    record {
      data_block = m;
      sequential = t.sequential;
      logs = t.logs;
      entries = t.entries;
      free = t.free;
      next = t.next;
    }

abbrev pub with_sequential : Option Sequential → Tables → Tables
with_sequential q t =
    record {
      data_block = t.data_block;
      sequential = q;
      logs = t.logs;
      entries = t.entries;
      free = t.free;
      next = t.next;
    }

abbrev pub with_random : List ℕ → List Entry → Tables → Tables
with_random logs entries t =
    record {
      data_block = t.data_block;
      sequential = t.sequential;
      logs = logs;
      entries = entries;
      free = t.free;
      next = t.next;
    }

abbrev pub with_free : List ℕ → Tables → Tables
with_free free t =
    record {
      data_block = t.data_block;
      sequential = t.sequential;
      logs = t.logs;
      entries = t.entries;
      free = free;
      next = t.next;
    }

abbrev pub with_next : ℕ → Tables → Tables
with_next n t =
    record {
      data_block = t.data_block;
      sequential = t.sequential;
      logs = t.logs;
      entries = t.entries;
      free = t.free;
      next = n;
    }

-- each live entry whose sector passes the test made stale
abbrev pub stale_if : (ℕ → Bool) → Entry → Entry
stale_if test (live n) = cond (test n) stale (live n)
stale_if test stale = stale

abbrev pub stale_all : (ℕ → Bool) → List Entry → List Entry
stale_all test es = map (stale_if test) es

-- the sequential log block if logical block b owns it
abbrev pub owned : ℕ → Option Sequential → Option Sequential
owned b None = None
owned b (Some k) = cond (k.owner == b) (Some k) None

-- the sequential log block unless logical block b owns it
abbrev pub released : ℕ → Option Sequential → Option Sequential
released b None = None
released b (Some k) = cond (k.owner == b) None (Some k)
