-- What the bytes of a plain store mean: 513 for each sector, a byte that is 0 where it was never written, and then its 512.
use Rattle.std.specs.Prelude.{◌≡◌, ℕ, ◌+◌, ◌*◌, ◌/◌, ◌<◌, ◌≤◌, min, cond, List, [], ◌∷◌, length, take, drop, Some, None, Ok, Err, Option, Result, ◌==◌, ◌≢◌, nat_lt, slice_index}
use Rattle.fast.specs.declared.refusal.Refusal.{Refusal}
use Rattle.fast.specs.declared.refusal.Refusal.TheVariants.{NoSuchSector, BufferNotASector, BlocksWornOut, StampsUsedUp}
use Rattle.flash.specs.Patched.{all_patched}
use Rattle.scheme.specs.Ledger.{Call, read, write, Answer, refused, wrote, Reply, reads}
use Rattle.store.specs.Meaning.{Table, write_refusal}

-- As many sectors as there is room for, at most 65,536; what is left over is no sector.
abbrev pub plain_size : List ℕ → ℕ
plain_size bs = min (length bs / 513) 65536

unfoldable pub plain_at : List ℕ → ℕ → Option (List ℕ)
plain_at bs k = cond (slice_index bs k == 0) None (Some (take 512 (drop (k + 1) bs)))

abbrev pub plain_line : List ℕ → ℕ → Option (List ℕ)
plain_line bs n = cond (nat_lt n (plain_size bs)) (plain_at bs (513 * n)) None

-- No write is barred.
abbrev pub plain_table : List ℕ → Table
plain_table bs = record { size = plain_size bs; line = plain_line bs; bar = λ _. 0 }

-- The bytes after sector n is set: those of this sector only.
abbrev pub plain_set : List ℕ → ℕ → List ℕ → List ℕ
plain_set bs n ys = all_patched bs ((513 * n, 1 ∷ []) ∷ (513 * n + 1, ys) ∷ [])

abbrev pub plain_after : Option ℕ → List ℕ → ℕ → List ℕ → List ℕ
plain_after None bs n ys = plain_set bs n ys
plain_after (Some m) bs n ys = bs

-- Where the slot of sector n begins for a buffer of so many bytes, or why there is none for it.
abbrev pub Slot : List ℕ → ℕ → ℕ → Result ℕ Refusal → Type 0
Slot bs n len (Ok at) = (n < plain_size bs) × (len ≡ 512) × (at ≡ 513 * n) × (at + 513 ≤ length bs)
Slot bs n len (Err NoSuchSector) = plain_size bs ≤ n
Slot bs n len (Err BufferNotASector) = (n < plain_size bs) × (len ≢ 512)
Slot bs n len (Err BlocksWornOut) = ⊥
Slot bs n len (Err StampsUsedUp) = ⊥

-- A write that is not refused erases and copies nothing.
abbrev pub plain_answer : Option ℕ → Answer
plain_answer None = wrote 0 0
plain_answer (Some m) = refused m

-- What a call replies, and the bytes after it.
abbrev pub plain_reply : List ℕ → Call → Reply
plain_reply bs (read n buffer) = reads (plain_size bs) (plain_line bs) n buffer
plain_reply bs (write n ys) = record { answer = plain_answer (write_refusal (plain_table bs) n (length ys)); buffer = ys }

abbrev pub plain_next : List ℕ → Call → List ℕ
plain_next bs (read n buffer) = bs
plain_next bs (write n ys) = plain_after (write_refusal (plain_table bs) n (length ys)) bs n ys

pub record PlainMade (bs cs : List ℕ) (c : Call) (r : Reply) : Type 0 where
  pub reply : r ≡ plain_reply bs c
  pub bytes : cs ≡ plain_next bs c
