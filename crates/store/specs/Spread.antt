-- What a spread of two stores means: even sectors on the left, odd ones on the right.
use Rattle.std.specs.Prelude.{◌≡◌, ℕ, ◌*◌, ◌/◌, ◌%◌, ◌<◌, ◌≤◌, ◌≢◌, min, cond, List, None, ◌==◌, nat_lt}
use Rattle.scheme.specs.Ledger.{Call, read, write, refused, Reply}
use Rattle.store.specs.Meaning.{Table}

-- Twice the smaller side, at most 65,536.
abbrev pub spread_size : Table → Table → ℕ
spread_size l r = min (2 * min l.size r.size) 65536

-- What one side says of sector n div 2, for each sector n.
abbrev pub by_side : {A : Type 0} → (ℕ → A) → (ℕ → A) → ℕ → A
by_side l r n = cond (n % 2 == 0) (l (n / 2)) (r (n / 2))

abbrev pub spread_table : Table → Table → Table
spread_table l r = record {
  size = spread_size l r;
  line = λ n. cond (nat_lt n (spread_size l r)) (by_side l.line r.line n) None;
  bar = λ n. cond (nat_lt n (spread_size l r)) (by_side l.bar r.bar n) 0;
}

-- The sector that a call names, its buffer, and the same call as the sector's side is asked it.
abbrev pub sector_of : Call → ℕ
sector_of (read n buffer) = n
sector_of (write n bytes) = n

abbrev pub buffer_of : Call → List ℕ
buffer_of (read n buffer) = buffer
buffer_of (write n bytes) = bytes

abbrev pub there : Call → Call
there (read n buffer) = read (n / 2) buffer
there (write n bytes) = write (n / 2) bytes

-- A call on two sides that show so many sectors: the sector's side is asked, and the other left as it is; of no sector, neither is asked.
pub record SpreadMade {L R : Type 0} (size : ℕ) (left : L → L → Call → Reply → Type 0) (right : R → R → Call → Reply → Type 0) (l m : L) (r s : R) (c : Call) (q : Reply) : Type 0 where
  pub even : sector_of c < size → sector_of c % 2 ≡ 0 → left l m (there c) q × (s ≡ r)
  pub odd : sector_of c < size → sector_of c % 2 ≢ 0 → right r s (there c) q × (m ≡ l)
  pub none : size ≤ sector_of c → (q ≡ record { answer = refused 13; buffer = buffer_of c }) × (m ≡ l) × (s ≡ r)
