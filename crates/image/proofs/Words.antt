-- A number and its four bytes.
use Rattle.std.proofs.Common.{◌≡◌, ℕ, ◌+◌, ◌-◌, ◌^◌, ◌<◌, ◌≤◌, List, ◌++◌, length, length-take, length-drop, get_or, take, drop, sym, ap, ◌∙◌, arith, get_or-append-add, get_or-take, get_or-drop, ⊎_elim, w32}
use Rattle.std.proofs.lemmas.Bool.{cases_lt}
use Rattle.std.proofs.lemmas.List.{get_or_past, take_rest}
use Rattle.std.proofs.lemmas.Nat.{from_le_bytes-to_le_bytes_4, le_bytes_4}
use Rattle.std.specs.Int.{from_le_bytes}
use Rattle.image.specs.Format.{word, word_bytes}

-- Each item is a byte, as in every slice of `u8`.
abbrev pub Bytes : List ℕ → Type 0
Bytes bs = (k : ℕ) → get_or bs k 0 < 256

-- a number whose bytes stand first
pub word_first : (n : ℕ) (ys : List ℕ) → n < 2 ^ 32 → word (word_bytes n ++ ys) 0 ≡ n
unfolding word
word_first n ys h = from_le_bytes-to_le_bytes_4 n h

-- a number past a front of the bytes
pub word_past : (xs ys : List ℕ) (k j : ℕ) → length xs + j ≡ k → word (xs ++ ys) k ≡ word ys j
unfolding word
word_past xs ys k j e =
    let at : (i m : ℕ) → m ≡ length xs + i → get_or (xs ++ ys) m 0 ≡ get_or ys i 0 = λ i m f. rw f (get_or-append-add xs ys i 0) in
    rw (at j k (omega arith), at (j + 1) (k + 1) (omega arith), at (j + 2) (k + 2) (omega arith), at (j + 3) (k + 3) (omega arith))

-- a number is what its four bytes are
pub word_same : (xs ys : List ℕ) (k : ℕ) → ((i : ℕ) → k ≤ i → i < k + 4 → get_or xs i 0 ≡ get_or ys i 0) → word xs k ≡ word ys k
unfolding word
word_same xs ys k h =
    rw (h k (omega arith) (omega arith), h (k + 1) (omega arith) (omega arith), h (k + 2) (omega arith) (omega arith), h (k + 3) (omega arith) (omega arith))

-- four bytes of a part of the bytes
part_at : (bs : List ℕ) (a m k n i : ℕ) → i < n → k + n ≤ m → a + m ≤ length bs → get_or (take n (drop k (take m (drop a bs)))) i 0 ≡ get_or bs (a + k + i) 0
part_at bs a m k n i h j l =
    let h' : k + i < m = omega arith in
    let e : a + (k + i) ≡ a + k + i = omega arith in
    rw (get_or-take, get_or-drop, get_or-take, get_or-drop, e)

pub word_part : (bs ys : List ℕ) (a m k : ℕ) → ys ≡ take 4 (drop k (take m (drop a bs))) → k + 4 ≤ m → a + m ≤ length bs → from_le_bytes w32 ys ≡ word bs (a + k)
unfolding word
word_part bs ys a m k e h l =
    let p : (i : ℕ) → i < 4 → get_or ys i 0 ≡ get_or bs (a + k + i) 0 = λ i j. ap (λ zs. get_or zs i 0) e ∙ part_at bs a m k 4 i j h l in
    let z : a + k + 0 ≡ a + k = omega arith in
    rw (p 0 (omega arith), p 1 (omega arith), p 2 (omega arith), p 3 (omega arith), z)

bytes_part : (bs : List ℕ) (n k : ℕ) → Bytes bs → Bytes (take n (drop k bs))
bytes_part bs n k byte i = ⊎_elim
    (λ (h : i < n). rw (get_or-take, get_or-drop) (byte (k + i)))
    (λ (h : n ≤ i). let e = get_or_past (take n (drop k bs)) i 0 (omega (arith, length-take n (drop k bs))) in omega (arith, e))
    (cases_lt i n)

-- the bytes at a place are those of the number there
pub word_bytes_at : (bs : List ℕ) (k : ℕ) → Bytes bs → k + 4 ≤ length bs → word_bytes (word bs k) ≡ take 4 (drop k bs)
word_bytes_at bs k byte h =
    let e : k + 0 ≡ k = omega arith in
    let four = take 4 (drop k bs) in
    le_bytes_4 four (word bs k) (omega (arith, length-take 4 (drop k bs), length-drop k bs))
    (bytes_part bs 4 k byte)
    (sym (word_part bs four k (length bs - k) 0 (ap (take 4) (sym (take_rest bs k))) (omega arith) (omega arith) ∙ ap (word bs) e))

pub word_fits : (bs : List ℕ) (k : ℕ) → Bytes bs → word bs k < 2 ^ 32
unfolding word
word_fits bs k byte = omega (arith, byte k, byte (k + 1), byte (k + 2), byte (k + 3))
