-- What a patch of bytes leaves, and what it puts there.
use Rattle.std.proofs.Common.{◌≡◌, ℕ, zero, suc, ◌+◌, ◌*◌, ◌/◌, ◌%◌, ◌^◌, ◌<◌, ◌≤◌, List, [], ◌∷◌, length, get_or, take, drop, replicate, sym, refl, ap, ◌∙◌, subst, ⊎_elim, arith, rules}
use lib.ListN.{length-replicate}
use Rattle.std.proofs.lemmas.List.{places, same_lists, get_or-replicate}
use Rattle.std.proofs.lemmas.Bool.{cases_lt}
use Rattle.flash.specs.Patched.{patched, all_patched}
use Rattle.std.proofs.lemmas.Nat.{from_le_bytes-to_le_bytes_4}
use Rattle.image.specs.Format.{word, word_bytes}

module _ (bs : List ℕ) (a : ℕ) (ys : List ℕ) (fits : a + length ys ≤ length bs) where
  pub length_patched : length (patched bs a ys) ≡ length bs
  unfolding patched
  length_patched = search (rules, places)

  get_or_out : (k : ℕ) → (a ≤ k → a + length ys ≤ k) → get_or (patched bs a ys) k 0 ≡ get_or bs k 0
  unfolding patched
  get_or_out k h = ⊎_elim (λ l. search (rules, places)) (λ l. let m : a + length ys ≤ k = h l in search (rules, places)) (cases_lt k a)

  get_or_in : (k : ℕ) → k < length ys → get_or (patched bs a ys) (a + k) 0 ≡ get_or ys k 0
  unfolding patched
  get_or_in k h = search (rules, places)

  word_out : (k : ℕ) → (a < k + 4 → a + length ys ≤ k) → word (patched bs a ys) k ≡ word bs k
  unfolding word
  word_out k h =
      rw (
        get_or_out k (λ m. let q = h (omega arith) in omega arith),
        get_or_out (k + 1) (λ m. let q = h (omega arith) in omega arith),
        get_or_out (k + 2) (λ m. let q = h (omega arith) in omega arith),
        get_or_out (k + 3) (λ m. let q = h (omega arith) in omega arith),
      )

  part_out : (k n : ℕ) → k + n ≤ length bs → (a < k + n → a + length ys ≤ k) → take n (drop k (patched bs a ys)) ≡ take n (drop k bs)
  unfolding patched
  part_out k n l h =
      ⊎_elim
      (λ m. let q : a + length ys ≤ k = h m in same_lists _ _ (search (rules, places)) (λ i d j. search (rules, places)))
      (λ m. same_lists _ _ (search (rules, places)) (λ i d j. search (rules, places)))
      (cases_lt a (k + n))

  part_in : (n : ℕ) → length ys ≡ n → take n (drop a (patched bs a ys)) ≡ ys
  unfolding patched
  part_in n e = same_lists _ _ (search (rules, places)) (λ i d j. search (rules, places))

word_in : (bs : List ℕ) (a n : ℕ) → a + 4 ≤ length bs → n < 2 ^ 32 → word (patched bs a (word_bytes n)) a ≡ n
unfolding word
word_in bs a n fits small =
    let e₀ : get_or (patched bs a (word_bytes n)) a 0 ≡ n % 256 =
    ap (λ k. get_or (patched bs a (word_bytes n)) k 0) (omega arith) ∙ get_or_in bs a (word_bytes n) fits 0 (omega arith) in
    let e₁ : get_or (patched bs a (word_bytes n)) (a + 1) 0 ≡ n / 256 % 256 = get_or_in bs a (word_bytes n) fits 1 (omega arith) in
    let e₂ : get_or (patched bs a (word_bytes n)) (a + 2) 0 ≡ n / 65536 % 256 = get_or_in bs a (word_bytes n) fits 2 (omega arith) in
    let e₃ : get_or (patched bs a (word_bytes n)) (a + 3) 0 ≡ n / 16777216 % 256 = get_or_in bs a (word_bytes n) fits 3 (omega arith) in
    rw (e₀, e₁, e₂, e₃) (from_le_bytes-to_le_bytes_4 n small)

-- a number within bytes that are all v
word_run : (bs : List ℕ) (a n v k : ℕ) → a + n ≤ length bs → a ≤ k → k + 4 ≤ a + n →
    word (patched bs a (replicate n v)) k ≡ v + v * 256 + v * 65536 + v * 16777216
unfolding word patched
word_run bs a n v k fits low high =
    let one : (i : ℕ) → a ≤ i → i < a + n → get_or (patched bs a (replicate n v)) i 0 ≡ v = λ i p q. search (rules, places) in
    rw (one k (omega arith) (omega arith), one (k + 1) (omega arith) (omega arith), one (k + 2) (omega arith) (omega arith), one (k + 3) (omega arith) (omega arith))

-- Patches that lie within n bytes.
abbrev pub Within : ℕ → List (ℕ × List ℕ) → Type 0
Within n [] = Unit {0}
Within n (x ∷ ps) = (x.0 + length x.1 ≤ n) × Within n ps

-- Patches that leave the n bytes from k on alone.
abbrev pub Apart : List (ℕ × List ℕ) → ℕ → ℕ → Type 0
Apart [] k n = Unit {0}
Apart (x ∷ ps) k n = (x.0 < k + n → x.0 + length x.1 ≤ k) × Apart ps k n

within_same : (m n : ℕ) (ps : List (ℕ × List ℕ)) → m ≡ n → Within n ps → Within m ps
within_same m n ps e w = rw e w

pub length_all : (bs : List ℕ) (ps : List (ℕ × List ℕ)) → Within (length bs) ps → length (all_patched bs ps) ≡ length bs
length_all bs [] w = refl
length_all bs (x ∷ ps) w =
    let e = length_patched bs x.0 x.1 w.0 in
    length_all (patched bs x.0 x.1) ps (within_same _ _ ps e w.1) ∙ e

pub word_apart : (bs : List ℕ) (ps : List (ℕ × List ℕ)) (k : ℕ) → Within (length bs) ps → Apart ps k 4 → word (all_patched bs ps) k ≡ word bs k
word_apart bs [] k w a = refl
word_apart bs (x ∷ ps) k w a =
    let e = length_patched bs x.0 x.1 w.0 in
    word_apart (patched bs x.0 x.1) ps k (within_same _ _ ps e w.1) a.1 ∙ word_out bs x.0 x.1 w.0 k a.0

pub part_apart : (bs : List ℕ) (ps : List (ℕ × List ℕ)) (k n : ℕ) → k + n ≤ length bs → Within (length bs) ps → Apart ps k n →
    take n (drop k (all_patched bs ps)) ≡ take n (drop k bs)
part_apart bs [] k n h w a = refl
part_apart bs (x ∷ ps) k n h w a =
    let e = length_patched bs x.0 x.1 w.0 in
    part_apart (patched bs x.0 x.1) ps k n (omega arith) (within_same _ _ ps e w.1) a.1 ∙ part_out bs x.0 x.1 w.0 k n h a.0

-- The first of the patches, where the others leave it alone: a number, a run of one byte, a part.
module _ (bs : List ℕ) (ps : List (ℕ × List ℕ)) (w : Within (length bs) ps) where
  pub word_put : (a n : ℕ) → a + 4 ≤ length bs → n < 2 ^ 32 → Apart ps a 4 → word (all_patched bs ((a, word_bytes n) ∷ ps)) a ≡ n
  word_put a n h small apart =
      let e = length_patched bs a (word_bytes n) h in
      word_apart (patched bs a (word_bytes n)) ps a (within_same _ _ ps e w) apart ∙ word_in bs a n h small

  pub run_put : (a n v k : ℕ) → a + n ≤ length bs → a ≤ k → k + 4 ≤ a + n → Apart ps k 4 →
      word (all_patched bs ((a, replicate n v) ∷ ps)) k ≡ v + v * 256 + v * 65536 + v * 16777216
  run_put a n v k h low high apart =
      let e = length_patched bs a (replicate n v) (omega (arith, length-replicate n v)) in
      word_apart (patched bs a (replicate n v)) ps k (within_same _ _ ps e w) apart ∙ word_run bs a n v k h low high

  pub part_put : (a n : ℕ) (ys : List ℕ) → a + n ≤ length bs → length ys ≡ n → Apart ps a n → take n (drop a (all_patched bs ((a, ys) ∷ ps))) ≡ ys
  part_put a n ys h l apart =
      let f : a + length ys ≤ length bs = omega arith in
      let e = length_patched bs a ys f in
      part_apart (patched bs a ys) ps a n (omega arith) (within_same _ _ ps e w) apart ∙ part_in bs a ys f n l

-- Patches in the order of their places, from byte k on.
abbrev pub Rising : ℕ → List (ℕ × List ℕ) → Type 0
Rising k [] = Unit {0}
Rising k (x ∷ ps) = (k ≤ x.0) × Rising (x.0 + length x.1) ps

rising_apart : (ps : List (ℕ × List ℕ)) (low k n : ℕ) → Rising low ps → k + n ≤ low → Apart ps k n
rising_apart [] low k n r h = tt
rising_apart (x ∷ ps) low k n r h = (λ m. absurd (omega (arith, r.0)), rising_apart ps (x.0 + length x.1) k n r.1 (omega (arith, r.0)))

-- Patch i of all is y.
abbrev pub Has : List (ℕ × List ℕ) → ℕ → ℕ × List ℕ → Type 0
Has [] i y = ⊥
Has (x ∷ ps) zero y = x ≡ y
Has (x ∷ ps) (suc i) y = Has ps i y

-- Each of them is found where it was put.
pub word_among : (bs : List ℕ) (ps : List (ℕ × List ℕ)) (i low a n : ℕ) → Within (length bs) ps → Rising low ps → Has ps i (a, word_bytes n) → n < 2 ^ 32 →
    word (all_patched bs ps) a ≡ n
word_among bs [] i low a n w r e small = absurd e
word_among bs (x ∷ ps) zero low a n w r e small =
    let Put : ℕ × List ℕ → Type 0 = λ y. Within (length bs) (y ∷ ps) → Rising low (y ∷ ps) → word (all_patched bs (y ∷ ps)) a ≡ n in
    subst Put (sym e) (λ v q. word_put bs ps v.1 a n v.0 small (rising_apart ps (a + 4) a 4 q.1 (omega arith))) w r
word_among bs (x ∷ ps) (suc i) low a n w r e small =
    let l = length_patched bs x.0 x.1 w.0 in
    word_among (patched bs x.0 x.1) ps i (x.0 + length x.1) a n (within_same _ _ ps l w.1) r.1 e small

pub run_among : (bs : List ℕ) (ps : List (ℕ × List ℕ)) (i low a n v k : ℕ) → Within (length bs) ps → Rising low ps → Has ps i (a, replicate n v) →
    a ≤ k → k + 4 ≤ a + n → word (all_patched bs ps) k ≡ v + v * 256 + v * 65536 + v * 16777216
run_among bs [] i low a n v k w r e h j = absurd e
run_among bs (x ∷ ps) zero low a n v k w r e h j =
    let Put : ℕ × List ℕ → Type 0 = λ y. Within (length bs) (y ∷ ps) → Rising low (y ∷ ps) →
    word (all_patched bs (y ∷ ps)) k ≡ v + v * 256 + v * 65536 + v * 16777216 in
    let l : length (replicate n v) ≡ n = length-replicate n v in
    subst Put (sym e)
    (λ u q. run_put bs ps u.1 a n v k (omega (arith, u.0)) h j
    (rising_apart ps (a + length (replicate n v)) k 4 q.1 (omega arith))) w r
run_among bs (x ∷ ps) (suc i) low a n v k w r e h j =
    let l = length_patched bs x.0 x.1 w.0 in
    run_among (patched bs x.0 x.1) ps i (x.0 + length x.1) a n v k (within_same _ _ ps l w.1) r.1 e h j

-- A number of bytes that are all v.
pub word_all : (n v k : ℕ) → k + 4 ≤ n → word (replicate n v) k ≡ v + v * 256 + v * 65536 + v * 16777216
unfolding word
word_all n v k h = rw
    (get_or-replicate n k v 0 (omega arith), get_or-replicate n (k + 1) v 0 (omega arith), get_or-replicate n (k + 2) v 0 (omega arith), get_or-replicate n (k + 3) v 0 (omega arith))
