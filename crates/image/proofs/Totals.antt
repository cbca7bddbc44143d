-- The erase counts that stand in an image, one by one and added up.
use Rattle.std.proofs.Common.{◌≡◌, ℕ, zero, suc, ◌+◌, ◌*◌, ◌<◌, ◌≤◌, List, [], ◌∷◌, ◌++◌, length, sum, sym, refl, ap, ◌∙◌, append_assoc, add-one, arith, get_or, take, drop, drop-drop, length-append, w32}
use Rattle.std.proofs.lemmas.List.Sums.{sum_by_push}
use Rattle.std.specs.List.{flat_map, AllByRecursion}
use Rattle.std.specs.Int.{from_le_bytes}
use Rattle.std.specs.Simd.{first_chunks}
use Rattle.image.specs.Chip.{Chip, counted, numbers, encoding, InRange, Fits32}
use Rattle.image.specs.Format.{word, word_bytes, items_from, words_from}
use Rattle.image.proofs.Words.{word_first, word_past, word_part}

items_push : {X : Type 0} (item : ℕ → X) (m k n : ℕ) → items_from item m k (suc n) ≡ items_from item m k n ++ (item (k + m * n) ∷ [])
items_push item m k zero = let e : k + m * 0 ≡ k = omega arith in rw e
items_push item m k (suc n) =
    let e : k + m * suc n ≡ k + m + m * n = omega arith in
    ap (λ xs. item k ∷ xs) (items_push item m (k + m) n ∙ rw e)

pub total_more : (bs : List ℕ) (k n : ℕ) → sum (words_from bs k (n + 1)) ≡ sum (words_from bs k n) + word bs (k + 4 * n)
total_more bs k n = rw add-one (ap sum (items_push (word bs) 4 k n) ∙ sum_by_push (λ x. x) (words_from bs k n) (word bs (k + 4 * n)))

-- one of the chunks of some numbers in a row is the number at its place
chunk_at : (ys : List ℕ) (n i : ℕ) → i < n → get_or (first_chunks 4 n ys) i [] ≡ take 4 (drop (4 * i) ys)
chunk_at ys zero i h = absurd (omega arith)
chunk_at ys (suc n) zero h = refl
chunk_at ys (suc n) (suc i) h =
    let e : 4 * suc i ≡ 4 + 4 * i = omega arith in
    chunk_at (drop 4 ys) n i (omega arith) ∙ ap (take 4) (drop-drop (4 * i) 4 ys ∙ ap (λ k. drop k ys) (sym e))

pub chunk_word : (bs : List ℕ) (k m n i : ℕ) (chunks : List (List ℕ)) → chunks ≡ first_chunks 4 n (take m (drop k bs)) → i < n → 4 * n ≤ m → k + m ≤ length bs →
    from_le_bytes w32 (get_or chunks i []) ≡ word bs (k + 4 * i)
chunk_word bs k m n i chunks e h j l =
    word_part bs (get_or chunks i []) k m (4 * i) (ap (λ zs. get_or zs i []) e ∙ chunk_at (take m (drop k bs)) n i h) (omega arith) l

-- numbers that stand after a front of the bytes
words_joined : (xs front rest : List ℕ) (k : ℕ) → length front ≡ k → AllByRecursion Fits32 xs → words_from (front ++ (flat_map word_bytes xs ++ rest)) k (length xs) ≡ xs
words_joined [] front rest k e h = refl
words_joined (x ∷ xs) front rest k e h =
    let r = words_joined xs (front ++ word_bytes x) rest (k + 4) (length-append front (word_bytes x) ∙ omega arith) h.1 in
    let same = sym (append_assoc front (word_bytes x) (flat_map word_bytes xs ++ rest)) in
    let first = word_past front (flat_map word_bytes (x ∷ xs) ++ rest) k 0 (omega arith) ∙ word_first x (flat_map word_bytes xs ++ rest) h.0 in
    ap (λ ys. word (front ++ (flat_map word_bytes (x ∷ xs) ++ rest)) k ∷ ys) (ap (λ zs. words_from zs (k + 4) (length xs)) same ∙ r)
    ∙ ap (λ y. y ∷ xs) first

-- the erase counts of a chip in its image
pub counts_encoded : (c : Chip) → InRange c → words_from (encoding c) 20 c.blocks ≡ c.counts
unfolding encoding
counts_encoded c ok =
    let front : List ℕ = numbers (c.blocks ∷ c.pages ∷ c.life ∷ []) ++ word_bytes (length c.counts) in
    let rest : List ℕ = numbers c.sectors ++ (numbers c.stamps ++ counted (λ page. page) c.contents) in
    ap (words_from (front ++ (flat_map word_bytes c.counts ++ rest)) 20) (sym ok.all_counts) ∙ words_joined c.counts front rest 20 refl ok.counts_fit
