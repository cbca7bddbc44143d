-- Bytes that have everything that the check asks are the image of a chip in range.
use Rattle.std.proofs.Common.{◌≡◌, ℕ, zero, suc, ◌+◌, ◌*◌, ◌<◌, ◌≤◌, List, [], ◌∷◌, ◌++◌, length, take, drop, sym, refl, ap, ◌∙◌, arith, length-drop, take-append-drop, length-take, take_all, drop-drop, take-add}
use Rattle.std.proofs.ByRecursion.{All-from_get_or}
use Rattle.std.proofs.lemmas.List.{get_or-take, get_or-drop}
use Rattle.std.specs.List.{flat_map, AllByRecursion}
use Rattle.image.specs.Chip.{Chip, counted, numbers, encoding, InRange, Fits32, WholePage}
use Rattle.image.specs.Format.{word, in_bytes, word_bytes, items_from, words_from}
use Rattle.image.proofs.Checks.{Accepted}
use Rattle.image.proofs.Words.{Bytes, word_bytes_at, word_fits}

pub length_items_from : {X : Type 0} (item : ℕ → X) (m k n : ℕ) → length (items_from item m k n) ≡ n
length_items_from item m k zero = refl
length_items_from item m k (suc n) = ap suc (length_items_from item m (k + m) n)

all_items_from : {X : Type 0} (P : X → Type 0) (item : ℕ → X) (m k n e : ℕ) → k + m * n ≤ e → ((j : ℕ) → j + m ≤ e → P (item j)) → AllByRecursion P (items_from item m k n)
all_items_from P item m k zero e h p = tt
all_items_from P item m k (suc n) e h p = (p k (omega arith), all_items_from P item m (k + m) n e (omega arith) p)

module _ (bs : List ℕ) where
  unfoldable pub page_at : ℕ → List ℕ
  page_at k = take 512 (drop k bs)

  -- items whose bytes are the ones that stand there, one after the other
  joined_items : {X : Type 0} (bytes : X → List ℕ) (item : ℕ → X) (m : ℕ) →
      ((j : ℕ) → j + m ≤ length bs → bytes (item j) ≡ take m (drop j bs)) →
      (k n : ℕ) → k + m * n ≤ length bs → flat_map bytes (items_from item m k n) ≡ take (m * n) (drop k bs)
  joined_items bytes item m same k zero h = let e : m * 0 ≡ 0 = omega arith in rw e
  joined_items bytes item m same k (suc n) h =
      let e : m * suc n ≡ m + m * n = omega arith in
      let f = same k (omega arith) in
      let r = joined_items bytes item m same (k + m) n (omega arith) in
      let t = take-add m (m * n) (drop k bs) in
      let d = drop-drop m k bs in
      rw (e, t, d, f, r)

  -- a whole section
  counted_items : {X : Type 0} (bytes : X → List ℕ) (item : ℕ → X) (m : ℕ) →
      ((j : ℕ) → j + m ≤ length bs → bytes (item j) ≡ take m (drop j bs)) → Bytes bs →
      (k n : ℕ) → word bs k ≡ n → k + 4 + m * n ≤ length bs → counted bytes (items_from item m (k + 4) n) ≡ take (4 + m * n) (drop k bs)
  counted_items bytes item m same byte k n e h =
      let l = length_items_from item m (k + 4) n in
      let w = word_bytes_at bs k byte (omega arith) in
      let r = joined_items bytes item m same (k + 4) n h in
      let t = take-add 4 (m * n) (drop k bs) in
      let d = drop-drop 4 k bs in
      ap (λ z. word_bytes z ++ flat_map bytes (items_from item m (k + 4) n)) (l ∙ sym e)
      ∙ ap (λ four. four ++ flat_map bytes (items_from item m (k + 4) n)) w
      ∙ rw (t, d, r)

  -- the bytes from k on are those up to j and those from j on
  glue : (xs ys : List ℕ) (m k j : ℕ) → xs ≡ take m (drop k bs) → ys ≡ drop j bs → k + m ≡ j → xs ++ ys ≡ drop k bs
  glue xs ys m k j e f h = let d = drop-drop m k bs in rw (e, f, ← h, ← d) (take-append-drop m (drop k bs))

  -- the chip that the bytes show
  unfoldable pub decoded : ℕ → ℕ → ℕ → Chip
  decoded b p l = record {
    blocks = b;
    pages = p;
    life = l;
    counts = words_from bs 20 b;
    sectors = words_from bs (24 + 4 * b) (b * p);
    stamps = words_from bs (28 + 4 * b + 4 * (b * p)) (b * p);
    contents = items_from page_at 512 (32 + 4 * b + 8 * (b * p)) (b * p);
  }

  module _ (b p l : ℕ) (byte : Bytes bs) (a : Accepted (in_bytes bs) b p l) where
    words_fit : (k n : ℕ) → AllByRecursion Fits32 (words_from bs k n)
    words_fit k n = all_items_from Fits32 (word bs) 4 k n (k + 4 * n) (omega arith) (λ j h. word_fits bs j byte)

    whole_page : (j : ℕ) → j + 512 ≤ length bs → WholePage (page_at j)
    unfolding page_at
    whole_page j h =
        let e : length (take 512 (drop j bs)) ≡ 512 = length-take 512 (drop j bs) ∙ omega (arith, length-drop j bs) in (
          e,
          All-from_get_or (λ x. x < 256) (take 512 (drop j bs)) 0
              (λ i m. let g = get_or-take 512 (drop j bs) i 0 (omega arith) in let f = get_or-drop j bs i 0 in omega (arith, byte (j + i))),
        )

    pub decoded_in_range : InRange (decoded b p l)
    unfolding decoded
    decoded_in_range = record {
      some_blocks = a.b_low;
      most_blocks = a.b_high;
      some_pages = a.p_low;
      most_pages = a.p_high;
      some_life = a.l_low;
      most_life = a.l_high;
      all_counts = length_items_from (word bs) 4 20 b;
      all_sectors = length_items_from (word bs) 4 (24 + 4 * b) (b * p);
      all_stamps = length_items_from (word bs) 4 (28 + 4 * b + 4 * (b * p)) (b * p);
      all_contents = length_items_from page_at 512 (32 + 4 * b + 8 * (b * p)) (b * p);
      counts_fit = words_fit 20 b;
      sectors_fit = words_fit (24 + 4 * b) (b * p);
      stamps_fit = words_fit (28 + 4 * b + 4 * (b * p)) (b * p);
      contents_whole = all_items_from WholePage page_at 512 (32 + 4 * b + 8 * (b * p)) (b * p) (length bs) (omega arith) whole_page;
    }

    -- a section of numbers, and the section of pages
    number_section : (k j n : ℕ) → k + 4 ≡ j → word bs k ≡ n → j + 4 * n ≤ length bs → numbers (words_from bs j n) ≡ take (4 + 4 * n) (drop k bs)
    number_section k j n e h i =
        rw (← e) (counted_items word_bytes (word bs) 4 (λ m q. word_bytes_at bs m byte q) byte k n h (omega arith))

    page_section : (k j n : ℕ) → k + 4 ≡ j → word bs k ≡ n → j + 512 * n ≤ length bs →
        counted (λ page. page) (items_from page_at 512 j n) ≡ take (4 + 512 * n) (drop k bs)
    unfolding page_at
    page_section k j n e h i =
        rw (← e) (counted_items (λ page. page) page_at 512 (λ m q. refl) byte k n h (omega arith))

    pub encoding_decoded : encoding (decoded b p l) ≡ bs
    unfolding decoded encoding
    encoding_decoded =
        let s₁ : numbers (b ∷ p ∷ l ∷ []) ≡ take 16 (drop 0 bs) =
        ap (λ x. numbers (x ∷ p ∷ l ∷ [])) (sym a.blocks) ∙ ap (λ x. numbers (word bs 4 ∷ x ∷ l ∷ [])) (sym a.pages)
        ∙ ap (λ x. numbers (word bs 4 ∷ word bs 8 ∷ x ∷ [])) (sym a.life) ∙ number_section 0 4 3 refl a.first (omega arith) in
        let s₂ = number_section 16 20 b refl a.counts (omega arith) in
        let s₃ = number_section (20 + 4 * b) (24 + 4 * b) (b * p) (omega arith) a.sectors (omega arith) in
        let s₄ = number_section (24 + 4 * b + 4 * (b * p)) (28 + 4 * b + 4 * (b * p)) (b * p) (omega arith) a.stamps (omega arith) in
        let s₅ = page_section (28 + 4 * b + 8 * (b * p)) (32 + 4 * b + 8 * (b * p)) (b * p) (omega arith) a.contents (omega arith) in
        let x₅ : List ℕ = counted (λ page. page) (items_from page_at 512 (32 + 4 * b + 8 * (b * p)) (b * p)) in
        let x₄ : List ℕ = numbers (words_from bs (28 + 4 * b + 4 * (b * p)) (b * p)) in
        let x₃ : List ℕ = numbers (words_from bs (24 + 4 * b) (b * p)) in
        let x₂ : List ℕ = numbers (words_from bs 20 b) in
        let j₅ = s₅ ∙ take_all (4 + 512 * (b * p)) (drop (28 + 4 * b + 8 * (b * p)) bs) (omega (arith, length-drop (28 + 4 * b + 8 * (b * p)) bs)) in
        let j₄ = glue x₄ x₅ (4 + 4 * (b * p)) (24 + 4 * b + 4 * (b * p)) (28 + 4 * b + 8 * (b * p)) s₄ j₅ (omega arith) in
        let j₃ = glue x₃ (x₄ ++ x₅) (4 + 4 * (b * p)) (20 + 4 * b) (24 + 4 * b + 4 * (b * p)) s₃ j₄ (omega arith) in
        let j₂ = glue x₂ (x₃ ++ (x₄ ++ x₅)) (4 + 4 * b) 16 (20 + 4 * b) s₂ j₃ (omega arith) in
        glue (numbers (b ∷ p ∷ l ∷ [])) (x₂ ++ (x₃ ++ (x₄ ++ x₅))) 16 0 16 s₁ j₂ refl
