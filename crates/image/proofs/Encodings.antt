-- The image of a chip in range has everything that the check asks.
use Rattle.std.proofs.Common.{◌≡◌, ℕ, zero, suc, ◌+◌, ◌*◌, ◌^◌, ◌<◌, ◌≤◌, List, [], ◌∷◌, ◌++◌, length, replicate, refl, ap, ◌∙◌, ⊎_elim, mul-le-mul, arith, length-append}
use lib.ListN.{length-replicate}
use Rattle.std.proofs.ByRecursion.{All-append, All-get_or}
use Rattle.std.proofs.lemmas.List.{get_or_past}
use Rattle.std.proofs.lemmas.Bool.{cases_lt}
use Rattle.std.specs.List.{flat_map, AllByRecursion}
use Rattle.image.specs.Chip.{Chip, counted, numbers, encoding, InRange, Fits32, WholePage, blank_chip}
use Rattle.image.specs.Format.{word, in_bytes, word_bytes, image_length}
use Rattle.image.proofs.Checks.{Accepted}
use Rattle.std.proofs.lemmas.Nat.{from_le_bytes-to_le_bytes_4}
use Rattle.image.proofs.Words.{Bytes, word_past}

-- items of m bytes each
pub length_items : {X : Type 0} (bytes : X → List ℕ) (m : ℕ) (xs : List X) → AllByRecursion (λ x. length (bytes x) ≡ m) xs → length (flat_map bytes xs) ≡ m * length xs
length_items bytes m [] h = omega arith
length_items bytes m (x ∷ xs) h =
    let e = length-append (bytes x) (flat_map bytes xs) in
    let r = length_items bytes m xs h.1 in
    let f = h.0 in
    omega arith

each_whole : (xs : List (List ℕ)) → AllByRecursion WholePage xs → AllByRecursion (λ x. length x ≡ 512) xs
each_whole [] h = tt
each_whole (x ∷ xs) h = (h.0.0, each_whole xs h.1)

length_numbers : (xs : List ℕ) → length (numbers xs) ≡ 4 + 4 * length xs
length_numbers xs = let e = length_items word_bytes 4 xs (each_four xs) in omega arith
  where
    each_four : (xs : List ℕ) → AllByRecursion (λ x. length (word_bytes x) ≡ 4) xs
    each_four [] = tt
    each_four (x ∷ xs) = (refl, each_four xs)

length_pages : (xs : List (List ℕ)) → AllByRecursion WholePage xs → length (counted (λ page. page) xs) ≡ 4 + 512 * length xs
length_pages xs h = let e = length_items (λ page. page) 512 xs (each_whole xs h) in omega arith

-- the count of a section that stands first
count_first : {X : Type 0} (bytes : X → List ℕ) (xs : List X) (zs : List ℕ) (n : ℕ) → length xs ≡ n → n < 2 ^ 32 → word (counted bytes xs ++ zs) 0 ≡ n
unfolding word
count_first bytes xs zs n e h = from_le_bytes-to_le_bytes_4 (length xs) (omega arith) ∙ e

-- the same past one section, and past two
module _ {X : Type 0} (bytes : X → List ℕ) (xs : List X) (n : ℕ) (e : length xs ≡ n) (h : n < 2 ^ 32) where
  count_second : (s zs : List ℕ) (k : ℕ) → length s ≡ k → word (s ++ (counted bytes xs ++ zs)) k ≡ n
  count_second s zs k f = word_past s (counted bytes xs ++ zs) k 0 (omega arith) ∙ count_first bytes xs zs n e h

  count_third : (s t zs : List ℕ) (k j : ℕ) → length s + j ≡ k → length t ≡ j → word (s ++ (t ++ (counted bytes xs ++ zs))) k ≡ n
  count_third s t zs k j f g = word_past s (t ++ (counted bytes xs ++ zs)) k j f ∙ count_second t zs j g

module _ (c : Chip) (ok : InRange c) where
  few : c.blocks * c.pages ≤ 262144
  few = mul-le-mul {n₂ = 4096} {m₂ = 64} ok.most_blocks ok.most_pages

  pub length_encoding : length (encoding c) ≡ image_length c.blocks c.pages
  unfolding encoding
  length_encoding =
      let s₂ : List ℕ = numbers c.counts in
      let s₃ : List ℕ = numbers c.sectors in
      let s₄ : List ℕ = numbers c.stamps in
      let s₅ : List ℕ = counted (λ page. page) c.contents in
      omega (
        arith,
        length_numbers c.counts,
        length_numbers c.sectors,
        length_numbers c.stamps,
        length_pages c.contents ok.contents_whole,
        length-append s₂ (s₃ ++ (s₄ ++ s₅)),
        length-append s₃ (s₄ ++ s₅),
        length-append s₄ s₅,
      )

  pub encoding_accepted : Accepted (in_bytes (encoding c)) c.blocks c.pages c.life
  unfolding encoding word
  encoding_accepted =
      let small = few in
      let s₁ : List ℕ = numbers (c.blocks ∷ c.pages ∷ c.life ∷ []) in
      let s₂ : List ℕ = numbers c.counts in
      let s₃ : List ℕ = numbers c.sectors in
      let s₄ : List ℕ = numbers c.stamps in
      let s₅ : List ℕ = counted (λ page. page) c.contents in
      let n₂ : length (numbers c.counts) ≡ 4 + 4 * c.blocks = length_numbers c.counts ∙ ap (λ n. 4 + 4 * n) ok.all_counts in
      let n₃ : length (numbers c.sectors) ≡ 4 + 4 * (c.blocks * c.pages) = length_numbers c.sectors ∙ ap (λ n. 4 + 4 * n) ok.all_sectors in
      let n₄ : length (numbers c.stamps) ≡ 4 + 4 * (c.blocks * c.pages) = length_numbers c.stamps ∙ ap (λ n. 4 + 4 * n) ok.all_stamps in
      record {
        first = refl;
        blocks = from_le_bytes-to_le_bytes_4 c.blocks (omega arith);
        pages = from_le_bytes-to_le_bytes_4 c.pages (omega arith);
        life = from_le_bytes-to_le_bytes_4 c.life (omega arith);
        counts = count_second word_bytes c.counts c.blocks ok.all_counts (omega arith) s₁ (s₃ ++ (s₄ ++ s₅)) 16 refl;
        sectors = count_third word_bytes c.sectors (c.blocks * c.pages) ok.all_sectors (omega arith) s₁ s₂ (s₄ ++ s₅)
            (20 + 4 * c.blocks) (4 + 4 * c.blocks) (omega arith) n₂;
        stamps = word_past s₁ (s₂ ++ (s₃ ++ (s₄ ++ s₅))) (24 + 4 * c.blocks + 4 * (c.blocks * c.pages)) (8 + 4 * c.blocks + 4 * (c.blocks * c.pages)) (omega arith)
            ∙ count_third word_bytes c.stamps (c.blocks * c.pages) ok.all_stamps (omega arith) s₂ s₃ s₅
            (8 + 4 * c.blocks + 4 * (c.blocks * c.pages)) (4 + 4 * (c.blocks * c.pages)) (omega arith) n₃;
        contents = word_past s₁ (s₂ ++ (s₃ ++ (s₄ ++ s₅))) (28 + 4 * c.blocks + 8 * (c.blocks * c.pages)) (12 + 4 * c.blocks + 8 * (c.blocks * c.pages)) (omega arith)
            ∙ word_past s₂ (s₃ ++ (s₄ ++ s₅)) (12 + 4 * c.blocks + 8 * (c.blocks * c.pages)) (8 + 8 * (c.blocks * c.pages)) (omega arith)
            ∙ word_past s₃ (s₄ ++ s₅) (8 + 8 * (c.blocks * c.pages)) (4 + 4 * (c.blocks * c.pages)) (omega arith)
            ∙ word_past s₄ s₅ (4 + 4 * (c.blocks * c.pages)) 0 (omega arith)
            ∙ from_le_bytes-to_le_bytes_4 (length c.contents) (omega arith) ∙ ok.all_contents;
        long = length_encoding;
        b_low = ok.some_blocks;
        b_high = ok.most_blocks;
        p_low = ok.some_pages;
        p_high = ok.most_pages;
        l_low = ok.some_life;
        l_high = ok.most_life;
      }

-- what is made of bytes is made of bytes
abbrev Small : List ℕ → Type 0
Small = AllByRecursion (λ b. b < 256)

small_word : (n : ℕ) → Small (word_bytes n)
small_word n = (omega arith, (omega arith, (omega arith, (omega arith, tt))))

small_items : {X : Type 0} (bytes : X → List ℕ) (xs : List X) → AllByRecursion (λ x. Small (bytes x)) xs → Small (flat_map bytes xs)
small_items bytes [] h = tt
small_items bytes (x ∷ xs) h = All-append (λ b. b < 256) (bytes x) (flat_map bytes xs) h.0 (small_items bytes xs h.1)

small_numbers : (xs : List ℕ) → Small (numbers xs)
small_numbers xs = All-append (λ b. b < 256) (word_bytes (length xs)) (flat_map word_bytes xs) (small_word (length xs)) (small_items word_bytes xs (each xs))
  where
    each : (xs : List ℕ) → AllByRecursion (λ x. Small (word_bytes x)) xs
    each [] = tt
    each (x ∷ xs) = (small_word x, each xs)

small_pages : (xs : List (List ℕ)) → AllByRecursion WholePage xs → Small (counted (λ page. page) xs)
small_pages xs h = All-append (λ b. b < 256) (word_bytes (length xs)) (flat_map (λ page. page) xs) (small_word (length xs)) (small_items (λ page. page) xs (each xs h))
  where
    each : (xs : List (List ℕ)) → AllByRecursion WholePage xs → AllByRecursion (λ x. Small x) xs
    each [] h = tt
    each (x ∷ xs) h = (h.0.1, each xs h.1)

pub small_bytes : (bs : List ℕ) → Small bs → Bytes bs
small_bytes bs h k = ⊎_elim (λ l. All-get_or (λ b. b < 256) bs k 0 l h) (λ l. let e = get_or_past bs k 0 l in omega arith) (cases_lt k (length bs))

pub encoding_bytes : (c : Chip) → InRange c → Bytes (encoding c)
unfolding encoding
encoding_bytes c ok =
    let both : (xs ys : List ℕ) → Small xs → Small ys → Small (xs ++ ys) = All-append (λ b. b < 256) in
    let s₁ : List ℕ = numbers (c.blocks ∷ c.pages ∷ c.life ∷ []) in
    let s₂ : List ℕ = numbers c.counts in
    let s₃ : List ℕ = numbers c.sectors in
    let s₄ : List ℕ = numbers c.stamps in
    let s₅ : List ℕ = counted (λ page. page) c.contents in
    let b₄ = both s₄ s₅ (small_numbers c.stamps) (small_pages c.contents ok.contents_whole) in
    let b₃ = both s₃ (s₄ ++ s₅) (small_numbers c.sectors) b₄ in
    let b₂ = both s₂ (s₃ ++ (s₄ ++ s₅)) (small_numbers c.counts) b₃ in
    small_bytes (encoding c) (both s₁ (s₂ ++ (s₃ ++ (s₄ ++ s₅))) (small_numbers (c.blocks ∷ c.pages ∷ c.life ∷ [])) b₂)

all_replicate : {X : Type 0} (P : X → Type 0) (n : ℕ) (x : X) → P x → AllByRecursion P (replicate n x)
all_replicate P zero x h = tt
all_replicate P (suc n) x h = (h, all_replicate P n x h)

pub blank_in_range : (b p l : ℕ) → 1 ≤ b → b ≤ 4096 → 1 ≤ p → p ≤ 64 → 1 ≤ l → l ≤ 100000 → InRange (blank_chip b p l)
blank_in_range b p l b_low b_high p_low p_high l_low l_high = record {
  some_blocks = b_low;
  most_blocks = b_high;
  some_pages = p_low;
  most_pages = p_high;
  some_life = l_low;
  most_life = l_high;
  all_counts = length-replicate b 0;
  all_sectors = length-replicate (b * p) 0xFFFFFFFF;
  all_stamps = length-replicate (b * p) 0xFFFFFFFF;
  all_contents = length-replicate (b * p) (replicate 512 0xFF);
  counts_fit = all_replicate Fits32 b 0 (omega arith);
  sectors_fit = all_replicate Fits32 (b * p) 0xFFFFFFFF (omega arith);
  stamps_fit = all_replicate Fits32 (b * p) 0xFFFFFFFF (omega arith);
  contents_whole = all_replicate WholePage (b * p) (replicate 512 0xFF) (length-replicate {A = ℕ} 512 0xFF, all_replicate (λ b. b < 256) 512 0xFF (omega arith));
}
