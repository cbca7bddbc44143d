-- A blank image is accepted and means a blank device, and the writer's answer is the check's.
use Rattle.std.proofs.Common.{◌≡◌, ℕ, ◌+◌, ◌*◌, ◌^◌, ◌<◌, ◌≤◌, List, length, replicate, sym, refl, ap, ◌∙◌, subst, ⊎_elim, arith}
use lib.ListN.{length-replicate}
use Rattle.std.proofs.lemmas.Nat.{mul-add-lt, mul-le}
use Rattle.std.proofs.lemmas.Bool.{cases_lt}
use Rattle.std.proofs.lemmas.Bool.Decides.{nat_tests}
use Rattle.flash.specs.BlankImage.{blank_patches, blank_image, blank_flash, planned, room_checked, States, Verdict}
use Rattle.flash.specs.Meaning.{blank}
use Rattle.flash.specs.Patched.{all_patched}
use Rattle.flash.specs.Stored.{page_at, image_in, chip_flash, geometry_by, image_flash, Fits}
use Rattle.flash.proofs.Patches.{Within, Rising, Has, length_all, word_apart, word_among, run_among, word_all}
use Rattle.flash.proofs.Same.{same_flash}
use Rattle.image.proofs.Checks.{Accepted, section_found, ranged_found, sound_in, complete_in, complete}
use Rattle.image.specs.declared.shape.Geometry.{Geometry}
use Rattle.image.specs.Format.{word, word_bytes, image_length, count_place, sector_place, Found, found, fault, Words, in_bytes, Placed, placed, misplaced, within, and_then, with_shape, ranged_at, section_at, end_at, shape_at, shape_blocks, shape_pages, shape_life, checked_counts, checked_sectors, checked_stamps, checked_contents, checked_end, Checked, accepted, checked_in, checked}

module _ (g : Geometry) (f : Fits (image_length g.blocks g.pages) g) where
  abbrev numbers : List (ℕ × List ℕ)
  numbers = blank_patches g.blocks g.pages g.life

  abbrev ones : List ℕ
  ones = replicate (image_length g.blocks g.pages) 255

  long : length {A = ℕ} ones ≡ image_length g.blocks g.pages
  long = length-replicate (image_length g.blocks g.pages) 255

  zeros : length {A = ℕ} (replicate (4 * g.blocks) 0) ≡ 4 * g.blocks
  zeros = length-replicate (4 * g.blocks) 0

  few : g.blocks * g.pages ≤ 262144
  few = mul-le g.blocks g.pages 4096 64 f.most_blocks f.most_pages

  numbers_within : Within (length ones) numbers
  numbers_within =
      let l = long in
      let z = zeros in
      (omega arith, (omega arith, (omega arith, (omega arith, (omega arith, (omega arith, (omega arith, (omega arith, (omega arith, tt)))))))))

  numbers_rising : Rising 0 numbers
  numbers_rising =
      let z = zeros in
      (omega arith, (omega arith, (omega arith, (omega arith, (omega arith, (omega arith, (omega arith, (omega arith, (omega arith, tt)))))))))

  -- number i of them, at byte a
  number : (i a n : ℕ) → Has numbers i (a, word_bytes n) → n < 2 ^ 32 → word (all_patched ones numbers) a ≡ n
  number i a n e small = word_among ones numbers i 0 a n numbers_within numbers_rising e small

  blank_accepted : Accepted (in_bytes (all_patched ones numbers)) g.blocks g.pages g.life
  blank_accepted = record {
    first = number 0 0 3 refl (omega arith);
    blocks = number 1 4 g.blocks refl (omega arith);
    pages = number 2 8 g.pages refl (omega arith);
    life = number 3 12 g.life refl (omega arith);
    counts = number 4 16 g.blocks refl (omega arith);
    sectors = number 6 (20 + 4 * g.blocks) (g.blocks * g.pages) refl (omega (arith, few));
    stamps = number 7 (24 + 4 * g.blocks + 4 * (g.blocks * g.pages)) (g.blocks * g.pages) refl (omega (arith, few));
    contents = number 8 (28 + 4 * g.blocks + 8 * (g.blocks * g.pages)) (g.blocks * g.pages) refl (omega (arith, few));
    long = length_all ones numbers numbers_within ∙ long;
    b_low = f.some_blocks;
    b_high = f.most_blocks;
    p_low = f.some_pages;
    p_high = f.most_pages;
    l_low = f.some_life;
    l_high = f.most_life;
  }

  blank_count : (c : ℕ) → c < g.blocks → word (all_patched ones numbers) (count_place c) ≡ 0
  blank_count c h = run_among ones numbers 5 0 20 (4 * g.blocks) 0 (count_place c) numbers_within numbers_rising refl (omega arith) (omega arith)

  blank_page : (n : ℕ) → n < g.blocks * g.pages → page_at (all_patched ones numbers) g.blocks g.pages n ≡ blank
  unfolding page_at
  blank_page n h =
      let z = zeros in
      let l = long in
      let e : word (all_patched ones numbers) (sector_place g.blocks n) ≡ 0xFFFFFFFF =
      word_apart ones numbers (sector_place g.blocks n) numbers_within
      (λ m. omega arith, (λ m. omega arith, (λ m. omega arith, (λ m. omega arith, (λ m. omega arith, (λ m. omega arith, (λ m. omega arith, (λ m. omega arith, (λ m. omega arith, tt)))))))))
      ∙ word_all (image_length g.blocks g.pages) 255 (sector_place g.blocks n) (omega arith) in
      rw e

  blank_means : image_in (all_patched ones numbers) g ≡ blank_flash g.blocks g.pages g.life
  blank_means = same_flash _ _ refl refl refl
      (λ c. ⊎_elim (λ (h : c < g.blocks). let e = blank_count c h in grind (arith, nat_tests)) (λ (h : g.blocks ≤ c). grind (arith, nat_tests)) (cases_lt c g.blocks))
      (λ c i. ⊎_elim
      (λ (h : c < g.blocks). ⊎_elim
      (λ (k : i < g.pages). let e = blank_page (c * g.pages + i) (omega (arith, mul-add-lt c g.pages i g.blocks h k)) in grind (arith, nat_tests))
      (λ (k : g.pages ≤ i). grind (arith, nat_tests))
      (cases_lt i g.pages))
      (λ (h : g.blocks ≤ c). grind (arith, nat_tests))
      (cases_lt c g.blocks))

  blank_is : (checked (blank_image g.blocks g.pages g.life) ≡ accepted g.blocks g.pages g.life)
      × (image_flash (blank_image g.blocks g.pages g.life) ≡ blank_flash g.blocks g.pages g.life)
  unfolding blank_image image_flash
  blank_is =
      let k = complete (all_patched ones numbers) g.blocks g.pages g.life blank_accepted in
      (k, ap (λ x. chip_flash (all_patched ones numbers) (geometry_by x)) k ∙ blank_means)

shape_then : (x : Placed) (next : ℕ → Checked) (rest : ℕ → ℕ → ℕ → Checked) → with_shape (and_then x next) rest ≡ and_then x (λ n. with_shape (next n) rest)
shape_then (placed n) next rest = refl
shape_then (misplaced m s k) next rest = refl

-- two readings that find the same, and go on alike from there
alike : (s : ℕ) (x y : Found) (f g : ℕ → Checked) → x ≡ y → ((n : ℕ) → y ≡ found n → f n ≡ g n) → and_then (within s x) f ≡ and_then (within s y) g
alike s x (found n) f g e h = let z = h n refl in rw e z
alike s x (fault m k) f g e h = rw e

-- The check says the same of two sources of one size whose numbers are the same wherever it reads them.
module _ (x y : Words) (size : x.size ≡ y.size) where
  -- the same number at byte k, if there is one
  abbrev Agree : ℕ → Type 0
  Agree k = k + 4 ≤ y.size → x.word k ≡ y.word k

  section_same : (k n m : ℕ) → Agree k → section_at x k n m ≡ section_at y k n m
  unfolding section_at
  section_same k n m h = ⊎_elim (λ (e : y.size < k + 4). grind (arith, nat_tests)) (λ (e : k + 4 ≤ y.size). let w = h e in grind (arith, nat_tests)) (cases_lt y.size (k + 4))

  ranged_same : (k most : ℕ) → Agree k → ranged_at x k most ≡ ranged_at y k most
  unfolding ranged_at
  ranged_same k most h = ⊎_elim (λ (e : y.size < k + 4). grind (arith, nat_tests)) (λ (e : k + 4 ≤ y.size). let w = h e in grind (arith, nat_tests)) (cases_lt y.size (k + 4))

  end_same : (k : ℕ) → end_at x k ≡ end_at y k
  unfolding end_at
  end_same k = rw size

  -- a section that begins at byte k, and ends at byte e
  section_alike : (i k n m e : ℕ) (f g : ℕ → Checked) → k + 4 + m ≡ e → Agree k → f e ≡ g e →
      and_then (within i (section_at x k n m)) f ≡ and_then (within i (section_at y k n m)) g
  section_alike i k n m e f g to h z =
      alike i (section_at x k n m) (section_at y k n m) f g (section_same k n m h)
      (λ j q. let r : j ≡ e = (section_found y k n m j q).1 ∙ to in rw r z)

  -- a number that is v, from 1 to most
  ranged_alike : (k v most : ℕ) (f g : ℕ → Checked) → Agree k → y.word k ≡ v → (1 ≤ v → v ≤ most → f v ≡ g v) →
      and_then (within 1 (ranged_at x k most)) f ≡ and_then (within 1 (ranged_at y k most)) g
  ranged_alike k v most f g h w z =
      alike 1 (ranged_at x k most) (ranged_at y k most) f g (ranged_same k most h)
      (λ j q. let r = ranged_found y k most j q in let e : j ≡ v = sym r.0 ∙ w in let u = z (omega arith) (omega arith) in rw e u)

-- the counts of the last three sections of a plan
all_pages : (n b p l k : ℕ) → 16 < k → b ≤ 4096 → p ≤ 64 → (planned n b p l).word k ≡ b * p
all_pages n b p l k h u v = let few = mul-le b p 4096 64 u v in grind (arith, nat_tests)

module _ (bs : List ℕ) (b p l : ℕ) (s : States bs b p l) where
  abbrev N : ℕ
  N = length bs

  abbrev here : Words
  here = in_bytes bs

  abbrev there : Words
  there = planned N b p l

  rest_alike : b ≤ 4096 → p ≤ 64 → checked_counts here b p l ≡ checked_counts there b p l
  rest_alike u v =
      section_alike here there refl 2 16 b (4 * b) (20 + 4 * b) (checked_sectors here b p l) (checked_sectors there b p l) (omega arith) s.counts
      (section_alike here there refl 3 (20 + 4 * b) (b * p) (4 * (b * p)) (24 + 4 * b + 4 * (b * p)) (checked_stamps here b p l) (checked_stamps there b p l) (omega arith)
      (λ h. s.sectors (omega arith) ∙ sym (all_pages N b p l (20 + 4 * b) (omega arith) u v))
      (section_alike here there refl 4 (24 + 4 * b + 4 * (b * p)) (b * p) (4 * (b * p)) (28 + 4 * b + 8 * (b * p)) (checked_contents here b p l) (checked_contents there b p l) (omega arith)
      (λ h. s.stamps (omega arith) ∙ sym (all_pages N b p l (24 + 4 * b + 4 * (b * p)) (omega arith) u v))
      (section_alike here there refl 5 (28 + 4 * b + 8 * (b * p)) (b * p) (512 * (b * p)) (image_length b p) (checked_end here b p l) (checked_end there b p l) (omega arith)
      (λ h. s.contents (omega arith) ∙ sym (all_pages N b p l (28 + 4 * b + 8 * (b * p)) (omega arith) u v))
      (ap (λ z. and_then (within 5 z) (λ _. accepted b p l)) (end_same here there refl (image_length b p))))))

  shape_alike : with_shape (shape_blocks here) (checked_counts here) ≡ with_shape (shape_blocks there) (checked_counts there)
  shape_alike =
      shape_then (within 1 (ranged_at here 4 4096)) (λ z. shape_pages here z) (checked_counts here)
      ∙ ranged_alike here there refl 4 b 4096 (λ z. with_shape (shape_pages here z) (checked_counts here)) (λ z. with_shape (shape_pages there z) (checked_counts there)) s.blocks refl
      (λ _ u. shape_then (within 1 (ranged_at here 8 64)) (λ z. shape_life here b z) (checked_counts here)
      ∙ ranged_alike here there refl 8 p 64 (λ z. with_shape (shape_life here b z) (checked_counts here)) (λ z. with_shape (shape_life there b z) (checked_counts there)) s.pages refl
      (λ _ v. shape_then (within 1 (ranged_at here 12 100000)) (λ z. accepted b p z) (checked_counts here)
      ∙ ranged_alike here there refl 12 l 100000 (checked_counts here b p) (checked_counts there b p) s.life refl (λ _ _. rest_alike u v)
      ∙ sym (shape_then (within 1 (ranged_at there 12 100000)) (λ z. accepted b p z) (checked_counts there)))
      ∙ sym (shape_then (within 1 (ranged_at there 8 64)) (λ z. shape_life there b z) (checked_counts there)))
      ∙ sym (shape_then (within 1 (ranged_at there 4 4096)) (λ z. shape_pages there z) (checked_counts there))

  all_alike : checked bs ≡ room_checked N b p l
  unfolding checked_in shape_at
  all_alike =
      shape_then (within 1 (section_at here 0 3 12)) (λ _. shape_blocks here) (checked_counts here)
      ∙ section_alike here there refl 1 0 3 12 16 (λ _. with_shape (shape_blocks here) (checked_counts here)) (λ _. with_shape (shape_blocks there) (checked_counts there)) refl s.first shape_alike
      ∙ sym (shape_then (within 1 (section_at there 0 3 12)) (λ _. shape_blocks there) (checked_counts there))

pub verdict : (n b p l : ℕ) → Verdict n b p l
verdict n b p l bs e s = all_alike bs b p l s ∙ ap (λ m. room_checked m b p l) e

-- the geometry that a plan was checked to state is its own, and fits
pub plan_fits : (n : ℕ) (g : Geometry) (b p l : ℕ) → accepted b p l ≡ room_checked n g.blocks g.pages g.life →
    (accepted b p l ≡ accepted g.blocks g.pages g.life) × Fits n g
plan_fits n g b p l e =
    let a = sound_in (planned n g.blocks g.pages g.life) b p l (sym e) in
    let x : g.blocks ≡ b = a.blocks in
    let y : g.pages ≡ p = a.pages in
    let z : g.life ≡ l = a.life in (
      cc,
      record {
        long = a.long ∙ rw (x, y);
        some_blocks = omega arith;
        most_blocks = omega arith;
        some_pages = omega arith;
        most_pages = omega arith;
        some_life = omega arith;
        most_life = omega arith;
      },
    )

-- a geometry that fits is found in its plan
pub plan_goes : (n : ℕ) (g : Geometry) → Fits n g → room_checked n g.blocks g.pages g.life ≡ accepted g.blocks g.pages g.life
plan_goes n g f =
    let pages : (k : ℕ) → 16 < k → (planned n g.blocks g.pages g.life).word k ≡ g.blocks * g.pages =
    λ k h. all_pages n g.blocks g.pages g.life k h f.most_blocks f.most_pages in
    complete_in (planned n g.blocks g.pages g.life) g.blocks g.pages g.life
    (record {
      first = refl;
      blocks = refl;
      pages = refl;
      life = refl;
      counts = refl;
      sectors = pages (20 + 4 * g.blocks) (omega arith);
      stamps = pages (24 + 4 * g.blocks + 4 * (g.blocks * g.pages)) (omega arith);
      contents = pages (28 + 4 * g.blocks + 8 * (g.blocks * g.pages)) (omega arith);
      long = f.long;
      b_low = f.some_blocks;
      b_high = f.most_blocks;
      p_low = f.some_pages;
      p_high = f.most_pages;
      l_low = f.some_life;
      l_high = f.most_life;
    })

-- what the writer leaves in n bytes
pub written : (n : ℕ) (g : Geometry) (filled out : List ℕ) → Fits n g → filled ≡ replicate n 255 → out ≡ all_patched filled (blank_patches g.blocks g.pages g.life) →
    (out ≡ blank_image g.blocks g.pages g.life)
    × (checked out ≡ accepted g.blocks g.pages g.life)
    × (image_flash out ≡ blank_flash g.blocks g.pages g.life)
unfolding blank_image
written n g filled out f e k =
    let same : out ≡ all_patched (replicate (image_length g.blocks g.pages) 255) (blank_patches g.blocks g.pages g.life) =
    k ∙ ap (λ x. all_patched x (blank_patches g.blocks g.pages g.life)) (e ∙ ap (λ m. replicate m 255) f.long) in
    let fit : Fits (image_length g.blocks g.pages) g = subst (λ m. Fits m g) f.long f in
    let i = blank_is g fit in
    (same, ap checked same ∙ i.0, ap image_flash same ∙ i.1)
