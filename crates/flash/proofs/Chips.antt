-- A change of an image's bytes is that change of the device that they mean, and leaves them an image.
use Rattle.std.proofs.Common.{◌≡◌, ℕ, ◌+◌, ◌*◌, ◌/◌, ◌%◌, ◌^◌, ◌<◌, ◌≤◌, Bool, true, false, cond, ◌&&◌, eqb, ltb, List, [], ◌∷◌, length, take, drop, replicate, Some, None, Option, sym, refl, ap, ◌∙◌, ⊎_elim, mul-le-mul_right, add-mul, arith, length-drop, length-take}
use lib.ListN.{length-replicate}
use Rattle.std.proofs.lemmas.Nat.{div-mul-add, mod-mul-add, mul-add-lt}
use Rattle.std.proofs.lemmas.Bool.{cases_eq, cases_lt, cases_order}
use Rattle.std.proofs.lemmas.Bool.Decides.{nat_tests, eqb_tells}
use Rattle.flash.specs.Meaning.{Flash, Page, blank, holds, WellHeld, Proper}
use Rattle.flash.specs.Calls.{with_page, with_erased}
use Rattle.flash.specs.Patched.{patched, all_patched}
use Rattle.flash.specs.Stored.{page_at, image_of, image_in, chip_flash, geometry_by, image_flash, image_programmed, image_erased, Fits, StaysImage}
use Rattle.flash.proofs.Patches.{Within, Apart, length_patched, length_all, word_apart, part_apart, word_put, run_put, part_put}
use Rattle.flash.proofs.Same.{same_flash}
use Rattle.image.proofs.Checks.{Accepted, sound, complete}
use Rattle.image.specs.declared.shape.Geometry.{Geometry}
use Rattle.image.specs.Format.{
  word,
  word_bytes,
  image_length,
  count_place,
  sector_place,
  stamp_place,
  bytes_place,
  Checked,
  accepted,
  faulty,
  in_bytes,
  checked,
}

-- pages at one place are one page
same_place : (p c i d o : ℕ) → i < p → o < p → c * p + i ≡ d * p + o → (c ≡ d) × (i ≡ o)
same_place p c i d o h k e = (
  sym (div-mul-add c p i h) ∙ ap (λ n. n / p) e ∙ div-mul-add d p o k,
  sym (mod-mul-add c p i h) ∙ ap (λ n. n % p) e ∙ mod-mul-add d p o k,
)

-- the pages of one block end where those of the next begin
pub next_block : (p c d : ℕ) → c < d → c * p + p ≤ d * p
next_block p c d h = let m = mul-le-mul_right {m = c + 1} {n = d} p (omega arith) in omega (arith, add-mul c 1 p)

module _ (bs : List ℕ) (b p l : ℕ) (long : length bs ≡ image_length b p) where
  -- Patches that touch none of the counts and numbers that the check reads.
  pub record Clear (ps : List (ℕ × List ℕ)) : Type 0 where
    pub within : Within (length bs) ps
    pub shape : (k : ℕ) → k + 4 ≤ 20 → Apart ps k 4
    pub sectors : Apart ps (20 + 4 * b) 4
    pub stamps : Apart ps (24 + 4 * b + 4 * (b * p)) 4
    pub contents : Apart ps (28 + 4 * b + 8 * (b * p)) 4

  pub still_accepted : (ps : List (ℕ × List ℕ)) → Clear ps → Accepted (in_bytes bs) b p l → Accepted (in_bytes (all_patched bs ps)) b p l
  still_accepted ps x a =
      let at : (k : ℕ) → k + 4 ≤ 20 → word (all_patched bs ps) k ≡ word bs k = λ k h. word_apart bs ps k x.within (x.shape k h) in
      record {
        first = at 0 (omega arith) ∙ a.first;
        blocks = at 4 (omega arith) ∙ a.blocks;
        pages = at 8 (omega arith) ∙ a.pages;
        life = at 12 (omega arith) ∙ a.life;
        counts = at 16 (omega arith) ∙ a.counts;
        sectors = word_apart bs ps _ x.within x.sectors ∙ a.sectors;
        stamps = word_apart bs ps _ x.within x.stamps ∙ a.stamps;
        contents = word_apart bs ps _ x.within x.contents ∙ a.contents;
        long = length_all bs ps x.within ∙ a.long;
        b_low = a.b_low;
        b_high = a.b_high;
        p_low = a.p_low;
        p_high = a.p_high;
        l_low = a.l_low;
        l_high = a.l_high;
      }

  -- a page whose three parts the patches leave alone
  page_apart : (ps : List (ℕ × List ℕ)) (n : ℕ) → n < b * p → Within (length bs) ps → Apart ps (sector_place b n) 4 → Apart ps (stamp_place b p n) 4 →
      Apart ps (bytes_place b p n) 512 → page_at (all_patched bs ps) b p n ≡ page_at bs b p n
  unfolding page_at
  page_apart ps n h w x y z =
      rw (word_apart bs ps (sector_place b n) w x, word_apart bs ps (stamp_place b p n) w y, part_apart bs ps (bytes_place b p n) 512 (omega arith) w z)

  module _ (n s t : ℕ) (ys : List ℕ) (h : n < b * p) (whole : length ys ≡ 512) where
    abbrev on_page : List (ℕ × List ℕ)
    on_page = (sector_place b n, word_bytes s) ∷ (stamp_place b p n, word_bytes t) ∷ (bytes_place b p n, ys) ∷ []

    page_within : Within (length bs) on_page
    page_within = (omega arith, (omega arith, (omega arith, tt)))

    page_clear : Clear on_page
    page_clear = record {
      within = page_within;
      shape = λ k q. (λ m. omega arith, (λ m. omega arith, (λ m. omega arith, tt)));
      sectors = (λ m. omega arith, (λ m. omega arith, (λ m. omega arith, tt)));
      stamps = (λ m. omega arith, (λ m. omega arith, (λ m. omega arith, tt)));
      contents = (λ m. omega arith, (λ m. omega arith, (λ m. omega arith, tt)));
    }

    other_page : (m : ℕ) → m < b * p → (m ≡ n → ⊥) → page_at (all_patched bs on_page) b p m ≡ page_at bs b p m
    other_page m j ne =
        page_apart on_page m j page_within (λ q. omega arith, (λ q. omega arith, (λ q. omega arith, tt)))
        (λ q. omega arith, (λ q. omega arith, (λ q. omega arith, tt))) (λ q. omega arith, (λ q. omega arith, (λ q. omega arith, tt)))

    other_count : (c : ℕ) → c < b → word (all_patched bs on_page) (count_place c) ≡ word bs (count_place c)
    other_count c k = word_apart bs on_page (count_place c) page_within (λ q. omega arith, (λ q. omega arith, (λ q. omega arith, tt)))

    this_page : s < 2 ^ 32 → t < 2 ^ 32 → (s ≡ 0xFFFFFFFF → ⊥) → page_at (all_patched bs on_page) b p n ≡ holds s t ys
    unfolding page_at
    this_page u v ne =
        let bs₁ : List ℕ = patched bs (sector_place b n) (word_bytes s) in
        let e₁ = length_patched bs (sector_place b n) (word_bytes s) (omega arith) in
        let e₂ = length_patched bs₁ (stamp_place b p n) (word_bytes t) (omega arith) in
        let x : word (all_patched bs on_page) (sector_place b n) ≡ s =
        word_put bs ((stamp_place b p n, word_bytes t) ∷ (bytes_place b p n, ys) ∷ []) (omega arith, (omega arith, tt)) (sector_place b n) s (omega arith) u
        (λ q. omega arith, (λ q. omega arith, tt)) in
        let y : word (all_patched bs on_page) (stamp_place b p n) ≡ t =
        word_put bs₁ ((bytes_place b p n, ys) ∷ []) (omega arith, tt) (stamp_place b p n) t (omega arith) v (λ q. omega arith, tt) in
        let z : take 512 (drop (bytes_place b p n) (all_patched bs on_page)) ≡ ys =
        part_put (patched bs₁ (stamp_place b p n) (word_bytes t)) [] tt (bytes_place b p n) 512 ys (omega arith) whole tt in
        rw (x, y, z) (grind (arith, nat_tests))

  pub programmed_clear : (c o s t : ℕ) (ys : List ℕ) → c < b → o < p → length ys ≡ 512 → Accepted (in_bytes bs) b p l → Accepted (in_bytes (image_programmed bs b p (c * p + o) s t ys)) b p l
  programmed_clear c o s t ys h k w a =
      let q : c * p + o < b * p = omega (arith, mul-add-lt c p o b h k) in
      still_accepted (on_page (c * p + o) s t ys q w) (page_clear (c * p + o) s t ys q w) a

  pub programmed_image : (c o s t : ℕ) (ys : List ℕ) → c < b → o < p → s < 2 ^ 32 → t < 2 ^ 32 → length ys ≡ 512 → (s ≡ 0xFFFFFFFF → ⊥) →
      image_of (image_programmed bs b p (c * p + o) s t ys) b p l ≡ with_page (image_of bs b p l) c o (holds s t ys)
  programmed_image c o s t ys h k u v w ne =
      let q : c * p + o < b * p = omega (arith, mul-add-lt c p o b h k) in
      let this = this_page (c * p + o) s t ys q w u v ne in
      let others : (d i : ℕ) → d < b → i < p → ((d ≡ c) × (i ≡ o) → ⊥) →
      page_at (image_programmed bs b p (c * p + o) s t ys) b p (d * p + i) ≡ page_at bs b p (d * p + i) =
      λ d i e f g. other_page (c * p + o) s t ys q w (d * p + i) (omega (arith, mul-add-lt d p i b e f)) (λ z. g (same_place p d i c o f k z)) in
      same_flash _ _ refl refl refl
      (λ d. ⊎_elim (λ (e : d < b). let z = other_count (c * p + o) s t ys q w d e in grind (arith, nat_tests)) (λ (e : b ≤ d). grind (arith, nat_tests)) (cases_lt d b))
      (λ d i. ⊎_elim
      (λ (e : d < b). ⊎_elim
      (λ (f : i < p). ⊎_elim
      (λ x. let x' : d ≡ c = x in ⊎_elim
      (λ y. let y' : i ≡ o = y in rw (x', y') (grind (arith, nat_tests)))
      (λ y. let z = others d i e f (λ r. y r.1) in grind (arith, nat_tests))
      (cases_eq i o))
      (λ x. let z = others d i e f (λ r. x r.0) in grind (arith, nat_tests))
      (cases_eq d c))
      (λ (f : p ≤ i). grind (arith, nat_tests))
      (cases_lt i p))
      (λ (e : b ≤ d). grind (arith, nat_tests))
      (cases_lt d b))

  module _ (c : ℕ) (h : c < b) (few : word bs (count_place c) + 1 < 2 ^ 32) where
    -- what erase puts behind the count
    abbrev on_rest : List (ℕ × List ℕ)
    on_rest = (sector_place b (c * p), replicate (4 * p) 255) ∷ (stamp_place b p (c * p), replicate (4 * p) 255) ∷ (bytes_place b p (c * p), replicate (512 * p) 255) ∷ []

    abbrev on_block : List (ℕ × List ℕ)
    on_block = (count_place c, word_bytes (word bs (count_place c) + 1)) ∷ on_rest

    pub record Ends : Type 0 where
      pub last : c * p + p ≤ b * p
      pub four : length {A = ℕ} (replicate (4 * p) 255) ≡ 4 * p
      pub many : length {A = ℕ} (replicate (512 * p) 255) ≡ 512 * p

    ends : Ends
    ends = record { last = next_block p c b h; four = length-replicate (4 * p) 255; many = length-replicate (512 * p) 255 }

    rest_within : Within (length bs) on_rest
    rest_within = let e = ends in (omega arith, (omega arith, (omega arith, tt)))

    block_within : Within (length bs) on_block
    block_within = (omega arith, rest_within)

    block_clear : Clear on_block
    block_clear = let e = ends in record {
      within = block_within;
      shape = λ k q. (λ m. omega arith, (λ m. omega arith, (λ m. omega arith, (λ m. omega arith, tt))));
      sectors = (λ m. omega arith, (λ m. omega arith, (λ m. omega arith, (λ m. omega arith, tt))));
      stamps = (λ m. omega arith, (λ m. omega arith, (λ m. omega arith, (λ m. omega arith, tt))));
      contents = (λ m. omega arith, (λ m. omega arith, (λ m. omega arith, (λ m. omega arith, tt))));
    }

    this_count : word (all_patched bs on_block) (count_place c) ≡ word bs (count_place c) + 1
    this_count =
        let e = ends in
        word_put bs on_rest rest_within (count_place c) (word bs (count_place c) + 1) (omega arith) few
        (λ m. omega arith, (λ m. omega arith, (λ m. omega arith, tt)))

    rest_count : (d : ℕ) → d < b → (d ≡ c → ⊥) → word (all_patched bs on_block) (count_place d) ≡ word bs (count_place d)
    rest_count d k ne =
        let e = ends in
        word_apart bs on_block (count_place d) block_within (λ m. omega arith, (λ m. omega arith, (λ m. omega arith, (λ m. omega arith, tt))))

    this_blank : (i : ℕ) → i < p → page_at (all_patched bs on_block) b p (c * p + i) ≡ blank
    unfolding page_at
    this_blank i k =
        let e = ends in
        let bs₁ : List ℕ = patched bs (count_place c) (word_bytes (word bs (count_place c) + 1)) in
        let l₁ : length bs₁ ≡ length bs = length_patched bs (count_place c) (word_bytes (word bs (count_place c) + 1)) (omega arith) in
        let x : word (all_patched bs on_block) (sector_place b (c * p + i)) ≡ 0xFFFFFFFF =
        run_put bs₁ ((stamp_place b p (c * p), replicate (4 * p) 255) ∷ (bytes_place b p (c * p), replicate (512 * p) 255) ∷ [])
        (omega arith, (omega arith, tt)) (sector_place b (c * p)) (4 * p) 255 (sector_place b (c * p + i)) (omega arith) (omega arith) (omega arith)
        (λ m. omega arith, (λ m. omega arith, tt)) in
        rw x

    -- a page before the block or after it
    rest_page : (n : ℕ) → n < b * p → (c * p ≤ n → c * p + p ≤ n) → page_at (all_patched bs on_block) b p n ≡ page_at bs b p n
    rest_page n j out =
        let e = ends in
        page_apart on_block n j block_within
        (λ m. omega arith, (λ m. let q = out (omega arith) in omega arith, (λ m. omega arith, (λ m. omega arith, tt))))
        (λ m. omega arith, (λ m. omega arith, (λ m. let q = out (omega arith) in omega arith, (λ m. omega arith, tt))))
        (λ m. omega arith, (λ m. omega arith, (λ m. omega arith, (λ m. let q = out (omega arith) in omega arith, tt))))

  pub erased_clear : (c : ℕ) → c < b → word bs (count_place c) + 1 < 2 ^ 32 → Accepted (in_bytes bs) b p l → Accepted (in_bytes (image_erased bs b p c)) b p l
  erased_clear c h few a = still_accepted (on_block c h few) (block_clear c h few) a

  pub erased_image : (c : ℕ) → c < b → word bs (count_place c) + 1 < 2 ^ 32 →
      image_of (image_erased bs b p c) b p l ≡ with_erased (image_of bs b p l) c
  erased_image c h few =
      let this = this_count c h few in
      let counts = rest_count c h few in
      let blanks = this_blank c h few in
      let others : (d i : ℕ) → d < b → i < p → (d ≡ c → ⊥) → page_at (image_erased bs b p c) b p (d * p + i) ≡ page_at bs b p (d * p + i) =
      λ d i e f ne. rest_page c h few (d * p + i) (omega (arith, mul-add-lt d p i b e f))
      (λ m. ⊎_elim (λ z. absurd (ne z)) (⊎_elim (λ z. let r = next_block p d c z in absurd (omega arith)) (λ z. let r = next_block p c d z in omega arith)) (cases_order d c)) in
      same_flash _ _ refl refl refl
      (λ d. ⊎_elim
      (λ (e : d < b). ⊎_elim
      (λ x. let x' : d ≡ c = x in rw x' (grind (arith, nat_tests)))
      (λ x. let z = counts d e x in grind (arith, nat_tests))
      (cases_eq d c))
      (λ (e : b ≤ d). grind (arith, nat_tests))
      (cases_lt d b))
      (λ d i. ⊎_elim
      (λ (e : d < b). ⊎_elim
      (λ (f : i < p). ⊎_elim
      (λ x. let x' : d ≡ c = x in rw x' (let z = blanks i f in grind (arith, nat_tests)))
      (λ x. let z = others d i e f x in grind (arith, nat_tests))
      (cases_eq d c))
      (λ (f : p ≤ i). grind (arith, nat_tests))
      (cases_lt i p))
      (λ (e : b ≤ d). grind (arith, nat_tests))
      (cases_lt d b))

-- bytes of which the check says a geometry are an image of it
known_accepted : (x : Checked) (g : Geometry) → Some g ≡ geometry_by x → x ≡ accepted g.blocks g.pages g.life
known_accepted (accepted b p l) g e =
    let i : g.blocks ≡ b = ap (λ o. (chip_flash [] o).blocks) e in
    let j : g.pages ≡ p = ap (λ o. (chip_flash [] o).pages) e in
    let k : g.life ≡ l = ap (λ o. (chip_flash [] o).life) e in
    rw (i, j, k)
known_accepted (faulty m s k) g e = absurd cc

accepted_fits : (bs : List ℕ) (g : Geometry) → Accepted (in_bytes bs) g.blocks g.pages g.life → Fits (length bs) g
accepted_fits bs g a = record {
  long = a.long;
  some_blocks = a.b_low;
  most_blocks = a.b_high;
  some_pages = a.p_low;
  most_pages = a.p_high;
  some_life = a.l_low;
  most_life = a.l_high;
}

-- the chip means what its bytes mean
pub means : (bs : List ℕ) (o : Option Geometry) → o ≡ geometry_by (checked bs) → image_flash bs ≡ chip_flash bs o
unfolding image_flash
means bs o own = ap (chip_flash bs) (sym own)

pub stays_so : (bs : List ℕ) (o : Option Geometry) → o ≡ geometry_by (checked bs) → StaysImage bs bs (chip_flash bs o)
stays_so bs o own = (refl, means bs o own)

-- A chip of the geometry g, whose bytes are its image.
module _ (bs : List ℕ) (o : Option Geometry) (g : Geometry) (has : o ≡ Some g) (own : o ≡ geometry_by (checked bs)) where
  known : checked bs ≡ accepted g.blocks g.pages g.life
  known = known_accepted (checked bs) g (sym has ∙ own)

  is_accepted : Accepted (in_bytes bs) g.blocks g.pages g.life
  is_accepted = sound bs g.blocks g.pages g.life known

  pub fits : Fits (length bs) g
  fits = accepted_fits bs g is_accepted

  here : (bs' : List ℕ) → chip_flash bs' o ≡ image_in bs' g
  here bs' = ap (chip_flash bs') has

  pub chip_count : (c : ℕ) → c < g.blocks → (chip_flash bs o).count c ≡ word bs (count_place c)
  chip_count c h = ap (λ x. x.count c) (here bs) ∙ grind (arith, nat_tests)

  chip_page : (c i : ℕ) → c < g.blocks → i < g.pages → (chip_flash bs o).page c i ≡ page_at bs g.blocks g.pages (c * g.pages + i)
  chip_page c i h k = ap (λ x. x.page c i) (here bs) ∙ grind (arith, nat_tests)

  pub chip_blank : (c i : ℕ) → c < g.blocks → i < g.pages → word bs (sector_place g.blocks (c * g.pages + i)) ≡ 0xFFFFFFFF →
      (chip_flash bs o).page c i ≡ blank
  unfolding page_at
  chip_blank c i h k e = chip_page c i h k ∙ rw e

  pub chip_holds : (c i : ℕ) → c < g.blocks → i < g.pages → (word bs (sector_place g.blocks (c * g.pages + i)) ≡ 0xFFFFFFFF → ⊥) →
      (chip_flash bs o).page c i
      ≡ holds (word bs (sector_place g.blocks (c * g.pages + i))) (word bs (stamp_place g.blocks g.pages (c * g.pages + i)))
      (take 512 (drop (bytes_place g.blocks g.pages (c * g.pages + i)) bs))
  unfolding page_at
  chip_holds c i h k ne = chip_page c i h k ∙ grind (arith, nat_tests)

  -- Bytes in which a change has kept the image.
  pub record Changed (bs' : List ℕ) (f : Flash) : Type 0 where
    pub after : chip_flash bs' o ≡ f
    pub image : StaysImage bs bs' (chip_flash bs' o)
    pub keeps : o ≡ geometry_by (checked bs')

  changed : (bs' : List ℕ) (f : Flash) → image_in bs' g ≡ f → Accepted (in_bytes bs') g.blocks g.pages g.life → Changed bs' f
  changed bs' f e a =
      let k = complete bs' g.blocks g.pages g.life a in
      let own' : o ≡ geometry_by (checked bs') = has ∙ sym (ap geometry_by k) in
      record { after = here bs' ∙ e; image = (k ∙ sym known, means bs' o own'); keeps = own' }

  pub after_program : (c i s t : ℕ) (ys : List ℕ) → c < g.blocks → i < g.pages → s < 2 ^ 32 → t < 2 ^ 32 → length ys ≡ 512 → (s ≡ 0xFFFFFFFF → ⊥) →
      Changed (image_programmed bs g.blocks g.pages (c * g.pages + i) s t ys) (with_page (chip_flash bs o) c i (holds s t ys))
  after_program c i s t ys h k u v w ne =
      changed _ _
      (programmed_image bs g.blocks g.pages g.life fits.long c i s t ys h k u v w ne ∙ ap (λ x. with_page x c i (holds s t ys)) (sym (here bs)))
      (programmed_clear bs g.blocks g.pages g.life fits.long c i s t ys h k w is_accepted)

  pub after_erase : (c : ℕ) → c < g.blocks → word bs (count_place c) < g.life →
      Changed (image_erased bs g.blocks g.pages c) (with_erased (chip_flash bs o) c)
  after_erase c h k =
      let f = fits in
      let few : word bs (count_place c) + 1 < 2 ^ 32 = omega arith in
      changed _ _
      (erased_image bs g.blocks g.pages g.life f.long c h few ∙ ap (λ x. with_erased x c) (sym (here bs)))
      (erased_clear bs g.blocks g.pages g.life f.long c h few is_accepted)

-- what an image means is proper
mark_held : (x : Bool) (s t : ℕ) (ys : List ℕ) → (x ≡ false → s ≡ 0xFFFFFFFF → ⊥) → length ys ≡ 512 → WellHeld (cond x blank (holds s t ys))
mark_held true s t ys h l = tt
mark_held false s t ys h l = (h refl, l)

page_held : (bs : List ℕ) (b p n : ℕ) → length bs ≡ image_length b p → n < b * p → WellHeld (page_at bs b p n)
unfolding page_at
page_held bs b p n l h =
    mark_held (eqb (word bs (sector_place b n)) 0xFFFFFFFF) (word bs (sector_place b n)) (word bs (stamp_place b p n)) (take 512 (drop (bytes_place b p n) bs))
    (λ e. let u = eqb_tells (word bs (sector_place b n)) 0xFFFFFFFF in λ z. grind (arith, nat_tests))
    (simp (length-take, length-drop) (omega arith))

held_if : (x : Bool) (q : Page) → (x ≡ true → WellHeld q) → WellHeld (cond x q blank)
held_if true q h = h refl
held_if false q h = tt

image_proper : (bs : List ℕ) (b p l : ℕ) → (0 < b → length bs ≡ image_length b p) → Proper (image_of bs b p l)
image_proper bs b p l long = record {
  no_count = λ c h. grind (arith, nat_tests);
  no_block = λ c i h. grind (arith, nat_tests);
  no_page = λ c i h. grind (arith, nat_tests);
  well_held = λ c i. held_if (ltb c b && ltb i p) (page_at bs b p (c * p + i))
      (λ e. let h : c < b = grind (arith, nat_tests) in
      let k : i < p = grind (arith, nat_tests) in
      page_held bs b p (c * p + i) (long (omega arith)) (omega (arith, mul-add-lt c p i b h k)));
}

pub chip_proper : (bs : List ℕ) (o : Option Geometry) → o ≡ geometry_by (checked bs) → Proper (chip_flash bs o)
chip_proper bs None e = image_proper bs 0 0 0 (λ h. absurd (omega arith))
chip_proper bs (Some g) e = let f = fits bs (Some g) g refl e in image_proper bs g.blocks g.pages g.life (λ _. f.long)
