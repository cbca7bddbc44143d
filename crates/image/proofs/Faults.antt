-- A fault that the check finds is where it says: the bytes before it begin the image of some chip, and it is really there.
use Rattle.std.proofs.Common.{◌≡◌, ℕ, ◌+◌, ◌*◌, ◌<◌, ◌≤◌, ◌⊎◌, List, ◌++◌, length, get_or, take, drop, sym, refl, ap, ◌∙◌, subst, inl, inr, ⊎_elim, arith, length-append, length-drop, length-take, take_at, rules}
use Rattle.std.proofs.lemmas.List.{places}
use Rattle.std.proofs.lemmas.Bool.{cases_eq, cases_lt}
use Rattle.std.proofs.lemmas.Bool.Decides.{nat_tests}
use Rattle.image.specs.Chip.{encoding, InRange, blank_chip}
use Rattle.image.specs.Format.{word, in_bytes, image_length, Found, found, fault, ranged_at, section_at, end_at, Placed, placed, misplaced, within, Checked, accepted, faulty, and_then, with_shape, shape_at, shape_blocks, shape_pages, shape_life, checked_end, checked_contents, checked_stamps, checked_sectors, checked_counts, checked_in, checked}
use Rattle.image.specs.Law.{Extent, extent, Wrong, count_cut, items_cut, count_wrong, out_of_range, surplus, FaultAt}
use Rattle.image.proofs.Checks.{Accepted, section_found, ranged_found, shape_sound}
use Rattle.image.proofs.Decodings.{decoded, decoded_in_range, encoding_decoded}
use Rattle.image.proofs.Encodings.{length_encoding, encoding_accepted, encoding_bytes, blank_in_range}
use Rattle.image.proofs.Words.{Bytes, word_same}

module _ (bs : List ℕ) (byte : Bytes bs) (b p l : ℕ)
    (b_low : 1 ≤ b) (b_high : b ≤ 4096) (p_low : 1 ≤ p) (p_high : p ≤ 64) (l_low : 1 ≤ l) (l_high : l ≤ 100000) where
  -- the number at j is n, if it stands before k
  abbrev Right : ℕ → ℕ → ℕ → Type 0
  Right k j n = j < k → (j + 4 ≤ k) × (word bs j ≡ n)

  module _ (k : ℕ) (inside : k ≤ length bs) (short : k ≤ image_length b p)
      (r₀ : Right k 0 3) (r₁ : Right k 4 b) (r₂ : Right k 8 p) (r₃ : Right k 12 l) (r₄ : Right k 16 b) (r₅ : Right k (20 + 4 * b) (b * p))
      (r₆ : Right k (24 + 4 * b + 4 * (b * p)) (b * p)) (r₇ : Right k (28 + 4 * b + 8 * (b * p)) (b * p)) where
    blank_image : List ℕ
    blank_image = encoding (blank_chip b p l)

    ok : InRange (blank_chip b p l)
    ok = blank_in_range b p l b_low b_high p_low p_high l_low l_high

    -- the bytes before k, and those of a blank chip from there on
    mended : List ℕ
    mended = take k bs ++ drop k blank_image

    long : length mended ≡ image_length b p
    unfolding mended blank_image
    long = length-append (take k bs) (drop k (encoding (blank_chip b p l)))
        ∙ omega (arith, length-take k bs, length-drop k (encoding (blank_chip b p l)), length_encoding (blank_chip b p l) ok)

    before : (i : ℕ) → i < k → get_or mended i 0 ≡ get_or bs i 0
    unfolding mended
    before i h = search (rules, places)

    behind : (i : ℕ) → k ≤ i → get_or mended i 0 ≡ get_or blank_image i 0
    unfolding mended
    behind i h = search (rules, places)

    mended_bytes : Bytes mended
    unfolding blank_image
    mended_bytes i = ⊎_elim (λ h. omega (arith, before i h, byte i)) (λ h. omega (arith, behind i h, encoding_bytes (blank_chip b p l) ok i)) (cases_lt i k)

    -- a number of the blank image, or the right one before k
    right : (j n : ℕ) → Right k j n → word blank_image j ≡ n → word mended j ≡ n
    right j n r e = ⊎_elim
        (λ h. let q = r h in word_same mended bs j (λ i u v. before i (omega arith)) ∙ q.1)
        (λ h. word_same mended blank_image j (λ i u v. behind i (omega arith)) ∙ e)
        (cases_lt j k)

    mended_accepted : Accepted (in_bytes mended) b p l
    unfolding blank_image
    mended_accepted = let a = encoding_accepted (blank_chip b p l) ok in record {
      first = right 0 3 r₀ a.first;
      blocks = right 4 b r₁ a.blocks;
      pages = right 8 p r₂ a.pages;
      life = right 12 l r₃ a.life;
      counts = right 16 b r₄ a.counts;
      sectors = right (20 + 4 * b) (b * p) r₅ a.sectors;
      stamps = right (24 + 4 * b + 4 * (b * p)) (b * p) r₆ a.stamps;
      contents = right (28 + 4 * b + 8 * (b * p)) (b * p) r₇ a.contents;
      long = long;
      b_low = b_low;
      b_high = b_high;
      p_low = p_low;
      p_high = p_high;
      l_low = l_low;
      l_high = l_high;
    }

    fault_at : (m s : ℕ) → Wrong bs (extent b p s) m s k → FaultAt bs m s k
    unfolding decoded mended
    fault_at m s w = record {
      chip = decoded mended b p l;
      in_range = decoded_in_range mended b p l mended_bytes mended_accepted;
      begins = sym (take_at (take k bs) (drop k blank_image) k (length-take k bs ∙ omega arith)) ∙ ap (take k) (sym (encoding_decoded mended b p l mended_bytes mended_accepted));
      wrong = w;
    }

-- a part of the check that stops, or goes on and stops later
then_faulty : (x : Placed) (next : ℕ → Checked) (m s k : ℕ) → and_then x next ≡ faulty m s k →
    (x ≡ misplaced m s k) ⊎ ((n : ℕ) × (x ≡ placed n) × (next n ≡ faulty m s k))
then_faulty (placed n) next m s k h = inr (n, refl, h)
then_faulty (misplaced m' s' k') next m s k h = let e₀ : m' ≡ m = cc in let e₁ : s' ≡ s = cc in let e₂ : k' ≡ k = cc in inl (rw (e₀, e₁, e₂))

within_found : (s n : ℕ) (x : Found) → within s x ≡ placed n → x ≡ found n
within_found s n (found m) h = cc
within_found s n (fault m k) h = let z : ◌≡◌ {A = ℕ} 0 1 = cc in absurd (omega arith)

within_fault : (t : ℕ) (x : Found) (m s k : ℕ) → within t x ≡ misplaced m s k → (t ≡ s) × (x ≡ fault m k)
within_fault t (found n) m s k h = let z : ◌≡◌ {A = ℕ} 0 1 = cc in absurd (omega arith)
within_fault t (fault m' k') m s k h = (cc, cc)

-- what each reader's fault says
module _ (bs : List ℕ) (m k : ℕ) where
  ranged_wrong : (j most : ℕ) → j + 4 ≤ length bs → ranged_at (in_bytes bs) j most ≡ fault m k → (m ≡ 9) × (k ≡ j) × (1 ≤ word bs j → word bs j ≤ most → ⊥)
  unfolding ranged_at
  ranged_wrong j most h e = (grind (arith, nat_tests), grind (arith, nat_tests), λ u v. grind (arith, nat_tests))

  end_wrong : (j : ℕ) → end_at (in_bytes bs) j ≡ fault m k → (m ≡ 10) × (k ≡ j) × (j < length bs)
  unfolding end_at
  end_wrong j e = (grind (arith, nat_tests), grind (arith, nat_tests), grind (arith, nat_tests))

  section_wrong : (s : ℕ) (x : Extent) → x.start ≤ length bs → section_at (in_bytes bs) x.start x.count x.size ≡ fault m k →
      (x.start ≤ k) × (k ≤ x.start + 4) × (k ≤ length bs) × (x.start < k → (x.start + 4 ≤ k) × (word bs x.start ≡ x.count)) × Wrong bs x m s k
  unfolding section_at
  section_wrong s x h e = ⊎_elim
      (λ cut. let m_is : m ≡ 7 = grind (arith, nat_tests) in let k_is : k ≡ x.start = grind (arith, nat_tests) in
      (omega arith, omega arith, omega arith, λ later. absurd (omega arith), count_cut m_is k_is (omega arith)))
      (λ whole. ⊎_elim
      (λ same. let m_is : m ≡ 7 = grind (arith, nat_tests) in let k_is : k ≡ x.start + 4 = grind (arith, nat_tests) in
      let cut : length bs < x.start + 4 + x.size = grind (arith, nat_tests) in
      (omega arith, omega arith, omega arith, λ later. (omega arith, same), items_cut m_is k_is (omega arith)))
      (λ other. let m_is : m ≡ 8 = grind (arith, nat_tests) in let k_is : k ≡ x.start = grind (arith, nat_tests) in (
        omega arith,
        omega arith,
        omega arith,
        λ later. absurd (omega arith),
        count_wrong m_is k_is (omega arith) (λ z. other (ap (word bs) (sym k_is) ∙ z)),
      ))
      (cases_eq (word bs x.start) x.count))
      (cases_lt (length bs) (x.start + 4))

-- A section in which the check stops, or that is whole.
section_faulty : (bs : List ℕ) (b p t : ℕ) (next : ℕ → Checked) (m s k : ℕ) → (extent b p t).start ≤ length bs →
    and_then (within t (section_at (in_bytes bs) (extent b p t).start (extent b p t).count (extent b p t).size)) next ≡ faulty m s k →
    (((extent b p t).start ≤ k) × (k ≤ (extent b p t).start + 4) × (k ≤ length bs)
    × ((extent b p t).start < k → ((extent b p t).start + 4 ≤ k) × (word bs (extent b p t).start ≡ (extent b p t).count)) × Wrong bs (extent b p s) m s k)
    ⊎ ((word bs (extent b p t).start ≡ (extent b p t).count) × ((extent b p t).start + 4 + (extent b p t).size ≤ length bs)
    × (next ((extent b p t).start + 4 + (extent b p t).size) ≡ faulty m s k))
section_faulty bs b p t next m s k inside h = ⊎_elim
    (λ stop. let w = within_fault t (section_at (in_bytes bs) (extent b p t).start (extent b p t).count (extent b p t).size) m s k stop in
    let r = section_wrong bs m k t (extent b p t) inside w.1 in
    inl (r.0, r.1, r.2, r.3, subst (λ q. Wrong bs (extent b p q) m q k) w.0 r.4))
    (λ on. let f = section_found (in_bytes bs) (extent b p t).start (extent b p t).count (extent b p t).size on.0
    (within_found t on.0 (section_at (in_bytes bs) (extent b p t).start (extent b p t).count (extent b p t).size) on.1) in
    inr (f.0, omega arith, ap next (sym f.1) ∙ on.2))
    (then_faulty (within t (section_at (in_bytes bs) (extent b p t).start (extent b p t).count (extent b p t).size)) next m s k h)

-- The check from each section on, with what was found before it.
module _ (bs : List ℕ) (byte : Bytes bs) (b p l : ℕ)
    (b_low : 1 ≤ b) (b_high : b ≤ 4096) (p_low : 1 ≤ p) (p_high : p ≤ 64) (l_low : 1 ≤ l) (l_high : l ≤ 100000)
    (w₀ : word bs 0 ≡ 3) (w₁ : word bs 4 ≡ b) (w₂ : word bs 8 ≡ p) (w₃ : word bs 12 ≡ l) (m s k : ℕ) where
  module _ (w₄ : word bs 16 ≡ b) (w₅ : word bs (20 + 4 * b) ≡ b * p) (w₆ : word bs (24 + 4 * b + 4 * (b * p)) ≡ b * p) where
    end_faulty : word bs (28 + 4 * b + 8 * (b * p)) ≡ b * p → (j : ℕ) → j ≡ image_length b p → checked_end (in_bytes bs) b p l j ≡ faulty m s k → FaultAt bs m s k
    end_faulty w₇ j j_is h = ⊎_elim
        (λ stop. let w = within_fault 5 (end_at (in_bytes bs) j) m s k stop in
        let t = end_wrong bs m k j w.1 in
        fault_at bs byte b p l b_low b_high p_low p_high l_low l_high k (omega arith) (omega arith)
        (λ _. (omega arith, w₀)) (λ _. (omega arith, w₁)) (λ _. (omega arith, w₂)) (λ _. (omega arith, w₃)) (λ _. (omega arith, w₄))
        (λ _. (omega arith, w₅)) (λ _. (omega arith, w₆)) (λ _. (omega arith, w₇))
        m s (subst (λ q. Wrong bs (extent b p q) m q k) w.0 (surplus t.0 refl (omega arith) (omega arith))))
        (λ on. let z : ◌≡◌ {A = ℕ} 0 1 = cc on.2 in absurd (omega arith))
        (then_faulty (within 5 (end_at (in_bytes bs) j)) (λ _. accepted b p l) m s k h)

    contents_faulty : 28 + 4 * b + 8 * (b * p) ≤ length bs → checked_contents (in_bytes bs) b p l (28 + 4 * b + 8 * (b * p)) ≡ faulty m s k → FaultAt bs m s k
    contents_faulty inside h = ⊎_elim
        (λ stop. fault_at bs byte b p l b_low b_high p_low p_high l_low l_high k stop.2 (omega arith)
        (λ _. (omega arith, w₀)) (λ _. (omega arith, w₁)) (λ _. (omega arith, w₂)) (λ _. (omega arith, w₃)) (λ _. (omega arith, w₄))
        (λ _. (omega arith, w₅)) (λ _. (omega arith, w₆)) stop.3 m s stop.4)
        (λ on. end_faulty on.0 (28 + 4 * b + 8 * (b * p) + 4 + 512 * (b * p)) (omega arith) on.2)
        (section_faulty bs b p 5 (checked_end (in_bytes bs) b p l) m s k inside h)

  stamps_faulty : word bs 16 ≡ b → word bs (20 + 4 * b) ≡ b * p → 24 + 4 * b + 4 * (b * p) ≤ length bs →
      checked_stamps (in_bytes bs) b p l (24 + 4 * b + 4 * (b * p)) ≡ faulty m s k → FaultAt bs m s k
  stamps_faulty w₄ w₅ inside h = ⊎_elim
      (λ stop. fault_at bs byte b p l b_low b_high p_low p_high l_low l_high k stop.2 (omega arith)
      (λ _. (omega arith, w₀)) (λ _. (omega arith, w₁)) (λ _. (omega arith, w₂)) (λ _. (omega arith, w₃)) (λ _. (omega arith, w₄))
      (λ _. (omega arith, w₅)) stop.3 (λ q. absurd (omega arith)) m s stop.4)
      (λ on. let e : 24 + 4 * b + 4 * (b * p) + 4 + 4 * (b * p) ≡ 28 + 4 * b + 8 * (b * p) = omega arith in
      contents_faulty w₄ w₅ on.0 (omega arith) (ap (checked_contents (in_bytes bs) b p l) (sym e) ∙ on.2))
      (section_faulty bs b p 4 (checked_contents (in_bytes bs) b p l) m s k inside h)

  sectors_faulty : word bs 16 ≡ b → 20 + 4 * b ≤ length bs → checked_sectors (in_bytes bs) b p l (20 + 4 * b) ≡ faulty m s k → FaultAt bs m s k
  sectors_faulty w₄ inside h = ⊎_elim
      (λ stop. fault_at bs byte b p l b_low b_high p_low p_high l_low l_high k stop.2 (omega arith)
      (λ _. (omega arith, w₀)) (λ _. (omega arith, w₁)) (λ _. (omega arith, w₂)) (λ _. (omega arith, w₃)) (λ _. (omega arith, w₄))
      stop.3 (λ q. absurd (omega arith)) (λ q. absurd (omega arith)) m s stop.4)
      (λ on. let e : 20 + 4 * b + 4 + 4 * (b * p) ≡ 24 + 4 * b + 4 * (b * p) = omega arith in
      stamps_faulty w₄ on.0 (omega arith) (ap (checked_stamps (in_bytes bs) b p l) (sym e) ∙ on.2))
      (section_faulty bs b p 3 (checked_stamps (in_bytes bs) b p l) m s k inside h)

  counts_faulty : 16 ≤ length bs → checked_counts (in_bytes bs) b p l ≡ faulty m s k → FaultAt bs m s k
  counts_faulty inside h = ⊎_elim
      (λ stop. fault_at bs byte b p l b_low b_high p_low p_high l_low l_high k stop.2 (omega arith)
      (λ _. (omega arith, w₀)) (λ _. (omega arith, w₁)) (λ _. (omega arith, w₂)) (λ _. (omega arith, w₃)) stop.3
      (λ q. absurd (omega arith)) (λ q. absurd (omega arith)) (λ q. absurd (omega arith)) m s stop.4)
      (λ on. sectors_faulty on.0 (omega arith) on.2)
      (section_faulty bs b p 2 (checked_sectors (in_bytes bs) b p l) m s k inside h)

-- The check from its start, through the numbers of section 1.
module _ (bs : List ℕ) (byte : Bytes bs) (m s k : ℕ) where
  ranged_faulty : (j most : ℕ) (next : ℕ → Checked) → j + 4 ≤ length bs → and_then (within 1 (ranged_at (in_bytes bs) j most)) next ≡ faulty m s k →
      ((m ≡ 9) × (s ≡ 1) × (k ≡ j) × (1 ≤ word bs j → word bs j ≤ most → ⊥))
      ⊎ ((1 ≤ word bs j) × (word bs j ≤ most) × (next (word bs j) ≡ faulty m s k))
  ranged_faulty j most next inside h = ⊎_elim
      (λ stop. let w = within_fault 1 (ranged_at (in_bytes bs) j most) m s k stop in
      let r = ranged_wrong bs m k j most inside w.1 in
      inl (r.0, sym w.0, r.1, r.2))
      (λ on. let f = ranged_found (in_bytes bs) j most on.0 (within_found 1 on.0 (ranged_at (in_bytes bs) j most) on.1) in
      inr (omega arith, omega arith, ap next f.0 ∙ on.2))
      (then_faulty (within 1 (ranged_at (in_bytes bs) j most)) next m s k h)

  module _ (inside : 16 ≤ length bs) (w₀ : word bs 0 ≡ 3) where
    life_faulty : 1 ≤ word bs 4 → word bs 4 ≤ 4096 → 1 ≤ word bs 8 → word bs 8 ≤ 64 → shape_life (in_bytes bs) (word bs 4) (word bs 8) ≡ faulty m s k → FaultAt bs m s k
    life_faulty b_low b_high p_low p_high h = ⊎_elim
        (λ stop. let k_is = stop.2 in fault_at bs byte (word bs 4) (word bs 8) 1 b_low b_high p_low p_high (omega arith) (omega arith) k (omega arith) (omega arith)
        (λ _. (omega arith, w₀)) (λ _. (omega arith, refl)) (λ _. (omega arith, refl)) (λ q. absurd (omega arith)) (λ q. absurd (omega arith))
        (λ q. absurd (omega arith)) (λ q. absurd (omega arith)) (λ q. absurd (omega arith)) m s
        (out_of_range stop.0 stop.1 (omega arith) (rw stop.2 stop.3)))
        (λ on. let z : ◌≡◌ {A = ℕ} 0 1 = cc on.2 in absurd (omega arith))
        (ranged_faulty 12 100000 (λ l. accepted (word bs 4) (word bs 8) l) (omega arith) h)

    pages_faulty : 1 ≤ word bs 4 → word bs 4 ≤ 4096 → shape_pages (in_bytes bs) (word bs 4) ≡ faulty m s k → FaultAt bs m s k
    pages_faulty b_low b_high h = ⊎_elim
        (λ stop. let k_is = stop.2 in fault_at bs byte (word bs 4) 1 1 b_low b_high (omega arith) (omega arith) (omega arith) (omega arith) k (omega arith) (omega arith)
        (λ _. (omega arith, w₀)) (λ _. (omega arith, refl)) (λ q. absurd (omega arith)) (λ q. absurd (omega arith)) (λ q. absurd (omega arith))
        (λ q. absurd (omega arith)) (λ q. absurd (omega arith)) (λ q. absurd (omega arith)) m s
        (out_of_range stop.0 stop.1 (omega arith) (rw stop.2 stop.3)))
        (λ on. life_faulty b_low b_high on.0 on.1 on.2)
        (ranged_faulty 8 64 (λ p. shape_life (in_bytes bs) (word bs 4) p) (omega arith) h)

    blocks_faulty : shape_blocks (in_bytes bs) ≡ faulty m s k → FaultAt bs m s k
    blocks_faulty h = ⊎_elim
        (λ stop. let k_is = stop.2 in fault_at bs byte 1 1 1 (omega arith) (omega arith) (omega arith) (omega arith) (omega arith) (omega arith) k (omega arith) (omega arith)
        (λ _. (omega arith, w₀)) (λ q. absurd (omega arith)) (λ q. absurd (omega arith)) (λ q. absurd (omega arith)) (λ q. absurd (omega arith))
        (λ q. absurd (omega arith)) (λ q. absurd (omega arith)) (λ q. absurd (omega arith)) m s
        (out_of_range stop.0 stop.1 (omega arith) (rw stop.2 stop.3)))
        (λ on. pages_faulty on.0 on.1 on.2)
        (ranged_faulty 4 4096 (λ b. shape_pages (in_bytes bs) b) (omega arith) h)

  shape_faulty : shape_at (in_bytes bs) ≡ faulty m s k → FaultAt bs m s k
  unfolding shape_at
  shape_faulty h = ⊎_elim
      (λ stop. fault_at bs byte 1 1 1 (omega arith) (omega arith) (omega arith) (omega arith) (omega arith) (omega arith) k stop.2 (omega arith)
      stop.3 (λ q. absurd (omega arith)) (λ q. absurd (omega arith)) (λ q. absurd (omega arith)) (λ q. absurd (omega arith))
      (λ q. absurd (omega arith)) (λ q. absurd (omega arith)) (λ q. absurd (omega arith)) m s stop.4)
      (λ on. blocks_faulty on.1 on.0 on.2)
      (section_faulty bs 1 1 1 (λ _. shape_blocks (in_bytes bs)) m s k (omega arith) h)

  then_shape : (x : Checked) → x ≡ shape_at (in_bytes bs) → with_shape x (checked_counts (in_bytes bs)) ≡ faulty m s k → FaultAt bs m s k
  then_shape (accepted b p l) e h =
      let t = shape_sound (in_bytes bs) b p l (sym e) in
      counts_faulty bs byte b p l t.4 t.5 t.6 t.7 t.8 t.9 t.0 t.1 t.2 t.3 m s k t.10 h
  then_shape (faulty m' s' k') e h = shape_faulty (sym e ∙ h)

  pub checked_faulty : checked bs ≡ faulty m s k → FaultAt bs m s k
  unfolding checked_in
  checked_faulty h = then_shape (shape_at (in_bytes bs)) refl h
