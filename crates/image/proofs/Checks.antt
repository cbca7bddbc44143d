-- What the check accepts has at each place, and that this is all that it asks.
use Rattle.std.proofs.Common.{◌≡◌, ℕ, ◌+◌, ◌*◌, ◌≤◌, List, sym, refl, ap, ◌∙◌, arith}
use Rattle.std.proofs.lemmas.Bool.Decides.{nat_tests}
use Rattle.image.specs.Format.{
  Words,
  in_bytes,
  image_length,
  Found,
  found,
  fault,
  ranged_at,
  section_at,
  end_at,
  Placed,
  placed,
  misplaced,
  within,
  Checked,
  accepted,
  faulty,
  and_then,
  with_shape,
  shape_at,
  shape_blocks,
  shape_pages,
  shape_life,
  checked_end,
  checked_contents,
  checked_stamps,
  checked_sectors,
  checked_counts,
  checked_in,
  checked,
}

-- The five counts and the numbers of section 1 at their places, in range, and the length.
pub record Accepted (x : Words) (b p l : ℕ) : Type 0 where
  pub first : x.word 0 ≡ 3
  pub blocks : x.word 4 ≡ b
  pub pages : x.word 8 ≡ p
  pub life : x.word 12 ≡ l
  pub counts : x.word 16 ≡ b
  pub sectors : x.word (20 + 4 * b) ≡ b * p
  pub stamps : x.word (24 + 4 * b + 4 * (b * p)) ≡ b * p
  pub contents : x.word (28 + 4 * b + 8 * (b * p)) ≡ b * p
  pub long : x.size ≡ image_length b p
  pub b_low : 1 ≤ b
  pub b_high : b ≤ 4096
  pub p_low : 1 ≤ p
  pub p_high : p ≤ 64
  pub l_low : 1 ≤ l
  pub l_high : l ≤ 100000

module _ (B P L : ℕ) where
  then_accepted : (x : Placed) (next : ℕ → Checked) → and_then x next ≡ accepted B P L →
      (n : ℕ) × (x ≡ placed n) × (next n ≡ accepted B P L)
  then_accepted (placed n) next h = (n, refl, h)
  then_accepted (misplaced m s k) next h = let z : ◌≡◌ {A = ℕ} 0 1 = cc in absurd (omega arith)

  shape_accepted : (x : Checked) (next : ℕ → ℕ → ℕ → Checked) → with_shape x next ≡ accepted B P L →
      (b : ℕ) × (p : ℕ) × (l : ℕ) × (x ≡ accepted b p l) × (next b p l ≡ accepted B P L)
  shape_accepted (accepted b p l) next h = (b, p, l, refl, h)
  shape_accepted (faulty m s k) next h = let z : ◌≡◌ {A = ℕ} 0 1 = cc in absurd (omega arith)

found_within : (s n : ℕ) (x : Found) → within s x ≡ placed n → x ≡ found n
found_within s n (found m) h = cc
found_within s n (fault m k) h = let z : ◌≡◌ {A = ℕ} 0 1 = cc in absurd (omega arith)

pub ranged_found : (x : Words) (k most n : ℕ) → ranged_at x k most ≡ found n → (x.word k ≡ n) × (1 ≤ n) × (n ≤ most)
unfolding ranged_at
ranged_found x k most n h = (grind (arith, nat_tests), grind (arith, nat_tests), grind (arith, nat_tests))

pub section_found : (x : Words) (k n m e : ℕ) → section_at x k n m ≡ found e → (x.word k ≡ n) × (e ≡ k + 4 + m) × (e ≤ x.size)
unfolding section_at
section_found x k n m e h = (grind (arith, nat_tests), grind (arith, nat_tests), grind (arith, nat_tests))

end_found : (x : Words) (k e : ℕ) → end_at x k ≡ found e → x.size ≤ k
unfolding end_at
end_found x k e h = grind (arith, nat_tests)

module _ (x : Words) (B P L : ℕ) where
  -- a section from k on, with c items in m bytes, was found, and the check went on after it
  section_step : (s k c m : ℕ) (next : ℕ → Checked) → and_then (within s (section_at x k c m)) next ≡ accepted B P L →
      (x.word k ≡ c) × (k + 4 + m ≤ x.size) × (next (k + 4 + m) ≡ accepted B P L)
  section_step s k c m next h =
      let t = then_accepted B P L (within s (section_at x k c m)) next h in
      let f = section_found x k c m t.0 (found_within s t.0 (section_at x k c m) t.1) in
      (f.0, omega arith, ap next (sym f.1) ∙ t.2)

  ranged_step : (s k most : ℕ) (next : ℕ → Checked) → and_then (within s (ranged_at x k most)) next ≡ accepted B P L →
      (1 ≤ x.word k) × (x.word k ≤ most) × (next (x.word k) ≡ accepted B P L)
  ranged_step s k most next h =
      let t = then_accepted B P L (within s (ranged_at x k most)) next h in
      let f = ranged_found x k most t.0 (found_within s t.0 (ranged_at x k most) t.1) in
      (omega arith, omega arith, ap next f.0 ∙ t.2)

  end_step : (s k : ℕ) (next : ℕ → Checked) → and_then (within s (end_at x k)) next ≡ accepted B P L →
      (x.size ≤ k) × ((n : ℕ) × (next n ≡ accepted B P L))
  end_step s k next h =
      let t = then_accepted B P L (within s (end_at x k)) next h in
      (end_found x k t.0 (found_within s t.0 (end_at x k) t.1), (t.0, t.2))

  same_shape : (b p l : ℕ) → accepted b p l ≡ accepted B P L → (b ≡ B) × (p ≡ P) × (l ≡ L)
  same_shape b p l h = (cc, cc, cc)

  -- section 1
  pub shape_sound : shape_at x ≡ accepted B P L →
      (x.word 0 ≡ 3) × (x.word 4 ≡ B) × (x.word 8 ≡ P) × (x.word 12 ≡ L) × (1 ≤ B) × (B ≤ 4096) × (1 ≤ P) × (P ≤ 64) × (1 ≤ L) × (L ≤ 100000) × (16 ≤ x.size)
  unfolding shape_at
  shape_sound h =
      let s₁ = section_step 1 0 3 12 (λ _. shape_blocks x) h in
      let s₂ = ranged_step 1 4 4096 (λ b. shape_pages x b) s₁.2 in
      let s₃ = ranged_step 1 8 64 (λ p. shape_life x (x.word 4) p) s₂.2 in
      let s₄ = ranged_step 1 12 100000 (λ l. accepted (x.word 4) (x.word 8) l) s₃.2 in
      let e = same_shape (x.word 4) (x.word 8) (x.word 12) s₄.2 in
      (s₁.0, e.0, e.1, e.2, omega arith, omega arith, omega arith, omega arith, omega arith, omega arith, s₁.1)

  -- the other four
  rest_sound : (b p l : ℕ) → checked_counts x b p l ≡ accepted B P L →
      (b ≡ B) × (p ≡ P) × (l ≡ L) × (x.word 16 ≡ b) × (x.word (20 + 4 * b) ≡ b * p) × (x.word (24 + 4 * b + 4 * (b * p)) ≡ b * p)
      × (x.word (28 + 4 * b + 8 * (b * p)) ≡ b * p) × (x.size ≡ image_length b p)
  rest_sound b p l h =
      let s₂ = section_step 2 16 b (4 * b) (checked_sectors x b p l) h in
      let s₃ = section_step 3 (20 + 4 * b) (b * p) (4 * (b * p)) (checked_stamps x b p l) s₂.2 in
      let k₄ : 20 + 4 * b + 4 + 4 * (b * p) ≡ 24 + 4 * b + 4 * (b * p) = omega arith in
      let s₄ = section_step 4 (24 + 4 * b + 4 * (b * p)) (b * p) (4 * (b * p)) (checked_contents x b p l) (ap (checked_stamps x b p l) (sym k₄) ∙ s₃.2) in
      let k₅ : 24 + 4 * b + 4 * (b * p) + 4 + 4 * (b * p) ≡ 28 + 4 * b + 8 * (b * p) = omega arith in
      let s₅ = section_step 5 (28 + 4 * b + 8 * (b * p)) (b * p) (512 * (b * p)) (checked_end x b p l) (ap (checked_contents x b p l) (sym k₅) ∙ s₄.2) in
      let s₆ = end_step 5 (28 + 4 * b + 8 * (b * p) + 4 + 512 * (b * p)) (λ _. accepted b p l) s₅.2 in
      let e = same_shape b p l s₆.1.1 in
      (e.0, e.1, e.2, s₂.0, s₃.0, s₄.0, s₅.0, omega arith)

same_accepted : (x : Words) (b p l B P L : ℕ) → b ≡ B → p ≡ P → l ≡ L → Accepted x b p l → Accepted x B P L
same_accepted x b p l B P L e f g a = rw (e, f, g) at a

module _ (x : Words) (B P L : ℕ) where
  pub sound_in : checked_in x ≡ accepted B P L → Accepted x B P L
  unfolding checked_in
  sound_in h =
      let s = shape_accepted B P L (shape_at x) (checked_counts x) h in
      let t = shape_sound x s.0 s.1 s.2 s.3 in
      let r = rest_sound x B P L s.0 s.1 s.2 s.4 in
      same_accepted x s.0 s.1 s.2 B P L r.0 r.1 r.2
      (record {
        first = t.0;
        blocks = t.1;
        pages = t.2;
        life = t.3;
        counts = r.3;
        sectors = r.4;
        stamps = r.5;
        contents = r.6;
        long = r.7;
        b_low = t.4;
        b_high = t.5;
        p_low = t.6;
        p_high = t.7;
        l_low = t.8;
        l_high = t.9;
      })

  section_goes : (k c m e : ℕ) → x.word k ≡ c → k + 4 + m ≡ e → e ≤ x.size → section_at x k c m ≡ found e
  unfolding section_at
  section_goes k c m e h i j = grind (arith, nat_tests)

  ranged_goes : (k most n : ℕ) → x.word k ≡ n → k + 4 ≤ x.size → 1 ≤ n → n ≤ most → ranged_at x k most ≡ found n
  unfolding ranged_at
  ranged_goes k most n e f g h = grind (arith, nat_tests)

  end_goes : (k : ℕ) → x.size ≤ k → end_at x k ≡ found k
  unfolding end_at
  end_goes k h = grind (arith, nat_tests)

  pub complete_in : Accepted x B P L → checked_in x ≡ accepted B P L
  unfolding checked_in shape_at
  complete_in a =
      let e₁ = section_goes 0 3 12 16 a.first refl (omega arith) in
      let e₂ = ranged_goes 4 4096 B a.blocks (omega arith) (omega arith) (omega arith) in
      let e₃ = ranged_goes 8 64 P a.pages (omega arith) (omega arith) (omega arith) in
      let e₄ = ranged_goes 12 100000 L a.life (omega arith) (omega arith) (omega arith) in
      let e₅ = section_goes 16 B (4 * B) (20 + 4 * B) a.counts (omega arith) (omega arith) in
      let e₆ = section_goes (20 + 4 * B) (B * P) (4 * (B * P)) (24 + 4 * B + 4 * (B * P)) a.sectors (omega arith) (omega arith) in
      let e₇ = section_goes (24 + 4 * B + 4 * (B * P)) (B * P) (4 * (B * P)) (28 + 4 * B + 8 * (B * P)) a.stamps (omega arith) (omega arith) in
      let e₈ = section_goes (28 + 4 * B + 8 * (B * P)) (B * P) (512 * (B * P)) (image_length B P) a.contents (omega arith) (omega arith) in
      let e₉ = end_goes (image_length B P) (omega arith) in
      rw (e₁, e₂, e₃, e₄, e₅, e₆, e₇, e₈, e₉)

module _ (bs : List ℕ) (B P L : ℕ) where
  pub sound : checked bs ≡ accepted B P L → Accepted (in_bytes bs) B P L
  sound h = sound_in (in_bytes bs) B P L h

  pub complete : Accepted (in_bytes bs) B P L → checked bs ≡ accepted B P L
  complete a = complete_in (in_bytes bs) B P L a
