-- A write to one side of a spread is that write to the spread.
use Rattle.std.proofs.Common.{◌≡◌, ℕ, ◌*◌, ◌/◌, ◌%◌, ◌<◌, min, List, Some, None, Option, sym, refl, ap, ◌∙◌, inl, ⊎_elim, arith, le-ltb, lt-ltb, eq-eqb, ne_eqb}
use Rattle.std.proofs.lemmas.Bool.{cases_eq, cases_lt}
use Rattle.std.proofs.lemmas.Bool.Decides.{nat_tests}
use Rattle.scheme.specs.Functions.{upd}
use Rattle.store.specs.Meaning.{Table, Written, lines_after, BarMoves}
use Rattle.store.specs.Spread.{spread_size, by_side, spread_table}

-- halves of numbers of one parity
same_half : (k n : ℕ) → k % 2 ≡ n % 2 → k / 2 ≡ n / 2 → k ≡ n
same_half k n e f = omega arith

half_below : (n a b : ℕ) → n < min (2 * min a b) 65536 → (n / 2 < a) × (n / 2 < b)
half_below n a b h = (omega arith, omega arith)

-- the side that has sector n, after a write there
line_there : (line line' : ℕ → Option (List ℕ)) (n : ℕ) (bytes : List ℕ) (ref : Option ℕ) → line' ≡ lines_after ref line (n / 2) bytes →
    (k : ℕ) → k % 2 ≡ n % 2 → (whole : ℕ → Option (List ℕ)) → whole k ≡ line (k / 2) → line' (k / 2) ≡ lines_after ref whole n bytes k
unfolding upd
line_there line line' n bytes None e k same whole f =
    let g : line' (k / 2) ≡ upd line (n / 2) (Some bytes) (k / 2) = ap (λ (h : ℕ → Option (List ℕ)). h (k / 2)) e in
    ⊎_elim
    (λ is. let k_is : k ≡ n = is in let h : k / 2 ≡ n / 2 = ap (λ j. j / 2) k_is in g ∙ grind (arith, nat_tests))
    (λ other. let h : k / 2 ≡ n / 2 → ⊥ = λ z. other (same_half k n same z) in g ∙ grind (arith, nat_tests))
    (cases_eq k n)
line_there line line' n bytes (Some m) e k same whole f = ap (λ (h : ℕ → Option (List ℕ)). h (k / 2)) e ∙ sym f

-- the side that has not
line_elsewhere : (n : ℕ) (bytes : List ℕ) (ref : Option ℕ) (whole : ℕ → Option (List ℕ)) (k : ℕ) → (k ≡ n → ⊥) → whole k ≡ lines_after ref whole n bytes k
unfolding upd
line_elsewhere n bytes None whole k ne = grind (arith, nat_tests)
line_elsewhere n bytes (Some m) whole k ne = refl

-- a table of which each sector is that of one of two sides
module _ (l r l' r' : Table) (n : ℕ) (bytes : List ℕ) (ref : Option ℕ) (size : spread_size l' r' ≡ spread_size l r) where
  -- each sector's line, where that of each shown sector is known
  lines_by : ((k : ℕ) → k < spread_size l r → by_side l'.line r'.line k ≡ lines_after ref (spread_table l r).line n bytes k) → n < spread_size l r →
      (k : ℕ) → (spread_table l' r').line k ≡ lines_after ref (spread_table l r).line n bytes k
  lines_by shown known k = ⊎_elim
      (λ h. let e = shown k h in let t = lt-ltb k (spread_size l' r') (omega arith) in rw t e)
      (λ h. let t = le-ltb k (spread_size l' r') (omega arith) in
      let u : (spread_table l r).line k ≡ None = let v = le-ltb k (spread_size l r) h in rw v in
      let apart : k ≡ n → ⊥ = λ z. omega arith in
      rw t (sym u ∙ line_elsewhere n bytes ref (spread_table l r).line k apart))
      (cases_lt k (spread_size l r))

  bars_by : ((k : ℕ) → BarMoves (by_side l.bar r.bar k) (by_side l'.bar r'.bar k)) → (k : ℕ) → BarMoves ((spread_table l r).bar k) ((spread_table l' r').bar k)
  bars_by moves k = ⊎_elim
      (λ h. let t = lt-ltb k (spread_size l' r') (omega arith) in let u = lt-ltb k (spread_size l r) h in rw (t, u) (moves k))
      (λ h. let t = le-ltb k (spread_size l' r') (omega arith) in let u = le-ltb k (spread_size l r) h in rw (t, u) (inl refl))
      (cases_lt k (spread_size l r))

parity : (k : ℕ) → (k % 2 ≡ 0 → ⊥) → k % 2 ≡ 1
parity k h = omega arith

module _ (l r : Table) (n : ℕ) (bytes : List ℕ) (ref : Option ℕ) (known : n < spread_size l r) where
  shown_at : (k : ℕ) → k < spread_size l r → (spread_table l r).line k ≡ by_side l.line r.line k
  shown_at k h = let t = lt-ltb k (spread_size l r) h in rw t

  pub left_written : (l' : Table) → n % 2 ≡ 0 → Written l l' (n / 2) bytes ref → Written (spread_table l r) (spread_table l' r) n bytes ref
  left_written l' even w =
      let size : spread_size l' r ≡ spread_size l r = ap (λ s. min (2 * min s r.size) 65536) w.size in
      let below = half_below n l.size r.size known in
      record {
        refused = w.refused ∙ grind (arith, nat_tests);
        size = size;
        lines = λ i k. lines_by l r l' r n bytes ref size (λ k h. ⊎_elim
            (λ e. let t = eq-eqb (k % 2) 0 e in let u = shown_at k h in
            rw t (line_there l.line l'.line n bytes ref w.lines k (e ∙ sym even) (spread_table l r).line (u ∙ rw t)))
            (λ o. let t = ne_eqb (k % 2) 0 o in let u = shown_at k h in
            rw t (sym (u ∙ rw t) ∙ line_elsewhere n bytes ref (spread_table l r).line k (λ z. o (ap (λ j. j % 2) z ∙ even))))
            (cases_eq (k % 2) 0)) known k i;
        bars = bars_by l r l' r n bytes ref size (λ k. ⊎_elim
            (λ e. let t = eq-eqb (k % 2) 0 e in rw t (w.bars (k / 2)))
            (λ o. let t = ne_eqb (k % 2) 0 o in rw t (inl refl))
            (cases_eq (k % 2) 0));
        kept = λ m e. ap (λ t. spread_table t r) (w.kept m e);
      }

  pub right_written : (r' : Table) → (n % 2 ≡ 0 → ⊥) → Written r r' (n / 2) bytes ref → Written (spread_table l r) (spread_table l r') n bytes ref
  right_written r' odd w =
      let size : spread_size l r' ≡ spread_size l r = ap (λ s. min (2 * min l.size s) 65536) w.size in
      let below = half_below n l.size r.size known in
      record {
        refused = w.refused ∙ grind (arith, nat_tests);
        size = size;
        lines = λ i k. lines_by l r l r' n bytes ref size (λ k h. ⊎_elim
            (λ e. let t = eq-eqb (k % 2) 0 e in let u = shown_at k h in
            rw t (sym (u ∙ rw t) ∙ line_elsewhere n bytes ref (spread_table l r).line k (λ z. odd (ap (λ j. j % 2) (sym z) ∙ e))))
            (λ o. let t = ne_eqb (k % 2) 0 o in let u = shown_at k h in
            rw t (line_there r.line r'.line n bytes ref w.lines k (parity k o ∙ sym (parity n odd)) (spread_table l r).line (u ∙ rw t)))
            (cases_eq (k % 2) 0)) known k i;
        bars = bars_by l r l r' n bytes ref size (λ k. ⊎_elim
            (λ e. let t = eq-eqb (k % 2) 0 e in rw t (inl refl))
            (λ o. let t = ne_eqb (k % 2) 0 o in rw t (w.bars (k / 2)))
            (cases_eq (k % 2) 0));
        kept = λ m e. ap (λ t. spread_table l t) (w.kept m e);
      }
