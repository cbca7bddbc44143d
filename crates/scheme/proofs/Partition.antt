-- Each block has one role: at most one by its kind, and the counts add up.
use Rattle.std.proofs.Common.{◌≡◌, ℕ, zero, suc, ◌+◌, ◌<◌, ◌≤◌, ◌≢◌, List, [], ◌∷◌, length, Some, None, Option, sym, refl, ap, ◌∙◌, ap₂, inl, inr, arith}
use Rattle.std.specs.List.{AllByRecursion}
use Rattle.std.proofs.ByRecursion.{All-weaker}
use Rattle.std.proofs.lemmas.Bool.{cases_eq, eq-eqb, ne_eqb}
use Rattle.scheme.specs.Functions.{sum_below}
use Rattle.scheme.specs.Roles.{is_block, times, times_sequential, roles_of, TablesRight}
use Rattle.scheme.specs.Tables.{Tables, Sequential}
use Rattle.scheme.proofs.Roles.{Use, free, data_of, sequential, random, outside, kind, busy, Roles, data_same, inside}
use Rattle.scheme.proofs.Updates.{Apart}

is_same : (a b : ℕ) → a ≡ b → is_block a b ≡ 1
is_same a b e = rw (eq-eqb a b e) refl

is_other : (a b : ℕ) → a ≢ b → is_block a b ≡ 0
is_other a b ne = rw (ne_eqb a b ne) refl

is_few : (a b : ℕ) → is_block a b ≤ 1
is_few a b = elim (cases_eq a b) [ inl e ↦ rw (is_same a b e) (omega arith) | inr ne ↦ rw (is_other a b ne) (omega arith) ]

times_none : (b : ℕ) (xs : List ℕ) → AllByRecursion (λ x. x ≢ b) xs → times b xs ≡ 0
times_none b [] a = refl
times_none b (x ∷ xs) a = omega (arith, is_other x b a.0, times_none b xs a.1)

times_few : (b : ℕ) (xs : List ℕ) → Apart xs → times b xs ≤ 1
times_few b [] a = omega arith
times_few b (x ∷ xs) a =
    elim (cases_eq x b) [
      | inl e ↦ omega (arith, is_few x b, times_none b xs (All-weaker (λ y. y ≢ x) (λ y. y ≢ b) (λ y n i. n (i ∙ sym e)) xs a.0))
      | inr ne ↦ omega (arith, is_other x b ne, times_few b xs a.1)
    ]

module _ (f : ℕ → ℕ) where
  sum_none : (n : ℕ) → ((c : ℕ) → c < n → f c ≡ 0) → sum_below n f ≡ 0
  unfolding sum_below
  sum_none zero h = refl
  sum_none (suc n) h = omega (arith, sum_none n (λ c i. h c (omega arith)), h n (omega arith))

  -- all are at most 1, and they add up: each is 1
  sum_le : (n : ℕ) → ((c : ℕ) → c < n → f c ≤ 1) → sum_below n f ≤ n
  unfolding sum_below
  sum_le zero h = omega arith
  sum_le (suc n) h = omega (arith, sum_le n (λ c i. h c (omega arith)), h n (omega arith))

  all_one : (n : ℕ) → ((c : ℕ) → c < n → f c ≤ 1) → sum_below n f ≡ n → (c : ℕ) → c < n → f c ≡ 1
  unfolding sum_below
  all_one zero h e c i = absurd (omega arith)
  all_one (suc n) h e c i =
      let le = sum_le n (λ c i. h c (omega arith)) in
      let last : f n ≡ 1 = omega (arith, h n (omega arith)) in
      elim (cases_eq c n) [ inl z ↦ rw z last | inr ne ↦ all_one n (λ c i. h c (omega arith)) (omega arith) c (omega arith) ]

sum_ap : (n : ℕ) (f g : ℕ → ℕ) → ((c : ℕ) → c < n → f c ≡ g c) → sum_below n f ≡ sum_below n g
unfolding sum_below
sum_ap zero f g h = refl
sum_ap (suc n) f g h = ap₂ (λ a b. a + b) (sum_ap n f g (λ c i. h c (omega arith))) (h n (omega arith))

sum_add : (n : ℕ) (f g : ℕ → ℕ) → sum_below n (λ c. f c + g c) ≡ sum_below n f + sum_below n g
unfolding sum_below
sum_add zero f g = refl
sum_add (suc n) f g = let h = sum_add n f g in omega arith

sum_is : (n a : ℕ) → a < n → sum_below n (λ b. is_block a b) ≡ 1
unfolding sum_below
sum_is zero a h = absurd (omega arith)
sum_is (suc n) a h =
    elim (cases_eq a n) [
      | inl e ↦ omega (arith, is_same a n e, sum_none (λ b. is_block a b) n (λ b i. is_other a b (omega arith)))
      | inr ne ↦ omega (arith, is_other a n ne, sum_is n a (omega arith))
    ]

sum_times : (n : ℕ) (xs : List ℕ) → AllByRecursion (λ x. x < n) xs → sum_below n (λ b. times b xs) ≡ length xs
sum_times n [] a = sum_none (λ _. 0) n (λ _ _. refl)
sum_times n (x ∷ xs) a = sum_add n (λ b. is_block x b) (λ b. times b xs) ∙ omega (arith, sum_is n x a.0, sum_times n xs a.1)

sum_data : (n m : ℕ) (f : ℕ → ℕ) → ((c : ℕ) → c < m → f c < n) → sum_below n (λ b. sum_below m (λ c. is_block (f c) b)) ≡ m
unfolding sum_below
sum_data n zero f h = sum_none (λ _. 0) n (λ _ _. refl)
sum_data n (suc m) f h =
    sum_add n (λ b. sum_below m (λ c. is_block (f c) b)) (λ b. is_block (f m) b)
    ∙ omega (arith, sum_data n m f (λ c i. h c (omega arith)), sum_is n (f m) (h m (omega arith)))

-- at most one argument gives b
sum_once : (m : ℕ) (f : ℕ → ℕ) (b : ℕ) → ((c d : ℕ) → c < m → d < m → f c ≡ b → f d ≡ b → c ≡ d) → sum_below m (λ c. is_block (f c) b) ≤ 1
unfolding sum_below
sum_once zero f b h = omega arith
sum_once (suc m) f b h =
    elim (cases_eq (f m) b) [
      | inl e ↦ omega (arith, is_few (f m) b, sum_none (λ c. is_block (f c) b) m (λ c i. is_other (f c) b (λ z. let w : c ≡ m = h c m (omega arith) (omega arith) z e in absurd (omega arith))))
      | inr ne ↦ omega (arith, is_other (f m) b ne, sum_once m f b (λ c d i j. h c d (omega arith) (omega arith)))
    ]

module _ (P L R B : ℕ) (ρ : ℕ → Use) (t : Tables) (ok : Roles P L R B ρ t) where
  pub no_data : (b : ℕ) → (kind (ρ b) ≡ 1 → ⊥) → sum_below L (λ c. is_block (t.data_block c) b) ≡ 0
  no_data b n = sum_none (λ c. is_block (t.data_block c) b) L (λ c h. is_other (t.data_block c) b (λ e. n (ap kind (ap ρ (sym e) ∙ ok.data_role c h))))

  pub no_sequential : (b : ℕ) → (kind (ρ b) ≡ 2 → ⊥) → (q : Option Sequential) → t.sequential ≡ q → times_sequential b q ≡ 0
  no_sequential b n None e = refl
  no_sequential b n (Some k) e = is_other k.block b (λ z. n (ap kind (ap ρ (sym z) ∙ ok.seq_role k e)))

  few_sequential : (b : ℕ) (q : Option Sequential) → times_sequential b q ≤ 1
  few_sequential b None = omega arith
  few_sequential b (Some k) = is_few k.block b

  pub no_logs : (b : ℕ) → (kind (ρ b) ≡ 3 → ⊥) → times b t.logs ≡ 0
  no_logs b n = times_none b t.logs (All-weaker (λ x. ρ x ≡ random) (λ x. x ≢ b) (λ x e z. n (ap kind (ap ρ (sym z) ∙ e))) t.logs ok.log_role)

  pub no_free : (b : ℕ) → (kind (ρ b) ≡ 0 → ⊥) → times b t.free ≡ 0
  no_free b n = times_none b t.free (All-weaker (λ x. ρ x ≡ free) (λ x. x ≢ b) (λ x e z. n (ap kind (ap ρ (sym z) ∙ e))) t.free ok.free_role)

  few_data : (b : ℕ) → sum_below L (λ c. is_block (t.data_block c) b) ≤ 1
  few_data b = sum_once L t.data_block b (λ c d i j e f. data_same c d (sym (ok.data_role c i) ∙ ap ρ (e ∙ sym f) ∙ ok.data_role d j))

  few_roles : (b : ℕ) (r : Use) → ρ b ≡ r → roles_of L t b ≤ 1
  few_roles b free e = let k : kind (ρ b) ≡ 0 = ap kind e in omega (arith, no_data b (λ z. omega arith), no_sequential b (λ z. omega arith) t.sequential refl, no_logs b (λ z. omega arith), times_few b t.free ok.free_apart)
  few_roles b (data_of d) e = let k : kind (ρ b) ≡ 1 = ap kind e in omega (arith, few_data b, no_sequential b (λ z. omega arith) t.sequential refl, no_logs b (λ z. omega arith), no_free b (λ z. omega arith))
  few_roles b sequential e = let k : kind (ρ b) ≡ 2 = ap kind e in omega (arith, no_data b (λ z. omega arith), few_sequential b t.sequential, no_logs b (λ z. omega arith), no_free b (λ z. omega arith))
  few_roles b random e = let k : kind (ρ b) ≡ 3 = ap kind e in omega (arith, no_data b (λ z. omega arith), no_sequential b (λ z. omega arith) t.sequential refl, times_few b t.logs ok.log_apart, no_free b (λ z. omega arith))
  few_roles b outside e = let k : kind (ρ b) ≡ 4 = ap kind e in omega (arith, no_data b (λ z. omega arith), no_sequential b (λ z. omega arith) t.sequential refl, no_logs b (λ z. omega arith), no_free b (λ z. omega arith))

  sum_sequential : (q : Option Sequential) → t.sequential ≡ q → sum_below B (λ b. times_sequential b q) ≡ busy q
  sum_sequential None e = sum_none (λ _. 0) B (λ _ _. refl)
  sum_sequential (Some k) e = sum_is B k.block (inside ok k.block sequential (ok.seq_role k e) (λ z. omega arith))

  all_roles : sum_below B (roles_of L t) ≡ B
  all_roles =
      let d : ℕ → ℕ = λ b. sum_below L (λ c. is_block (t.data_block c) b) in
      let q : ℕ → ℕ = λ b. times_sequential b t.sequential in
      let l : ℕ → ℕ = λ b. times b t.logs in
      let f : ℕ → ℕ = λ b. times b t.free in
      sum_add B (λ b. d b + q b + l b) f ∙ ap (λ n. n + sum_below B f) (sum_add B (λ b. d b + q b) l ∙ ap (λ n. n + sum_below B l) (sum_add B d q))
      ∙ omega (
        arith,
        sum_data B L t.data_block (λ c h. inside ok (t.data_block c) (data_of c) (ok.data_role c h) (λ z. omega arith)),
        sum_sequential t.sequential refl,
        sum_times B t.logs (All-weaker (λ b. ρ b ≡ random) (λ b. b < B) (λ b e. inside ok b random e (λ z. omega arith)) t.logs ok.log_role),
        sum_times B t.free (All-weaker (λ b. ρ b ≡ free) (λ b. b < B) (λ b e. inside ok b free e (λ z. omega arith)) t.free ok.free_role),
        ok.room,
      )

  pub tables_right : TablesRight P L R B t
  tables_right =
      record {
        one_role = all_one (roles_of L t) B (λ b _. few_roles b (ρ b) refl) all_roles;
        one_live = ok.once;
        filled = λ k e. (ok.seq_owner k e, ok.seq_some k e, ok.seq_fill k e);
        few_logs = ok.few;
        no_more_entries = ok.filled;
        all_but_last_full = ok.full;
      }
