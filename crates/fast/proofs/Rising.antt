-- Blocks in rising order.
use Rattle.std.proofs.Common.{◌≡◌, ℕ, zero, suc, ◌+◌, ◌-◌, ◌<◌, ◌≤◌, cond, ltb, ◌≢◌, List, [], ◌∷◌, ◌++◌, get_or, sym, refl, ap, ◌∙◌, ap₂, inl, inr, arith}
use mathlib.Core.Path.{fun_ext}
use Rattle.std.proofs.lemmas.Bool.{cases_lt, cases_eq, eq-eqb, ne_eqb, lt-ltb, le-ltb}
use Rattle.flash.specs.declared.numbers.Block.{Block}
use Rattle.scheme.specs.Steps.{rising}
use Rattle.fast.specs.Rules.{same, uses}
use Rattle.fast.specs.Views.{numbers}
use Rattle.fast.proofs.Counts.{numbers_push}

rising_snoc : (a n : ℕ) → rising a (suc n) ≡ rising a n ++ ((a + n) ∷ [])
rising_snoc a zero = let e : a ≡ a + 0 = omega arith in ap (λ (b : ℕ). b ∷ []) e
rising_snoc a (suc n) = let e : suc a + n ≡ a + suc n = omega arith in ap (λ (xs : List ℕ). a ∷ xs) (rising_snoc (suc a) n ∙ ap (λ (b : ℕ). rising (suc a) n ++ (b ∷ [])) e)

pub rising_more : (xs ys : List Block) (x : Block) (a i : ℕ) → a ≤ i → numbers xs ≡ rising a (i - a) → x.0 ≡ i → ys ≡ xs ++ (x ∷ []) → numbers ys ≡ rising a (i + 1 - a)
rising_more xs ys x a i h e z j =
    let n : suc (i - a) ≡ i + 1 - a = omega arith in
    let m : x.0 ≡ a + (i - a) = omega (arith, z) in
    ap numbers j ∙ numbers_push xs x ∙ ap₂ (λ us b. us ++ (b ∷ [])) e m ∙ sym (rising_snoc a (i - a)) ∙ ap (rising a) n

-- 1 for the blocks from a on, n of them
uses_numbers : (b : ℕ) (xs : List Block) (a n : ℕ) → numbers xs ≡ rising a n → (b < a → uses b xs ≡ 0) × (a ≤ b → b < a + n → uses b xs ≡ 1) × (a + n ≤ b → uses b xs ≡ 0)
uses_numbers b [] a zero e = (λ _. refl, λ h k. absurd (omega arith), λ _. refl)
uses_numbers b [] a (suc n) e = let z : ◌≡◌ {A = ℕ} 0 1 = cc in absurd (omega arith)
uses_numbers b (x ∷ xs) a zero e = let z : ◌≡◌ {A = ℕ} 0 1 = cc in absurd (omega arith)
uses_numbers b (x ∷ xs) a (suc n) e =
    let i : x.0 ≡ a = cc in
    let t : numbers xs ≡ rising (suc a) n = cc in
    let r = uses_numbers b xs (suc a) n t in
    elim (cases_eq b a) [
      | inl q ↦
          let w : same b x.0 ≡ 1 = ap (λ v. cond {A = ℕ} v 1 0) (eq-eqb b x.0 (q ∙ sym i)) in
          (λ h. absurd (omega arith), λ h k. omega (arith, w, r.0 (omega arith)), λ h. absurd (omega arith))
      | inr d ↦
          let d' : b ≢ x.0 = λ q. d (q ∙ i) in
          let w : same b x.0 ≡ 0 = ap (λ v. cond {A = ℕ} v 1 0) (ne_eqb b x.0 d') in
          (λ h. omega (arith, w, r.0 (omega arith)), λ h k. omega (arith, w, r.1 (omega arith) (omega arith)), λ h. omega (arith, w, r.2 (omega arith)))
    ]

-- the blocks below L and the others up to B are all blocks
pub all_once : (B L : ℕ) (map free : List Block) → L ≤ B → numbers map ≡ rising 0 (L - 0) → numbers free ≡ rising L (B - L) → (b : ℕ) → uses b map + 0 + 0 + uses b free ≡ cond (ltb b B) 1 0
all_once B L map free h m f b =
    let p = uses_numbers b map 0 (L - 0) m in
    let q = uses_numbers b free L (B - L) f in
    elim (cases_lt b B) [
      | inl i ↦ rw (lt-ltb b B i) (elim (cases_lt b L) [
        | inl j ↦ omega (arith, p.1 (omega arith) (omega arith), q.0 j)
        | inr j ↦ omega (arith, p.2 (omega arith), q.1 j (omega arith))
      ])
      | inr i ↦ rw (le-ltb b B i) (omega (arith, p.2 (omega arith), q.2 (omega arith)))
    ]

getD_rising : (a n k : ℕ) → get_or (rising a n) k 0 ≡ cond (ltb k n) (a + k) 0
getD_rising a zero k = sym (rw (le-ltb k 0 (omega arith)) refl)
getD_rising a (suc n) zero = let h : 0 < suc n = omega arith in sym (rw (lt-ltb 0 (suc n) h) (omega arith))
getD_rising a (suc n) (suc k) =
    elim (cases_lt k n) [
      | inl h ↦ let i : suc k < suc n = omega arith in getD_rising (suc a) n k ∙ rw (lt-ltb k n h, lt-ltb (suc k) (suc n) i) (omega arith)
      | inr h ↦ let i : suc n ≤ suc k = omega arith in getD_rising (suc a) n k ∙ rw (le-ltb k n h, le-ltb (suc k) (suc n) i) refl
    ]

pub map_rising : (L : ℕ) (map : List Block) → numbers map ≡ rising 0 (L - 0) → ◌≡◌ {A = ℕ → ℕ} (λ c. get_or (numbers map) c 0) (λ i. cond (ltb i L) i 0)
map_rising L map e =
    fun_ext (λ c.
    let l : L - 0 ≡ L = omega arith in
    let z : 0 + c ≡ c = omega arith in
    ap (λ xs. get_or xs c 0) e ∙ getD_rising 0 (L - 0) c ∙ ap₂ (λ n k. cond (ltb c n) k 0) l z)
