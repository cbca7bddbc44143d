-- A slot of a plain store: what a write of it leaves of the others.
use Rattle.std.proofs.Common.{◌≡◌, ℕ, ◌+◌, ◌-◌, ◌*◌, ◌/◌, ◌<◌, ◌≤◌, min, List, [], ◌∷◌, ◌++◌, length, get_or, take, drop, set, Some, None, sym, refl, ap, ◌∙◌, inl, ⊎_elim, mul-le-mul_left, add-one, arith, drop-drop}
use borrow.Rule.Slice.PartMut.{put_mid}
use Rattle.std.proofs.lemmas.List.{set_split, get_or-take, get_or-drop}
use Rattle.std.proofs.lemmas.Bool.{cases_eq, cases_lt}
use Rattle.std.proofs.lemmas.Bool.Decides.{nat_tests}
use Rattle.flash.specs.Patched.{patched, all_patched}
use Rattle.flash.proofs.Patches.{length_patched, length_all, part_apart, part_put, Within, Apart}
use Rattle.scheme.specs.Functions.{upd}
use Rattle.store.specs.Meaning.{Written}
use Rattle.store.specs.Plain.{plain_size, plain_at, plain_line, plain_table, plain_set}

-- one byte and then a part, written in place
pub put_is : (bs ys : List ℕ) (at : ℕ) → at + 513 ≤ length bs → length ys ≡ 512 →
    put_mid (at + 1) (at + 513 - (at + 1)) (set bs at 1) ys ≡ all_patched bs ((at, 1 ∷ []) ∷ (at + 1, ys) ∷ [])
unfolding patched
put_is bs ys at h whole =
    let first : set bs at 1 ≡ take at bs ++ (1 ∷ drop (at + 1) bs) = set_split bs at 1 (omega arith) ∙ rw (← (add-one at)) in
    let n : at + 513 - (at + 1) ≡ length ys = omega arith in
    rw (first, n) (ap (λ xs. take (at + 1) (take at bs ++ (1 ∷ drop (at + 1) bs)) ++ (ys ++ xs)) (drop-drop (length ys) (at + 1) (take at bs ++ (1 ∷ drop (at + 1) bs))))

pub blank_slot : (bs : List ℕ) (at : ℕ) → get_or bs at 0 ≡ 0 → plain_at bs at ≡ None
unfolding plain_at
blank_slot bs at h = grind (arith, nat_tests)

pub written_slot : (bs : List ℕ) (at : ℕ) → (get_or bs at 0 ≡ 0 → ⊥) → plain_at bs at ≡ Some (take 512 (drop (at + 1) bs))
unfolding plain_at
written_slot bs at h = grind (arith, nat_tests)

-- a slot is its first byte and the rest
first_byte : (bs cs : List ℕ) (k : ℕ) → take 1 (drop k cs) ≡ take 1 (drop k bs) → get_or cs k 0 ≡ get_or bs k 0
first_byte bs cs k e =
    let at : (xs : List ℕ) → get_or (take 1 (drop k xs)) 0 0 ≡ get_or xs k 0 =
    λ xs. get_or-take 1 (drop k xs) 0 0 (omega arith) ∙ get_or-drop k xs 0 0 ∙ ap (λ j. get_or xs j 0) (omega arith) in
    sym (at cs) ∙ ap (λ xs. get_or xs 0 0) e ∙ at bs

same_slot : (bs cs : List ℕ) (k : ℕ) → take 1 (drop k cs) ≡ take 1 (drop k bs) → take 512 (drop (k + 1) cs) ≡ take 512 (drop (k + 1) bs) → plain_at cs k ≡ plain_at bs k
unfolding plain_at
same_slot bs cs k e f = let g = first_byte bs cs k e in rw (g, f)

module _ (bs ys : List ℕ) (n : ℕ) (known : n < plain_size bs) (whole : length ys ≡ 512) where
  patches : List (ℕ × List ℕ)
  patches = (513 * n, 1 ∷ []) ∷ (513 * n + 1, ys) ∷ []

  slot_inside : (k : ℕ) → k < plain_size bs → 513 * k + 513 ≤ length bs
  slot_inside k h = let m = mul-le-mul_left {m = k + 1} {n = length bs / 513} 513 (omega arith) in omega arith

  fits : Within (length bs) patches
  unfolding patches
  fits = let h = slot_inside n known in (omega arith, (omega arith, tt))

  same_length : length (plain_set bs n ys) ≡ length bs
  unfolding patches
  same_length = length_all bs patches fits

  same_size : plain_size (plain_set bs n ys) ≡ plain_size bs
  same_size = ap (λ k. min (k / 513) 65536) same_length

  -- the part of a slot that lies apart from this one
  apart : (k j m : ℕ) → (513 * n < j + m → 513 * n + 513 ≤ j) → Apart patches j m
  unfolding patches
  apart k j m h = (λ l. let q = h l in omega arith, (λ l. let q = h (omega arith) in omega arith, tt))

  other_slot : (k : ℕ) → k < plain_size bs → (k ≡ n → ⊥) → plain_at (plain_set bs n ys) (513 * k) ≡ plain_at bs (513 * k)
  unfolding patches
  other_slot k h ne =
      let i = slot_inside k h in
      same_slot bs (plain_set bs n ys) (513 * k)
      (part_apart bs patches (513 * k) 1 (omega arith) fits (apart k (513 * k) 1 (λ l. omega arith)))
      (part_apart bs patches (513 * k + 1) 512 (omega arith) fits (apart k (513 * k + 1) 512 (λ l. omega arith)))

  this_slot : plain_at (plain_set bs n ys) (513 * n) ≡ Some ys
  unfolding patches
  this_slot =
      let flag : take 1 (drop (513 * n) (plain_set bs n ys)) ≡ 1 ∷ [] =
      part_put bs ((513 * n + 1, ys) ∷ []) fits.1 (513 * n) 1 (1 ∷ []) fits.0 refl (λ l. absurd (omega arith), tt) in
      let first = length_patched bs (513 * n) (1 ∷ []) fits.0 in
      let text : take 512 (drop (513 * n + 1) (plain_set bs n ys)) ≡ ys =
      part_put (patched bs (513 * n) (1 ∷ [])) [] tt (513 * n + 1) 512 ys (let h = slot_inside n known in omega arith) whole tt in
      let one : get_or (plain_set bs n ys) (513 * n) 0 ≡ 1 = flagged flag in
      written_slot (plain_set bs n ys) (513 * n) (λ z. omega arith) ∙ ap Some text
    where
      flagged : take 1 (drop (513 * n) (plain_set bs n ys)) ≡ 1 ∷ [] → get_or (plain_set bs n ys) (513 * n) 0 ≡ 1
      flagged e = sym (get_or-take 1 (drop (513 * n) (plain_set bs n ys)) 0 0 (omega arith) ∙ get_or-drop (513 * n) (plain_set bs n ys) 0 0
          ∙ ap (λ j. get_or (plain_set bs n ys) j 0) (omega arith)) ∙ ap (λ xs. get_or xs 0 0) e

  line_after : (k : ℕ) → plain_line (plain_set bs n ys) k ≡ upd (plain_line bs) n (Some ys) k
  unfolding upd
  line_after k =
      let size = same_size in
      ⊎_elim
      (λ same. let k_is : k ≡ n = same in let t = this_slot in rw k_is (grind (arith, nat_tests)))
      (λ other. ⊎_elim
      (λ h. let o = other_slot k h other in grind (arith, nat_tests))
      (λ h. grind (arith, nat_tests))
      (cases_lt k (plain_size bs)))
      (cases_eq k n)

  pub set_written : Written (plain_table bs) (plain_table (plain_set bs n ys)) n ys None
  set_written = record {
    refused = grind (arith, nat_tests);
    size = same_size;
    lines = λ i k. line_after k i;
    bars = λ k. inl refl;
    kept = λ m e. let z : ◌≡◌ {A = ℕ} 0 1 = cc in absurd (omega arith);
  }
