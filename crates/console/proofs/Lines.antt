-- Lines taken apart as the parser does it.
use Rattle.std.proofs.Common.{◌≡◌, ℕ, suc, ◌+◌, ◌<◌, ◌≤◌, Bool, true, ◌⊎◌, List, [], ◌∷◌, ◌++◌, length, get_or, take, drop, Some, None, Option, sym, refl, ap, ◌∙◌, subst, inl, inr, ⊎_elim, arith, length-append, take-append-drop, drop-drop, take_at, drop_at, le-ltb, lt-ltb}
use Rattle.std.proofs.lemmas.List.{drop_more}
use Rattle.std.proofs.lemmas.List.Sums.{prefix_len_stops}
use Rattle.std.proofs.lemmas.Bool.{cases_eq, cases_lt, cond_both}
use Rattle.std.proofs.lemmas.Bool.Decides.{nat_tests}
use Rattle.std.specs.List.{prefix_len, AllByRecursion}
use Rattle.console.specs.Commands.{Said, says_write, says_read, digit, Numeral, Spelling, number_of, no_space, read_of, write_of, said_write, said}

-- what follows the letter of a write: a space after k bytes
module _ (rest : List ℕ) (k : ℕ) (at : k ≡ prefix_len no_space rest) where
  no_write : length rest ≤ k → said_write rest ≡ None
  no_write h = let t = le-ltb (prefix_len no_space rest) (length rest) (omega arith) in rw t

  is_write : k < length rest → (x : Option ℕ) → x ≡ number_of (take k rest) → said_write rest ≡ write_of x (drop (k + 1) rest)
  is_write h x e =
      let t = lt-ltb (prefix_len no_space rest) (length rest) (omega arith) in
      rw t (ap (λ j. write_of (number_of (take j rest)) (drop (j + 1) rest)) (sym at) ∙ ap (λ z. write_of z (drop (k + 1) rest)) (sym e))

short_text : (n : ℕ) (text : List ℕ) → length text ≤ 512 → write_of (Some n) text ≡ Some (says_write n text)
short_text n text h = grind (arith, nat_tests)

long_text : (n : ℕ) (text : List ℕ) → 512 < length text → write_of (Some n) text ≡ None
long_text n text h = grind (arith, nat_tests)

-- a line by its first two bytes
module _ (line : List ℕ) where
  pub said_r : 2 ≤ length line → get_or line 1 0 ≡ 32 → get_or line 0 0 ≡ 114 → said line ≡ read_of (number_of (drop 2 line))
  unfolding said
  said_r h e f = grind (arith, nat_tests)

  pub said_w : 2 ≤ length line → get_or line 1 0 ≡ 32 → get_or line 0 0 ≡ 119 → said line ≡ said_write (drop 2 line)
  unfolding said
  said_w h e f = grind (arith, nat_tests)

-- a numeral is what spells a number
all_leading : {X : Type 0} (p : X → Bool) (xs : List X) → prefix_len p xs ≡ length xs → AllByRecursion (λ x. p x ≡ true) xs
all_leading p [] h = tt
all_leading p (x ∷ xs) h = cond_both (p x) (1 + prefix_len p xs) 0 (λ n. n ≡ suc (length xs) → (p x ≡ true) × AllByRecursion (λ x. p x ≡ true) xs)
    (λ yes e. (yes, all_leading p xs (omega arith))) (λ none e. absurd (omega arith)) h

leading_all : {X : Type 0} (p : X → Bool) (xs : List X) → AllByRecursion (λ x. p x ≡ true) xs → prefix_len p xs ≡ length xs
leading_all p [] h = refl
leading_all p (x ∷ xs) h = let e = h.0 in let r = leading_all p xs h.1 in rw (e, r) (omega arith)

number_spelt : (ds : List ℕ) (n : ℕ) → Numeral ds n → number_of ds ≡ Some n
unfolding number_of
number_spelt ds n h = let e = leading_all digit ds h.digits in let v = h.amounts in let f = h.fits in let s = h.some in let m = h.most in grind (arith, nat_tests)

spelt_number : (ds : List ℕ) (n : ℕ) → number_of ds ≡ Some n → Numeral ds n
unfolding number_of
spelt_number ds n h = record {
  some = grind (arith, nat_tests);
  most = grind (arith, nat_tests);
  digits = all_leading digit ds (grind (arith, nat_tests));
  amounts = grind (arith, nat_tests);
  fits = grind (arith, nat_tests);
}

-- what stands after a front without spaces
leading_stop : (ds text : List ℕ) → AllByRecursion (λ d. digit d ≡ true) ds → prefix_len no_space (ds ++ (32 ∷ text)) ≡ length ds
leading_stop [] text h = refl
leading_stop (d ∷ ds) text h =
    let other : no_space d ≡ true = let e = h.0 in grind (arith, nat_tests) in
    let r = leading_stop ds text h.1 in
    rw (other, r) (omega arith)

-- the parts of a line that says something
abbrev Parts : List ℕ → Said → Type 0
Parts line y =
    (2 ≤ length line) × (get_or line 1 0 ≡ 32)
    × (((get_or line 0 0 ≡ 114) × (read_of (number_of (drop 2 line)) ≡ Some y)) ⊎ ((get_or line 0 0 ≡ 119) × (said_write (drop 2 line) ≡ Some y)))

parts : (line : List ℕ) (y : Said) → said line ≡ Some y → Parts line y
unfolding said
parts line y h =
    let two : 2 ≤ length line = grind (arith, nat_tests) in
    let space : get_or line 1 0 ≡ 32 = grind (arith, nat_tests) in (
      two,
      space,
      ⊎_elim
          (λ r. inl (r, sym (said_r line two space r) ∙ h))
          (λ other. let w : get_or line 0 0 ≡ 119 = grind (arith, nat_tests) in inr (w, sym (said_w line two space w) ∙ h))
          (cases_eq (get_or line 0 0) 114),
    )

-- a line is its first two bytes and the rest
two_and_rest : (line : List ℕ) (a b : ℕ) → 2 ≤ length line → get_or line 0 0 ≡ a → get_or line 1 0 ≡ b → line ≡ a ∷ b ∷ drop 2 line
two_and_rest line a b h e f =
    let d₀ : line ≡ get_or line 0 0 ∷ drop 1 line = drop_more line 0 0 (omega arith) in
    let d₁ : drop 1 line ≡ get_or line 1 0 ∷ drop 2 line = drop_more line 1 0 (omega arith) in
    d₀ ∙ ap (λ x. x ∷ drop 1 line) e ∙ ap (λ xs. a ∷ xs) (d₁ ∙ ap (λ x. x ∷ drop 2 line) f)

-- what a read or a write that was understood was made of
from_read : (z : Option ℕ) (n : ℕ) → read_of z ≡ Some (says_read n) → z ≡ Some n
from_read (Some m) n h = let e : m ≡ n = cc in rw e
from_read None n h = let z : ◌≡◌ {A = ℕ} 0 1 = cc in absurd (omega arith)

not_read : (z : Option ℕ) (n : ℕ) (text : List ℕ) → read_of z ≡ Some (says_write n text) → ⊥
not_read (Some m) n text h = let z : ◌≡◌ {A = ℕ} 0 1 = cc in omega arith
not_read None n text h = let z : ◌≡◌ {A = ℕ} 0 1 = cc in omega arith

from_write : (z : Option ℕ) (text : List ℕ) (y : Said) → write_of z text ≡ Some y → (n : ℕ) × (z ≡ Some n) × (length text ≤ 512) × (y ≡ says_write n text)
from_write (Some m) text y h = ⊎_elim
    (λ long. let e = long_text m text long in let z : ◌≡◌ {A = ℕ} 0 1 = cc in absurd (omega arith))
    (λ short. let e = short_text m text short in (m, refl, short, cc))
    (cases_lt 512 (length text))
from_write None text y h = let z : ◌≡◌ {A = ℕ} 0 1 = cc in absurd (omega arith)

from_rest : (rest : List ℕ) (y : Said) → said_write rest ≡ Some y →
    (n : ℕ) × (ds : List ℕ) × (text : List ℕ) × Numeral ds n × (length text ≤ 512) × (rest ≡ ds ++ (32 ∷ text)) × (y ≡ says_write n text)
from_rest rest y h = ⊎_elim
    (λ inside.
    let w = from_write (number_of (take (prefix_len no_space rest) rest)) (drop (prefix_len no_space rest + 1) rest) y
    (sym (is_write rest (prefix_len no_space rest) refl inside (number_of (take (prefix_len no_space rest) rest)) refl) ∙ h) in
    let stop = prefix_len_stops no_space rest 0 inside in
    let space : get_or rest (prefix_len no_space rest) 0 ≡ 32 = grind (arith, nat_tests) in
    let d = drop_more rest (prefix_len no_space rest) 0 inside in
    let whole = take-append-drop (prefix_len no_space rest) rest in (
      w.0,
      take (prefix_len no_space rest) rest,
      drop (prefix_len no_space rest + 1) rest,
      spelt_number (take (prefix_len no_space rest) rest) w.0 w.1,
      w.2,
      sym whole ∙ ap (λ xs. take (prefix_len no_space rest) rest ++ xs) (d ∙ ap (λ x. x ∷ drop (prefix_len no_space rest + 1) rest) space),
      w.3,
    ))
    (λ outside. let e = no_write rest (prefix_len no_space rest) refl outside in let z : ◌≡◌ {A = ℕ} 0 1 = cc in absurd (omega arith))
    (cases_lt (prefix_len no_space rest) (length rest))

pub spelling : (line : List ℕ) (x : Option Said) → x ≡ said line → Spelling line x
spelling line x e = record {
  reads = λ n ds h same.
      e ∙ ap said same ∙ said_r (114 ∷ 32 ∷ ds) (omega arith) refl refl ∙ ap read_of (number_spelt ds n h);
  writes = λ n ds text h short same.
      let stop = leading_stop ds text h.digits in
      e ∙ ap said same ∙ said_w (119 ∷ 32 ∷ (ds ++ (32 ∷ text))) (omega arith) refl refl
      ∙ is_write (ds ++ (32 ∷ text)) (length ds) (sym stop) (omega (arith, length-append ds (32 ∷ text))) (Some n)
      (sym (ap number_of (take_at ds (32 ∷ text) (length ds) refl) ∙ number_spelt ds n h))
      ∙ ap (write_of (Some n)) (sym (drop-drop 1 (length ds) (ds ++ (32 ∷ text))) ∙ ap (drop 1) (drop_at ds (32 ∷ text) (length ds) refl)) ∙ short_text n text short;
  only_reads = λ n h.
      let w = parts line (says_read n) (sym e ∙ h) in
      ⊎_elim
      (λ r. (drop 2 line, spelt_number (drop 2 line) n (from_read (number_of (drop 2 line)) n r.1), two_and_rest line 114 32 w.0 r.0 w.1))
      (λ q. let z = from_rest (drop 2 line) (says_read n) q.1 in let c : ◌≡◌ {A = ℕ} 0 1 = cc z.6 in absurd (omega arith))
      w.2;
  only_writes = λ n text h.
      let w = parts line (says_write n text) (sym e ∙ h) in
      ⊎_elim
      (λ r. absurd (not_read (number_of (drop 2 line)) n text r.1))
      (λ q. let z = from_rest (drop 2 line) (says_write n text) q.1 in
      let n_is : z.0 ≡ n = cc z.6 in
      let text_is : z.2 ≡ text = cc z.6 in (
        z.1,
        subst (Numeral z.1) n_is z.3,
        subst (λ (t : List ℕ). length t ≤ 512) text_is z.4,
        two_and_rest line 119 32 w.0 q.0 w.1 ∙ ap (λ rest. 119 ∷ 32 ∷ rest) (z.5 ∙ ap (λ t. z.1 ++ (32 ∷ t)) text_is),
      ))
      w.2;
}
