-- Digits that are read one by one, and the number that they spell.
use Rattle.std.proofs.Common.{◌≡◌, ℕ, ◌+◌, ◌-◌, ◌*◌, ◌^◌, ◌<◌, ◌≤◌, false, List, [], ◌∷◌, length, get_or, take, drop, Some, None, sym, ap, ◌∙◌, take-append-drop, take_all, arith}
use Rattle.std.proofs.lemmas.Bool.Decides.{nat_tests}
use Rattle.std.proofs.lemmas.List.Sums.{fold_more, fold-append, prefix_len-drop_no, prefix_len-drop_all}
use Rattle.std.specs.List.{prefix_len, fold}
use Rattle.console.specs.Commands.{digit, value, number_of}

-- a byte that is no digit
pub no_digit : (ds : List ℕ) (i : ℕ) → i < length ds → prefix_len digit ds ≡ i + prefix_len digit (drop i ds) → digit (get_or ds i 0) ≡ false → number_of ds ≡ None
unfolding number_of
no_digit ds i h e other = let f = prefix_len-drop_no digit ds i 0 h other in grind (arith, nat_tests)

-- more digits spell no less
grows : (n : ℕ) (ds : List ℕ) → n ≤ fold (λ n d. n * 10 + (d - 48)) n ds
grows n [] = omega arith
grows n (d ∷ ds) = let more = grows (n * 10 + (d - 48)) ds in omega arith

pub too_large : (ds : List ℕ) (i v : ℕ) → i < length ds → v ≡ value (take i ds) → 2 ^ 32 ≤ v * 10 + (get_or ds i 0 - 48) → number_of ds ≡ None
unfolding number_of
too_large ds i v h e large =
    let f = fold_more (λ n d. n * 10 + (d - 48)) 0 ds i 0 h in
    let all : value ds ≡ fold (λ n d. n * 10 + (d - 48)) (value (take (i + 1) ds)) (drop (i + 1) ds) =
    sym (ap value (take-append-drop (i + 1) ds)) ∙ fold-append (λ n d. n * 10 + (d - 48)) 0 (take (i + 1) ds) (drop (i + 1) ds) in
    let more = grows (value (take (i + 1) ds)) (drop (i + 1) ds) in
    let big : 2 ^ 32 ≤ value ds = omega (arith, e, f, all, more) in
    grind (arith, nat_tests)

-- all digits were read
pub all_read : (ds : List ℕ) (i v : ℕ) → i ≡ length ds → v ≡ value (take i ds) → prefix_len digit ds ≡ i + prefix_len digit (drop i ds) → v < 2 ^ 32 → 1 ≤ length ds → length ds ≤ 10 →
    Some v ≡ number_of ds
unfolding number_of
all_read ds i v h e p small some most =
    let f = prefix_len-drop_all digit ds i (omega arith) in
    let g : v ≡ value ds = e ∙ ap value (take_all i ds (omega arith)) in
    grind (arith, nat_tests)
