-- The lines of an input, one after the other, and what they print.
use Rattle.std.proofs.Common.{◌≡◌, ℕ, suc, ◌+◌, ◌<◌, ◌≤◌, Bor, List, [], ◌∷◌, ◌++◌, length, take, drop, Some, None, Option, unwrap_or, sym, refl, ap, ap₂, ◌∙◌, subst, append_assoc, append-nil, add-one, ⊎_elim, arith, eq-eqb, ne_eqb}
use Rattle.std.proofs.lemmas.Bool.{cases_eq}
use Rattle.std.proofs.lemmas.List.{length_push}
use Rattle.std.proofs.lemmas.Bool.Decides.{nat_tests}
use Rattle.std.specs.List.{prefix_len}
use Rattle.std.specs.Option.{MatchOption}
use Rattle.scheme.specs.Ledger.{Call, Reply}
use Rattle.console.specs.Commands.{Said, says_write, says_read, other_than, said}
use Rattle.console.specs.Lines.{lines_from, lines}
use Rattle.console.specs.Running.{Asks, Adds, ByLine}

-- the first line of what is left of an input, of which `front` was seen: up to byte 10, or all
line_ends : (front bs : List ℕ) (k : ℕ) → k ≡ prefix_len (other_than 10) bs → k < length bs → lines_from front bs ≡ (front ++ take k bs) ∷ lines (drop (k + 1) bs)
line_ends front [] k e h = absurd (omega arith)
line_ends front (b ∷ bs) k e h =
    ⊎_elim
    (λ here. let t = eq-eqb b 10 here in let none : k ≡ 0 = e ∙ rw t refl in
    rw (none, t, append-nil) refl)
    (λ other. let t = ne_eqb b 10 other in let more : k ≡ suc (prefix_len (other_than 10) bs) = e ∙ rw t (omega arith) in
    let one : suc (prefix_len (other_than 10) bs + 1) ≡ suc (prefix_len (other_than 10) bs) + 1 = omega arith in
    rw (more, t) (line_ends (front ++ (b ∷ [])) bs (prefix_len (other_than 10) bs) refl (omega arith) ∙ ap₂ (λ l m. l ∷ lines m) (append_assoc front (b ∷ []) (take (prefix_len (other_than 10) bs) bs)) (ap (λ n. drop n (b ∷ bs)) one)))
    (cases_eq b 10)

last_line : (front bs : List ℕ) → length bs ≤ prefix_len (other_than 10) bs → 0 < length front + length bs → lines_from front bs ≡ (front ++ bs) ∷ []
last_line front [] h some = grind (arith, nat_tests, append-nil {A = ℕ})
last_line front (b ∷ bs) h some =
    ⊎_elim
    (λ here. let t = eq-eqb b 10 here in let none : prefix_len (other_than 10) (b ∷ bs) ≡ 0 = rw t refl in absurd (omega arith))
    (λ other. let t = ne_eqb b 10 other in let more : prefix_len (other_than 10) (b ∷ bs) ≡ 1 + prefix_len (other_than 10) bs = rw t refl in
    rw t (last_line (front ++ (b ∷ [])) bs (omega arith) (omega (arith, length_push front b)) ∙ ap (λ l. l ∷ []) (append_assoc front (b ∷ []) bs)))
    (cases_eq b 10)

pub next_line : (bs : List ℕ) (r : Option (Bor (List ℕ) × Bor (List ℕ))) (d u : Bor (List ℕ) × Bor (List ℕ)) → 0 < length bs
    → MatchOption r (length bs ≤ prefix_len (other_than 10) bs) (λ p. (prefix_len (other_than 10) bs < length bs) × (p.0.now ≡ take (prefix_len (other_than 10) bs) bs) × (p.1.now ≡ drop (prefix_len (other_than 10) bs + 1) bs))
    → u ≡ unwrap_or r d → d.0.now ≡ bs → d.1.now ≡ [] → lines bs ≡ u.0.now ∷ lines u.1.now
next_line bs None d u some h e f g =
    let same : u ≡ d = e in
    last_line [] bs h (omega arith) ∙ sym (ap₂ (λ l m. l ∷ lines m) (ap (λ (x : Bor (List ℕ) × Bor (List ℕ)). x.0.now) same ∙ f) (ap (λ (x : Bor (List ℕ) × Bor (List ℕ)). x.1.now) same ∙ g))
next_line bs (Some p) d u some h e f g =
    let same : u ≡ p = e in
    line_ends [] bs _ refl h.0 ∙ sym (ap₂ (λ l m. l ∷ lines m) (ap (λ (x : Bor (List ℕ) × Bor (List ℕ)). x.0.now) same ∙ h.1) (ap (λ (x : Bor (List ℕ) × Bor (List ℕ)). x.1.now) same ∙ h.2))

-- there are no more lines than bytes
few_lines : (front bs : List ℕ) → length (lines_from front bs) ≤ length front + length bs
few_lines front [] = grind (arith, nat_tests)
few_lines front (b ∷ bs) =
    let ended = few_lines [] bs in
    let more = few_lines (front ++ (b ∷ [])) bs in
    let one = length_push front b in
    grind (arith, nat_tests)

pub few : (bs : List ℕ) → length (lines bs) ≤ length bs
few bs = let h = few_lines [] bs in omega arith

-- whatever the lines that are left print, all lines print that after `out`
pub record Onward {S : Type 0} (does : S → ℕ → Option Said → List ℕ → S → Type 0) (x₀ : S) (all : List (List ℕ)) (x : S) (k : ℕ) (left : List (List ℕ)) (out : List ℕ) : Type 0 where
  pub whole : (rest : List ℕ) (y : S) → ByLine does x k left rest y → ByLine does x₀ 1 all (out ++ rest) y

module _ {S : Type 0} (does : S → ℕ → Option Said → List ℕ → S → Type 0) (x₀ : S) (all : List (List ℕ)) where
  pub onward_line : (x : S) (k line next : ℕ) (left : List (List ℕ)) (l : List ℕ) (ls : List (List ℕ)) (before after : List ℕ) (y : S) → left ≡ l ∷ ls → line ≡ k → next ≡ line + 1 →
      Onward does x₀ all x k left before → Adds does x line (said l) before after y → Onward does x₀ all y next ls after
  onward_line x k line next left l ls before after y e f n h b =
      let a : Adds does x k (said l) before after y = subst (λ j. Adds does x j (said l) before after y) f b in
      rw (n, f) (record {
        whole = λ rest z p.
            let same : before ++ (a.0 ++ rest) ≡ after ++ rest = sym (ap (λ xs. xs ++ rest) a.2 ∙ append_assoc before a.0 rest) in
            let more : ByLine does y (suc k) ls rest z = rw add-one at p in
            let first : ByLine does x k left (a.0 ++ rest) z = rw e (y, a.0, rest, a.1, more, refl) in
            subst (λ xs. ByLine does x₀ 1 all xs z) same (h.whole (a.0 ++ rest) z first);
      })

  pub onward_last : (x : S) (k : ℕ) (left : List (List ℕ)) (out : List ℕ) → left ≡ [] → Onward does x₀ all x k left out → ByLine does x₀ 1 all out x
  onward_last x k left out e h =
      let none : ByLine does x k left [] x = rw e (refl, refl) in
      subst (λ xs. ByLine does x₀ 1 all xs x) (append-nil out) (h.whole [] x none)

-- lines that are carried out on what means something else, where a call is told by what is meant
asks_meant : {A B : Type 0} (means : A → B) (makes : B → B → Call → Reply → Type 0) (x : A) (k : ℕ) (what : Option Said) (text : List ℕ) (y : A)
    → Asks (λ a b. makes (means a) (means b)) x k what text y → Asks makes (means x) k what text (means y)
asks_meant means makes x k None text y h = (h.0, ap means h.1)
asks_meant means makes x k (Some (says_read n)) text y h = h
asks_meant means makes x k (Some (says_write n words)) text y h = h

pub lines_meant : {A B : Type 0} (means : A → B) (makes : B → B → Call → Reply → Type 0) (x : A) (k : ℕ) (ls : List (List ℕ)) (out : List ℕ) (y : A)
    → ByLine (Asks (λ a b. makes (means a) (means b))) x k ls out y → ByLine (Asks makes) (means x) k ls out (means y)
lines_meant means makes x k [] out y h = (h.0, ap means h.1)
lines_meant means makes x k (l ∷ ls) out y h =
    (means h.0, h.1, h.2, asks_meant means makes x k (said l) h.1 h.0 h.3, lines_meant means makes h.0 (suc k) ls h.2 y h.4, h.5)
