-- The entries of the random log blocks: where a sector's live entry stands after entries were made stale, added or dropped.
use Rattle.std.proofs.Common.{◌≡◌, ℕ, zero, suc, ◌+◌, ◌<◌, ◌≤◌, Bool, false, cond, eqb, ◌≢◌, ◌⊎◌, List, [], ◌∷◌, ◌++◌, length, get_or, drop, Some, None, Option, sym, refl, ap, ◌∙◌, inl, inr, add-zero, add-suc, suc-add, arith}
use lib.ListN.{get_or-map}
use Rattle.std.proofs.lemmas.List.{get_or-drop}
use Rattle.std.proofs.lemmas.Bool.{cond_both, cases_eq, cases_Bool, eq-eqb, ne_eqb, eqb-false}
use Rattle.scheme.specs.Place.{entry_of}
use Rattle.scheme.specs.Tables.{Entry, live, stale, stale_if, stale_all}

-- an entry that is found is one of the list
pub entry_in : (n i j : ℕ) (es : List Entry) → entry_of n i es ≡ Some j → j < i + length es
entry_in n i j [] e = let z : ◌≡◌ {A = ℕ} 0 1 = cc in omega arith
entry_in n i j (stale ∷ es) e = let h : j < suc i + length es = entry_in n (suc i) j es e in omega arith
entry_in n i j (live m ∷ es) e =
    cond_both (eqb m n) (Some i) (entry_of n (suc i) es) (λ z. z ≡ Some j → j < i + suc (length es))
    (λ _ e. let q : i ≡ j = cc in omega arith)
    (λ _ e. let h : j < suc i + length es = entry_in n (suc i) j es e in omega arith)
    e

-- the entry of a sector that passes the test is gone, any other is as it was
pub entry_stale : (q : ℕ → Bool) (n i : ℕ) (es : List Entry) → entry_of n i (stale_all q es) ≡ cond (q n) None (entry_of n i es)
entry_stale q n i [] = cond_both (q n) None None (λ z. None ≡ z) (λ _. refl) (λ _. refl)
entry_stale q n i (stale ∷ es) = entry_stale q n (suc i) es
entry_stale q n i (live m ∷ es) =
    elim (cases_eq m n) [
      | inl e ↦ elim (cases_Bool (q n)) [
        | inl p ↦ rw (e, p) (entry_stale q n (suc i) es ∙ rw p refl)
        | inr p ↦ rw (e, p, eq-eqb n n refl) refl
      ]
      | inr ne ↦ elim (cases_Bool (q m)) [
        | inl p ↦ rw (p, ne_eqb m n ne) (entry_stale q n (suc i) es)
        | inr p ↦ rw (p, ne_eqb m n ne) (entry_stale q n (suc i) es)
      ]
    ]

pub entry_push_other : (n m i : ℕ) (es : List Entry) → m ≢ n → entry_of n i (es ++ live m ∷ []) ≡ entry_of n i es
entry_push_other n m i [] ne = rw ne_eqb refl
entry_push_other n m i (stale ∷ es) ne = entry_push_other n m (suc i) es ne
entry_push_other n m i (live k ∷ es) ne = ap (cond (eqb k n) (Some i)) (entry_push_other n m (suc i) es ne)

pub entry_push_same : (n i : ℕ) (es : List Entry) → entry_of n i es ≡ None → entry_of n i (es ++ live n ∷ []) ≡ Some (i + length es)
entry_push_same n i [] e = rw (eq-eqb n n refl, add-zero) refl
entry_push_same n i (stale ∷ es) e = entry_push_same n (suc i) es e ∙ ap Some (suc-add i (length es) ∙ sym (add-suc i (length es)))
entry_push_same n i (live k ∷ es) e =
    elim (cases_Bool (eqb k n)) [
      | inl p ↦ let z : ◌≡◌ {A = ℕ} 0 1 = cc in absurd (omega arith)
      | inr p ↦ rw p (entry_push_same n (suc i) es (rw p at e) ∙ ap Some (suc-add i (length es) ∙ sym (add-suc i (length es))))
    ]

abbrev pub later : ℕ → Option ℕ → Option ℕ
later k None = None
later k (Some i) = Some (i + k)

pub entry_shift : (n i k : ℕ) (es : List Entry) → entry_of n (i + k) es ≡ later k (entry_of n i es)
entry_shift n i k [] = refl
entry_shift n i k (stale ∷ es) = rw (← suc-add i k) (entry_shift n (suc i) k es)
entry_shift n i k (live m ∷ es) =
    elim (cases_Bool (eqb m n)) [
      | inl p ↦ rw p refl
      | inr p ↦ rw (p, ← suc-add i k) (entry_shift n (suc i) k es)
    ]

-- entries that are all stale hold nothing
pub entry_drop : (n i k : ℕ) (es : List Entry) → k ≤ length es → ((j : ℕ) → j < k → get_or es j stale ≡ stale) → entry_of n i es ≡ entry_of n (i + k) (drop k es)
entry_drop n i zero es h all = rw add-zero refl
entry_drop n i (suc k) [] h all = absurd (omega arith)
entry_drop n i (suc k) (stale ∷ es) h all = entry_drop n (suc i) k es (omega arith) (λ j l. all (suc j) (omega arith)) ∙ rw (suc-add, add-suc) refl
entry_drop n i (suc k) (live m ∷ es) h all = let e : live m ≡ stale = all 0 (omega arith) in let z : ◌≡◌ {A = ℕ} 0 1 = cc in absurd (omega arith)

-- an entry after others were made stale
pub stale_at : (q : ℕ → Bool) (es : List Entry) (i : ℕ) → get_or (stale_all q es) i stale ≡ stale_if q (get_or es i stale)
stale_at q es i = get_or-map (stale_if q) es i stale

pub still_live : (q : ℕ → Bool) (x : Entry) (n : ℕ) → stale_if q x ≡ live n → (x ≡ live n) × (q n ≡ false)
still_live q stale n e = let z : ◌≡◌ {A = ℕ} 0 1 = cc in absurd (omega arith)
still_live q (live m) n e =
    cond_both (q m) stale (live m) (λ z. z ≡ live n → (◌≡◌ {A = Entry} (live m) (live n)) × (q n ≡ false))
    (λ _ e. let z : ◌≡◌ {A = ℕ} 0 1 = cc in absurd (omega arith))
    (λ h e. let i : m ≡ n = cc in (e, rw i at h))
    e

-- no sector has two live entries
abbrev pub Once : List Entry → Type 0
Once es = (n i j : ℕ) → get_or es i stale ≡ live n → get_or es j stale ≡ live n → i ≡ j

pub once_stale : (q : ℕ → Bool) (es : List Entry) → Once es → Once (stale_all q es)
once_stale q es h n i j a b =
    h n i j (still_live q (get_or es i stale) n (sym (stale_at q es i) ∙ a)).0 (still_live q (get_or es j stale) n (sym (stale_at q es j) ∙ b)).0

pub once_drop : (k : ℕ) (es : List Entry) → Once es → Once (drop k es)
once_drop k es h n i j a b =
    let e : k + i ≡ k + j = h n (k + i) (k + j) (sym (get_or-drop k es i stale) ∙ a) (sym (get_or-drop k es j stale) ∙ b) in omega arith

-- what a list with a live entry added holds
push_at : (es : List Entry) (n i m : ℕ) → get_or (es ++ live n ∷ []) i stale ≡ live m → ((i < length es) × (get_or es i stale ≡ live m)) ⊎ ((i ≡ length es) × (m ≡ n))
push_at [] n zero m e = inr (refl, cc)
push_at [] n (suc i) m e = let z : ◌≡◌ {A = ℕ} 0 1 = cc in absurd (omega arith)
push_at (x ∷ es) n zero m e = inl (omega arith, e)
push_at (x ∷ es) n (suc i) m e = elim (push_at es n i m e) [ inl h ↦ inl (omega (arith, h.0), h.1) | inr h ↦ inr (ap suc h.0, h.1) ]

pub once_push : (n : ℕ) (es : List Entry) → Once es → Once (stale_all (λ m. eqb m n) es ++ live n ∷ [])
once_push n es h m i j a b =
    elim (push_at (stale_all (λ m. eqb m n) es) n i m a) [
      | inl p ↦ elim (push_at (stale_all (λ m. eqb m n) es) n j m b) [
        | inl q ↦ once_stale (λ m. eqb m n) es h m i j p.1 q.1
        | inr q ↦ absurd (gone i q.1 p.1)
      ]
      | inr p ↦ elim (push_at (stale_all (λ m. eqb m n) es) n j m b) [
        | inl q ↦ absurd (gone j p.1 q.1)
        | inr q ↦ p.0 ∙ sym q.0
      ]
    ]
  where
    gone : (k : ℕ) → m ≡ n → get_or (stale_all (λ m. eqb m n) es) k stale ≡ live m → ⊥
    gone k e l = eqb-false m n (still_live (λ m. eqb m n) (get_or es k stale) m (sym (stale_at (λ m. eqb m n) es k) ∙ l)).1 e
