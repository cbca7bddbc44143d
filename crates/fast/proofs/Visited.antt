-- The visit of an entry, and the loop over the victim's entries.
use Rattle.std.proofs.Common.{◌≡◌, ℕ, zero, suc, ◌+◌, ◌*◌, ◌/◌, ◌<◌, ◌≤◌, cond, ltb, List, [], ◌∷◌, length, get_or, sym, refl, ap, ◌∙◌, subst, ap₂, inl, inr, div-lt_iff_lt-mul, add-one, arith}
use Rattle.std.proofs.lemmas.Bool.{cases_Bool, eq-eqb, ltb-true}
use Rattle.std.proofs.lemmas.List.{get_or-map}
use Rattle.flash.specs.Meaning.{Flash}
use Rattle.scheme.specs.Tables as spec
use Rattle.scheme.specs.Tables.{Tables, live, stale}
use Rattle.scheme.specs.Work.{State, Work, each, ◌then◌}
use Rattle.fast.specs.Leaves.{at, Left}
use Rattle.fast.specs.Rules.{same, live_entries, OneLive}
use Rattle.fast.specs.Views.{entry_view, entries_view}
use Rattle.fast.specs.declared.tables.random.Entry.{Entry}

pub view_at : (es : List Entry) (i : ℕ) (x y : Entry) → i < length es → x ≡ get_or es i x → x ≡ y → get_or (entries_view es) i stale ≡ entry_view y
view_at es i x y h e z = get_or-map entry_view es i x stale h ∙ ap entry_view (sym e ∙ z)

live_at : (es : List spec.Entry) (i n : ℕ) → get_or es i stale ≡ live n → 1 ≤ live_entries n es
live_at [] i n e = let z : ◌≡◌ {A = ℕ} 0 1 = cc in absurd (omega arith)
live_at (live m ∷ es) zero n e = let i : n ≡ m = cc in let w : same n m ≡ 1 = ap (λ b. cond {A = ℕ} b 1 0) (eq-eqb n m i) in omega arith
live_at (stale ∷ es) zero n e = let z : ◌≡◌ {A = ℕ} 0 1 = cc in absurd (omega arith)
live_at (live m ∷ es) (suc i) n e = let r = live_at es i n e in omega arith
live_at (stale ∷ es) (suc i) n e = live_at es i n e

-- only sectors of the layer have live entries
pub live_known : (P L : ℕ) (es : List spec.Entry) (i n : ℕ) → 0 < P → OneLive (L * P) es → get_or es i stale ≡ live n → n / P < L
live_known P L es i n pos one e =
    let r = live_at es i n e in
    elim (cases_Bool (ltb n (L * P))) [
      | inl h ↦ let k : n < L * P = ltb-true n (L * P) h in (div-lt_iff_lt-mul pos).1 k
      | inr h ↦ let z : cond {A = ℕ} (ltb n (L * P)) 1 0 ≡ 0 = ap (λ b. cond {A = ℕ} b 1 0) h in absurd (omega (arith, one n))
    ]

-- the loop
pub each_none : (g : ℕ → State → Work) (f : Flash) (t : Tables) → Left (each g 0 0 (at f t)) f t 0 0
unfolding each
each_none g f t = record { state = refl; erases = refl; copies = refl }

pub each_more : (g : ℕ → State → Work) (i : ℕ) (s : State) (d f : Flash) (t u : Tables) (e n a b : ℕ) → Left (each g 0 i s) d t e n → Left (g i (at d t)) f u a b → Left (each g 0 (i + 1) s) f u (e + a) (n + b)
unfolding each
each_more g i s d f t u e n a b before next =
    let w = each g 0 i s in
    let here : i ≡ 0 + i = omega arith in
    let q : Left (g (0 + i) w.after) f u a b = subst (λ x. Left (g (0 + i) x) f u a b) before.state (subst (λ k. Left (g k (at d t)) f u a b) here next) in
    rw add-one (record { state = q.state; erases = ap₂ (λ x y. x + y) before.erases q.erases; copies = ap₂ (λ x y. x + y) before.copies q.copies })

-- one step after another
pub left_then : (w : Work) (g : State → Work) (d f : Flash) (t u : Tables) (e n a b : ℕ) → Left w d t e n → Left (g (at d t)) f u a b → Left (w then g) f u (e + a) (n + b)
left_then w g d f t u e n a b before next =
    let q : Left (g w.after) f u a b = subst (λ x. Left (g x) f u a b) before.state next in
    record { state = q.state; erases = ap₂ (λ x y. x + y) before.erases q.erases; copies = ap₂ (λ x y. x + y) before.copies q.copies }
