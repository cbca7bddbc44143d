-- A write of a reached layer is that write of its table.
use Rattle.std.proofs.Common.{◌≡◌, ℕ, ◌*◌, ◌<◌, Bool, true, false, cond, ◌&&◌, eqb, ltb, List, length, Some, None, Ok, Err, Option, Result, sym, refl, ap, ◌∙◌, subst, inl, inr, arith}
use Rattle.std.proofs.lemmas.Bool.{cases_Bool, cases_lt, lt-ltb, le-ltb, ne_eqb, and_parts, and_from}
use Rattle.fast.specs.declared.refusal.Refusal.{Refusal}
use Rattle.fast.specs.Told.{write_told}
use Rattle.scheme.specs.Functions.{upd}
use Rattle.scheme.specs.Ledger.{Answer, read, write, refused, never_written, bytes, wrote, reads}
use Rattle.scheme.specs.Runs as runs
use Rattle.scheme.proofs.Runs.{same_read, admitted}
use Rattle.scheme.proofs.Reaches.{Sets, sets, after_refused, by_cases}
use Rattle.store.specs.Layered.{layer_line, next_refusal, layer_bar, layer_table, Reachable}
use Rattle.store.specs.Meaning.{Written, write_refusal, BarMoves}
use Rattle.store.specs.Told.{refusal_told}

-- A read of the layer is that read of its table.
pub layer_reads : (y : runs.Layer) (n : ℕ) (buffer : List ℕ) → (runs.call y (read n buffer)).reply ≡ reads (runs.sectors y) (layer_line y) n buffer
unfolding runs.call
layer_reads y n buffer = same_read (runs.sectors y) (runs.content y) (layer_line y) n buffer (λ h. let t = lt-ltb n (runs.sectors y) h in rw t refl)

-- The refusal that an answer tells of, if it does.
abbrev refusal_in : Answer → Option ℕ
refusal_in (refused m) = Some m
refusal_in never_written = None
refusal_in bytes = None
refusal_in (wrote e c) = None

told_same : (r : Result (ℕ × ℕ) Refusal) (bs : List ℕ) → refusal_told r ≡ refusal_in (write_told r bs).answer
told_same (Ok p) bs = refl
told_same (Err e) bs = refl

call_told : (y : runs.Layer) (n : ℕ) (bs : List ℕ) → refusal_in (runs.call y (write n bs)).reply.answer ≡ runs.write_refusal y n bs
unfolding runs.call
call_told y n bs = by_cases (runs.write_refusal y n bs) (λ e. rw (e, runs.call) refl) (λ m e. rw (e, runs.call) refl)

-- A write's answer tells of the scheme's refusal.
told_refusal : (y : runs.Layer) (n : ℕ) (bs : List ℕ) (r : Result (ℕ × ℕ) Refusal) → write_told r bs ≡ (runs.call y (write n bs)).reply → refusal_told r ≡ runs.write_refusal y n bs
told_refusal y n bs r e = told_same r bs ∙ ap (λ z. refusal_in z.answer) e ∙ call_told y n bs

-- The scheme's refusal is the table's.
by_tests : (a b c d : Bool)
    → elim a as (λ _. Option ℕ) [
      | false ↦ Some 13
      | true ↦ elim b as (λ _. Option ℕ) [
        | false ↦ Some 3
        | true ↦ elim c as (λ _. Option ℕ) [ true ↦ Some 12 | false ↦ cond d (Some 14) None ]
      ]
    ]
    ≡ (let bar : ℕ = cond a (cond c 12 (cond d 14 0)) 0 in cond a (cond b (cond (eqb bar 0) None (Some bar)) (Some 3)) (Some 13))
by_tests false b c d = refl
by_tests true false c d = refl
by_tests true true true d = refl
by_tests true true false true = refl
by_tests true true false false = refl

same_refusal : (y : runs.Layer) (n : ℕ) (bs : List ℕ) → runs.write_refusal y n bs ≡ write_refusal (layer_table y) n (length bs)
unfolding runs.write_refusal
same_refusal y n bs = by_tests (ltb n (runs.sectors y)) (eqb (length bs) 512) (runs.replaces y n && runs.worn y) (eqb y.state.tables.next 0xFFFFFFFF)

-- how a bar moves where there was none
bar_from : (c d : Bool) → BarMoves 0 (cond c 12 (cond d 14 0))
bar_from true d = inr (refl, inl refl)
bar_from false true = inr (refl, inr refl)
bar_from false false = inl refl

module _ (y z : runs.Layer) (n : ℕ) (bs : List ℕ) (e : runs.write_refusal y n bs ≡ None) (s : Sets y z n bs) where
  same_size : runs.sectors z ≡ runs.sectors y
  same_size = ap (λ k. k * z.pages) s.logical ∙ ap (λ k. y.logical * k) s.pages

  line_after : (k : ℕ) → layer_line z k ≡ upd (layer_line y) n (Some bs) k
  unfolding upd
  line_after k =
      elim (cases_lt k (runs.sectors y)) [
        | inl h ↦
            let t = lt-ltb k (runs.sectors z) (omega (arith, same_size)) in
            let u = lt-ltb k (runs.sectors y) h in
            rw (t, u) (s.lines k h)
        | inr h ↦
            let t = le-ltb k (runs.sectors z) (omega (arith, same_size)) in
            let u = le-ltb k (runs.sectors y) h in
            let v = ne_eqb k n (λ i. omega (arith, (admitted y n bs e).known)) in
            rw (t, u, v) refl
      ]

  bar_after : (k : ℕ) → k < runs.sectors y → BarMoves (next_refusal y k) (next_refusal z k)
  bar_after k h =
      elim (cases_Bool (runs.replaces y k && runs.worn y)) [
        | inl c ↦
            let p = and_parts (runs.replaces y k) (runs.worn y) c in
            let d = and_from (runs.replaces z k) (runs.worn z) (s.replaced k h p.0) (s.worn_out p.1) in
            rw (c, d) (inl refl)
        | inr c ↦ let left = (admitted y n bs e).stamped in rw (c, left) (bar_from (runs.replaces z k && runs.worn z) (eqb z.state.tables.next 0xFFFFFFFF))
      ]

  bars_after : (k : ℕ) → BarMoves (layer_bar y k) (layer_bar z k)
  bars_after k =
      elim (cases_lt k (runs.sectors y)) [
        | inl h ↦
            let t = lt-ltb k (runs.sectors z) (omega (arith, same_size)) in
            let u = lt-ltb k (runs.sectors y) h in
            rw (t, u) (bar_after k h)
        | inr h ↦
            let t = le-ltb k (runs.sectors z) (omega (arith, same_size)) in
            let u = le-ltb k (runs.sectors y) h in
            rw (t, u) (inl refl)
      ]

  accepted : Written (layer_table y) (layer_table z) n bs None
  accepted =
      record {
        refused = sym e ∙ same_refusal y n bs;
        size = same_size;
        lines = λ i k. line_after k i;
        bars = bars_after;
        kept = λ m i. let z : ◌≡◌ {A = ℕ} 0 1 = cc in absurd (omega arith);
      }

refused_write : (y : runs.Layer) (n : ℕ) (bs : List ℕ) (m : ℕ) → runs.write_refusal y n bs ≡ Some m → Written (layer_table y) (layer_table y) n bs (Some m)
refused_write y n bs m e = record { refused = sym e ∙ same_refusal y n bs; size = refl; lines = refl; bars = λ k. inl refl; kept = λ _ _. refl }

-- What a write answers and leaves is that write of the table.
pub layer_written : (y : runs.Layer) → Reachable y → (n : ℕ) (bs : List ℕ) (r : Result (ℕ × ℕ) Refusal) (z : runs.Layer)
    → write_told r bs ≡ (runs.call y (write n bs)).reply → z ≡ (runs.call y (write n bs)).after → Written (layer_table y) (layer_table z) n bs (refusal_told r)
layer_written y way n bs r z reply after =
    by_cases (runs.write_refusal y n bs)
    (λ e. subst (Written (layer_table y) (layer_table z) n bs) (sym (told ∙ e))
    (accepted y z n bs e (subst (λ x. Sets y x n bs) (sym after) (sets way.0 way.1 y way.2 n bs e))))
    (λ m e. subst (Written (layer_table y) (layer_table z) n bs) (sym (told ∙ e))
    (subst (λ x. Written (layer_table y) (layer_table x) n bs (Some m)) (sym (after ∙ after_refused y n bs m e)) (refused_write y n bs m e)))
  where
    told : refusal_told r ≡ runs.write_refusal y n bs
    told = told_refusal y n bs r reply
