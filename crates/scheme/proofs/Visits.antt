-- The oldest random log block given up: each live entry's logical block settled, in page order, and then the block freed.
use Rattle.std.proofs.Common.{◌≡◌, ℕ, zero, suc, ◌+◌, ◌/◌, ◌<◌, ◌≤◌, Bool, true, false, cond, eqb, ◌≢◌, ◌⊎◌, List, [], ◌∷◌, length, get_or, Some, None, Option, sym, refl, ap, ◌∙◌, inl, inr, div-lt_iff_lt-mul, zero-add, arith}
use Rattle.std.proofs.lemmas.List.{length-map}
use Rattle.std.proofs.lemmas.Bool.{cond_both, cases_eq, cases_Bool, eq-eqb, eqb-false}
use Rattle.scheme.specs.Functions.{upd}
use Rattle.scheme.specs.Place.{entry_of}
use Rattle.scheme.specs.Steps.{visit, settle}
use Rattle.scheme.specs.Tables.{Sequential, Entry, live, stale, stale_if, released}
use Rattle.scheme.specs.Work.{each, State}
use Rattle.scheme.proofs.Entries.{stale_at, still_live}
use Rattle.scheme.proofs.Held.{Inv}
use Rattle.scheme.proofs.Roles.{busy}
use Rattle.scheme.proofs.Settle.{Settled, settles}
use Rattle.scheme.proofs.Updates.{upd_same, upd_other}
use Rattle.scheme.proofs.Works.{Does, does_then, does_to, does_idle}

-- how many numbers below n pass a test
pub tally : ℕ → (ℕ → Bool) → ℕ
tally zero q = 0
tally (suc n) q = tally n q + cond (q n) 1 0

pub tally_le : (n : ℕ) (q : ℕ → Bool) → tally n q ≤ n
unfolding tally
tally_le zero q = omega arith
tally_le (suc n) q = let h = tally_le n q in cond_both (q n) 1 0 (λ k. tally n q + k ≤ suc n) (λ _. omega arith) (λ _. omega arith)

pub tally_none : (n : ℕ) → tally n (λ _. false) ≡ 0
unfolding tally
tally_none zero = refl
tally_none (suc n) = let h = tally_none n in omega arith

tally_past : (n : ℕ) (q : ℕ → Bool) (c : ℕ) → n ≤ c → tally n (upd q c true) ≡ tally n q
unfolding tally
tally_past zero q c h = refl
tally_past (suc n) q c h =
    let ne : n ≢ c = omega arith in
    rw (upd_other q c true n ne) (ap (λ k. k + cond (q n) 1 0) (tally_past n q c (omega arith)))

pub tally_more : (n : ℕ) (q : ℕ → Bool) (c : ℕ) → c < n → q c ≡ false → tally n (upd q c true) ≡ tally n q + 1
unfolding tally
tally_more zero q c h e = absurd (omega arith)
tally_more (suc n) q c h e =
    elim (cases_eq n c) [
      | inl i ↦ rw (i, upd_same q c true, e) (let w = tally_past c q c (omega arith) in omega arith)
      | inr ne ↦ rw (upd_other q c true n ne) (let w = tally_more n q c (omega arith) e in omega arith)
    ]

-- a live entry is found, at its place or before
pub entry_found : (n k i : ℕ) (es : List Entry) → get_or es i stale ≡ live n → (j : ℕ) × (entry_of n k es ≡ Some j)
entry_found n k i [] e = let z : ◌≡◌ {A = ℕ} 0 1 = cc in absurd (omega arith)
entry_found n k zero (stale ∷ es) e = let z : ◌≡◌ {A = ℕ} 0 1 = cc in absurd (omega arith)
entry_found n k (suc i) (stale ∷ es) e = entry_found n (suc k) i es e
entry_found n k zero (live m ∷ es) e = let i : m ≡ n = cc in (k, rw (eq-eqb m n i) refl)
entry_found n k (suc i) (live m ∷ es) e =
    elim (cases_Bool (eqb m n)) [
      | inl p ↦ (k, rw p refl)
      | inr p ↦ let r = entry_found n (suc k) i es e in (r.0, rw p r.1)
    ]

pub busy_released : (c : ℕ) (q : Option Sequential) → busy (released c q) ≤ busy q
busy_released c None = omega arith
busy_released c (Some k) = cond_both (eqb k.owner c) None (Some k) (λ z. busy z ≤ 1) (λ _. omega arith) (λ _. omega arith)

pub released_kept : (c : ℕ) (p q : Option Sequential) → (p ≡ q) ⊎ (p ≡ None) → (released c p ≡ q) ⊎ (released c p ≡ None)
released_kept c None q h = h
released_kept c (Some k) q h =
    cond_both (eqb k.owner c) None (Some k) (λ z. (z ≡ q) ⊎ (z ≡ None)) (λ _. inr refl) (λ _. h)

-- the first j entries visited; σ says which logical blocks have been settled
pub record Visited (P L R B : ℕ) (l : ℕ → Option (List ℕ)) (s : State) (j : ℕ) : Type 0 where
  pub end : State
  pub e : ℕ
  pub does : Does P L B s (each (visit P) 0 j s) end e
  pub inv : Inv P L R B l end
  pub logs : end.tables.logs ≡ s.tables.logs
  pub long : length end.tables.entries ≡ length s.tables.entries
  pub seq : (end.tables.sequential ≡ s.tables.sequential) ⊎ (end.tables.sequential ≡ None)
  pub gone : (i : ℕ) → i < j → get_or end.tables.entries i stale ≡ stale
  pub σ : ℕ → Bool
  pub settled : (i n : ℕ) → get_or end.tables.entries i stale ≡ live n → σ (n / P) ≡ false
  pub few : e ≤ j
  pub each_once : e ≡ tally L σ

module _ (P L R B : ℕ) (l : ℕ → Option (List ℕ)) (s : State) (pos : 0 < P) (wide : L + R + 2 ≤ B) where
  visit_one : (j : ℕ) (v : Visited P L R B l s j) (x : Entry) → get_or v.end.tables.entries j stale ≡ x → Visited P L R B l s (suc j)
  unfolding each
  visit_one j v stale h =
      record {
        end = v.end;
        e = v.e;
        does = does_to (does_then (visit P (0 + j)) v.does (let d : Does P L B v.end (visit P (0 + j) v.end) v.end 0 = rw (zero-add, visit, h) (does_idle v.end) in d)) refl (omega arith);
        inv = v.inv;
        logs = v.logs;
        long = v.long;
        seq = v.seq;
        gone = λ i k. elim (cases_eq i j) [ inl z ↦ rw z h | inr z ↦ v.gone i (omega arith) ];
        σ = v.σ;
        settled = v.settled;
        few = omega (arith, v.few);
        each_once = v.each_once;
      }
  visit_one j v (live n) h =
      let c : ℕ = n / P in
      let found = entry_found n 0 j v.end.tables.entries h in
      let known : c < L = (div-lt_iff_lt-mul pos).1 (v.inv.roles.lives n found.0 found.1) in
      let w : Settled P L R B l v.end c (settle P None c v.end) 1 =
      settles P L R B l l v.end pos wide v.inv c known None tt (λ o i. v.inv.held.view c o known i) (λ _ _. refl) (λ _ _ _ _ _. refl) in
      let now : (i : ℕ) → get_or w.end.tables.entries i stale ≡ stale_if (λ m. eqb (m / P) c) (get_or v.end.tables.entries i stale) =
      λ i. rw w.entries (stale_at (λ m. eqb (m / P) c) v.end.tables.entries i) in
      record {
        end = w.end;
        e = v.e + 1;
        does = does_then (visit P (0 + j)) v.does (let d : Does P L B v.end (visit P (0 + j) v.end) w.end 1 = rw (zero-add, visit, h) w.does in d);
        inv = w.inv;
        logs = w.logs ∙ v.logs;
        long = ap length w.entries ∙ length-map v.end.tables.entries (stale_if (λ m. eqb (m / P) c)) ∙ v.long;
        seq = rw w.seq (released_kept c v.end.tables.sequential s.tables.sequential v.seq);
        gone = λ i k. now i ∙ elim (cases_eq i j) [ inl z ↦ rw (z, h, eq-eqb c c refl) refl | inr z ↦ rw (v.gone i (omega arith)) refl ];
        σ = upd v.σ c true;
        settled = λ i m g. let a = still_live (λ m. eqb (m / P) c) (get_or v.end.tables.entries i stale) m (sym (now i) ∙ g) in
            upd_other v.σ c true (m / P) (eqb-false (m / P) c a.1) ∙ v.settled i m a.0;
        few = omega (arith, v.few);
        each_once = ap (λ z. z + 1) v.each_once ∙ sym (tally_more L v.σ c known (v.settled j n h));
      }

  pub visits : Inv P L R B l s → (j : ℕ) → Visited P L R B l s j
  unfolding each
  visits ok zero =
      record {
        end = s;
        e = 0;
        does = does_idle s;
        inv = ok;
        logs = refl;
        long = refl;
        seq = inl refl;
        gone = λ i h. absurd (omega arith);
        σ = λ _. false;
        settled = λ _ _ _. refl;
        few = omega arith;
        each_once = sym (tally_none L);
      }
  visits ok (suc j) = let v = visits ok j in visit_one j v (get_or v.end.tables.entries j stale) refl
