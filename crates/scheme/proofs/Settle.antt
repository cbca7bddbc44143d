-- The settling of a logical block, and the merge that an overwrite in the sequential log block makes.
use Rattle.std.proofs.Common.{◌≡◌, ℕ, ◌+◌, ◌-◌, ◌*◌, ◌/◌, ◌<◌, ◌≤◌, eqb, ◌≢◌, List, [], ◌∷◌, length, Some, None, Option, sym, refl, ap, ◌∙◌, subst, inl, inr, arith}
use Rattle.std.specs.List.{AllByRecursion}
use Rattle.std.proofs.ByRecursion.{All-weaker}
use Rattle.std.proofs.lemmas.Bool.{cond_both, cases_Bool, eq-eqb, eqb-true, lt-ltb, cases_lt}
use Rattle.flash.specs.Meaning.{Page, blank}
use Rattle.scheme.specs.Place.{Place, place, entry_place}
use Rattle.scheme.specs.Roles as spec
use Rattle.scheme.specs.Roles.{Event}
use Rattle.scheme.specs.Steps.{merge, merge_free, settle, Fresh}
use Rattle.scheme.specs.Tables.{Tables, Sequential, stale_all, owned, released}
use Rattle.scheme.specs.Work.{line, State, Work}
use Rattle.scheme.proofs.Changes.{role_told}
use Rattle.scheme.proofs.Held.{Held, Inv, merge_end, roles, merge_held, merge_does}
use Rattle.scheme.proofs.Merges.{Merge, Mild}
use Rattle.scheme.proofs.Roles.{Use, free, data_of, sequential, random, busy, Roles, other_kind, unlike, place_busy, where_is, in_sequential, in_random, in_data, entry_role}
use Rattle.scheme.proofs.Updates.{Apart}
use Rattle.scheme.proofs.Works.{Does, row, row_before, row_in, source, FreshMarked}

pub owned_is : (c : ℕ) (q : Option Sequential) (k : Sequential) → owned c q ≡ Some k → (q ≡ Some k) × (k.owner ≡ c)
owned_is c None k e = let z : ◌≡◌ {A = ℕ} 0 1 = cc in absurd (omega arith)
owned_is c (Some j) k e =
    cond_both (eqb j.owner c) (Some j) None (λ z. z ≡ Some k → (◌≡◌ {A = Option Sequential} (Some j) (Some k)) × (k.owner ≡ c))
    (λ h e. let i : j ≡ k = cc in (e, ap (λ (x : Sequential). x.owner) (sym i) ∙ eqb-true j.owner c h))
    (λ _ e. let z : ◌≡◌ {A = ℕ} 0 1 = cc in absurd (omega arith))
    e

pub not_owned : (c : ℕ) (q : Option Sequential) → owned c q ≡ None → released c q ≡ q
not_owned c None e = refl
not_owned c (Some k) e =
    elim (cases_Bool (eqb k.owner c)) [
      | inl p ↦ let z : ◌≡◌ {A = ℕ} 0 1 = cc in absurd (omega arith)
      | inr p ↦ rw p refl
    ]

-- what a merge of c leaves
pub record Settled (P L R B : ℕ) (m : ℕ → Option (List ℕ)) (s : State) (c : ℕ) (w : Work) (e : ℕ) : Type 0 where
  pub end : State
  pub does : Does P L B s w end e
  pub inv : Inv P L R B m end
  pub logs : end.tables.logs ≡ s.tables.logs
  pub entries : end.tables.entries ≡ stale_all (λ n. eqb (n / P) c) s.tables.entries
  pub seq : end.tables.sequential ≡ released c s.tables.sequential

-- the place of an offset that the sequential log block holds
pub in_sequence : (P : ℕ) (t : Tables) (k : Sequential) (o : ℕ) → t.sequential ≡ Some k → o < k.fill → place P t k.owner o ≡ record { block = k.block; page = o }
unfolding place
in_sequence P t k o e h = rw (place, e, eq-eqb k.owner k.owner refl, lt-ltb o k.fill h) refl

module _ (P L R B : ℕ) (l m : ℕ → Option (List ℕ)) (s : State) (some : 0 < P) (wide : L + R + 2 ≤ B) (inv : Inv P L R B l s) (c : ℕ) (known : c < L)
    (fresh : Option Fresh) (good : FreshMarked P L fresh)
    (high : (o : ℕ) → o < P → line (source P fresh s c o) ≡ m (c * P + o))
    (same : (n : ℕ) → n / P ≢ c → m n ≡ l n) where
  abbrev t : Tables
  t = s.tables

  abbrev ρ : ℕ → Use
  ρ = inv.role

  abbrev ok : Roles P L R B ρ t
  ok = inv.roles

  abbrev held : Held P L l s
  held = inv.held

  merging : (event : Event) (to k : ℕ) (rest dead : List ℕ) (mg : Merge L B ρ t c to rest dead) → spec.after (role_told (ρ to)) event ≡ Some spec.stores_data → k ≤ P
      → ((o : ℕ) → k ≤ o → s.flash.page to o ≡ blank)
      → ((o : ℕ) → k ≤ o → o < P → (place P t c o).block ≢ to)
      → ((o : ℕ) → o < k → line (s.flash.page to o) ≡ m (c * P + o))
      → AllByRecursion (λ b. (p : ℕ) → s.flash.page b p ≡ blank) rest
      → Settled P L R B m s c (merge P event fresh c to k rest dead s) (length dead)
  merging event to k rest dead mg turns h room away low blanks =
      let fill : ℕ → Page = row (source P fresh s c) (s.flash.page to) k (P - k) in
      let new : (o : ℕ) → o < P → line (fill o) ≡ m (c * P + o) = λ o i.
      elim (cases_lt o k) [
        | inl b ↦ ap line (row_before (source P fresh s c) (s.flash.page to) k (P - k) o b) ∙ low o b
        | inr b ↦ ap line (row_in (source P fresh s c) (s.flash.page to) k (P - k) o b (omega arith)) ∙ high o i
      ] in
      record {
        end = merge_end P L R B ρ l m s some ok held c to rest dead mg fill new same blanks;
        does = merge_does P L R B ρ l m s some ok held c to rest dead mg fill new same blanks event fresh k turns good h room away refl;
        inv = record { role = _; roles = roles P L R B ρ l m s some ok held c to rest dead mg fill new same blanks; held = merge_held P L R B ρ l m s some ok held c to rest dead mg fill new same blanks };
        logs = refl;
        entries = refl;
        seq = refl;
      }

  old_role : ρ (t.data_block c) ≡ data_of c
  old_role = ok.data_role c known

  old_mild : Mild c (ρ (t.data_block c))
  old_mild = subst (Mild c) (sym old_role) refl

  -- into the sequential log block, which c owns
  merge_sequential : (k : Sequential) → t.sequential ≡ Some k → k.owner ≡ c → ((o : ℕ) → o < k.fill → m (c * P + o) ≡ l (c * P + o))
      → Settled P L R B m s c (merge P spec.finished fresh c k.block k.fill t.free (t.data_block c ∷ []) s) 1
  merge_sequential k e own below =
      merging spec.finished k.block k.fill t.free (t.data_block c ∷ [])
      (record {
        known = known;
        to_mild = subst (Mild c) (sym role) tt;
        dead_mild = (old_mild, tt);
        dead_used = (λ i. unlike (data_of c) free (λ z. omega arith) (sym old_role ∙ i), tt);
        to_alive = (other_kind ρ (t.data_block c) k.block (data_of c) sequential old_role role (λ z. omega arith), tt);
        dead_apart = (tt, tt);
        rest_free = ok.free_role;
        rest_apart = ok.free_apart;
        rest_away = All-weaker (λ b. ρ b ≡ free) (λ b. b ≢ k.block) (λ b i. other_kind ρ k.block b sequential free role i (λ z. omega arith)) t.free ok.free_role;
        seq_away = λ j i ne. let q : j ≡ k = cc in absurd (ne (ap (λ (x : Sequential). x.owner) q ∙ own));
        room = rw (e, own, eq-eqb c c refl) (omega (arith, rw e at ok.room));
      })
      (ap (λ u. spec.after (role_told u) spec.finished) role)
      (ok.seq_fill k e)
      (held.seq_tail k e)
      (λ o h i. elim (where_is P t c o) [
        | in_sequential j f _ b at ↦ let q : j ≡ k = cc in absurd (omega (arith, ap (λ (x : Sequential). x.fill) q))
        | in_random j _ f at ↦ rw at (other_kind ρ k.block (entry_place P t.logs j).block sequential random role (entry_role P L R B ρ t some ok (c * P + o) j f) (λ z. omega arith))
        | in_data _ _ at ↦ rw at (other_kind ρ k.block (t.data_block c) sequential (data_of c) role old_role (λ z. omega arith))
      ])
      (λ o h. ap (λ (x : Place). line (s.flash.page x.block x.page)) (sym (in_sequence P t k o e h) ∙ ap (λ d. place P t d o) own) ∙ held.view c o known (omega (arith, ok.seq_fill k e)) ∙ sym (below o h))
      held.free_blank
    where
      role : ρ k.block ≡ sequential
      role = ok.seq_role k e

  -- into a free block
  merge_rest : (dead : List ℕ) (fs : List ℕ) → t.free ≡ fs
      → AllByRecursion (λ d. Mild c (ρ d)) dead → AllByRecursion (λ d. ρ d ≢ free) dead → Apart dead
      → ((k : Sequential) → t.sequential ≡ Some k → k.owner ≢ c → AllByRecursion (λ d. ρ d ≢ sequential) dead)
      → busy (released c t.sequential) + length dead ≡ busy t.sequential + 1
      → Settled P L R B m s c (merge_free P fresh c fs dead s) (length dead)
  merge_rest dead [] e mild used apart away count = absurd (omega (arith, rw e at ok.room, ok.few, busy_few t.sequential))
    where
      busy_few : (q : Option Sequential) → busy q ≤ 1
      busy_few None = omega arith
      busy_few (Some k) = omega arith
  merge_rest dead (f ∷ rest) e mild used apart away count =
      let fr : (ρ f ≡ free) × AllByRecursion (λ b. ρ b ≡ free) rest = subst (λ fs. AllByRecursion (λ b. ρ b ≡ free) fs) e ok.free_role in
      let fa : AllByRecursion (λ y. y ≢ f) rest × Apart rest = subst Apart e ok.free_apart in
      let fb : ((p : ℕ) → s.flash.page f p ≡ blank) × AllByRecursion (λ b. (p : ℕ) → s.flash.page b p ≡ blank) rest = subst (λ fs. AllByRecursion (λ b. (p : ℕ) → s.flash.page b p ≡ blank) fs) e held.free_blank in
      merging spec.taken_as_data f 0 rest dead
      (record {
        known = known;
        to_mild = subst (Mild c) (sym fr.0) tt;
        dead_mild = mild;
        dead_used = used;
        to_alive = All-weaker (λ d. ρ d ≢ free) (λ d. f ≢ d) (λ d h i. h (sym (ap ρ i) ∙ fr.0)) dead used;
        dead_apart = apart;
        rest_free = fr.1;
        rest_apart = fa.1;
        rest_away = fa.0;
        seq_away = λ k i ne. (λ q. unlike free sequential (λ z. omega arith) (sym fr.0 ∙ q), away k i ne);
        room = omega (arith, rw e at ok.room);
      })
      (ap (λ u. spec.after (role_told u) spec.taken_as_data) fr.0)
      (omega arith)
      (λ o _. fb.0 o)
      (λ o _ i. place_busy P L R B ρ t some ok c o f known fr.0)
      (λ o h. absurd (omega arith))
      fb.1

  pub settles : ((k : Sequential) → t.sequential ≡ Some k → k.owner ≡ c → (o : ℕ) → o < k.fill → m (c * P + o) ≡ l (c * P + o)) → Settled P L R B m s c (settle P fresh c s) 1
  unfolding settle
  settles below =
      (elim (owned c t.sequential)
      as (λ q. owned c t.sequential ≡ q → Settled P L R B m s c
      (elim q [ Some k ↦ merge P spec.finished fresh c k.block k.fill t.free (t.data_block c ∷ []) s | None ↦ merge_free P fresh c t.free (t.data_block c ∷ []) s ]) 1) [
        | Some k ↦ λ e. let w = owned_is c t.sequential k e in merge_sequential k w.0 w.1 (below k w.0 w.1)
        | None ↦ λ e. merge_rest (t.data_block c ∷ []) t.free refl (old_mild, tt)
            (λ i. unlike (data_of c) free (λ z. omega arith) (sym old_role ∙ i), tt)
            (tt, tt)
            (λ k _ _. (λ i. unlike (data_of c) sequential (λ z. omega arith) (sym old_role ∙ i), tt))
            (rw (not_owned c t.sequential e) refl)
      ])
      refl

  -- an overwrite of what the sequential log block has: that block is freed too
  pub replaces : (k : Sequential) → t.sequential ≡ Some k → k.owner ≡ c → Settled P L R B m s c (merge_free P fresh c t.free (t.data_block c ∷ k.block ∷ []) s) 2
  replaces k e own =
      merge_rest (t.data_block c ∷ k.block ∷ []) t.free refl
      (old_mild, (subst (Mild c) (sym role) tt, tt))
      ((λ i. unlike (data_of c) free (λ z. omega arith) (sym old_role ∙ i)), ((λ i. unlike sequential free (λ z. omega arith) (sym role ∙ i)), tt))
      ((other_kind ρ (t.data_block c) k.block (data_of c) sequential old_role role (λ z. omega arith), tt), (tt, tt))
      (λ j i ne. let q : j ≡ k = cc in absurd (ne (ap (λ (x : Sequential). x.owner) q ∙ own)))
      (rw (e, own, eq-eqb c c refl) refl)
    where
      role : ρ k.block ≡ sequential
      role = ok.seq_role k e
