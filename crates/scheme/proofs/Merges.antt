-- A merge of a logical block: the roles that it leaves.
use Rattle.std.proofs.Common.{◌≡◌, ℕ, ◌+◌, ◌/◌, ◌<◌, eqb, ◌≢◌, List, [], ◌∷◌, ◌++◌, map, length, Some, None, Option, sym, refl, ap, ◌∙◌, subst, inl, inr, arith}
use Rattle.std.specs.List.{AllByRecursion}
use Rattle.std.proofs.ByRecursion.{All-append, All-weaker}
use Rattle.std.proofs.lemmas.List.{length-map, length-append}
use Rattle.std.proofs.lemmas.Bool.{cond_both, cases_eq, cases_lt, cases_Bool, ne_eqb, eqb-true, eqb-false}
use Rattle.scheme.specs.Functions.{upd}
use Rattle.scheme.specs.Place.{entry_of, sequential_place}
use Rattle.scheme.specs.Roles as spec
use Rattle.scheme.specs.Roles.{led, Event, Led, after}
use Rattle.scheme.specs.Steps.{merged, turn}
use Rattle.scheme.specs.Tables.{Tables, Sequential, stale_all, released}
use Rattle.scheme.proofs.Changes.{role_told, led_own, led_other, led_one, led_away, led_by}
use Rattle.scheme.proofs.Entries.{entry_stale, once_stale}
use Rattle.scheme.proofs.Roles.{Use, free, data_of, sequential, random, outside, busy, Roles}
use Rattle.scheme.proofs.Updates.{upd_same, upd_other, upd_both, Apart}

pub released_is : (c : ℕ) (q : Option Sequential) (k : Sequential) → released c q ≡ Some k → (q ≡ Some k) × (k.owner ≢ c)
released_is c None k e = let z : ◌≡◌ {A = ℕ} 0 1 = cc in absurd (omega arith)
released_is c (Some j) k e =
    cond_both (eqb j.owner c) None (Some j) (λ z. z ≡ Some k → (◌≡◌ {A = Option Sequential} (Some j) (Some k)) × (k.owner ≢ c))
    (λ _ e. let z : ◌≡◌ {A = ℕ} 0 1 = cc in absurd (omega arith))
    (λ h e. let i : j ≡ k = cc in (e, λ w. eqb-false j.owner c h (ap (λ (x : Sequential). x.owner) i ∙ w)))
    e

pub released_own : (c o : ℕ) (q : Option Sequential) → sequential_place (released c q) c o ≡ None
released_own c o None = refl
released_own c o (Some k) =
    elim (cases_Bool (eqb k.owner c)) [ inl p ↦ rw p refl | inr p ↦ rw (p, sequential_place, p) refl ]

pub released_other : (c d o : ℕ) (q : Option Sequential) → d ≢ c → sequential_place (released c q) d o ≡ sequential_place q d o
released_other c d o None ne = refl
released_other c d o (Some k) ne =
    elim (cases_Bool (eqb k.owner c)) [
      | inl p ↦ let h : k.owner ≢ d = λ e. ne (sym e ∙ eqb-true k.owner c p) in rw (p, ne_eqb k.owner d h) refl
      | inr p ↦ rw p refl
    ]

-- roles that a merge of c may change
abbrev pub Mild : ℕ → Use → Type 0
Mild c free = Unit {0}
Mild c (data_of d) = d ≡ c
Mild c sequential = Unit {0}
Mild c random = ⊥
Mild c outside = ⊥

-- the dead blocks made free
pub marked : (ℕ → Use) → List ℕ → ℕ → Use
marked ρ [] = ρ
marked ρ (d ∷ ds) = upd (marked ρ ds) d free

pub marked_kept : (ρ : ℕ → Use) (ds : List ℕ) (b : ℕ) → AllByRecursion (λ d. b ≢ d) ds → marked ρ ds b ≡ ρ b
unfolding marked
marked_kept ρ [] b a = refl
marked_kept ρ (d ∷ ds) b a = upd_other (marked ρ ds) d free b a.0 ∙ marked_kept ρ ds b a.1

pub marked_free : (ρ : ℕ → Use) (ds : List ℕ) → AllByRecursion (λ d. marked ρ ds d ≡ free) ds
unfolding marked
marked_free ρ [] = tt
marked_free ρ (d ∷ ds) = (
  upd_same (marked ρ ds) d free,
  All-weaker (λ x. marked ρ ds x ≡ free) (λ x. upd (marked ρ ds) d free x ≡ free) (λ x e. upd_both (marked ρ ds) d free x (λ r. r ≡ free) (λ _. refl) (λ _. e)) ds (marked_free ρ ds),
)

-- what is free already stays free
pub marked_still : (ρ : ℕ → Use) (ds : List ℕ) (b : ℕ) → ρ b ≡ free → marked ρ ds b ≡ free
unfolding marked
marked_still ρ [] b e = e
marked_still ρ (d ∷ ds) b e = upd_both (marked ρ ds) d free b (λ r. r ≡ free) (λ _. refl) (λ _. marked_still ρ ds b e)

-- blocks in use that are erased
pub led_dead : (ρ : ℕ → Use) (ds : List ℕ) → Apart ds → AllByRecursion (λ d. after (role_told (ρ d)) spec.erased ≡ Some spec.free) ds → (b : ℕ) → led b (map (turn spec.erased) ds) (role_told (ρ b)) ≡ Some (role_told (marked ρ ds b))
unfolding marked
led_dead ρ [] a h b = refl
led_dead ρ (d ∷ ds) a h b =
    elim (cases_eq d b) [
      | inl e ↦
          led_own b (turn spec.erased d) (map (turn spec.erased) ds) (role_told (ρ b)) spec.free e (subst (λ x. after (role_told (ρ x)) spec.erased ≡ Some spec.free) e h.0)
          ∙ led_away spec.erased ds b spec.free (subst (λ x. AllByRecursion (λ y. y ≢ x) ds) e a.0)
          ∙ ap (λ x. Some (role_told x)) (sym (ap (λ z. upd (marked ρ ds) z free b) e ∙ upd_same (marked ρ ds) b free))
      | inr n ↦
          led_other b (turn spec.erased d) (map (turn spec.erased) ds) (role_told (ρ b)) n
          ∙ led_dead ρ ds a.1 h.1 b
          ∙ ap (λ x. Some (role_told x)) (sym (upd_other (marked ρ ds) d free b (λ i. n (sym i))))
    ]

-- a use that a merge of c may change, unless it is none, may be given up
gives_up : (c : ℕ) (r : Use) → Mild c r → r ≢ free → after (role_told r) spec.erased ≡ Some spec.free
gives_up c free m n = absurd (n refl)
gives_up c (data_of d) m n = refl
gives_up c sequential m n = refl
gives_up c random m n = absurd m
gives_up c outside m n = absurd m

apart_append : (xs ys : List ℕ) → Apart xs → Apart ys → AllByRecursion (λ x. AllByRecursion (λ y. y ≢ x) ys) xs → Apart (xs ++ ys)
apart_append [] ys a b n = b
apart_append (x ∷ xs) ys a b n = (All-append (λ y. y ≢ x) xs ys a.0 n.0, apart_append xs ys a.1 b n.1)

-- a merge of c into a block; rest are the free blocks that stay, dead the blocks that it frees
pub record Merge (L B : ℕ) (ρ : ℕ → Use) (t : Tables) (c to : ℕ) (rest dead : List ℕ) : Type 0 where
  pub known : c < L
  pub to_mild : Mild c (ρ to)
  pub dead_mild : AllByRecursion (λ d. Mild c (ρ d)) dead
  pub dead_used : AllByRecursion (λ d. ρ d ≢ free) dead
  pub to_alive : AllByRecursion (λ d. to ≢ d) dead
  pub dead_apart : Apart dead
  pub rest_free : AllByRecursion (λ b. ρ b ≡ free) rest
  pub rest_apart : Apart rest
  pub rest_away : AllByRecursion (λ b. b ≢ to) rest
  pub seq_away : (k : Sequential) → t.sequential ≡ Some k → k.owner ≢ c → (ρ to ≢ sequential) × AllByRecursion (λ d. ρ d ≢ sequential) dead
  pub room : L + busy (released c t.sequential) + length t.logs + (length rest + length dead) ≡ B

module _ (P L R B : ℕ) (ρ : ℕ → Use) (t : Tables) (some : 0 < P) (ok : Roles P L R B ρ t)
    (c to : ℕ) (rest dead : List ℕ) (m : Merge L B ρ t c to rest dead) where
  abbrev pub ρ' : ℕ → Use
  ρ' = marked (upd ρ to (data_of c)) dead

  -- a role that is not changed
  kept : (b : ℕ) (r : Use) → ρ b ≡ r → ρ to ≢ r → AllByRecursion (λ d. ρ d ≢ r) dead → ρ' b ≡ r
  kept b r e n a =
      marked_kept (upd ρ to (data_of c)) dead b (All-weaker (λ d. ρ d ≢ r) (λ d. b ≢ d) (λ d h i. h (sym (ap ρ i) ∙ e)) dead a)
      ∙ upd_other ρ to (data_of c) b (λ i. n (sym (ap ρ i) ∙ e)) ∙ e

  strong : (b : ℕ) (r : Use) → ρ b ≡ r → (Mild c r → ⊥) → ρ' b ≡ r
  strong b r e n =
      kept b r e (λ i. n (subst (Mild c) i m.to_mild))
      (All-weaker (λ d. Mild c (ρ d)) (λ d. ρ d ≢ r) (λ d h i. n (subst (Mild c) i h)) dead m.dead_mild)

  pub merged_to : ρ' to ≡ data_of c
  merged_to = marked_kept (upd ρ to (data_of c)) dead to m.to_alive ∙ upd_same ρ to (data_of c)

  pub merged_roles : Roles P L R B ρ' (merged P c to rest dead t)
  merged_roles =
      record {
        data_role = λ d h. upd_both t.data_block c to d (λ b. ρ' b ≡ data_of d) (λ e. merged_to ∙ ap data_of (sym e)) (λ ne. strong (t.data_block d) (data_of d) (ok.data_role d h) ne);
        seq_role = λ k e. let s = released_is c t.sequential k e in let a = m.seq_away k s.0 s.1 in kept k.block sequential (ok.seq_role k s.0) a.0 a.1;
        seq_owner = λ k e. ok.seq_owner k (released_is c t.sequential k e).0;
        seq_fill = λ k e. ok.seq_fill k (released_is c t.sequential k e).0;
        seq_some = λ k e. ok.seq_some k (released_is c t.sequential k e).0;
        log_role = All-weaker (λ b. ρ b ≡ random) (λ b. ρ' b ≡ random) (λ b e. strong b random e (λ z. z)) t.logs ok.log_role;
        log_apart = ok.log_apart;
        free_role = All-append (λ b. ρ' b ≡ free) rest dead (still rest m.rest_free m.rest_away) (marked_free (upd ρ to (data_of c)) dead);
        free_apart = apart_append rest dead m.rest_apart m.dead_apart (All-weaker (λ b. ρ b ≡ free) (λ b. AllByRecursion (λ d. d ≢ b) dead) (λ b e. All-weaker (λ d. ρ d ≢ free) (λ d. d ≢ b) (λ d h i. h (ap ρ i ∙ e)) dead m.dead_used) rest m.rest_free);
        none_outside = λ b h. strong b outside (ok.none_outside b h) (λ z. z);
        room = ap (λ n. L + busy (released c t.sequential) + length t.logs + n) (length-append rest dead) ∙ m.room;
        few = ok.few;
        filled = rw length-map ok.filled;
        full = rw length-map ok.full;
        once = once_stale (λ n. eqb (n / P) c) t.entries ok.once;
        lives = λ n i e. ok.lives n i (live_before n i e);
      }
    where
      still : (bs : List ℕ) → AllByRecursion (λ b. ρ b ≡ free) bs → AllByRecursion (λ b. b ≢ to) bs → AllByRecursion (λ b. ρ' b ≡ free) bs
      still [] f a = tt
      still (b ∷ bs) f a = (marked_still (upd ρ to (data_of c)) dead b (upd_other ρ to (data_of c) b a.0 ∙ f.0), still bs f.1 a.1)

      live_before : (n i : ℕ) → entry_of n 0 (stale_all (λ n. eqb (n / P) c) t.entries) ≡ Some i → entry_of n 0 t.entries ≡ Some i
      live_before n i e =
          cond_both (eqb (n / P) c) None (entry_of n 0 t.entries) (λ z. z ≡ Some i → entry_of n 0 t.entries ≡ Some i)
          (λ _ e. let z : ◌≡◌ {A = ℕ} 0 1 = cc in absurd (omega arith)) (λ _ e. e)
          (sym (entry_stale (λ n. eqb (n / P) c) n 0 t.entries) ∙ e)

  mild_inside : (b : ℕ) → Mild c (ρ b) → b < B
  mild_inside b h = elim (cases_lt b B) [ inl i ↦ i | inr i ↦ absurd (subst (Mild c) (ok.none_outside b i) h) ]

  pub to_inside : to < B
  to_inside = mild_inside to m.to_mild

  pub dead_inside : AllByRecursion (λ d. d < B) dead
  dead_inside = All-weaker (λ d. Mild c (ρ d)) (λ d. d < B) mild_inside dead m.dead_mild

  -- each role is led to the new one
  pub merged_led : (event : Event) → after (role_told (ρ to)) event ≡ Some spec.stores_data → Led B t (turn event to ∷ map (turn spec.erased) dead) (merged P c to rest dead t)
  merged_led event h =
      led_by P L R B ρ ρ' t (merged P c to rest dead t) ok merged_roles (turn event to ∷ map (turn spec.erased) dead)
      (λ b. led_one ρ to event (data_of c) (map (turn spec.erased) dead) h b ∙ led_dead (upd ρ to (data_of c)) dead m.dead_apart (given dead m.dead_mild m.dead_used m.to_alive) b)
    where
      given : (ds : List ℕ) → AllByRecursion (λ d. Mild c (ρ d)) ds → AllByRecursion (λ d. ρ d ≢ free) ds → AllByRecursion (λ d. to ≢ d) ds → AllByRecursion (λ d. after (role_told (upd ρ to (data_of c) d)) spec.erased ≡ Some spec.free) ds
      given [] x y z = tt
      given (d ∷ ds) x y z = (
        subst (λ r. after (role_told r) spec.erased ≡ Some spec.free) (sym (upd_other ρ to (data_of c) d (λ i. z.0 (sym i)))) (gives_up c (ρ d) x.0 y.0),
        given ds x.1 y.1 z.1,
      )
