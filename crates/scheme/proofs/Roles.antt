-- The roles of the blocks: what the tables say of them, and that the place of a sector is never in a free block.
use Rattle.std.proofs.Common.{◌≡◌, ℕ, ◌+◌, ◌*◌, ◌/◌, ◌<◌, ◌≤◌, ◌&&◌, eqb, ltb, ◌≢◌, length, Some, None, Option, sym, refl, ap, ◌∙◌, inl, inr, mod-lt, div-lt_iff_lt-mul, arith}
use Rattle.std.specs.List.{AllByRecursion}
use Rattle.std.proofs.ByRecursion.{All-get_or}
use Rattle.std.proofs.lemmas.Bool.{cases_lt, cond_both, and_parts, eqb-true, ltb-true}
use Rattle.scheme.specs.Place.{Place, place, entry_of, sequential_place, entry_place}
use Rattle.scheme.specs.Tables.{Tables, Sequential}
use Rattle.scheme.proofs.Entries.{entry_in, Once}
use Rattle.scheme.proofs.Updates.{Apart}

pub data Use : Type 0 where
  free : Use
  data_of : ℕ → Use
  sequential : Use
  random : Use
  outside : Use

abbrev pub kind : Use → ℕ
kind free = 0
kind (data_of c) = 1
kind sequential = 2
kind random = 3
kind outside = 4

abbrev pub busy : Option Sequential → ℕ
busy None = 0
busy (Some k) = 1

pub unlike : (r q : Use) → (kind r ≡ kind q → ⊥) → r ≢ q
unlike r q n e = n (ap kind e)

-- a block of another kind is another block
pub other_kind : (ρ : ℕ → Use) (a b : ℕ) (r q : Use) → ρ a ≡ r → ρ b ≡ q → (kind q ≡ kind r → ⊥) → b ≢ a
other_kind ρ a b r q h k ne e = ne (ap kind (sym k ∙ ap ρ e ∙ h))

pub data_same : (c d : ℕ) → data_of c ≡ data_of d → c ≡ d
data_same c d e = cc

pub record Roles (P L R B : ℕ) (ρ : ℕ → Use) (t : Tables) : Type 0 where
  pub data_role : (c : ℕ) → c < L → ρ (t.data_block c) ≡ data_of c
  pub seq_role : (k : Sequential) → t.sequential ≡ Some k → ρ k.block ≡ sequential
  pub seq_owner : (k : Sequential) → t.sequential ≡ Some k → k.owner < L
  pub seq_fill : (k : Sequential) → t.sequential ≡ Some k → k.fill ≤ P
  pub seq_some : (k : Sequential) → t.sequential ≡ Some k → 0 < k.fill
  pub log_role : AllByRecursion (λ b. ρ b ≡ random) t.logs
  pub log_apart : Apart t.logs
  pub free_role : AllByRecursion (λ b. ρ b ≡ free) t.free
  pub free_apart : Apart t.free
  pub none_outside : (b : ℕ) → B ≤ b → ρ b ≡ outside
  pub room : L + busy t.sequential + length t.logs + length t.free ≡ B
  pub few : length t.logs ≤ R
  pub filled : length t.entries ≤ P * length t.logs
  pub full : P * length t.logs ≤ length t.entries + P
  pub once : Once t.entries
  pub lives : (n i : ℕ) → entry_of n 0 t.entries ≡ Some i → n < L * P

-- a block with a role is one of the device's
pub inside : {P L R B : ℕ} {ρ : ℕ → Use} {t : Tables} → Roles P L R B ρ t → (b : ℕ) (r : Use) → ρ b ≡ r → (kind r ≡ 4 → ⊥) → b < B
inside {B = B} {ρ = ρ} ok b r e n = elim (cases_lt b B) [ inl h ↦ h | inr h ↦ absurd (n (ap kind (sym e ∙ ok.none_outside b h))) ]

-- where a sector can lie
pub data Where (P : ℕ) (t : Tables) (c o : ℕ) : Type 0 where
  in_sequential : (k : Sequential) → t.sequential ≡ Some k → k.owner ≡ c → o < k.fill → place P t c o ≡ record { block = k.block; page = o } → Where P t c o
  in_random : (i : ℕ) → sequential_place t.sequential c o ≡ None → entry_of (c * P + o) 0 t.entries ≡ Some i → place P t c o ≡ entry_place P t.logs i → Where P t c o
  in_data : sequential_place t.sequential c o ≡ None → entry_of (c * P + o) 0 t.entries ≡ None → place P t c o ≡ record { block = t.data_block c; page = o } → Where P t c o

-- a page of the sequential log block
pub sequential_is : (q : Option Sequential) (c o : ℕ) (a : Place) → sequential_place q c o ≡ Some a → (k : Sequential) × (q ≡ Some k) × (k.owner ≡ c) × (o < k.fill) × (a ≡ record { block = k.block; page = o })
sequential_is None c o a e = let z : ◌≡◌ {A = ℕ} 0 1 = cc in absurd (omega arith)
sequential_is (Some k) c o a e =
    cond_both (eqb k.owner c && ltb o k.fill) (Some (record { block = k.block; page = o })) None
    (λ z. z ≡ Some a → (j : Sequential) × (◌≡◌ {A = Option Sequential} (Some k) (Some j)) × (j.owner ≡ c) × (o < j.fill) × (a ≡ record { block = j.block; page = o }))
    (λ h e. let b = and_parts (eqb k.owner c) (ltb o k.fill) h in (k, refl, eqb-true k.owner c b.0, ltb-true o k.fill b.1, cc))
    (λ h e. let z : ◌≡◌ {A = ℕ} 0 1 = cc in absurd (omega arith))
    e

pub where_is : (P : ℕ) (t : Tables) (c o : ℕ) → Where P t c o
unfolding place
where_is P t c o = go (sequential_place t.sequential c o) refl (entry_of (c * P + o) 0 t.entries) refl
  where
    go : (q : Option Place) → sequential_place t.sequential c o ≡ q → (e : Option ℕ) → entry_of (c * P + o) 0 t.entries ≡ e → Where P t c o
    go (Some a) h e k = let s = sequential_is t.sequential c o a h in in_sequential s.0 s.1 s.2 s.3 (rw (h, place) s.4)
    go None h (Some i) k = in_random i h k (rw (h, k, place) refl)
    go None h None k = in_data h k (rw (h, k, place) refl)

module _ (P L R B : ℕ) (ρ : ℕ → Use) (t : Tables) (some : 0 < P) (ok : Roles P L R B ρ t) where
  -- the block of an entry that is found is a random log block
  pub entry_role : (n i : ℕ) → entry_of n 0 t.entries ≡ Some i → ρ (entry_place P t.logs i).block ≡ random
  entry_role n i e =
      let h : i < 0 + length t.entries = entry_in n 0 i t.entries e in
      let f : i < length t.logs * P = omega (arith, ok.filled) in
      All-get_or (λ b. ρ b ≡ random) t.logs (i / P) 0 ((div-lt_iff_lt-mul some).1 f) ok.log_role

  -- no sector's place is in a free block
  pub place_busy : (c o b : ℕ) → c < L → ρ b ≡ free → (place P t c o).block ≢ b
  place_busy c o b h f =
      elim (where_is P t c o) [
        | in_sequential k e _ _ at ↦ rw at (other_kind ρ b k.block free sequential f (ok.seq_role k e) (λ z. omega arith))
        | in_random i _ e at ↦ rw at (other_kind ρ b (entry_place P t.logs i).block free random f (entry_role (c * P + o) i e) (λ z. omega arith))
        | in_data _ _ at ↦ rw at (other_kind ρ b (t.data_block c) free (data_of c) f (ok.data_role c h) (λ z. omega arith))
      ]

  -- the place of a sector is in no other logical block's data block
  pub place_apart : (c d o b : ℕ) → c < L → ρ b ≡ data_of d → c ≢ d → (place P t c o).block ≢ b
  place_apart c d o b h f ne =
      elim (where_is P t c o) [
        | in_sequential k e _ _ at ↦ rw at (other_kind ρ b k.block (data_of d) sequential f (ok.seq_role k e) (λ z. omega arith))
        | in_random i _ e at ↦ rw at (other_kind ρ b (entry_place P t.logs i).block (data_of d) random f (entry_role (c * P + o) i e) (λ z. omega arith))
        | in_data _ _ at ↦ rw at (λ e. ne (data_same c d (sym (ok.data_role c h) ∙ ap ρ e ∙ f)))
      ]

  -- and it is in the device
  pub place_inside : (c o : ℕ) → c < L → (place P t c o).block < B
  place_inside c o h =
      elim (where_is P t c o) [
        | in_sequential k e _ _ at ↦ rw at (inside ok k.block sequential (ok.seq_role k e) (λ z. omega arith))
        | in_random i _ e at ↦ rw at (inside ok (entry_place P t.logs i).block random (entry_role (c * P + o) i e) (λ z. omega arith))
        | in_data _ _ at ↦ rw at (inside ok (t.data_block c) (data_of c) (ok.data_role c h) (λ z. omega arith))
      ]

  -- at a page of its blocks
  pub place_page : (c o : ℕ) → o < P → (place P t c o).page < P
  place_page c o h =
      elim (where_is P t c o) [
        | in_sequential k e _ _ at ↦ rw at h
        | in_random i _ e at ↦ rw at (mod-lt i some)
        | in_data _ _ at ↦ rw at h
      ]
