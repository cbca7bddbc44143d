-- How changes lead the roles of blocks: one list of changes after another, and the changes that the steps make.
use Rattle.std.proofs.Common.{◌≡◌, ℕ, ◌<◌, eqb, ◌≢◌, List, [], ◌∷◌, ◌++◌, map, Some, None, Option, sym, refl, ap, ◌∙◌, inl, inr, arith}
use Rattle.std.specs.List.{AllByRecursion}
use Rattle.std.proofs.lemmas.Bool.{cases_Bool, cases_eq, eq-eqb, ne_eqb}
use Rattle.scheme.specs.Functions.{upd}
use Rattle.scheme.specs.Roles as spec
use Rattle.scheme.specs.Roles.{led, Event, Change, and_then, Led, role_of, times, times_sequential, after}
use Rattle.scheme.specs.Steps.{turn}
use Rattle.scheme.specs.Tables.{Tables}
use Rattle.scheme.proofs.Partition.{tables_right, no_data, no_sequential, no_logs, no_free}
use Rattle.scheme.proofs.Roles.{Use, free, data_of, sequential, random, outside, kind, Roles}
use Rattle.scheme.proofs.Updates.{upd_same, upd_other}

and_then_some : (o : Option spec.Role) (f g : spec.Role → Option spec.Role) (q p : spec.Role) → ((r : spec.Role) → f r ≡ Some q → g r ≡ Some p) → and_then o f ≡ Some q → and_then o g ≡ Some p
and_then_some None f g q p h e = let z : ◌≡◌ {A = ℕ} 0 1 = cc in absurd (omega arith)
and_then_some (Some r) f g q p h e = h r e

pub led_then : (b : ℕ) (xs ys : List Change) (r q p : spec.Role) → led b xs r ≡ Some q → led b ys q ≡ Some p → led b (xs ++ ys) r ≡ Some p
led_then b [] ys r q p h k = let e : r ≡ q = cc in rw e k
led_then b (c ∷ xs) ys r q p h k =
    elim (cases_Bool (eqb c.block b)) [
      | inl t ↦ rw (t, led) (and_then_some (after r c.event) (led b xs) (led b (xs ++ ys)) q p (λ u e. led_then b xs ys u q p e k) (rw (t, led) at h))
      | inr t ↦ rw (t, led) (led_then b xs ys r q p (rw (t, led) at h) k)
    ]

pub led_other : (b : ℕ) (c : Change) (cs : List Change) (r : spec.Role) → c.block ≢ b → led b (c ∷ cs) r ≡ led b cs r
led_other b c cs r ne = rw (ne_eqb c.block b ne, led) refl

pub led_own : (b : ℕ) (c : Change) (cs : List Change) (r q : spec.Role) → c.block ≡ b → after r c.event ≡ Some q → led b (c ∷ cs) r ≡ led b cs q
led_own b c cs r q e h = rw (eq-eqb c.block b e, led, h) refl

-- the role that a use stands for
abbrev pub role_told : Use → spec.Role
role_told free = spec.free
role_told (data_of c) = spec.stores_data
role_told sequential = spec.sequential_log
role_told random = spec.random_log
role_told outside = spec.stores_data

-- what the tables say of a block's role is what its use says
pub role_is : (P L R B : ℕ) (ρ : ℕ → Use) (t : Tables) → Roles P L R B ρ t → (b : ℕ) → b < B → role_of t b ≡ role_told (ρ b)
role_is P L R B ρ t ok b h = go (ρ b) refl
  where
    total : spec.roles_of L t b ≡ 1
    total = (tables_right P L R B ρ t ok).one_role b h

    go : (u : Use) → ρ b ≡ u → role_of t b ≡ role_told u
    go free e =
        let k : kind (ρ b) ≡ 0 = ap kind e in
        let one : times b t.free ≡ 1 = omega (arith, total, no_data P L R B ρ t ok b (λ z. omega arith), no_sequential P L R B ρ t ok b (λ z. omega arith) t.sequential refl, no_logs P L R B ρ t ok b (λ z. omega arith)) in
        rw one refl
    go (data_of c) e =
        let k : kind (ρ b) ≡ 1 = ap kind e in
        rw (no_free P L R B ρ t ok b (λ z. omega arith), no_logs P L R B ρ t ok b (λ z. omega arith), no_sequential P L R B ρ t ok b (λ z. omega arith) t.sequential refl) refl
    go sequential e =
        let k : kind (ρ b) ≡ 2 = ap kind e in
        let no_f = no_free P L R B ρ t ok b (λ z. omega arith) in
        let no_l = no_logs P L R B ρ t ok b (λ z. omega arith) in
        let one : times_sequential b t.sequential ≡ 1 = omega (arith, total, no_data P L R B ρ t ok b (λ z. omega arith), no_l, no_f) in
        rw (no_f, no_l, one) refl
    go random e =
        let k : kind (ρ b) ≡ 3 = ap kind e in
        let no_f = no_free P L R B ρ t ok b (λ z. omega arith) in
        let one : times b t.logs ≡ 1 = omega (arith, total, no_data P L R B ρ t ok b (λ z. omega arith), no_f, no_sequential P L R B ρ t ok b (λ z. omega arith) t.sequential refl) in
        rw (no_f, one) refl
    go outside e =
        let k : kind (ρ b) ≡ 4 = ap kind e in
        rw (no_free P L R B ρ t ok b (λ z. omega arith), no_logs P L R B ρ t ok b (λ z. omega arith), no_sequential P L R B ρ t ok b (λ z. omega arith) t.sequential refl) refl

-- changes that lead each use lead each role
pub led_by : (P L R B : ℕ) (ρ σ : ℕ → Use) (t u : Tables) → Roles P L R B ρ t → Roles P L R B σ u → (cs : List Change) → ((b : ℕ) → led b cs (role_told (ρ b)) ≡ Some (role_told (σ b))) → Led B t cs u
led_by P L R B ρ σ t u ok new cs h b i = rw (role_is P L R B ρ t ok b i, role_is P L R B σ u new b i) (h b)

-- no change
pub led_none : (P L R B : ℕ) (ρ : ℕ → Use) (t u : Tables) → Roles P L R B ρ t → Roles P L R B ρ u → Led B t [] u
led_none P L R B ρ t u ok new = led_by P L R B ρ ρ t u ok new [] (λ b. refl)

-- one block changes
pub led_one : (ρ : ℕ → Use) (f : ℕ) (e : Event) (r : Use) (cs : List Change) → after (role_told (ρ f)) e ≡ Some (role_told r) → (b : ℕ) → led b (turn e f ∷ cs) (role_told (ρ b)) ≡ led b cs (role_told (upd ρ f r b))
led_one ρ f e r cs h b =
    elim (cases_eq f b) [
      | inl i ↦ led_own b (turn e f) cs (role_told (ρ b)) (role_told r) i (rw i at h) ∙ ap (λ x. led b cs (role_told x)) (sym (upd_same ρ b r) ∙ ap (λ z. upd ρ z r b) (sym i))
      | inr n ↦ led_other b (turn e f) cs (role_told (ρ b)) n ∙ ap (λ x. led b cs (role_told x)) (sym (upd_other ρ f r b (λ i. n (sym i))))
    ]

-- a block that none of the changes is about
pub led_away : (e : Event) (ds : List ℕ) (b : ℕ) (r : spec.Role) → AllByRecursion (λ d. d ≢ b) ds → led b (map (turn e) ds) r ≡ Some r
led_away e [] b r a = refl
led_away e (d ∷ ds) b r a = led_other b (turn e d) (map (turn e) ds) r a.0 ∙ led_away e ds b r a.1
