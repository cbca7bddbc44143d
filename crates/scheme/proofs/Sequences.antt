-- Writes into the sequential log block.
use Rattle.std.proofs.Common.{◌≡◌, ℕ, ◌+◌, ◌*◌, ◌<◌, true, eqb, ◌≢◌, List, [], ◌∷◌, length, get_or, is_some, Some, None, Option, sym, refl, ap, ◌∙◌, subst, ap₂, inl, inr, arith}
use Rattle.std.specs.List.{AllByRecursion}
use Rattle.std.proofs.ByRecursion.{All-weaker, All-get_or}
use Rattle.std.proofs.lemmas.List.{length-map}
use Rattle.std.proofs.lemmas.Bool.{cond_both, cases_eq, cases_lt, eq-eqb, ne_eqb, lt-ltb, le-ltb}
use Rattle.flash.specs.Meaning.{Page, blank}
use Rattle.scheme.specs.Functions.{upd}
use Rattle.scheme.specs.Place.{place, entry_of}
use Rattle.scheme.specs.Roles as spec
use Rattle.scheme.specs.Roles.{Led}
use Rattle.scheme.specs.Steps.{open_sequential, append_sequential, turn}
use Rattle.scheme.specs.Tables.{Tables, Sequential, stale_all}
use Rattle.scheme.specs.Work.{line, State, retable}
use Rattle.scheme.proofs.Changes.{role_told, led_one, led_by, led_none}
use Rattle.scheme.proofs.Entries.{entry_stale, once_stale}
use Rattle.scheme.proofs.Held.{Held, Inv}
use Rattle.scheme.proofs.Plain.{programmed}
use Rattle.scheme.proofs.Roles.{Use, free, data_of, sequential, random, outside, kind, busy, Roles, other_kind, inside}
use Rattle.scheme.proofs.Updates.{upd_same, upd_other, Apart}
use Rattle.scheme.proofs.Works.{Marked, Does, does_then, does_table, program_does, put}
use Rattle.scheme.proofs.Writes.{log_view, log_behind, elsewhere, log_grows, both_weaker}

-- a sequential log block with one page taken for logical block b
abbrev pub opened : ℕ → ℕ → List ℕ → Tables → Tables
opened b f rest t =
    record {
      data_block = t.data_block;
      sequential = Some (record { owner = b; block = f; fill = 1 });
      logs = t.logs;
      entries = t.entries;
      free = rest;
      next = t.next;
    }

-- a role that is not free stays when a free block is taken
pub taken_kept : (ρ : ℕ → Use) (f : ℕ) (r : Use) → ρ f ≡ free → (b : ℕ) (q : Use) → ρ b ≡ q → (kind q ≡ 0 → ⊥) → upd ρ f r b ≡ q
taken_kept ρ f r e b q h n = upd_other ρ f r b (other_kind ρ f b free q e h n) ∙ h

pub is_same : (j k : Sequential) → Some j ≡ Some k → j ≡ k
is_same j k e = cc

module _ (P L R B : ℕ) (l : ℕ → Option (List ℕ)) (s : State) (some : 1 < P) (inv : Inv P L R B l s) where
  abbrev t : Tables
  t = s.tables

  abbrev ρ : ℕ → Use
  ρ = inv.role

  abbrev ok : Roles P L R B ρ t
  ok = inv.roles

  abbrev held : Held P L l s
  held = inv.held

  pos : 0 < P
  pos = omega arith

  module _ (f : ℕ) (rest : List ℕ) (x : Page) (b : ℕ) (y : List ℕ) (known : b < L) (text : line x ≡ Some y) (written : is_some (l (b * P + 0)) ≡ true)
      (no_seq : t.sequential ≡ None) (head : t.free ≡ f ∷ rest) where
    abbrev pub open_end : State
    open_end = record { flash = programmed s.flash f 0 x; tables = opened b f rest t }

    fr : (ρ f ≡ free) × AllByRecursion (λ b. ρ b ≡ free) rest
    fr = subst (λ fs. AllByRecursion (λ b. ρ b ≡ free) fs) head ok.free_role

    fa : AllByRecursion (λ y. y ≢ f) rest × Apart rest
    fa = subst Apart head ok.free_apart

    fb : ((p : ℕ) → s.flash.page f p ≡ blank) × AllByRecursion (λ b. (p : ℕ) → s.flash.page b p ≡ blank) rest
    fb = subst (λ fs. AllByRecursion (λ b. (p : ℕ) → s.flash.page b p ≡ blank) fs) head held.free_blank

    log : (d : ℕ) → d < L → t.data_block d ≢ f
    log d h = other_kind ρ f (t.data_block d) free (data_of d) fr.0 (ok.data_role d h) (λ z. omega arith)

    kept : (b : ℕ) (q : Use) → ρ b ≡ q → (kind q ≡ 0 → ⊥) → upd ρ f sequential b ≡ q
    kept = taken_kept ρ f sequential fr.0

    open_roles : Roles P L R B (upd ρ f sequential) (opened b f rest t)
    open_roles =
        record {
          data_role = λ d h. kept (t.data_block d) (data_of d) (ok.data_role d h) (λ z. omega arith);
          seq_role = λ k e. let q : f ≡ k.block = ap (λ (x : Sequential). x.block) (is_same (record { owner = b; block = f; fill = 1 }) k e) in rw (← q) (upd_same ρ f sequential);
          seq_owner = λ k e. let q : b ≡ k.owner = ap (λ (x : Sequential). x.owner) (is_same (record { owner = b; block = f; fill = 1 }) k e) in rw (← q) known;
          seq_fill = λ k e. let q : 1 ≡ k.fill = ap (λ (x : Sequential). x.fill) (is_same (record { owner = b; block = f; fill = 1 }) k e) in omega arith;
          seq_some = λ k e. let q : 1 ≡ k.fill = ap (λ (x : Sequential). x.fill) (is_same (record { owner = b; block = f; fill = 1 }) k e) in omega arith;
          log_role = All-weaker (λ b. ρ b ≡ random) (λ b. upd ρ f sequential b ≡ random) (λ b e. kept b random e (λ z. omega arith)) t.logs ok.log_role;
          log_apart = ok.log_apart;
          free_role = both_weaker (λ b. b ≢ f) (λ b. ρ b ≡ free) (λ b. upd ρ f sequential b ≡ free) (λ b n e. upd_other ρ f sequential b n ∙ e) rest fa.0 fr.1;
          free_apart = fa.1;
          none_outside = λ b h. kept b outside (ok.none_outside b h) (λ z. omega arith);
          room = omega (arith, ap length head, ap busy no_seq, ok.room);
          few = ok.few;
          filled = ok.filled;
          full = ok.full;
          once = ok.once;
          lives = ok.lives;
        }

    place_here : place P (opened b f rest t) b 0 ≡ record { block = f; page = 0 }
    unfolding place
    place_here = rw (place, eq-eqb b b refl) refl

    place_there : (d q : ℕ) → d * P + q ≢ b * P + 0 → place P (opened b f rest t) d q ≡ place P t d q
    unfolding place
    place_there d q ne =
        elim (cases_eq b d) [
          | inl e ↦ elim (cases_eq q 0) [
            | inl z ↦ absurd (ne (ap₂ (λ c p. c * P + p) (sym e) z))
            | inr z ↦ rw (place, no_seq, eq-eqb b d e, le-ltb q 1 (omega arith)) refl
          ]
          | inr e ↦ rw (place, no_seq, ne_eqb b d e) refl
        ]

    open_held : Held P L (upd l (b * P + 0) (Some y)) open_end
    open_held =
        record {
          view = log_view P L R B l s pos inv f 0 x (fb.0 0) b 0 y known pos text written log (opened b f rest t) place_here (λ d q _ ne. place_there d q ne);
          behind = log_behind P L R B l s pos inv f 0 x (fb.0 0) b 0 y known pos text written log;
          seq_log = λ k e q h.
              let j = is_same (record { owner = b; block = f; fill = 1 }) k e in
              let own : b ≡ k.owner = ap (λ (x : Sequential). x.owner) j in
              let z : 1 ≡ k.fill = ap (λ (x : Sequential). x.fill) j in
              let i : q ≡ 0 = omega arith in
              rw (i, ← own, upd_same l) refl;
          seq_tail = λ k e q h.
              let j = is_same (record { owner = b; block = f; fill = 1 }) k e in
              let at : f ≡ k.block = ap (λ (x : Sequential). x.block) j in
              let z : 1 ≡ k.fill = ap (λ (x : Sequential). x.fill) j in
              let i : q ≢ 0 = omega arith in
              rw (← at, upd_same s.flash.page f, upd_other (s.flash.page f) 0 x q i) (fb.0 q);
          log_log = λ n i e. grow n (held.log_log n i e);
          log_tail = λ q p h i j. apart (get_or t.logs q 0) p (other_kind ρ f (get_or t.logs q 0) free random fr.0 (All-get_or (λ b. ρ b ≡ random) t.logs q 0 h ok.log_role) (λ z. omega arith)) ∙ held.log_tail q p h i j;
          free_blank = both_weaker (λ b. b ≢ f) (λ g. (p : ℕ) → s.flash.page g p ≡ blank) (λ g. (p : ℕ) → open_end.flash.page g p ≡ blank) (λ g n e p. apart g p n ∙ e p) rest fa.0 fb.1;
        }
      where
        apart : (g q : ℕ) → g ≢ f → open_end.flash.page g q ≡ s.flash.page g q
        apart = elsewhere P L R B l s pos inv f 0 x (fb.0 0) b 0 y known pos text written log

        grow : (n : ℕ) → is_some (l n) ≡ true → is_some (upd l (b * P + 0) (Some y) n) ≡ true
        grow = log_grows P L R B l s pos inv f 0 x (fb.0 0) b 0 y known pos text written log

    pub open_inv : Inv P L R B (upd l (b * P + 0) (Some y)) open_end
    open_inv = record { role = upd ρ f sequential; roles = open_roles; held = open_held }

    open_led : Led B t (turn spec.taken_as_sequential f ∷ []) (opened b f rest t)
    open_led =
        led_by P L R B ρ (upd ρ f sequential) t (opened b f rest t) ok open_roles (turn spec.taken_as_sequential f ∷ [])
        (led_one ρ f spec.taken_as_sequential sequential [] (ap (λ u. spec.after (role_told u) spec.taken_as_sequential) fr.0))

    pub open_does : Marked (L * P) x → Does P L B s (open_sequential P b x (f ∷ rest) s) open_end 0
    open_does mark =
        does_then (retable (turn spec.taken_as_sequential f ∷ []) (opened b f rest)) (program_does f 0 x s (inside ok f free fr.0 (λ z. omega arith)) pos (fb.0 0) (λ _. mark)) (does_table (put s f 0 x) (opened b f rest t) (turn spec.taken_as_sequential f ∷ []) open_led)

  -- the next page of the sequential log block
  module _ (k : Sequential) (has : t.sequential ≡ Some k) (fits : k.fill < P) (x : Page) (y : List ℕ) (text : line x ≡ Some y)
      (written : is_some (l (k.owner * P + k.fill)) ≡ true) where
    abbrev n : ℕ
    n = k.owner * P + k.fill

    abbrev k' : Sequential
    k' = record { owner = k.owner; block = k.block; fill = k.fill + 1 }

    abbrev pub longer : Tables
    longer =
        record {
          data_block = t.data_block;
          sequential = Some k';
          logs = t.logs;
          entries = stale_all (λ m. eqb m n) t.entries;
          free = t.free;
          next = t.next;
        }

    abbrev pub longer_end : State
    longer_end = record { flash = programmed s.flash k.block k.fill x; tables = longer }

    role : ρ k.block ≡ sequential
    role = ok.seq_role k has

    gap : s.flash.page k.block k.fill ≡ blank
    gap = held.seq_tail k has k.fill (omega arith)

    log₂ : (d : ℕ) → d < L → t.data_block d ≢ k.block
    log₂ d h = other_kind ρ k.block (t.data_block d) sequential (data_of d) role (ok.data_role d h) (λ z. omega arith)

    live_before : (m i : ℕ) → entry_of m 0 (stale_all (λ m. eqb m n) t.entries) ≡ Some i → entry_of m 0 t.entries ≡ Some i
    live_before m i e =
        cond_both (eqb m n) None (entry_of m 0 t.entries) (λ z. z ≡ Some i → entry_of m 0 t.entries ≡ Some i)
        (λ _ e. let z : ◌≡◌ {A = ℕ} 0 1 = cc in absurd (omega arith)) (λ _ e. e)
        (sym (entry_stale (λ m. eqb m n) m 0 t.entries) ∙ e)

    longer_roles : Roles P L R B ρ longer
    longer_roles =
        record {
          data_role = ok.data_role;
          seq_role = λ j e. let q : k.block ≡ j.block = ap (λ (x : Sequential). x.block) (is_same k' j e) in rw (← q) role;
          seq_owner = λ j e. let q : k.owner ≡ j.owner = ap (λ (x : Sequential). x.owner) (is_same k' j e) in rw (← q) (ok.seq_owner k has);
          seq_fill = λ j e. let q : k.fill + 1 ≡ j.fill = ap (λ (x : Sequential). x.fill) (is_same k' j e) in omega arith;
          seq_some = λ j e. let q : k.fill + 1 ≡ j.fill = ap (λ (x : Sequential). x.fill) (is_same k' j e) in omega arith;
          log_role = ok.log_role;
          log_apart = ok.log_apart;
          free_role = ok.free_role;
          free_apart = ok.free_apart;
          none_outside = ok.none_outside;
          room = omega (arith, ap busy has, ok.room);
          few = ok.few;
          filled = rw length-map ok.filled;
          full = rw length-map ok.full;
          once = once_stale (λ m. eqb m n) t.entries ok.once;
          lives = λ m i e. ok.lives m i (live_before m i e);
        }

    longer_here : place P longer k.owner k.fill ≡ record { block = k.block; page = k.fill }
    unfolding place
    longer_here = rw (place, eq-eqb k.owner k.owner refl, lt-ltb k.fill (k.fill + 1) (omega arith)) refl

    longer_there : (d q : ℕ) → d * P + q ≢ n → place P longer d q ≡ place P t d q
    unfolding place
    longer_there d q ne =
        let stays : entry_of (d * P + q) 0 (stale_all (λ m. eqb m n) t.entries) ≡ entry_of (d * P + q) 0 t.entries =
        entry_stale (λ m. eqb m n) (d * P + q) 0 t.entries ∙ rw ne_eqb refl in
        elim (cases_eq k.owner d) [
          | inl e ↦ elim (cases_lt q k.fill) [
            | inl z ↦ rw (place, has, eq-eqb k.owner d e, lt-ltb q k.fill z, lt-ltb q (k.fill + 1) (omega arith)) refl
            | inr z ↦
                let w : k.fill ≢ q = λ i. ne (ap₂ (λ c p. c * P + p) (sym e) (sym i)) in
                rw (place, has, eq-eqb k.owner d e, le-ltb q k.fill z, le-ltb q (k.fill + 1) (omega arith), stays) refl
          ]
          | inr e ↦ rw (place, has, ne_eqb k.owner d e, stays) refl
        ]

    longer_held : Held P L (upd l n (Some y)) longer_end
    longer_held =
        record {
          view = log_view P L R B l s pos inv k.block k.fill x gap k.owner k.fill y (ok.seq_owner k has) fits text written log₂ longer longer_here (λ d q _ ne. longer_there d q ne);
          behind = log_behind P L R B l s pos inv k.block k.fill x gap k.owner k.fill y (ok.seq_owner k has) fits text written log₂;
          seq_log = λ j e q h.
              let i = is_same k' j e in
              let own : k.owner ≡ j.owner = ap (λ (x : Sequential). x.owner) i in
              let z : k.fill + 1 ≡ j.fill = ap (λ (x : Sequential). x.fill) i in
              elim (cases_eq q k.fill) [
                | inl w ↦ rw (w, ← own, upd_same l) refl
                | inr w ↦ rw (← own) (grow (k.owner * P + q) (held.seq_log k has q (omega arith)))
              ];
          seq_tail = λ j e q h.
              let i = is_same k' j e in
              let at : k.block ≡ j.block = ap (λ (x : Sequential). x.block) i in
              let z : k.fill + 1 ≡ j.fill = ap (λ (x : Sequential). x.fill) i in
              let w : q ≢ k.fill = omega arith in
              rw (← at, upd_same s.flash.page k.block, upd_other (s.flash.page k.block) k.fill x q w) (held.seq_tail k has q (omega arith));
          log_log = λ m i e. grow m (held.log_log m i (live_before m i e));
          log_tail = λ q p h i j. apart (get_or t.logs q 0) p (other_kind ρ k.block (get_or t.logs q 0) sequential random role (All-get_or (λ b. ρ b ≡ random) t.logs q 0 h ok.log_role) (λ z. omega arith)) ∙ held.log_tail q p h i (rw length-map at j);
          free_blank = both_weaker (λ b. ρ b ≡ free) (λ g. (p : ℕ) → s.flash.page g p ≡ blank) (λ g. (p : ℕ) → longer_end.flash.page g p ≡ blank) (λ g r e p. apart g p (other_kind ρ k.block g sequential free role r (λ z. omega arith)) ∙ e p) t.free ok.free_role held.free_blank;
        }
      where
        apart : (g q : ℕ) → g ≢ k.block → longer_end.flash.page g q ≡ s.flash.page g q
        apart = elsewhere P L R B l s pos inv k.block k.fill x gap k.owner k.fill y (ok.seq_owner k has) fits text written log₂

        grow : (m : ℕ) → is_some (l m) ≡ true → is_some (upd l n (Some y) m) ≡ true
        grow = log_grows P L R B l s pos inv k.block k.fill x gap k.owner k.fill y (ok.seq_owner k has) fits text written log₂

    pub append_inv : Inv P L R B (upd l n (Some y)) longer_end
    append_inv = record { role = ρ; roles = longer_roles; held = longer_held }

    pub append_does : Marked (L * P) x → Does P L B s (append_sequential P n k.fill x k s) longer_end 0
    unfolding append_sequential
    append_does mark = does_then (retable [] (λ _. longer)) (program_does k.block k.fill x s (inside ok k.block sequential role (λ z. omega arith)) fits gap (λ _. mark)) (does_table (put s k.block k.fill x) longer [] (led_none P L R B ρ t longer ok longer_roles))
