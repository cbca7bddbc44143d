-- Writes into the random log blocks: a page more, a block more, and the oldest block given up.
use Rattle.std.proofs.Common.{◌≡◌, ℕ, suc, ◌+◌, ◌*◌, ◌/◌, ◌%◌, ◌<◌, ◌≤◌, true, eqb, ◌≢◌, List, [], ◌∷◌, ◌++◌, length, get_or, drop, is_some, Some, None, Option, sym, refl, ap, ◌∙◌, subst, inl, inr, mul-le-mul_right, mod-lt, div-lt_iff_lt-mul, div-add-mod', add-one, arith}
use native.Mathlib.Nat.{add-div_right, add-mod_right}
use Rattle.std.specs.List.{AllByRecursion}
use Rattle.std.proofs.ByRecursion.{All-weaker, All-get_or, All-push}
use Rattle.std.proofs.lemmas.List.{length-map, length_push, length-drop, get_or_append_left, get_or_push}
use Rattle.std.proofs.lemmas.Bool.{cases_eq, cases_lt, eq-eqb, ne_eqb}
use Rattle.flash.specs.Meaning.{Page, blank}
use Rattle.scheme.specs.Functions.{upd}
use Rattle.scheme.specs.Place.{Place, place, placed, entry_of, sequential_place, or_else}
use Rattle.scheme.specs.Roles as spec
use Rattle.scheme.specs.Steps.{append_random, take_log, retire, turn}
use Rattle.scheme.specs.Tables.{Tables, live, stale, stale_all}
use Rattle.scheme.specs.Work.{line, State, retable, do_erase}
use Rattle.scheme.proofs.Changes.{role_told, led_one, led_by}
use Rattle.scheme.proofs.Entries.{entry_in, entry_stale, entry_push_same, entry_push_other, entry_drop, entry_shift, later, once_push, once_drop}
use Rattle.scheme.proofs.Held.{Held, Inv}
use Rattle.scheme.proofs.Plain.{programmed, erased}
use Rattle.scheme.proofs.Roles.{Use, free, data_of, sequential, random, outside, kind, Roles, other_kind, inside, place_busy}
use Rattle.scheme.proofs.Sequences.{taken_kept}
use Rattle.scheme.proofs.Updates.{upd_same, upd_other, upd_both, Apart, apart_push}
use Rattle.scheme.proofs.Works.{Marked, Does, does_then, does_table, program_does, erase_does, put}
use Rattle.scheme.proofs.Writes.{log_view, log_behind, elsewhere, log_grows, both_weaker}

-- the places of entries: only the last block has room
pub last_block : (P n e q p : ℕ) → 0 < P → P * n ≤ e + P → q < n → p < P → e < q * P + p → q ≡ e / P
last_block P n e q p some full h i j =
    let r : e / P * P + e % P ≡ e = div-add-mod' e P in
    let lt : e % P < P = mod-lt e some in
    elim (cases_lt q (e / P)) [
      | inl a ↦ let u : suc q * P ≤ e / P * P = mul-le-mul_right P a in absurd (omega arith)
      | inr a ↦ elim (cases_lt (e / P) q) [
        | inl b ↦ let u : suc (e / P) * P ≤ q * P = mul-le-mul_right P b in let v : suc q * P ≤ n * P = mul-le-mul_right P h in absurd (omega arith)
        | inr b ↦ omega arith
      ]
    ]

module _ (P L R B : ℕ) (l : ℕ → Option (List ℕ)) (s : State) (pos : 0 < P) (inv : Inv P L R B l s) where
  abbrev t : Tables
  t = s.tables

  abbrev ρ : ℕ → Use
  ρ = inv.role

  abbrev ok : Roles P L R B ρ t
  ok = inv.roles

  abbrev held : Held P L l s
  held = inv.held

  -- the next page of the last block
  module _ (b o : ℕ) (x : Page) (y : List ℕ) (known : b < L) (fits : o < P) (text : line x ≡ Some y) (written : is_some (l (b * P + o)) ≡ true)
      (not_seq : sequential_place t.sequential b o ≡ None) (has_room : length t.entries < P * length t.logs) where
    abbrev n : ℕ
    n = b * P + o

    abbrev e : ℕ
    e = length t.entries

    abbrev f : ℕ
    f = get_or t.logs (e / P) 0

    abbrev p : ℕ
    p = e % P

    abbrev pub noted : Tables
    noted =
        record {
          data_block = t.data_block;
          sequential = t.sequential;
          logs = t.logs;
          entries = stale_all (λ m. eqb m n) t.entries ++ (live n ∷ []);
          free = t.free;
          next = t.next;
        }

    abbrev pub noted_end : State
    noted_end = record { flash = programmed s.flash f p x; tables = noted }

    q_in : e / P < length t.logs
    q_in = (div-lt_iff_lt-mul pos).1 (omega arith)

    role : ρ f ≡ random
    role = All-get_or (λ b. ρ b ≡ random) t.logs (e / P) 0 q_in ok.log_role

    gap : s.flash.page f p ≡ blank
    gap = held.log_tail (e / P) p q_in (mod-lt e pos) (omega (arith, div-add-mod' e P))

    log : (d : ℕ) → d < L → t.data_block d ≢ f
    log d h = other_kind ρ f (t.data_block d) random (data_of d) role (ok.data_role d h) (λ z. omega arith)

    staled : length (stale_all (λ m. eqb m n) t.entries) ≡ e
    staled = length-map t.entries _

    one_more : length noted.entries ≡ e + 1
    one_more = length_push (stale_all (λ m. eqb m n) t.entries) (live n) ∙ ap (λ z. z + 1) staled

    entry_here : entry_of n 0 noted.entries ≡ Some e
    entry_here =
        entry_push_same n 0 (stale_all (λ m. eqb m n) t.entries) (entry_stale (λ m. eqb m n) n 0 t.entries ∙ rw (eq-eqb n n refl) refl)
        ∙ ap Some (omega (arith, staled))

    entry_there : (m : ℕ) → m ≢ n → entry_of m 0 noted.entries ≡ entry_of m 0 t.entries
    entry_there m ne =
        entry_push_other m n 0 (stale_all (λ m. eqb m n) t.entries) (λ z. ne (sym z))
        ∙ entry_stale (λ m. eqb m n) m 0 t.entries ∙ rw ne_eqb refl

    entry_cases : (m i : ℕ) (Q : Type 0) → entry_of m 0 noted.entries ≡ Some i → (m ≡ n → Q) → (entry_of m 0 t.entries ≡ Some i → Q) → Q
    entry_cases m i Q z here there = elim (cases_eq m n) [ inl a ↦ here a | inr a ↦ there (sym (entry_there m a) ∙ z) ]

    noted_roles : n < L * P → Roles P L R B ρ noted
    noted_roles small =
        record {
          data_role = ok.data_role;
          seq_role = ok.seq_role;
          seq_owner = ok.seq_owner;
          seq_fill = ok.seq_fill;
          seq_some = ok.seq_some;
          log_role = ok.log_role;
          log_apart = ok.log_apart;
          free_role = ok.free_role;
          free_apart = ok.free_apart;
          none_outside = ok.none_outside;
          room = ok.room;
          few = ok.few;
          filled = omega (arith, one_more);
          full = omega (arith, one_more, ok.full);
          once = once_push n t.entries ok.once;
          lives = λ m i z. entry_cases m i (m < L * P) z (λ a. rw a small) (ok.lives m i);
        }

    noted_here : place P noted b o ≡ record { block = f; page = p }
    unfolding place
    noted_here = rw (place, not_seq, entry_here) refl

    noted_there : (d q : ℕ) → d * P + q ≢ n → place P noted d q ≡ place P t d q
    unfolding place
    noted_there d q ne = rw (place, entry_there (d * P + q) ne) refl

    noted_held : Held P L (upd l n (Some y)) noted_end
    noted_held =
        record {
          view = log_view P L R B l s pos inv f p x gap b o y known fits text written log noted noted_here (λ d q _ ne. noted_there d q ne);
          behind = log_behind P L R B l s pos inv f p x gap b o y known fits text written log;
          seq_log = λ k z q h. grow (k.owner * P + q) (held.seq_log k z q h);
          seq_tail = λ k z q h. apart k.block q (other_kind ρ f k.block random sequential role (ok.seq_role k z) (λ z. omega arith)) ∙ held.seq_tail k z q h;
          log_log = λ m i z. entry_cases m i (is_some (upd l n (Some y) m) ≡ true) z (λ a. rw (a, upd_same l) refl) (λ w. grow m (held.log_log m i w));
          log_tail = λ q r h i j.
              let later : e < q * P + r = omega (arith, one_more) in
              let at : q ≡ e / P = last_block P (length t.logs) e q r pos ok.full h i later in
              let ne : r ≢ p = λ z. absurd (omega (arith, div-add-mod' e P, ap (λ k. k * P) at)) in
              rw (at, upd_same s.flash.page f, upd_other (s.flash.page f) p x r ne) (rw at at (held.log_tail q r h i (omega arith)));
          free_blank = both_weaker (λ b. ρ b ≡ free) (λ g. (p : ℕ) → s.flash.page g p ≡ blank) (λ g. (p : ℕ) → noted_end.flash.page g p ≡ blank) (λ g r e p. apart g p (other_kind ρ f g random free role r (λ z. omega arith)) ∙ e p) t.free ok.free_role held.free_blank;
        }
      where
        apart : (g q : ℕ) → g ≢ f → noted_end.flash.page g q ≡ s.flash.page g q
        apart = elsewhere P L R B l s pos inv f p x gap b o y known fits text written log

        grow : (m : ℕ) → is_some (l m) ≡ true → is_some (upd l n (Some y) m) ≡ true
        grow = log_grows P L R B l s pos inv f p x gap b o y known fits text written log

    pub note_inv : n < L * P → Inv P L R B (upd l n (Some y)) noted_end
    note_inv small = record { role = ρ; roles = noted_roles small; held = noted_held }

    pub note_does : Marked (L * P) x → Does P L B s (append_random P n x s) noted_end 0
    unfolding append_random
    note_does mark = does_then (retable [] (λ _. noted)) (program_does f p x s (inside ok f random role (λ z. omega arith)) (mod-lt e pos) gap (λ _. mark)) (does_table (put s f p x) noted [] (λ b i. refl))

  -- a free block taken as the last
  module _ (f : ℕ) (rest : List ℕ) (head : t.free ≡ f ∷ rest) (fewer : length t.logs < R) (no_room : P * length t.logs ≤ length t.entries) where
    abbrev pub extended : Tables
    extended =
        record {
          data_block = t.data_block;
          sequential = t.sequential;
          logs = t.logs ++ (f ∷ []);
          entries = t.entries;
          free = rest;
          next = t.next;
        }

    abbrev pub extended_end : State
    extended_end = record { flash = s.flash; tables = extended }

    fr : (ρ f ≡ free) × AllByRecursion (λ b. ρ b ≡ free) rest
    fr = subst (λ fs. AllByRecursion (λ b. ρ b ≡ free) fs) head ok.free_role

    fa : AllByRecursion (λ y. y ≢ f) rest × Apart rest
    fa = subst Apart head ok.free_apart

    fb : ((p : ℕ) → s.flash.page f p ≡ blank) × AllByRecursion (λ b. (p : ℕ) → s.flash.page b p ≡ blank) rest
    fb = subst (λ fs. AllByRecursion (λ b. (p : ℕ) → s.flash.page b p ≡ blank) fs) head held.free_blank

    kept : (b : ℕ) (q : Use) → ρ b ≡ q → (kind q ≡ 0 → ⊥) → upd ρ f random b ≡ q
    kept = taken_kept ρ f random fr.0

    extended_roles : Roles P L R B (upd ρ f random) extended
    extended_roles =
        record {
          data_role = λ d h. kept (t.data_block d) (data_of d) (ok.data_role d h) (λ z. omega arith);
          seq_role = λ k e. kept k.block sequential (ok.seq_role k e) (λ z. omega arith);
          seq_owner = ok.seq_owner;
          seq_fill = ok.seq_fill;
          seq_some = ok.seq_some;
          log_role = All-push (λ b. upd ρ f random b ≡ random) t.logs f (All-weaker (λ b. ρ b ≡ random) (λ b. upd ρ f random b ≡ random) (λ b e. kept b random e (λ z. omega arith)) t.logs ok.log_role) (upd_same ρ f random);
          log_apart = apart_push t.logs f ok.log_apart (All-weaker (λ b. ρ b ≡ random) (λ b. b ≢ f) (λ b e. other_kind ρ f b free random fr.0 e (λ z. omega arith)) t.logs ok.log_role);
          free_role = both_weaker (λ b. b ≢ f) (λ b. ρ b ≡ free) (λ b. upd ρ f random b ≡ free) (λ b n e. upd_other ρ f random b n ∙ e) rest fa.0 fr.1;
          free_apart = fa.1;
          none_outside = λ b h. kept b outside (ok.none_outside b h) (λ z. omega arith);
          room = omega (arith, ap length head, length_push t.logs f, ok.room);
          few = omega (arith, length_push t.logs f);
          filled = rw length_push (omega (arith, ok.filled));
          full = rw length_push (omega arith);
          once = ok.once;
          lives = ok.lives;
        }

    extended_place : (d q : ℕ) → place P extended d q ≡ place P t d q
    unfolding place
    extended_place d q =
        ap (λ (z : Option Place). or_else (sequential_place t.sequential d q) (or_else z (record { block = t.data_block d; page = q }))) (go (entry_of (d * P + q) 0 t.entries) refl)
      where
        go : (z : Option ℕ) → entry_of (d * P + q) 0 t.entries ≡ z → placed P (t.logs ++ (f ∷ [])) z ≡ placed P t.logs z
        go None e = refl
        go (Some i) e =
            let h : i < 0 + length t.entries = entry_in (d * P + q) 0 i t.entries e in
            let r : i < length t.logs * P = omega (arith, ok.filled) in
            ap (λ b. Some (record { block = b; page = i % P })) (get_or_append_left t.logs (f ∷ []) 0 (i / P) ((div-lt_iff_lt-mul pos).1 r))

    extended_held : Held P L l extended_end
    extended_held =
        record {
          view = λ d q j k. ap (λ (a : Place). line (s.flash.page a.block a.page)) (extended_place d q) ∙ held.view d q j k;
          behind = held.behind;
          seq_log = held.seq_log;
          seq_tail = held.seq_tail;
          log_log = held.log_log;
          log_tail = λ q p h i j. elim (cases_lt q (length t.logs)) [
            | inl a ↦ rw (get_or_append_left t.logs (f ∷ []) 0 q a) (held.log_tail q p a i j)
            | inr a ↦ let z : length t.logs ≡ q = omega (arith, length_push t.logs f) in rw (get_or_push t.logs f 0 q z) (fb.0 p)
          ];
          free_blank = fb.1;
        }

    pub extend_inv : Inv P L R B l extended_end
    extend_inv = record { role = upd ρ f random; roles = extended_roles; held = extended_held }

    pub extend_does : Does P L B s (take_log P (f ∷ rest) s) extended_end 0
    extend_does =
        does_table s extended (turn spec.taken_as_random f ∷ [])
        (led_by P L R B ρ (upd ρ f random) t extended ok extended_roles (turn spec.taken_as_random f ∷ [])
        (led_one ρ f spec.taken_as_random random [] (ap (λ u. spec.after (role_told u) spec.taken_as_random) fr.0)))

  -- the oldest block given up
  module _ (v : ℕ) (rest : List ℕ) (first : t.logs ≡ v ∷ rest) (all_stale : (j : ℕ) → j < P → get_or t.entries j stale ≡ stale) (long : P ≤ length t.entries) where
    abbrev pub shortened : Tables
    shortened =
        record {
          data_block = t.data_block;
          sequential = t.sequential;
          logs = rest;
          entries = drop P t.entries;
          free = t.free ++ (v ∷ []);
          next = t.next;
        }

    abbrev pub shortened_end : State
    shortened_end = record { flash = erased s.flash v; tables = shortened }

    vr : (ρ v ≡ random) × AllByRecursion (λ b. ρ b ≡ random) rest
    vr = subst (λ fs. AllByRecursion (λ b. ρ b ≡ random) fs) first ok.log_role

    va : AllByRecursion (λ y. y ≢ v) rest × Apart rest
    va = subst Apart first ok.log_apart

    kept₂ : (b : ℕ) (q : Use) → ρ b ≡ q → (kind q ≡ 3 → ⊥) → upd ρ v free b ≡ q
    kept₂ b q e n = upd_other ρ v free b (other_kind ρ v b random q vr.0 e n) ∙ e

    shifted : (n : ℕ) → entry_of n 0 t.entries ≡ later P (entry_of n 0 (drop P t.entries))
    shifted n = entry_drop n 0 P t.entries long all_stale ∙ entry_shift n 0 P (drop P t.entries)

    before : (n i : ℕ) → entry_of n 0 (drop P t.entries) ≡ Some i → entry_of n 0 t.entries ≡ Some (i + P)
    before n i e = shifted n ∙ ap (later P) e

    shortened_roles : Roles P L R B (upd ρ v free) shortened
    shortened_roles =
        record {
          data_role = λ d h. kept₂ (t.data_block d) (data_of d) (ok.data_role d h) (λ z. omega arith);
          seq_role = λ k e. kept₂ k.block sequential (ok.seq_role k e) (λ z. omega arith);
          seq_owner = ok.seq_owner;
          seq_fill = ok.seq_fill;
          seq_some = ok.seq_some;
          log_role = both_weaker (λ b. b ≢ v) (λ b. ρ b ≡ random) (λ b. upd ρ v free b ≡ random) (λ b n e. upd_other ρ v free b n ∙ e) rest va.0 vr.1;
          log_apart = va.1;
          free_role = All-push (λ b. upd ρ v free b ≡ free) t.free v (All-weaker (λ b. ρ b ≡ free) (λ b. upd ρ v free b ≡ free) (λ b e. kept₂ b free e (λ z. omega arith)) t.free ok.free_role) (upd_same ρ v free);
          free_apart = apart_push t.free v ok.free_apart (All-weaker (λ b. ρ b ≡ free) (λ b. b ≢ v) (λ b e. other_kind ρ v b random free vr.0 e (λ z. omega arith)) t.free ok.free_role);
          none_outside = λ b h. kept₂ b outside (ok.none_outside b h) (λ z. omega arith);
          room = omega (arith, ap length first, length_push t.free v, ok.room);
          few = omega (arith, ap length first, ok.few);
          filled = rw length-drop (omega (arith, rw first at ok.filled));
          full = rw length-drop (omega (arith, rw first at ok.full));
          once = once_drop P t.entries ok.once;
          lives = λ n i e. ok.lives n (i + P) (before n i e);
        }

    shortened_place : (d q : ℕ) → place P shortened d q ≡ place P t d q
    unfolding place
    shortened_place d q =
        ap (λ (z : Option Place). or_else (sequential_place t.sequential d q) (or_else z (record { block = t.data_block d; page = q })))
        (go (entry_of (d * P + q) 0 (drop P t.entries)) ∙ ap (placed P (v ∷ rest)) (sym (shifted (d * P + q))) ∙ ap (λ bs. placed P bs (entry_of (d * P + q) 0 t.entries)) (sym first))
      where
        go : (z : Option ℕ) → placed P rest z ≡ placed P (v ∷ rest) (later P z)
        go None = refl
        go (Some i) = rw (add-div_right i pos, add-mod_right, add-one) refl

    shortened_held : Held P L l shortened_end
    shortened_held =
        record {
          view = λ d q j k.
              let a = place P shortened d q in
              ap line (ap (λ (r : ℕ → Page). r a.page) (upd_other s.flash.page v (λ _. blank) a.block (place_busy P L R B (upd ρ v free) shortened pos shortened_roles d q v j (upd_same ρ v free)))
              ∙ ap (λ (a : Place). s.flash.page a.block a.page) (shortened_place d q))
              ∙ held.view d q j k;
          behind = λ d q j k. ap (λ z. is_some (line z)) (away (t.data_block d) q (other_kind ρ v (t.data_block d) random (data_of d) vr.0 (ok.data_role d j) (λ z. omega arith))) ∙ held.behind d q j k;
          seq_log = held.seq_log;
          seq_tail = λ k e q h. away k.block q (other_kind ρ v k.block random sequential vr.0 (ok.seq_role k e) (λ z. omega arith)) ∙ held.seq_tail k e q h;
          log_log = λ n i e. held.log_log n (i + P) (before n i e);
          log_tail = λ q p h i j.
              away (get_or rest q 0) p (All-get_or (λ b. b ≢ v) rest q 0 h va.0)
              ∙ ap (λ bs. s.flash.page (get_or bs (suc q) 0) p) (sym first)
              ∙ held.log_tail (suc q) p (omega (arith, ap length first)) i (omega (arith, length-drop P t.entries));
          free_blank = All-push (λ b. (p : ℕ) → shortened_end.flash.page b p ≡ blank) t.free v
              (All-weaker (λ b. (p : ℕ) → s.flash.page b p ≡ blank) (λ b. (p : ℕ) → shortened_end.flash.page b p ≡ blank) (λ b h p. upd_both s.flash.page v (λ _. blank) b (λ r. r p ≡ blank) (λ _. refl) (λ _. h p)) t.free held.free_blank)
              (λ p. ap (λ (r : ℕ → Page). r p) (upd_same s.flash.page v (λ _. blank)));
        }
      where
        away : (b p : ℕ) → b ≢ v → shortened_end.flash.page b p ≡ s.flash.page b p
        away b p n = ap (λ (r : ℕ → Page). r p) (upd_other s.flash.page v (λ _. blank) b n)

    pub retire_inv : Inv P L R B l shortened_end
    retire_inv = record { role = upd ρ v free; roles = shortened_roles; held = shortened_held }

    pub retire_does : Does P L B s (retire P (v ∷ rest) s) shortened_end 1
    retire_does =
        does_then (do_erase v)
        (does_table s shortened (turn spec.erased v ∷ [])
        (led_by P L R B ρ (upd ρ v free) t shortened ok shortened_roles (turn spec.erased v ∷ [])
        (led_one ρ v spec.erased free [] (ap (λ u. spec.after (role_told u) spec.erased) vr.0))))
        (erase_does v (record { flash = s.flash; tables = shortened }) (inside ok v random vr.0 (λ z. omega arith)) (λ d q j _. place_busy P L R B (upd ρ v free) shortened pos shortened_roles d q v j (upd_same ρ v free)))
