-- The writes that program one page: the first write of a sector, and those into the log blocks.
use Rattle.std.proofs.Common.{◌≡◌, ℕ, ◌+◌, ◌*◌, ◌/◌, ◌%◌, ◌<◌, true, false, ◌≢◌, List, [], ◌∷◌, get_or, is_some, Some, Option, sym, refl, ap, ◌∙◌, ap₂, inl, inr, arith}
use lib.Arith.{digits_div, digits_mod}
use Rattle.std.specs.List.{AllByRecursion}
use Rattle.std.proofs.ByRecursion.{All-get_or}
use Rattle.std.proofs.lemmas.Bool.{cases_eq}
use Rattle.flash.specs.Meaning.{Page, blank}
use Rattle.scheme.specs.Functions.{upd}
use Rattle.scheme.specs.Place.{Place, place}
use Rattle.scheme.specs.Steps.{page_of}
use Rattle.scheme.specs.Tables.{Tables}
use Rattle.scheme.specs.Work.{line, State}
use Rattle.scheme.proofs.Held.{Held, Inv}
use Rattle.scheme.proofs.Roles.{Use, free, data_of, sequential, random, Roles, data_same, other_kind, where_is, in_sequential, in_random, in_data}
use Rattle.scheme.proofs.Updates.{upd_same, upd_other, upd_both}
use Rattle.scheme.proofs.Works.{put}

-- two offsets with one sector number are the same
pub same_sector : (P b o d q : ℕ) → o < P → q < P → d * P + q ≡ b * P + o → (d ≡ b) × (q ≡ o)
same_sector P b o d q h i e = (
  sym (digits_div d i) ∙ ap (λ n. n / P) e ∙ digits_div b h,
  sym (digits_mod d i) ∙ ap (λ n. n % P) e ∙ digits_mod b h,
)

-- a line that has bytes keeps having some
pub grows : (l : ℕ → Option (List ℕ)) (n : ℕ) (x : List ℕ) (k : ℕ) → is_some (l k) ≡ true → is_some (upd l n (Some x) k) ≡ true
grows l n x k h = upd_both l n (Some x) k (λ z. is_some z ≡ true) (λ _. refl) (λ _. h)

-- two facts of each element give a third
pub both_weaker : {X : Type 0} (A B C : X → Type 0) → ((x : X) → A x → B x → C x) → (xs : List X) → AllByRecursion A xs → AllByRecursion B xs → AllByRecursion C xs
both_weaker A B C f [] a b = tt
both_weaker A B C f (x ∷ xs) a b = (f x a.0 b.0, both_weaker A B C f xs a.1 b.1)

module _ (P L R B : ℕ) (l : ℕ → Option (List ℕ)) (s : State) (some : 0 < P) (inv : Inv P L R B l s) where
  abbrev t : Tables
  t = s.tables

  abbrev ρ : ℕ → Use
  ρ = inv.role

  abbrev ok : Roles P L R B ρ t
  ok = inv.roles

  abbrev held : Held P L l s
  held = inv.held

  -- a sector whose place is a blank page lies in its data block
  pub blank_place : (d q f p : ℕ) → d < L → q < P → s.flash.page f p ≡ blank → (place P t d q).block ≡ f → (place P t d q).page ≡ p → (t.data_block d ≡ f) × (q ≡ p)
  blank_place d q f p h i e bl pg =
      elim (where_is P t d q) [
        | in_sequential k j own lt at ↦ logged (rw own at (held.seq_log k j q lt))
        | in_random j _ k at ↦ logged (held.log_log (d * P + q) j k)
        | in_data _ _ at ↦ (ap (λ (x : Place). x.block) (sym at) ∙ bl, ap (λ (x : Place). x.page) (sym at) ∙ pg)
      ]
    where
      no_line : is_some (l (d * P + q)) ≡ false
      no_line =
          ap is_some (sym (held.view d q h i))
          ∙ ap (λ z. is_some (line z)) (ap (λ b. s.flash.page b (place P t d q).page) bl ∙ ap (s.flash.page f) pg ∙ e)

      logged : is_some (l (d * P + q)) ≡ true → (t.data_block d ≡ f) × (q ≡ p)
      logged z = let c : ◌≡◌ {A = ℕ} 0 1 = cc no_line in absurd (omega arith)

  module _ (f p : ℕ) (x : Page) (gap : s.flash.page f p ≡ blank) where
    -- the pages after the program
    abbrev pub pages' : ℕ → ℕ → Page
    pages' = upd s.flash.page f (upd (s.flash.page f) p x)

    pub at_new : pages' f p ≡ x
    at_new = ap (λ (r : ℕ → Page). r p) (upd_same s.flash.page f (upd (s.flash.page f) p x)) ∙ upd_same (s.flash.page f) p x

    pub not_new : (b q : ℕ) → (b ≡ f → q ≡ p → ⊥) → pages' b q ≡ s.flash.page b q
    not_new b q n =
        upd_both s.flash.page f (upd (s.flash.page f) p x) b (λ r. r q ≡ s.flash.page b q)
        (λ e. upd_other (s.flash.page f) p x q (n e) ∙ ap (λ d. s.flash.page d q) (sym e))
        (λ _. refl)

    -- the page in the place of any other sector
    pub not_moved : (d q : ℕ) → d < L → q < P → (t.data_block d ≡ f → q ≡ p → ⊥) → pages' (place P t d q).block (place P t d q).page ≡ page_of P s d q
    not_moved d q h i n =
        not_new (place P t d q).block (place P t d q).page (λ e k. let w = blank_place d q f p h i gap e k in n w.0 w.1)

  -- the first write of a sector
  pub first_inv : (b o : ℕ) (x : Page) (y : List ℕ) → b < L → o < P → line x ≡ Some y → s.flash.page (t.data_block b) o ≡ blank
      → Inv P L R B (upd l (b * P + o) (Some y)) (put s (t.data_block b) o x)
  first_inv b o x y h i e gap =
      record {
        role = ρ;
        roles = ok;
        held =
            record {
              view = λ d q j k. elim (cases_eq (d * P + q) (b * P + o)) [
                | inl z ↦ let w = same_sector P b o d q i k z in
                    rw (w.0, w.1, upd_same) (ap line (ap (λ (a : Place). new a.block a.page) own ∙ at_new (t.data_block b) o x gap) ∙ e)
                | inr ne ↦ ap line (not_moved (t.data_block b) o x gap d q j k (λ u v. ne (ap₂ (λ c p. c * P + p) (same_block d j u) v))) ∙ held.view d q j k ∙ sym (upd_other l (b * P + o) (Some y) (d * P + q) ne)
              ];
              behind = λ d q j k. elim (cases_eq (d * P + q) (b * P + o)) [
                | inl z ↦ let w = same_sector P b o d q i k z in
                    rw (w.0, w.1, upd_same l) (ap (λ z. is_some (line z)) (at_new (t.data_block b) o x gap) ∙ ap is_some e)
                | inr ne ↦ ap (λ z. is_some (line z)) (not_new (t.data_block b) o x gap (t.data_block d) q (λ u v. ne (ap₂ (λ c p. c * P + p) (same_block d j u) v))) ∙ held.behind d q j k ∙ ap is_some (sym (upd_other l (b * P + o) (Some y) (d * P + q) ne))
              ];
              seq_log = λ k j q lt. grows l (b * P + o) y (k.owner * P + q) (held.seq_log k j q lt);
              seq_tail = λ k j q le. elsewhere k.block q (other_kind ρ (t.data_block b) k.block (data_of b) sequential (ok.data_role b h) (ok.seq_role k j) (λ z. omega arith)) ∙ held.seq_tail k j q le;
              log_log = λ n j k. grows l (b * P + o) y n (held.log_log n j k);
              log_tail = λ q p j k m. elsewhere (get_or t.logs q 0) p (other_kind ρ (t.data_block b) (get_or t.logs q 0) (data_of b) random (ok.data_role b h) (All-get_or (λ b. ρ b ≡ random) t.logs q 0 j ok.log_role) (λ z. omega arith)) ∙ held.log_tail q p j k m;
              free_blank = both_weaker (λ f. ρ f ≡ free) (λ f. (p : ℕ) → s.flash.page f p ≡ blank) (λ f. (p : ℕ) → new f p ≡ blank) (λ f r g p. elsewhere f p (other_kind ρ (t.data_block b) f (data_of b) free (ok.data_role b h) r (λ z. omega arith)) ∙ g p) t.free ok.free_role held.free_blank;
            };
      }
    where
      new : ℕ → ℕ → Page
      new = pages' (t.data_block b) o x gap

      elsewhere : (f p : ℕ) → f ≢ t.data_block b → new f p ≡ s.flash.page f p
      elsewhere f p ne = not_new (t.data_block b) o x gap f p (λ z _. ne z)

      same_block : (d : ℕ) → d < L → t.data_block d ≡ t.data_block b → d ≡ b
      same_block d j u = data_same d b (sym (ok.data_role d j) ∙ ap ρ u ∙ ok.data_role b h)

      unlogged : is_some (l (b * P + o)) ≡ false
      unlogged = sym (held.behind b o h i) ∙ ap (λ z. is_some (line z)) gap

      own : place P t b o ≡ record { block = t.data_block b; page = o }
      own =
          elim (where_is P t b o) [
            | in_sequential k j w lt _ ↦ let g : is_some (l (b * P + o)) ≡ true = rw w at (held.seq_log k j o lt) in let z : ◌≡◌ {A = ℕ} 0 1 = cc unlogged in absurd (omega arith)
            | in_random j _ k _ ↦ let g : is_some (l (b * P + o)) ≡ true = held.log_log (b * P + o) j k in let z : ◌≡◌ {A = ℕ} 0 1 = cc unlogged in absurd (omega arith)
            | in_data _ _ at ↦ at
          ]

  -- a write into a log block: page p of block f, which is nobody's data block, becomes the place of offset o of logical block b
  module _ (f p : ℕ) (x : Page) (gap : s.flash.page f p ≡ blank) (b o : ℕ) (y : List ℕ) (known : b < L) (fits : o < P) (text : line x ≡ Some y)
      (written : is_some (l (b * P + o)) ≡ true) (log : (d : ℕ) → d < L → t.data_block d ≢ f) where
    abbrev pub l' : ℕ → Option (List ℕ)
    l' = upd l (b * P + o) (Some y)

    pub log_view : (u : Tables) → place P u b o ≡ record { block = f; page = p } → ((d q : ℕ) → q < P → d * P + q ≢ b * P + o → place P u d q ≡ place P t d q)
        → (d q : ℕ) → d < L → q < P → line (pages' f p x gap (place P u d q).block (place P u d q).page) ≡ l' (d * P + q)
    log_view u here there d q j k =
        elim (cases_eq (d * P + q) (b * P + o)) [
          | inl z ↦ let w = same_sector P b o d q fits k z in
              rw (w.0, w.1, upd_same l) (ap line (ap (λ (a : Place). pages' f p x gap a.block a.page) here ∙ at_new f p x gap) ∙ text)
          | inr ne ↦
              ap line (ap (λ (a : Place). pages' f p x gap a.block a.page) (there d q k ne) ∙ not_moved f p x gap d q j k (λ z _. log d j z))
              ∙ held.view d q j k ∙ sym (upd_other l (b * P + o) (Some y) (d * P + q) ne)
        ]

    pub log_behind : (d q : ℕ) → d < L → q < P → is_some (line (pages' f p x gap (t.data_block d) q)) ≡ is_some (l' (d * P + q))
    log_behind d q j k =
        ap (λ z. is_some (line z)) (not_new f p x gap (t.data_block d) q (λ z _. log d j z)) ∙ held.behind d q j k
        ∙ upd_both l (b * P + o) (Some y) (d * P + q) (λ z. is_some (l (d * P + q)) ≡ is_some z) (λ e. ap (λ n. is_some (l n)) e ∙ written) (λ _. refl)

    pub elsewhere : (g q : ℕ) → g ≢ f → pages' f p x gap g q ≡ s.flash.page g q
    elsewhere g q ne = not_new f p x gap g q (λ z _. ne z)

    pub log_grows : (n : ℕ) → is_some (l n) ≡ true → is_some (l' n) ≡ true
    log_grows n h = grows l (b * P + o) y n h
