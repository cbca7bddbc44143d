-- What a program and an erase leave where the device does not refuse them.
use Rattle.std.proofs.Common.{◌≡◌, ℕ, ◌+◌, ◌<◌, cond, ◌&&◌, eqb, ◌≢◌, List, length, sym, refl, ap, ◌∙◌, ap₂, inl, inr, arith}
use mathlib.Core.Path.{fun_ext}
use Rattle.std.proofs.lemmas.Bool.{eq-eqb, ne_eqb, lt-ltb, cases_eq}
use Rattle.flash.specs.Calls as calls
use Rattle.flash.specs.Meaning.{Flash, Page, blank, holds}
use Rattle.scheme.specs.Functions.{upd}
use Rattle.scheme.specs.Work.{put_page, seen}
use Rattle.scheme.proofs.Updates.{upd_self}

-- the flash with other pages
abbrev pub with_pages : Flash → (ℕ → ℕ → Page) → Flash
with_pages f g = record { blocks = f.blocks; pages = f.pages; life = f.life; count = f.count; page = g }

-- page p of block b made x
abbrev pub programmed : Flash → ℕ → ℕ → Page → Flash
programmed f b p x = with_pages f (upd f.page b (upd (f.page b) p x))

-- block b made blank, with one erase more
abbrev pub erased : Flash → ℕ → Flash
erased f b =
    record {
      blocks = f.blocks;
      pages = f.pages;
      life = f.life;
      count = upd f.count b (f.count b + 1);
      page = upd f.page b (λ _. blank);
    }

same_page : (f : Flash) (b p : ℕ) (x : Page) → (λ c i. cond (eqb c b && eqb i p) x (f.page c i)) ≡ upd f.page b (upd (f.page b) p x)
unfolding upd
same_page f b p x =
    fun_ext (λ c. fun_ext (λ i. elim (cases_eq c b) [
      | inl e ↦ rw (e, eq-eqb b b refl) refl
      | inr n ↦ rw (ne_eqb c b n) refl
    ]))

same_counts : (f : Flash) (b : ℕ) → (λ c. cond (eqb c b) (f.count c + 1) (f.count c)) ≡ upd f.count b (f.count b + 1)
unfolding upd
same_counts f b =
    fun_ext (λ c. elim (cases_eq c b) [ inl e ↦ rw (e, eq-eqb b b refl) refl | inr n ↦ rw (ne_eqb c b n) refl ])

same_blanks : (f : Flash) (b : ℕ) → (λ c i. cond (eqb c b) blank (f.page c i)) ≡ upd f.page b (λ _. blank)
unfolding upd
same_blanks f b =
    fun_ext (λ c. elim (cases_eq c b) [ inl e ↦ rw (e, eq-eqb b b refl) refl | inr n ↦ rw (ne_eqb c b n) refl ])

pub erases : (f : Flash) (b : ℕ) → b < f.blocks → f.count b < f.life → calls.erased f b ≡ erased f b
erases f b h k =
    let e : calls.erased f b ≡ calls.with_erased f b = rw (lt-ltb b f.blocks h, lt-ltb (f.count b) f.life k) refl in
    e ∙ ap₂ (λ c p. record { blocks = f.blocks; pages = f.pages; life = f.life; count = c; page = p }) (same_counts f b) (same_blanks f b)

pub programs : (f : Flash) (b p n t : ℕ) (y : List ℕ) → b < f.blocks → p < f.pages → n < 0xFFFFFFFF → length y ≡ 512 → f.page b p ≡ blank → put_page f b p (holds n t y) ≡ programmed f b p (holds n t y)
programs f b p n t y h i j k e =
    let ne : n ≢ 0xFFFFFFFF = omega arith in
    let q : calls.programmed f b p n t y ≡ calls.with_page f b p (holds n t y) = rw (lt-ltb b f.blocks h, lt-ltb p f.pages i, eq-eqb (length y) 512 k, ne_eqb n 0xFFFFFFFF ne, e) refl in
    q ∙ ap (with_pages f) (same_page f b p (holds n t y))

pub programs_none : (f : Flash) (b p : ℕ) → f.page b p ≡ blank → f ≡ programmed f b p blank
programs_none f b p h = ap (with_pages f) (sym (upd_self f.page b (upd (f.page b) p blank) (sym (upd_self (f.page b) p blank h))))

pub sees : (f : Flash) (b p : ℕ) → b < f.blocks → p < f.pages → seen f b p ≡ f.page b p
sees f b p h i = rw (lt-ltb b f.blocks h, lt-ltb p f.pages i) refl
