-- What format leaves.
use Rattle.std.proofs.Common.{◌≡◌, ℕ, zero, suc, ◌+◌, ◌-◌, ◌<◌, ◌≤◌, cond, ltb, ◌≢◌, [], length, is_some, None, sym, refl, ap, ◌∙◌, subst, zero-add, arith}
use Rattle.std.specs.List.{AllByRecursion}
use Rattle.std.proofs.lemmas.Bool.{lt-ltb, le-ltb}
use Rattle.flash.specs.Calls as calls
use Rattle.flash.specs.Meaning.{Flash, blank}
use Rattle.scheme.specs.Place.{place}
use Rattle.scheme.specs.Steps.{formatted, rising}
use Rattle.scheme.specs.Tables.{Tables}
use Rattle.scheme.specs.Work.{each, line, State, do_erase}
use Rattle.scheme.proofs.Held.{Inv}
use Rattle.scheme.proofs.Plain.{erased, erases}
use Rattle.scheme.proofs.Roles.{Use, free, data_of, outside}
use Rattle.scheme.proofs.Updates.{upd_other, upd_both, Apart}

-- the blocks below n are blank and have one erase more, and all else is as it was
pub record Cleaned (s w : State) (n : ℕ) : Type 0 where
  pub tables : w.tables ≡ s.tables
  pub blocks : w.flash.blocks ≡ s.flash.blocks
  pub pages : w.flash.pages ≡ s.flash.pages
  pub life : w.flash.life ≡ s.flash.life
  pub clean : (b p : ℕ) → b < n → w.flash.page b p ≡ blank
  pub once : (b : ℕ) → b < n → w.flash.count b ≡ s.flash.count b + 1
  pub not_yet : (b : ℕ) → n ≤ b → w.flash.count b ≡ s.flash.count b

pub cleans : (s : State) → ((b : ℕ) → b < s.flash.blocks → s.flash.count b < s.flash.life) → (n : ℕ) → n ≤ s.flash.blocks → Cleaned s (each do_erase 0 n s).after n
unfolding each
cleans s young zero most = record { tables = refl; blocks = refl; pages = refl; life = refl; clean = λ b p h. absurd (omega arith); once = λ b h. absurd (omega arith); not_yet = λ b h. refl }
cleans s young (suc n) most =
    let c = cleans s young n (omega arith) in
    let w = (each do_erase 0 n s).after in
    let x : calls.erased w.flash (0 + n) ≡ erased w.flash (0 + n) =
    erases w.flash (0 + n) (omega (arith, c.blocks)) (rw zero-add (omega (arith, young n (omega arith), c.not_yet n (omega arith), c.life))) in
    subst (λ f. Cleaned s (record { flash = f; tables = w.tables }) (suc n)) (sym x)
    (record {
      tables = c.tables;
      blocks = c.blocks;
      pages = c.pages;
      life = c.life;
      clean = λ b p h. upd_both w.flash.page (0 + n) (λ _. blank) b (λ r. r p ≡ blank) (λ _. refl) (λ ne. c.clean b p (omega arith));
      once = λ b h.
          upd_both w.flash.count (0 + n) (w.flash.count (0 + n) + 1) b (λ k. k ≡ s.flash.count b + 1)
          (λ e. ap (λ k. w.flash.count k + 1) (sym e) ∙ ap (λ k. k + 1) (c.not_yet b (omega arith))) (λ ne. c.once b (omega arith));
      not_yet = λ b h. upd_other w.flash.count (0 + n) (w.flash.count (0 + n) + 1) b (omega arith) ∙ c.not_yet b (omega arith);
    })

pub rising_all : (Q : ℕ → Type 0) (i n : ℕ) → ((b : ℕ) → i ≤ b → b < i + n → Q b) → AllByRecursion Q (rising i n)
rising_all Q i zero f = tt
rising_all Q i (suc n) f = (f i (omega arith) (omega arith), rising_all Q (suc i) n (λ b l h. f b (omega arith) (omega arith)))

rising_apart : (i n : ℕ) → Apart (rising i n)
rising_apart i zero = tt
rising_apart i (suc n) = (rising_all (λ y. y ≢ i) (suc i) n (λ b l h. omega arith), rising_apart (suc i) n)

rising_length : (i n : ℕ) → length (rising i n) ≡ n
rising_length i zero = refl
rising_length i (suc n) = ap suc (rising_length (suc i) n)

-- the role that each block starts with
abbrev start_role : ℕ → ℕ → ℕ → Use
start_role L B b = cond (ltb b L) (data_of b) (cond (ltb b B) free outside)

abbrev pub start_tables : ℕ → ℕ → ℕ → Tables
start_tables L B first = record { data_block = λ i. cond (ltb i L) i 0; sequential = None; logs = []; entries = []; free = rising L (B - L); next = first }

-- whatever flash is blank below B
pub starts : (P L R first : ℕ) (s : State) → 0 < P → L ≤ s.flash.blocks → s.tables ≡ start_tables L s.flash.blocks first
    → ((b p : ℕ) → b < s.flash.blocks → s.flash.page b p ≡ blank) → Inv P L R s.flash.blocks (λ _. None) s
unfolding place
starts P L R first s pos some e clean =
    subst (λ t. Inv P L R B (λ _. None) (record { flash = s.flash; tables = t })) (sym e)
    (record {
      role = start_role L B;
      roles =
          record {
            data_role = λ c h. rw (lt-ltb c L h, lt-ltb c L h) refl;
            seq_role = λ k z. let w : ◌≡◌ {A = ℕ} 0 1 = cc in absurd (omega arith);
            seq_owner = λ k z. let w : ◌≡◌ {A = ℕ} 0 1 = cc in absurd (omega arith);
            seq_fill = λ k z. let w : ◌≡◌ {A = ℕ} 0 1 = cc in absurd (omega arith);
            seq_some = λ k z. let w : ◌≡◌ {A = ℕ} 0 1 = cc in absurd (omega arith);
            log_role = tt;
            log_apart = tt;
            free_role = rising_all (λ b. start_role L B b ≡ free) L (B - L) (λ b l h. let i : b < B = omega arith in rw (le-ltb b L l, lt-ltb b B i) refl);
            free_apart = rising_apart L (B - L);
            none_outside = λ b h. let i : L ≤ b = omega arith in rw (le-ltb b L i, le-ltb b B h) refl;
            room = omega (arith, rising_length L (B - L));
            few = omega arith;
            filled = omega arith;
            full = omega arith;
            once = λ n i j a b. let w : ◌≡◌ {A = ℕ} 0 1 = cc in absurd (omega arith);
            lives = λ n i z. let w : ◌≡◌ {A = ℕ} 0 1 = cc in absurd (omega arith);
          };
      held =
          record {
            view = λ c o h i. rw (place, lt-ltb c L h) (ap line (clean c o (omega arith)));
            behind = λ c o h i. rw (lt-ltb c L h) (ap (λ x. is_some (line x)) (clean c o (omega arith)));
            seq_log = λ k z. let w : ◌≡◌ {A = ℕ} 0 1 = cc in absurd (omega arith);
            seq_tail = λ k z. let w : ◌≡◌ {A = ℕ} 0 1 = cc in absurd (omega arith);
            log_log = λ n i z. let w : ◌≡◌ {A = ℕ} 0 1 = cc in absurd (omega arith);
            log_tail = λ q p h. absurd (omega arith);
            free_blank = rising_all (λ b. (p : ℕ) → s.flash.page b p ≡ blank) L (B - L) (λ b l h p. clean b p (omega arith));
          };
    })
  where
    B : ℕ
    B = s.flash.blocks

pub formats : (P L R first : ℕ) (f : Flash) → ((b : ℕ) → b < f.blocks → f.count b < f.life) → 0 < P → L ≤ f.blocks → Inv P L R f.blocks (λ _. None) (formatted L first f).after
unfolding formatted
formats P L R first f young pos some =
    let s : State = record { flash = f; tables = start_tables L f.blocks first } in
    let c = cleans s young f.blocks (omega arith) in
    let w : State = (each do_erase 0 f.blocks s).after in
    subst (λ n. Inv P L R n (λ _. None) w) c.blocks
    (starts P L R first w pos (rw c.blocks some) (c.tables ∙ ap (λ n. start_tables L n first) (sym c.blocks)) (λ b p h. c.clean b p (rw c.blocks at h)))

pub format_cleans : (L first : ℕ) (f : Flash) → ((b : ℕ) → b < f.blocks → f.count b < f.life) → Cleaned (record { flash = f; tables = start_tables L f.blocks first }) (formatted L first f).after f.blocks
unfolding formatted
format_cleans L first f young = cleans (record { flash = f; tables = start_tables L f.blocks first }) young f.blocks (omega arith)
