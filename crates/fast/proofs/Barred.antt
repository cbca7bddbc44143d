-- The refusal of a write, check by check.
use Rattle.std.proofs.Common.{◌≡◌, ℕ, ◌/◌, ◌%◌, ◌<◌, ◌≤◌, Bool, true, false, not, ◌&&◌, ◌≢◌, List, length, is_some, Some, None, Err, sym, refl, ap, ◌∙◌}
use Rattle.std.proofs.lemmas.Bool.{eq-eqb, ne_eqb, lt-ltb, le-ltb}
use Rattle.flash.specs.Calls.{is_blank}
use Rattle.flash.specs.Meaning.{Page, blank, holds}
use Rattle.fast.specs.Told.{refusal_number, Addressed}
use Rattle.fast.specs.declared.refusal.Refusal.TheVariants.{NoSuchSector, BufferNotASector, BlocksWornOut, StampsUsedUp}
use Rattle.fast.specs.declared.refusal.Refusal.{Refusal}
use Rattle.scheme.specs.Runs.{Layer, sectors, write_refusal, replaces, worn}
use Rattle.scheme.specs.Work.{line, seen}

used_page : (x : Page) → is_some (line x) ≡ not (is_blank x)
used_page blank = refl
used_page (holds n t y) = refl

module _ (y : Layer) (n : ℕ) (bytes : List ℕ) where
  no_sector : sectors y ≤ n → Some 13 ≡ write_refusal y n bytes
  unfolding write_refusal
  no_sector h = rw (write_refusal, le-ltb n (sectors y) h) refl

  no_buffer : n < sectors y → length bytes ≢ 512 → Some 3 ≡ write_refusal y n bytes
  unfolding write_refusal
  no_buffer h i = rw (write_refusal, lt-ltb n (sectors y) h, ne_eqb (length bytes) 512 i) refl

  -- what the first checks refuse
  pub not_addressed : (e : Refusal) → Addressed n (sectors y) (length bytes) (Err e) → Some (refusal_number e) ≡ write_refusal y n bytes
  not_addressed NoSuchSector h = no_sector h
  not_addressed BufferNotASector h = no_buffer h.0 h.1
  not_addressed BlocksWornOut h = absurd h
  not_addressed StampsUsedUp h = absurd h

  -- whether the page in the data block is shown as blank
  abbrev shown_blank : Bool
  shown_blank = is_blank (seen y.state.flash (y.state.tables.data_block (n / y.pages)) (n % y.pages))

  pub wears : (first b : Bool) → first ≡ shown_blank → b ≡ (not first && worn y) → b ≡ (replaces y n && worn y)
  wears first b e h = h ∙ ap (λ q. not q && worn y) e ∙ ap (λ q. q && worn y) (sym (used_page (seen y.state.flash (y.state.tables.data_block (n / y.pages)) (n % y.pages))))

  module _ (h : n < sectors y) (i : length bytes ≡ 512) where
    pub no_life : true ≡ (replaces y n && worn y) → Some 12 ≡ write_refusal y n bytes
    unfolding write_refusal
    no_life j = rw (write_refusal, lt-ltb n (sectors y) h, eq-eqb (length bytes) 512 i, sym j) refl

    pub no_stamp : false ≡ (replaces y n && worn y) → y.state.tables.next ≡ 0xFFFFFFFF → Some 14 ≡ write_refusal y n bytes
    unfolding write_refusal
    no_stamp j k = rw (write_refusal, lt-ltb n (sectors y) h, eq-eqb (length bytes) 512 i, sym j, eq-eqb y.state.tables.next 0xFFFFFFFF k) refl

    pub no_bar : false ≡ (replaces y n && worn y) → y.state.tables.next ≢ 0xFFFFFFFF → None ≡ write_refusal y n bytes
    unfolding write_refusal
    no_bar j k = rw (write_refusal, lt-ltb n (sectors y) h, eq-eqb (length bytes) 512 i, sym j, ne_eqb y.state.tables.next 0xFFFFFFFF k) refl
