-- An accepted write, by what its parts leave.
use Rattle.std.proofs.Common.{◌≡◌, ℕ, ◌+◌, ◌/◌, ◌%◌, true, false, ◌≢◌, List, Some, None, refl, ap, subst, arith}
use Rattle.std.proofs.lemmas.Bool.{eq-eqb, ne_eqb}
use Rattle.flash.specs.Calls.{is_blank}
use Rattle.flash.specs.Meaning.{Flash, Page, blank, holds}
use Rattle.scheme.specs.Steps.{write_first, write_start, write_sequential, write_random, overwrite, write, stamped}
use Rattle.scheme.specs.Tables.{Tables, Sequential, owned, with_next}
use Rattle.scheme.specs.Work.{State, Work, put_page, seen, ◌then◌}
use Rattle.fast.specs.Leaves.{at, Left}
use Rattle.fast.proofs.Rooms.{left_both}

module _ (P R n b o : ℕ) (x : Page) (s : State) (f : Flash) (u : Tables) (e m : ℕ) where
  pub over_start : o ≡ 0 → Left (write_start P b x s) f u e m → Left (overwrite P R n b o x s) f u e m
  unfolding overwrite
  over_start i left = rw (overwrite, eq-eqb o 0 i) left

  pub over_owned : o ≢ 0 → (k : Sequential) → owned b s.tables.sequential ≡ Some k → k.owner ≡ b → Left (write_sequential P n k.owner o x k s) f u e m → Left (overwrite P R n b o x s) f u e m
  unfolding overwrite
  over_owned i k h own left = rw (overwrite, ne_eqb o 0 i, h) (subst (λ b. Left (write_sequential P n b o x k s) f u e m) own left)

  pub over_random : o ≢ 0 → owned b s.tables.sequential ≡ None → Left (write_random P R n x s) f u e m → Left (overwrite P R n b o x s) f u e m
  unfolding overwrite
  over_random i h left = rw (overwrite, ne_eqb o 0 i, h) left

pub first_written : (P b o : ℕ) (x : Page) (f g : Flash) (t : Tables) → g ≡ put_page f (t.data_block b) o x → Left (write_first P b o x (at f t)) g t 0 0
unfolding write_first
first_written P b o x f g t e = record { state = ap (λ h. at h t) e; erases = refl; copies = refl }

stamps : (P : ℕ) (d : Flash) (t u : Tables) → u ≡ with_next (t.next + 1) t → Left (stamped P (at d t)) d u 0 0
stamps P d t u i = record { state = ap (at d) i; erases = refl; copies = refl }

blank_is : (x : Page) → true ≡ is_blank x → x ≡ blank
blank_is blank e = refl
blank_is (holds n t y) e = let z : ◌≡◌ {A = ℕ} 0 1 = cc in absurd (omega arith)

module _ (P R n : ℕ) (bytes : List ℕ) (s : State) (d : Flash) (t u : Tables) (e m : ℕ) (i : u ≡ with_next (t.next + 1) t) where
  pub blank_written : true ≡ is_blank (seen s.flash (s.tables.data_block (n / P)) (n % P)) → Left (write_first P (n / P) (n % P) (holds n s.tables.next bytes) s) d t e m → Left (write P R n bytes s) d u e m
  unfolding write
  blank_written h left =
      rw (write, blank_is (seen s.flash (s.tables.data_block (n / P)) (n % P)) h)
      (left_both (write_first P (n / P) (n % P) (holds n s.tables.next bytes) s) (stamped P) d d t u e m 0 0 e m left (stamps P d t u i) (omega arith) (omega arith))

  pub used_written : false ≡ is_blank (seen s.flash (s.tables.data_block (n / P)) (n % P)) → Left (overwrite P R n (n / P) (n % P) (holds n s.tables.next bytes) s) d t e m → Left (write P R n bytes s) d u e m
  unfolding write
  used_written h left =
      go (seen s.flash (s.tables.data_block (n / P)) (n % P)) h
    where
      whole : Left (overwrite P R n (n / P) (n % P) (holds n s.tables.next bytes) s then stamped P) d u e m
      whole = left_both (overwrite P R n (n / P) (n % P) (holds n s.tables.next bytes) s) (stamped P) d d t u e m 0 0 e m left (stamps P d t u i) (omega arith) (omega arith)

      go : (q : Page) → false ≡ is_blank q → Left (elim q as (λ _. Work) [ blank ↦ write_first P (n / P) (n % P) (holds n s.tables.next bytes) s | holds _ _ _ ↦ overwrite P R n (n / P) (n % P) (holds n s.tables.next bytes) s ] then stamped P) d u e m
      go blank h = let z : ◌≡◌ {A = ℕ} 0 1 = cc in absurd (omega arith)
      go (holds a b c) h = whole
