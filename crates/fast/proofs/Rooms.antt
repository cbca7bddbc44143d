-- The steps of overwrites, by what their parts leave.
use Rattle.std.proofs.Common.{◌≡◌, ℕ, ◌+◌, ◌*◌, ◌/◌, ◌%◌, ◌<◌, ◌≤◌, eqb, ◌≢◌, List, [], ◌∷◌, ◌++◌, length, get_or, drop, Some, sym, refl, ap, subst, ap₂, subst₂, arith}
use Rattle.std.proofs.lemmas.Bool.{eq-eqb, ne_eqb, lt-ltb, le-ltb}
use Rattle.std.proofs.lemmas.List.{length-map}
use Rattle.flash.specs.Calls.{erased}
use Rattle.flash.specs.Meaning.{Flash, Page}
use Rattle.flash.specs.declared.numbers.Block.{Block}
use Rattle.scheme.specs.Steps.{visit, retire, reclaim, thinned, take_log, make_room, append_random, write_random, settle_owner, open_sequential, write_start, append_sequential, settle, merge_free, write_sequential}
use Rattle.scheme.specs.Tables.{Tables, Sequential, live, with_random, with_free, stale_all}
use Rattle.scheme.specs.Work.{State, Work, each, put_page, ◌then◌}
use Rattle.fast.specs.Leaves.{at, Left}
use Rattle.fast.specs.Views.{numbers}
use Rattle.fast.proofs.Visited.{left_then}

pub length_numbers : (xs : List Block) → length (numbers xs) ≡ length xs
length_numbers xs = length-map xs (λ b. b.0)

-- one step after another, the counts given
pub left_both : (w : Work) (g : State → Work) (d f : Flash) (t u : Tables) (e n a b p q : ℕ) → Left w d t e n → Left (g (at d t)) f u a b → e + a ≡ p → n + b ≡ q → Left (w then g) f u p q
left_both w g d f t u e n a b p q x y i j = subst₂ (λ k m. Left (w then g) f u k m) i j (left_then w g d f t u e n a b x y)

retires : (P : ℕ) (ls : List ℕ) (d f : Flash) (t u : Tables) → 0 < length ls
    → u ≡ with_random (drop 1 ls) (drop P t.entries) (with_free (t.free ++ (get_or ls 0 0 ∷ [])) t) → f ≡ erased d (get_or ls 0 0) → Left (retire P ls (at d t)) f u 1 0
retires P [] d f t u h i j = absurd (omega arith)
retires P (v ∷ rest) d f t u h i j = record { state = ap₂ at j i; erases = refl; copies = refl }

pub reclaimed : (P : ℕ) (s : State) (d f : Flash) (t u : Tables) (e n : ℕ) → Left (each (visit P) 0 P s) d t e n → 0 < length t.logs
    → u ≡ with_random (drop 1 t.logs) (drop P t.entries) (with_free (t.free ++ (get_or t.logs 0 0 ∷ [])) t) → f ≡ erased d (get_or t.logs 0 0) → Left (reclaim P s) f u (e + 1) n
unfolding reclaim
reclaimed P s d f t u e n left h i j = left_both (each (visit P) 0 P s) (λ s. retire P s.tables.logs s) d f t u e n 1 0 (e + 1) n left (retires P t.logs d f t u h i j) refl (omega arith)

takes_log : (P : ℕ) (fs : List ℕ) (f : Flash) (t u : Tables) → 0 < length fs → u ≡ with_random (t.logs ++ (get_or fs 0 0 ∷ [])) t.entries (with_free (drop 1 fs) t) → Left (take_log P fs (at f t)) f u 0 0
takes_log P [] f t u h i = absurd (omega arith)
takes_log P (x ∷ fs) f t u h i = record { state = ap (at f) i; erases = refl; copies = refl }

pub room_already : (P R : ℕ) (f : Flash) (t : Tables) → length t.entries < P * length t.logs → Left (make_room P R (at f t)) f t 0 0
unfolding make_room
room_already P R f t h = rw (make_room, lt-ltb (length t.entries) (P * length t.logs) h) (record { state = refl; erases = refl; copies = refl })

pub room_made : (P R : ℕ) (s : State) (d : Flash) (t u : Tables) (e n : ℕ) → P * length s.tables.logs ≤ length s.tables.entries → Left (thinned P R s) d t e n → 0 < length t.free
    → u ≡ with_random (t.logs ++ (get_or t.free 0 0 ∷ [])) t.entries (with_free (drop 1 t.free) t) → Left (make_room P R s) d u e n
unfolding make_room
room_made P R s d t u e n h left some i =
    rw (make_room, le-ltb (length s.tables.entries) (P * length s.tables.logs) h)
    (left_both (thinned P R s) (λ s. take_log P s.tables.free s) d d t u e n 0 0 e n left (takes_log P t.free d t u some i) (omega arith) (omega arith))

pub appended : (P n : ℕ) (x : Page) (f g : Flash) (t u : Tables) → g ≡ put_page f (get_or t.logs (length t.entries / P) 0) (length t.entries % P) x
    → u ≡ with_random t.logs (stale_all (λ m. eqb m n) t.entries ++ (live n ∷ [])) t → Left (append_random P n x (at f t)) g u 0 0
unfolding append_random
appended P n x f g t u e i = record { state = ap₂ at e i; erases = refl; copies = refl }

pub random_written : (P R n : ℕ) (x : Page) (s : State) (d f : Flash) (t u : Tables) (e k : ℕ) → Left (make_room P R s) d t e k → Left (append_random P n x (at d t)) f u 0 0 → Left (write_random P R n x s) f u e k
unfolding write_random
random_written P R n x s d f t u e k a b = left_both (make_room P R s) (append_random P n x) d f t u e k 0 0 e k a b (omega arith) (omega arith)

pub start_written : (P b : ℕ) (x : Page) (s : State) (d f : Flash) (t u : Tables) (e k : ℕ) → Left (settle_owner P s.tables.sequential s) d t e k → Left (open_sequential P b x t.free (at d t)) f u 0 0 → Left (write_start P b x s) f u e k
unfolding write_start
start_written P b x s d f t u e k a c = left_both (settle_owner P s.tables.sequential s) (λ s. open_sequential P b x s.tables.free s) d f t u e k 0 0 e k a c (omega arith) (omega arith)

module _ (P n b o : ℕ) (x : Page) (k : Sequential) (s : State) (f : Flash) (u : Tables) (e m : ℕ) where
  pub next_written : o ≡ k.fill → Left (append_sequential P n k.fill x k s) f u e m → Left (write_sequential P n b o x k s) f u e m
  unfolding write_sequential
  next_written i left = rw (write_sequential, eq-eqb o k.fill i) (subst (λ o. Left (append_sequential P n o x k s) f u e m) (sym i) left)

  pub past_written : o ≢ k.fill → k.fill < o → Left (settle P (Some (record { offset = o; content = x })) b s) f u e m → Left (write_sequential P n b o x k s) f u e m
  unfolding write_sequential
  past_written i h left = rw (write_sequential, ne_eqb o k.fill i, lt-ltb k.fill o h) left

  pub back_written : o ≢ k.fill → o ≤ k.fill → Left (merge_free P (Some (record { offset = o; content = x })) b s.tables.free (s.tables.data_block b ∷ k.block ∷ []) s) f u e m → Left (write_sequential P n b o x k s) f u e m
  unfolding write_sequential
  back_written i h left = rw (write_sequential, ne_eqb o k.fill i, le-ltb k.fill o h) left
