-- The steps of overwrites into the sequential log block, by what their parts leave.
use Rattle.std.proofs.Common.{◌≡◌, ℕ, ◌+◌, ◌<◌, eqb, List, [], ◌∷◌, length, get_or, drop, Some, None, Option, sym, refl, subst, ap₂, arith}
use Rattle.flash.specs.Meaning.{Flash, Page}
use Rattle.scheme.specs.Roles.{finished}
use Rattle.scheme.specs.Steps.{merge, settle_owner, open_sequential, append_sequential}
use Rattle.scheme.specs.Tables.{Tables, Sequential, with_sequential, with_random, with_free, stale_all}
use Rattle.scheme.specs.Work.{State, put_page}
use Rattle.fast.specs.Leaves.{at, Left}
use Rattle.fast.specs.Views.{sw_view}
use Rattle.fast.specs.declared.tables.sequential.Sw.{Sw}
use Rattle.fast.proofs.Carried.{settles_owned}

pub settles_owner : (P : ℕ) (s : State) (q : Option Sw) (k : Sw) (f : Flash) (u : Tables) (e n : ℕ) → s.tables.sequential ≡ sw_view q → q ≡ Some k
    → Left (merge P finished None k.owner.0 k.block.0 k.fill s.tables.free (s.tables.data_block k.owner.0 ∷ []) s) f u e n → Left (settle_owner P (sw_view q) s) f u e n
settles_owner P s q k f u e n h has left =
    subst (λ (x : Option Sw). Left (settle_owner P (sw_view x) s) f u e n) (sym has) (settles_owned P None k.owner.0 s q k f u e n h has refl left)

pub opens : (P b : ℕ) (x : Page) (free : List ℕ) (f g : Flash) (t u : Tables) → 0 < length free → g ≡ put_page f (get_or free 0 0) 0 x
    → u ≡ with_sequential (Some (record { owner = b; block = get_or free 0 0; fill = 1 })) (with_free (drop 1 free) t) → Left (open_sequential P b x free (at f t)) g u 0 0
opens P b x [] f g t u h e i = absurd (omega arith)
opens P b x (y ∷ ys) f g t u h e i = record { state = ap₂ at e i; erases = refl; copies = refl }

pub appends : (P n o : ℕ) (x : Page) (k : Sequential) (f g : Flash) (t u : Tables) → g ≡ put_page f k.block o x
    → u ≡ with_sequential (Some (record { owner = k.owner; block = k.block; fill = k.fill + 1 })) (with_random t.logs (stale_all (λ m. eqb m n) t.entries) t)
    → Left (append_sequential P n o x k (at f t)) g u 0 0
unfolding append_sequential
appends P n o x k f g t u e i = record { state = ap₂ at e i; erases = refl; copies = refl }
