-- What a reached layer is, and what an accepted write leaves there: one sector set and no other, and nothing that barred a write gone.
use Rattle.std.proofs.Common.{◌≡◌, ℕ, zero, suc, ◌+◌, ◌*◌, ◌<◌, ◌≤◌, Bool, true, false, cond, ◌||◌, eqb, ltb, ◌⊎◌, List, [], ◌∷◌, is_some, Some, None, Option, sym, refl, ap, ◌∙◌, subst, inl, inr, arith}
use Rattle.std.proofs.lemmas.Bool.{ltb-true, lt-ltb}
use Rattle.flash.specs.Meaning.{Flash}
use Rattle.scheme.specs.Functions.{upd, some_below}
use Rattle.scheme.specs.Ledger.{Call, read, write, Ledger, empty, entered}
use Rattle.scheme.specs.Runs.{Start, Layer, sectors, call, write_refusal, replaces, worn, content, most_erases, last_layer, reached, format, fit, nothing}
use Rattle.scheme.specs.Steps.{write as write_steps}
use Rattle.scheme.specs.Work.{State}
use Rattle.scheme.proofs.Runs.{Running, Accepts, accepts, has_line, replaces_line, no_sector, fits, begins, by_fit}

-- a layer that has sectors, somewhere in a run
pub record Midway (y : Layer) : Type 0 where
  pub blocks : ℕ
  pub ledger : Ledger
  pub erases : ℕ
  pub pos : 1 < y.pages
  pub some_logical : 0 < y.logical
  pub some_random : 0 < y.random
  pub wide : y.logical + y.random + 2 ≤ blocks
  pub small : y.logical * y.pages ≤ 0xFFFFFFFF
  pub running : Running y.pages y.logical y.random blocks pos some_logical some_random wide small y.state ledger erases

-- the layer with another state
abbrev pub moved : Layer → State → Layer
moved y s = record { pages = y.pages; logical = y.logical; random = y.random; state = s }

-- the layer after a write, by its refusal
pub after_refused : (y : Layer) (n : ℕ) (bytes : List ℕ) (m : ℕ) → write_refusal y n bytes ≡ Some m → (call y (write n bytes)).after ≡ y
unfolding call
after_refused y n bytes m e = rw (e, call) refl

pub after_accepted : (y : Layer) (n : ℕ) (bytes : List ℕ) → write_refusal y n bytes ≡ None
    → (call y (write n bytes)).after ≡ moved y (write_steps y.pages y.random n bytes y.state).after
unfolding call
after_accepted y n bytes e = rw (e, call) refl

-- an Option with what it is
pub by_cases : {A B : Type 0} (o : Option A) → (o ≡ None → B) → ((x : A) → o ≡ Some x → B) → B
by_cases None f g = f refl
by_cases (Some x) f g = g x refl

-- the lemmas of a run, for a layer somewhere in it
module _ (y : Layer) (m : Midway y) where
  shows : (n : ℕ) → n < sectors y → content y n ≡ m.ledger.line n
  shows = has_line y.pages y.logical y.random m.blocks m.pos m.some_logical m.some_random m.wide m.small y.state m.ledger m.erases m.running

  has_bytes : (n : ℕ) → n < sectors y → replaces y n ≡ is_some (m.ledger.line n)
  has_bytes = replaces_line y.pages y.logical y.random m.blocks m.pos m.some_logical m.some_random m.wide m.small y.state m.ledger m.erases m.running

  leads_on : (n : ℕ) (bytes : List ℕ) → write_refusal y n bytes ≡ None
      → Accepts y.pages y.logical y.random m.blocks m.pos m.some_logical m.some_random m.wide m.small y.state m.ledger m.erases n bytes
  leads_on = accepts y.pages y.logical y.random m.blocks m.pos m.some_logical m.some_random m.wide m.small y.state m.ledger m.erases m.running

-- every call leads on
abbrev accepted_on : (y : Layer) → Midway y → (n : ℕ) (bytes : List ℕ) → write_refusal y n bytes ≡ None → Midway (moved y (write_steps y.pages y.random n bytes y.state).after)
accepted_on y m n bytes e =
    record {
      blocks = m.blocks;
      ledger = entered m.ledger n bytes;
      erases = m.erases + (write_steps y.pages y.random n bytes y.state).erases;
      pos = m.pos;
      some_logical = m.some_logical;
      some_random = m.some_random;
      wide = m.wide;
      small = m.small;
      running = (leads_on y m n bytes e).running;
    }

goes_on : (y : Layer) → Midway y → (c : Call) → Midway (call y c).after
unfolding call
goes_on y m (read n buffer) = m
goes_on y m (write n bytes) =
    by_cases (write_refusal y n bytes)
    (λ e. subst Midway (sym (after_accepted y n bytes e)) (accepted_on y m n bytes e))
    (λ k e. subst Midway (sym (after_refused y n bytes k e)) m)

all_go_on : (y : Layer) → Midway y → (cs : List Call) → Midway (last_layer y cs)
all_go_on y m [] = m
all_go_on y m (c ∷ cs) = all_go_on (call y c).after (goes_on y m c) cs

-- and nowhere from a layer of no sectors
stays : (f : Flash) (c : Call) → (call (nothing f) c).after ≡ nothing f
unfolding call
stays f (read n buffer) = refl
stays f (write n bytes) = after_refused (nothing f) n bytes 13 (no_sector f n bytes)

all_stay : (f : Flash) (cs : List Call) → last_layer (nothing f) cs ≡ nothing f
all_stay f [] = refl
all_stay f (c ∷ cs) = ap (λ y. last_layer y cs) (stays f c) ∙ all_stay f cs

from_fit : (start : Start) (cs : List Call) (q : Option ℕ) → fit start.device start.logical start.random ≡ q
    → Midway (last_layer (by_fit start q) cs) ⊎ (last_layer (by_fit start q) cs ≡ nothing start.device)
from_fit start cs (Some m) e = inr (all_stay start.device cs)
from_fit start cs None e =
    let h = fits start.device start.logical start.random e in
    let first : Midway (by_fit start None) =
    record {
      blocks = start.device.blocks;
      ledger = empty (start.logical * start.device.pages);
      erases = 0;
      pos = h.pages;
      some_logical = h.some_L;
      some_random = h.some_R;
      wide = h.wide;
      small = h.small;
      running = begins start e;
    } in
    inl (all_go_on (by_fit start None) first cs)

-- a reached layer is somewhere in a run, or has no sectors
pub reaches : (start : Start) (cs : List Call) → Midway (reached start cs) ⊎ (reached start cs ≡ nothing start.device)
unfolding format
reaches start cs = from_fit start cs (fit start.device start.logical start.random) refl

-- where one test passes below a bound, so does a weaker one
or_weaker : (a b c d : Bool) → (a ≡ true → c ≡ true) → (b ≡ true → d ≡ true) → (a || b) ≡ true → (c || d) ≡ true
or_weaker true b c d h k e = rw (h refl) refl
or_weaker false b true d h k e = refl
or_weaker false b false d h k e = k e

some_weaker : (n : ℕ) (p q : ℕ → Bool) → ((b : ℕ) → p b ≡ true → q b ≡ true) → some_below n p ≡ true → some_below n q ≡ true
some_weaker zero p q h e = e
some_weaker (suc n) p q h e = or_weaker (some_below n p) (p n) (some_below n q) (q n) (some_weaker n p q h) (h n) e

-- What an accepted write of sector n leaves.
pub record Sets (y z : Layer) (n : ℕ) (bytes : List ℕ) : Type 0 where
  pub pages : z.pages ≡ y.pages
  pub logical : z.logical ≡ y.logical
  pub lines : (k : ℕ) → k < sectors y → content z k ≡ upd (content y) n (Some bytes) k
  pub replaced : (k : ℕ) → k < sectors y → replaces y k ≡ true → replaces z k ≡ true
  pub worn_out : worn y ≡ true → worn z ≡ true

has_still : (b : Bool) (x : List ℕ) (o : Option (List ℕ)) → is_some o ≡ true → is_some (cond b (Some x) o) ≡ true
has_still true x o e = refl
has_still false x o e = e

-- a device of the same geometry, on which no count is less, is worn where the other was
wears_on : (y : Layer) (s : State) → s.flash.blocks ≡ y.state.flash.blocks → s.flash.life ≡ y.state.flash.life → ((b : ℕ) → y.state.flash.count b ≤ s.flash.count b)
    → worn y ≡ true → worn (moved y s) ≡ true
wears_on y s blocks life more e =
    ap (λ k. some_below k (λ b. ltb s.flash.life (s.flash.count b + most_erases y))) blocks
    ∙ some_weaker y.state.flash.blocks (λ b. ltb y.state.flash.life (y.state.flash.count b + most_erases y)) (λ b. ltb s.flash.life (s.flash.count b + most_erases y))
    (λ b h. let i = ltb-true y.state.flash.life (y.state.flash.count b + most_erases y) h in lt-ltb s.flash.life (s.flash.count b + most_erases y) (omega (arith, more b))) e

sets_midway : (y : Layer) → Midway y → (n : ℕ) (bytes : List ℕ) → write_refusal y n bytes ≡ None → Sets y (moved y (write_steps y.pages y.random n bytes y.state).after) n bytes
unfolding upd
sets_midway y m n bytes e =
    let a = leads_on y m n bytes e in
    let z = moved y (write_steps y.pages y.random n bytes y.state).after in
    let after = accepted_on y m n bytes e in
    record {
      pages = refl;
      logical = refl;
      lines = λ k h. shows z after k h ∙ ap (λ x. cond (eqb k n) (Some bytes) x) (sym (shows y m k h));
      replaced = λ k h r. has_bytes z after k h ∙ has_still (eqb k n) bytes (m.ledger.line k) (sym (has_bytes y m k h) ∙ r);
      worn_out = λ w. subst (λ s. worn (moved y s) ≡ true) (sym a.done.ends) (wears_on y a.write.end a.done.wears.same_blocks a.done.wears.same_life a.done.wears.never_less w);
    }

never_there : (f : Flash) (n : ℕ) (bytes : List ℕ) → write_refusal (nothing f) n bytes ≡ None → ⊥
never_there f n bytes e = let i = no_sector f n bytes in let z : ◌≡◌ {A = ℕ} 0 1 = cc in omega arith

-- An accepted write on a reached layer sets its sector and no other.
pub sets : (start : Start) (cs : List Call) (y : Layer) → reached start cs ≡ y → (n : ℕ) (bytes : List ℕ) → write_refusal y n bytes ≡ None → Sets y (call y (write n bytes)).after n bytes
sets start cs y r n bytes e =
    subst (λ z. Sets y z n bytes) (sym (after_accepted y n bytes e))
    (elim (reaches start cs) [
      | inl m ↦ sets_midway y (subst Midway r m) n bytes e
      | inr i ↦ absurd (never_there start.device n bytes (subst (λ z. write_refusal z n bytes ≡ None) (sym r ∙ i) e))
    ])
