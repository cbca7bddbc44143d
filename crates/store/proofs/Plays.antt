-- Calls on a store one after the other.
use Rattle.std.proofs.Common.{◌≡◌, List, [], ◌∷◌, Ok, Err, Result, sym, refl, ap, ◌∙◌, subst}
use Rattle.std.specs.Result.{IfOk, OnErr}
use Rattle.fast.specs.Makes.{MakesAll}
use Rattle.scheme.specs.Ledger.{Call, read, write, Answer, refused, never_written, bytes, wrote, Reply, Ledger, ledger_next, Answered, AllAnswered}
use Rattle.store.specs.Meaning.{Table}
use Rattle.store.specs.Played.{ledger_of, Made}

-- two ledgers with the same lines say the same of calls
same_answered : (g h : Ledger) → g.size ≡ h.size → g.line ≡ h.line → (cs : List Call) (rs : List Reply) → AllAnswered g cs rs → AllAnswered h cs rs
same_answered g h e f [] [] a = a
same_answered g h e f [] (r ∷ rs) a = a
same_answered g h e f (c ∷ cs) [] a = a
same_answered g h e f (c ∷ cs) (r ∷ rs) a = (first c r a.0, same_answered (ledger_next g c r.answer) (ledger_next h c r.answer) (sizes c r.answer) (lines c r.answer) cs rs a.1)
  where
    first : (c : Call) (r : Reply) → Answered g c r → Answered h c r
    first (read n x) r b = b ∙ rw (e, f)
    first (write n x) r b = b

    sizes : (c : Call) (a : Answer) → (ledger_next g c a).size ≡ (ledger_next h c a).size
    sizes (read n x) a = e
    sizes (write n x) (wrote p q) = e
    sizes (write n x) (refused m) = e
    sizes (write n x) never_written = e
    sizes (write n x) bytes = e

    lines : (c : Call) (a : Answer) → (ledger_next g c a).line ≡ (ledger_next h c a).line
    lines (read n x) a = f
    lines (write n x) (wrote p q) = rw f
    lines (write n x) (refused m) = f
    lines (write n x) never_written = f
    lines (write n x) bytes = f

-- what a call makes of something that holds a store: the same store, what the store makes of it, and where that is a valid one, what the ledger says
abbrev pub Asks : {A S N : Type 0} → (A → N) → (A → S) → (S → S → Call → Reply → Type 0) → (S → Table) → (S → Type 0) → A → A → Call → Reply → Type 0
Asks name store makes table valid x y c r = (name y ≡ name x) × makes (store x) (store y) c r × (valid (store x) → Made (table (store x)) (table (store y)) c r × valid (store y))

module _ {A S N : Type 0} (name : A → N) (store : A → S) (makes : S → S → Call → Reply → Type 0) (table : S → Table) (valid : S → Type 0) where
  name_stays : (x y : A) (cs : List Call) (rs : List Reply) → MakesAll (Asks name store makes table valid) x cs rs y → name y ≡ name x
  name_stays x y [] [] e = sym (ap name e)
  name_stays x y [] (r ∷ rs) a = absurd a
  name_stays x y (c ∷ cs) [] a = absurd a
  name_stays x y (c ∷ cs) (r ∷ rs) a = name_stays a.0 y cs rs a.2 ∙ a.1.0

  store_makes : (x y : A) (cs : List Call) (rs : List Reply) → MakesAll (Asks name store makes table valid) x cs rs y → MakesAll makes (store x) cs rs (store y)
  store_makes x y [] [] e = ap store e
  store_makes x y [] (r ∷ rs) a = a
  store_makes x y (c ∷ cs) [] a = a
  store_makes x y (c ∷ cs) (r ∷ rs) a = (store a.0, a.1.1, store_makes a.0 y cs rs a.2)

  all_answered : (x y : A) (cs : List Call) (rs : List Reply) → MakesAll (Asks name store makes table valid) x cs rs y → valid (store x) →
      AllAnswered (ledger_of (table (store x))) cs rs × valid (store y)
  all_answered x y [] [] e v = (tt, subst valid (ap store e) v)
  all_answered x y [] (r ∷ rs) a v = absurd a
  all_answered x y (c ∷ cs) [] a v = absurd a
  all_answered x y (c ∷ cs) (r ∷ rs) a v =
      let made = a.1.2 v in
      let later = all_answered a.0 y cs rs a.2 made.1 in
      ((made.0.answered, same_answered (ledger_of (table (store a.0))) (ledger_next (ledger_of (table (store x))) c r.answer) (made.0.size ∙ sizes (table (store x)) c r.answer) made.0.line cs rs later.0), later.1)
    where
      sizes : (t : Table) (c : Call) (a : Answer) → t.size ≡ (ledger_next (ledger_of t) c a).size
      sizes t (read n x) a = refl
      sizes t (write n x) (wrote p q) = refl
      sizes t (write n x) (refused m) = refl
      sizes t (write n x) never_written = refl
      sizes t (write n x) bytes = refl

  -- a list of calls that was made, or was not for want of memory
  pub record Outcome {V E : Type 0} (told : V → List Reply) (x y : A) (cs : List Call) (r : Result V E) : Type 0 where
    pub same : name x ≡ name y
    pub law : IfOk r (λ v. valid (store x) → AllAnswered (ledger_of (table (store x))) cs (told v))
    pub made : IfOk r (λ v. MakesAll makes (store x) cs (told v) (store y))
    pub stays : valid (store x) → valid (store y)
    pub untouched : OnErr r (store y ≡ store x)

  pub outcome : {V E : Type 0} (told : V → List Reply) (x y : A) (cs : List Call) (r : Result V E)
      → IfOk r (λ v. MakesAll (Asks name store makes table valid) x cs (told v) y) → OnErr r (y ≡ x) → Outcome told x y cs r
  outcome told x y cs (Ok v) a e =
      record {
        same = sym (name_stays x y cs (told v) a);
        law = λ ok. (all_answered x y cs (told v) a ok).0;
        made = store_makes x y cs (told v) a;
        stays = λ ok. (all_answered x y cs (told v) a ok).1;
        untouched = tt;
      }
  outcome told x y cs (Err m) a e = record { same = sym (ap name e); law = tt; made = tt; stays = subst (λ z. valid (store z)) (sym e); untouched = ap store e }
