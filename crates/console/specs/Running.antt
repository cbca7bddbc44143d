-- What the runner prints, and the store that it leaves, for any store and any lines.
use Rattle.std.specs.Prelude.{◌≡◌, ℕ, suc, List, [], ◌∷◌, ◌++◌, replicate, Some, None, Option, Result}
use Rattle.fast.specs.declared.refusal.Refusal.{Refusal}
use Rattle.fast.specs.Told.{write_told}
use Rattle.scheme.specs.Ledger.{Call, read, write, Reply, reads}
use Rattle.store.specs.Meaning.{Table, Written}
use Rattle.store.specs.Told.{refusal_told}
use Rattle.console.specs.Commands.{Said, says_write, says_read, said}
use Rattle.console.specs.Lines.{padded, refused_line, reply_line}

-- What line k prints, on a store that means t and u after it. A read prints what the table says. Of a write the store has its own say: some
-- answer that a store may give leaves u, and is printed.
abbrev pub Does : Table → ℕ → Option Said → List ℕ → Table → Type 0
Does t k None text u = (text ≡ refused_line k 15) × (u ≡ t)
Does t k (Some (says_read n)) text u = (text ≡ reply_line k n (reads t.size t.line n (replicate 512 0))) × (u ≡ t)
Does t k (Some (says_write n words)) text u =
    (r : Result (ℕ × ℕ) Refusal) × Written t u n (padded words) (refusal_told r) × (text ≡ reply_line k n (write_told r (padded words)))

-- What line k asks of a store, by what a call makes of it: x is the store before, y the store after, and the reply is printed, a write's
-- counts too.
abbrev pub Asks : {S : Type 0} → (S → S → Call → Reply → Type 0) → S → ℕ → Option Said → List ℕ → S → Type 0
Asks makes x k None text y = (text ≡ refused_line k 15) × (y ≡ x)
Asks makes x k (Some (says_read n)) text y = (r : Reply) × makes x y (read n (replicate 512 0)) r × (text ≡ reply_line k n r)
Asks makes x k (Some (says_write n words)) text y = (r : Reply) × makes x y (write n (padded words)) r × (text ≡ reply_line k n r)

-- The lines from line k on print `out`, one after the other, and lead from x to y, where each does so.
abbrev pub ByLine : {S : Type 0} → (S → ℕ → Option Said → List ℕ → S → Type 0) → S → ℕ → List (List ℕ) → List ℕ → S → Type 0
ByLine does x k [] out y = (out ≡ []) × (y ≡ x)
ByLine {S} does x k (l ∷ ls) out y =
    (mid : S) × (text : List ℕ) × (rest : List ℕ) × does x k (said l) text mid × ByLine does mid (suc k) ls rest y × (out ≡ text ++ rest)

abbrev pub Prints : Table → ℕ → List (List ℕ) → List ℕ → Table → Type 0
Prints = ByLine Does

-- What was printed before, and line k's print after it.
abbrev pub Adds : {S : Type 0} → (S → ℕ → Option Said → List ℕ → S → Type 0) → S → ℕ → Option Said → List ℕ → List ℕ → S → Type 0
Adds does x k said before after y = (text : List ℕ) × does x k said text y × (after ≡ before ++ text)
