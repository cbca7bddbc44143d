-- Where a sector is read, by what the code finds.
use Rattle.std.proofs.Common.{◌≡◌, ℕ, true, false, ◌&&◌, eqb, ltb, Some, None, refl}
use Rattle.scheme.specs.Place.{place, behind}
use Rattle.scheme.specs.Tables.{Tables, Sequential}

pub place_none : (P : ℕ) (t : Tables) (c o : ℕ) → t.sequential ≡ None → behind P t c o ≡ place P t c o
unfolding place
place_none P t c o e = rw (place, e) refl

pub place_other : (P : ℕ) (t : Tables) (c o : ℕ) (k : Sequential) → t.sequential ≡ Some k → (eqb k.owner c && ltb o k.fill) ≡ false → behind P t c o ≡ place P t c o
unfolding place
place_other P t c o k e h = rw (place, e, h) refl

pub place_here : (P : ℕ) (t : Tables) (c o : ℕ) (k : Sequential) → t.sequential ≡ Some k → (eqb k.owner c && ltb o k.fill) ≡ true → record { block = k.block; page = o } ≡ place P t c o
unfolding place
place_here P t c o k e h = rw (place, e, h) refl
