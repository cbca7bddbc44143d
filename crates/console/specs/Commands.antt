-- What a command line says.
use Rattle.std.specs.Prelude.{◌≡◌, ℕ, ◌+◌, ◌-◌, ◌*◌, ◌^◌, ◌<◌, ◌≤◌, Bool, true, cond, not, ◌&&◌, List, ◌∷◌, ◌++◌, length, take, drop, Some, None, codes, fold, Option, ◌==◌, nat_le, nat_lt, slice_index}
use Rattle.std.specs.List.{prefix_len, AllByRecursion}

-- A write of a sector with a text, or a read of a sector.
pub data Said : Type 0 where
  says_write : ℕ → List ℕ → Said
  says_read : ℕ → Said

-- The bytes of the digits 0 to 9.
abbrev pub digit : ℕ → Bool
digit c = nat_le 48 c && nat_le c 57

-- What digits amount to, the highest first.
abbrev pub value : List ℕ → ℕ
value ds = fold (λ n d. n * 10 + (d - 48)) 0 ds

-- One to ten digits that amount to a number of 32 bits.
pub record Numeral (ds : List ℕ) (n : ℕ) : Type 0 where
  pub some : 1 ≤ length ds
  pub most : length ds ≤ 10
  pub digits : AllByRecursion (λ d. digit d ≡ true) ds
  pub amounts : value ds ≡ n
  pub fits : n < 2 ^ 32

-- The number that bytes spell, if they spell one.
unfoldable pub number_of : List ℕ → Option ℕ
number_of ds =
    cond (nat_le 1 (length ds) && (nat_le (length ds) 10 && (prefix_len digit ds == length ds && nat_lt (value ds) (2 ^ 32)))) (Some (value ds)) None

-- Any byte but one.
abbrev pub other_than : ℕ → ℕ → Bool
other_than stop c = not (c == stop)

abbrev pub no_space : ℕ → Bool
no_space = other_than 32

abbrev pub read_of : Option ℕ → Option Said
read_of (Some n) = Some (says_read n)
read_of None = None

abbrev pub write_of : Option ℕ → List ℕ → Option Said
write_of (Some n) text = cond (nat_le (length text) 512) (Some (says_write n text)) None
write_of None text = None

-- What follows the letter and its space: a number, and for a write a space and the text.
abbrev pub said_write : List ℕ → Option Said
said_write rest =
    let k = prefix_len no_space rest in
    cond (nat_lt k (length rest)) (write_of (number_of (take k rest)) (drop (k + 1) rest)) None

-- What a line says, if it is understood: 114 is r, 119 is w, and 32 the space.
unfoldable pub said : List ℕ → Option Said
said line =
    cond (nat_le 2 (length line) && slice_index line 1 == 32)
    (cond (slice_index line 0 == 114) (read_of (number_of (drop 2 line)))
    (cond (slice_index line 0 == 119) (said_write (drop 2 line)) None))
    None

-- The same in the words of whoever types: a line is understood exactly when it is spelt so.
pub record Spelling (line : List ℕ) (x : Option Said) : Type 0 where
  pub reads : (n : ℕ) (ds : List ℕ) → Numeral ds n → line ≡ codes "r " ++ ds → x ≡ Some (says_read n)
  pub writes : (n : ℕ) (ds text : List ℕ) → Numeral ds n → length text ≤ 512 → line ≡ codes "w " ++ (ds ++ (32 ∷ text)) → x ≡ Some (says_write n text)
  pub only_reads : (n : ℕ) → x ≡ Some (says_read n) → (ds : List ℕ) × Numeral ds n × (line ≡ codes "r " ++ ds)
  pub only_writes : (n : ℕ) (text : List ℕ) → x ≡ Some (says_write n text) →
      (ds : List ℕ) × Numeral ds n × (length text ≤ 512) × (line ≡ codes "w " ++ (ds ++ (32 ∷ text)))
