-- The hash table in which rows are added up: each word that has a coefficient, with that coefficient.
use Rattle.std.specs.Prelude.{◌≡◌, ◌≢◌, ℕ, ◌+◌, ◌*◌, ◌/◌, ◌%◌, ◌^◌, bit_xor, ℤ, pos, ◌+ℤ◌, List, Some, unwrap_or}
use Rattle.std.specs.List.{fold}
use Rattle.std.specs.HashMap.{HashMap, get}
use Rattle.std.specs.declared.hash.BuildHasherDefault.{BuildHasherDefault}
use Rattle.std.specs.declared.hash.FoldHasher.{FoldHasher}
use Rattle.coef_int.specs.Range.{IsCoefficient}
use Rattle.definitions.specs.Poly.{Poly, word_eq, coefficient_of}

abbrev pub Table : Type 0
Table = HashMap (List ℕ) ℤ (BuildHasherDefault FoldHasher)

-- that of a word with a letter more
abbrev pub mixed : ℕ → ℕ → ℕ
mixed d a = let sum = (d * 0x9e37_79b9_7f4a_7c15 % 2 ^ 64 + a) % 2 ^ 64 in bit_xor sum (sum / 2 ^ 32)

-- the number of 64 bits by which a word is hashed
abbrev pub digest : List ℕ → ℕ
digest w = fold mixed 0 w

-- the coefficient of the word, and 0 where the table doesn't have it
abbrev pub coefficient_at : Table → List ℕ → ℤ
coefficient_at table w = unwrap_or (get word_eq table w) (pos 0)

-- the table has no zeros, and coefficients alone
pub record IsTable (table : Table) : Type 0 where
  pub nonzero : (w : List ℕ) → get word_eq table w ≢ Some (pos 0)
  pub in_range : (w : List ℕ) → IsCoefficient (coefficient_at table w)

-- p is added
pub record Adds (old new : Table) (p : Poly) : Type 0 where
  pub at : (w : List ℕ) → coefficient_at new w ≡ coefficient_at old w +ℤ coefficient_of p w
