-- The table of a sum: each word that has a coefficient, with that coefficient.
use Rattle.std.specs.Prelude.{◌≡◌, ◌≢◌, ℕ, ℤ, pos, ◌+ℤ◌, List, [], Some}
use Rattle.std.specs.BTreeMap.{BTreeMap, get}
use Rattle.coef_int.specs.Range.{IsCoefficient}
use Rattle.word_core.specs.Canonical.{word_cmp}
use Rattle.definitions.specs.Poly.{Poly, Term, coefficient_of}
use Rattle.nc_polynomial.specs.Ascending.{reversed}
use Rattle.nc_polynomial.specs.Collected.{coefficient_in}

-- the terms of the table, descending
abbrev pub terms_in : BTreeMap (List ℕ) ℤ → List Term
terms_in m = reversed m.entries []

-- the values of the map are nonzero coefficients
pub record IsRunning (m : BTreeMap (List ℕ) ℤ) : Type 0 where
  pub nonzero : (w : List ℕ) → get word_cmp m w ≢ Some (pos 0)
  pub in_range : (w : List ℕ) → IsCoefficient (coefficient_in m w)

-- p is added
pub record Adds (old new : BTreeMap (List ℕ) ℤ) (p : Poly) : Type 0 where
  pub at : (w : List ℕ) → coefficient_in new w ≡ coefficient_in old w +ℤ coefficient_of p w

-- the map has the coefficients of p
pub record IsSumOf (m : BTreeMap (List ℕ) ℤ) (p : Poly) : Type 0 where
  pub at : (w : List ℕ) → coefficient_in m w ≡ coefficient_of p w
