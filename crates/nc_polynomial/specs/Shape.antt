-- The shape of the list of a polynomial.
use Rattle.std.specs.Prelude.{◌≡◌, ◌≢◌, ◌≤◌, pos, length}
use Rattle.std.specs.List.{All}
use Rattle.coef_int.specs.Range.{IsCoefficient}
use Rattle.definitions.specs.Poly.{Poly, SamePolynomial}
use Rattle.nc_polynomial.specs.Terms.{IsDescending}
use Rattle.nc_polynomial.specs.Limits.{word_limit, term_limit}

-- a polynomial with any number of terms and letters
pub record IsShaped (p : Poly) : Type 0 where
  pub descending : IsDescending p
  pub nonzero : All (λ t. t.0 ≢ pos 0) p
  pub in_range : All (λ t. IsCoefficient t.0) p

-- one within the limits
pub record IsCanonical (p : Poly) : Type 0 where
  pub shaped : IsShaped p
  pub short : All (λ t. length t.1 ≤ word_limit) p
  pub few : length p ≤ term_limit

-- Two canonical lists with the same coefficients are equal.
abbrev pub CanonicalIsUnique : Type 0
CanonicalIsUnique = (p q : Poly) → IsCanonical p → IsCanonical q → SamePolynomial p q → p ≡ q
