-- Adjoints of polynomials, where a list gives the adjoint of each letter.
use Rattle.std.specs.Prelude.{◌≡◌, ◌<◌, ℕ, List, [], ◌∷◌, ◌++◌, length, map, get_or}
use Rattle.word_core.specs.declared.letter.Letter.{Letter}
use Rattle.definitions.specs.Poly.{Term, SamePolynomial}
use Rattle.definitions.specs.Quiver.{Quiver}
use Rattle.definitions.specs.Generators.{adjoint_poly}

-- the numbers of letters
abbrev pub numbers_of : List Letter → List ℕ
numbers_of letters = map (λ l. l.0) letters

-- the adjoint of a letter
abbrev pub star_in : List ℕ → ℕ → ℕ
star_in stars a = get_or stars a a

-- the adjoints of the letters, in reverse
abbrev pub reversed_star : List ℕ → List ℕ → List ℕ
reversed_star stars [] = []
reversed_star stars (a ∷ w) = reversed_star stars w ++ star_in stars a ∷ []

-- The adjoint of each letter of the list is one of them too, and has that letter as its own adjoint.
pub record IsInvolution (stars : List ℕ) : Type 0 where
  pub in_range : (a : ℕ) → a < length stars → star_in stars a < length stars
  pub twice : (a : ℕ) → a < length stars → star_in stars (star_in stars a) ≡ a

-- In each quiver whose letters have these adjoints, the second polynomial is the adjoint of the first.
abbrev pub IsAdjoint : List ℕ → List Term → List Term → Type 0
IsAdjoint stars p r = (q : Quiver) → q.stars ≡ stars → SamePolynomial r (adjoint_poly q p)
