-- Adjoints are an involution on words and polynomials.
use Rattle.std.specs.Prelude.{◌≡◌, ℕ, List, ◌++◌}
use Rattle.definitions.specs.Poly.{Poly, coefficient_of}
use Rattle.definitions.specs.Quiver.{Quiver, IsQuiver}
use Rattle.definitions.specs.Generators.{adjoint_word, adjoint_poly}

-- Twice the adjoint is the word or polynomial itself; products are reversed, sums kept, and each coefficient goes to the adjoint word.
pub record AreAnInvolution (q : Quiver) : Type 0 where
  pub words : (w : List ℕ) → adjoint_word q (adjoint_word q w) ≡ w
  pub products : (v w : List ℕ) → adjoint_word q (v ++ w) ≡ adjoint_word q w ++ adjoint_word q v
  pub polynomials : (p : Poly) → adjoint_poly q (adjoint_poly q p) ≡ p
  pub sums : (p r : Poly) → adjoint_poly q (p ++ r) ≡ adjoint_poly q p ++ adjoint_poly q r
  pub coefficients : (p : Poly) (w : List ℕ) → coefficient_of (adjoint_poly q p) (adjoint_word q w) ≡ coefficient_of p w

-- This holds in each quiver.
abbrev pub AdjointsAreAnInvolution : Type 0
AdjointsAreAnInvolution = (q : Quiver) → IsQuiver q → AreAnInvolution q
