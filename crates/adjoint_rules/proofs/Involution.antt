-- Adjoints are an involution on words and polynomials.
use Rattle.adjoint_rules.proofs.Prelude.{◌≡◌, ℕ, ℤ, List, [], ◌∷◌, ◌++◌, refl, ap, ◌∙◌, coefficient_of, Quiver, IsQuiver, adjoint_word, adjoint_poly, adjoint_word-append, adjoint_word-adjoint_word, coefficient_of-adjoint_poly, AdjointsAreAnInvolution}

twice : (q : Quiver) → IsQuiver q → (p : List (ℤ × List ℕ)) → adjoint_poly q (adjoint_poly q p) ≡ p
twice q quiver [] = refl
twice q quiver (t ∷ p) = λ i. (t.0, adjoint_word-adjoint_word q quiver t.1 i) ∷ twice q quiver p i

sum : (q : Quiver) (p r : List (ℤ × List ℕ)) → adjoint_poly q (p ++ r) ≡ adjoint_poly q p ++ adjoint_poly q r
sum q [] r = refl
sum q (t ∷ p) r = ap (λ x. (t.0, adjoint_word q t.1) ∷ x) (sum q p r)

pub adjoints_are_an_involution : AdjointsAreAnInvolution
adjoints_are_an_involution q quiver = record {
  words = adjoint_word-adjoint_word q quiver;
  products = adjoint_word-append q;
  polynomials = twice q quiver;
  sums = sum q;
  coefficients = λ p w. coefficient_of-adjoint_poly q quiver p (adjoint_word q w) ∙ ap (coefficient_of p) (adjoint_word-adjoint_word q quiver w);
}
