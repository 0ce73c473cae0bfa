-- Words and polynomials with integer coefficients of any size.
use Rattle.std.specs.Prelude.{◌≡◌, ℕ, ℤ, pos, ◌+ℤ◌, ◌*ℤ◌, List, [], ◌∷◌, ◌++◌, map, Bool, true, false, ◌&&◌, nat_eq, if◌then◌else◌}
use Rattle.std.specs.List.{list_all, flat_map}
use Rattle.std.specs.Ordering.{int_eq}

-- a list of letter numbers
abbrev pub Word : Type 0
Word = List ℕ

-- an integer beside a word
abbrev pub Term : Type 0
Term = ℤ × List ℕ

-- a list of terms, in which a word may occur more than once
abbrev pub Poly : Type 0
Poly = List Term

-- whether two words are the same
abbrev pub word_eq : List ℕ → List ℕ → Bool
word_eq [] [] = true
word_eq [] (b ∷ w) = false
word_eq (a ∷ v) [] = false
word_eq (a ∷ v) (b ∷ w) = nat_eq a b && word_eq v w

-- the sum of the integers beside the word
abbrev pub coefficient_of : Poly → List ℕ → ℤ
coefficient_of [] w = pos 0
coefficient_of (t ∷ p) w = (if word_eq t.1 w then t.0 else pos 0) +ℤ coefficient_of p w

-- every word has the same coefficient in both
pub record SamePolynomial (p q : Poly) : Type 0 where
  pub at : (w : List ℕ) → coefficient_of p w ≡ coefficient_of q w

-- p + q
abbrev pub poly_sum : Poly → Poly → Poly
poly_sum p q = p ++ q

-- k p
abbrev pub poly_multiple : ℤ → Poly → Poly
poly_multiple k p = map (λ t. (k *ℤ t.0, t.1)) p

-- l p r
abbrev pub poly_between : List ℕ → Poly → List ℕ → Poly
poly_between l p r = map (λ t. (t.0, l ++ (t.1 ++ r))) p

-- whether every word has the same coefficient in both
abbrev pub poly_eq : Poly → Poly → Bool
poly_eq p q = list_all (λ t. int_eq (coefficient_of p t.1) (coefficient_of q t.1)) (p ++ q)

-- p q, each word of p before each word of q
abbrev pub poly_product : Poly → Poly → Poly
poly_product p q = flat_map (λ t. map (λ u. (t.0 *ℤ u.0, t.1 ++ u.1)) q) p
