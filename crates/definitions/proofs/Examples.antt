-- The definitions at small examples that were worked out by hand.
use Rattle.definitions.proofs.Prelude.{◌≡◌, ℕ, ℤ, pos, negsuc, true, false, List, [], ◌∷◌, Some, None, refl, coefficient_of, poly_eq, poly_product, Quiver, is_path, signature_of, Row, row_sum, adjoint_word, generators_of}

-- the objects U and V, and maps l : V -> U, a : U -> V, r : V -> U with their adjoints: the letters are
-- [U] = 0, [V] = 1, l = 2, l' = 3, a = 4, a' = 5, r = 6, r' = 7
abbrev inverses : Quiver
inverses = record {
  objects = 2;
  ends = (0, 0) ∷ (1, 1) ∷ (1, 0) ∷ (0, 1) ∷ (0, 1) ∷ (1, 0) ∷ (1, 0) ∷ (0, 1) ∷ [];
  stars = 0 ∷ 1 ∷ 3 ∷ 2 ∷ 5 ∷ 4 ∷ 7 ∷ 6 ∷ [];
}

-- l a leads from U to U, and l l is no path
path_signature : signature_of inverses (2 ∷ 4 ∷ []) ≡ Some (0, 0)
path_signature = refl

no_path : signature_of inverses (2 ∷ 2 ∷ []) ≡ None
no_path = refl

empty_word : is_path inverses 0 0 [] ≡ false
empty_word = refl

-- (l a)' = a' l'
adjoint : adjoint_word inverses (2 ∷ 4 ∷ []) ≡ 5 ∷ 3 ∷ []
adjoint = refl

-- l a = [U] and a r = [V]
abbrev assumptions : List (List (ℤ × List ℕ))
assumptions =
    ((pos 1, 2 ∷ 4 ∷ []) ∷ (negsuc 0, 0 ∷ []) ∷ [])
    ∷ ((pos 1, 4 ∷ 6 ∷ []) ∷ (negsuc 0, 1 ∷ []) ∷ [])
    ∷ []

-- with both objects marked and no adjoint in play: [U] [U] - [U], [U] l - l, a [U] - a, [U] r - r, then those of [V]
abbrev generators : List (List (ℤ × List ℕ))
generators = generators_of inverses false (0 ∷ 1 ∷ []) assumptions

abbrev unit_relation : ℕ → ℕ → ℕ → List (ℤ × List ℕ)
unit_relation x y a = (pos 1, x ∷ y ∷ []) ∷ (negsuc 0, a ∷ []) ∷ []

all_generators : generators ≡ (
    ((pos 1, 2 ∷ 4 ∷ []) ∷ (negsuc 0, 0 ∷ []) ∷ [])
    ∷ ((pos 1, 4 ∷ 6 ∷ []) ∷ (negsuc 0, 1 ∷ []) ∷ [])
    ∷ unit_relation 0 0 0 ∷ unit_relation 0 2 2 ∷ unit_relation 4 0 4 ∷ unit_relation 0 6 6
    ∷ unit_relation 1 1 1 ∷ unit_relation 2 1 2 ∷ unit_relation 1 4 4 ∷ unit_relation 6 1 6 ∷ [])
all_generators = refl

-- l (a r - [V]) with the units gives l = r: (l a - [U]) r - l (a r - [V]) + ([U] r - r) - (l [V] - l) is l - r
abbrev rows : List Row
rows =
    record { coefficient = pos 1; left = []; generator = 1; right = 6 ∷ [] }
    ∷ record { coefficient = negsuc 0; left = 2 ∷ []; generator = 2; right = [] }
    ∷ record { coefficient = pos 1; left = []; generator = 6; right = [] }
    ∷ record { coefficient = negsuc 0; left = []; generator = 8; right = [] }
    ∷ []

left_is_right : poly_eq (row_sum generators rows) ((pos 1, 2 ∷ []) ∷ (negsuc 0, 6 ∷ []) ∷ []) ≡ true
left_is_right = refl

-- 2 x - x has the coefficient 1 at x, and the product of a + b with itself has four terms
coefficient_of_repeats : coefficient_of ((pos 2, 3 ∷ []) ∷ (negsuc 0, 3 ∷ []) ∷ []) (3 ∷ []) ≡ pos 1
coefficient_of_repeats = refl

square : poly_product ((pos 1, 1 ∷ []) ∷ (pos 1, 2 ∷ []) ∷ []) ((pos 1, 1 ∷ []) ∷ (pos 1, 2 ∷ []) ∷ [])
    ≡ (pos 1, 1 ∷ 1 ∷ []) ∷ (pos 1, 1 ∷ 2 ∷ []) ∷ (pos 1, 2 ∷ 1 ∷ []) ∷ (pos 1, 2 ∷ 2 ∷ []) ∷ []
square = refl
