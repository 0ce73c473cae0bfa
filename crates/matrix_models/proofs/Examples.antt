-- The definitions at small examples that were worked out by hand.
use Rattle.matrix_models.proofs.Prelude.{◌≡◌, [], ◌∷◌, Some, None, refl, Matrix, entry_at, first_too_large, identity_matrix, zero_matrix, matrix_sum, matrix_negative, matrix_product, transpose}

-- (1 2 3 | 4 0 1), modulo 5
abbrev wide : Matrix
wide = record { modulus = 5; rows = 2; columns = 3; entries = 1 ∷ 2 ∷ 3 ∷ 4 ∷ 0 ∷ 1 ∷ [] }

-- (1 0 | 0 1 | 2 2), modulo 5
abbrev tall : Matrix
tall = record { modulus = 5; rows = 3; columns = 2; entries = 1 ∷ 0 ∷ 0 ∷ 1 ∷ 2 ∷ 2 ∷ [] }

second_row : entry_at wide 1 2 ≡ 1
second_row = refl

-- (1 + 6, 2 + 6 | 4 + 2, 0 + 2)
product : matrix_product 5 wide tall ≡ record { modulus = 5; rows = 2; columns = 2; entries = 2 ∷ 3 ∷ 1 ∷ 2 ∷ [] }
product = refl

exchanged : transpose 5 wide ≡ record { modulus = 5; rows = 3; columns = 2; entries = 1 ∷ 4 ∷ 2 ∷ 0 ∷ 3 ∷ 1 ∷ [] }
exchanged = refl

sum_with_itself : matrix_sum 5 wide wide ≡ record { modulus = 5; rows = 2; columns = 3; entries = 2 ∷ 4 ∷ 1 ∷ 3 ∷ 0 ∷ 2 ∷ [] }
sum_with_itself = refl

negative : matrix_negative 5 wide ≡ record { modulus = 5; rows = 2; columns = 3; entries = 4 ∷ 3 ∷ 2 ∷ 1 ∷ 0 ∷ 4 ∷ [] }
negative = refl

unit : identity_matrix 5 2 ≡ record { modulus = 5; rows = 2; columns = 2; entries = 1 ∷ 0 ∷ 0 ∷ 1 ∷ [] }
unit = refl

nothing : zero_matrix 5 1 2 ≡ record { modulus = 5; rows = 1; columns = 2; entries = 0 ∷ 0 ∷ [] }
nothing = refl

first_of_two : first_too_large 2 (0 ∷ 1 ∷ 2 ∷ 3 ∷ []) ≡ Some 2
first_of_two = refl

all_below : first_too_large 5 wide.entries ≡ None
all_below = refl
