-- The definitions at small examples that were worked out by hand.
use Rattle.nc_polynomial.proofs.Prelude.{◌≡◌, ◌-◌, ◌^◌, ℤ, pos, negsuc, List, [], ◌∷◌, Ok, Err, refl, product_of, sum_of, Term, aligned, added, sum_result, difference_result, combined, collection_result, product_result, reversed_star}
use Rattle.nc_polynomial.specs.declared.fault.PolyFault.TheVariants as fault

-- the letters a = 0 and b = 1, 2 a b + 3 a, and -2 a b + b
abbrev p : List Term
p = (pos 2, 0 ∷ 1 ∷ []) ∷ (pos 3, 0 ∷ []) ∷ []

abbrev q : List Term
q = (negsuc 1, 0 ∷ 1 ∷ []) ∷ (pos 1, 1 ∷ []) ∷ []

alignment : aligned p q ≡ (pos 2, negsuc 1, 0 ∷ 1 ∷ []) ∷ (pos 0, pos 1, 1 ∷ []) ∷ (pos 3, pos 0, 0 ∷ []) ∷ []
alignment = refl

-- p + q = b + 3 a
sum : added p q ≡ (pos 1, 1 ∷ []) ∷ (pos 3, 0 ∷ []) ∷ []
sum = refl

-- p - q = 4 a b - b + 3 a
difference : difference_result p q ≡ Ok ((pos 4, 0 ∷ 1 ∷ []) ∷ (negsuc 0, 1 ∷ []) ∷ (pos 3, 0 ∷ []) ∷ [])
difference = refl

-- 2 p + 3 q = -2 a b + 3 b + 6 a
combination : combined (pos 2) p (pos 3) q ≡ Ok ((negsuc 1, 0 ∷ 1 ∷ []) ∷ (pos 3, 1 ∷ []) ∷ (pos 6, 0 ∷ []) ∷ [])
combination = refl

-- a + b + a - b = 2 a
collection : collection_result ((pos 1, 0 ∷ []) ∷ (pos 1, 1 ∷ []) ∷ (pos 1, 0 ∷ []) ∷ (negsuc 0, 1 ∷ []) ∷ []) ≡ Ok ((pos 2, 0 ∷ []) ∷ [])
collection = refl

-- (a + b) (a - b) = b a - b b + a a - a b, descending
product : product_result ((pos 1, 1 ∷ []) ∷ (pos 1, 0 ∷ []) ∷ []) ((negsuc 0, 1 ∷ []) ∷ (pos 1, 0 ∷ []) ∷ [])
    ≡ Ok ((negsuc 0, 1 ∷ 1 ∷ []) ∷ (pos 1, 1 ∷ 0 ∷ []) ∷ (negsuc 0, 0 ∷ 1 ∷ []) ∷ (pos 1, 0 ∷ 0 ∷ []) ∷ [])
product = refl

-- of two sums that are no coefficients the greater word's counts
abbrev most : ℤ
most = pos (2 ^ 127 - 1)

first_sum : sum_result ((most, 1 ∷ []) ∷ (most, 0 ∷ []) ∷ []) ((pos 1, 1 ∷ []) ∷ (pos 2, 0 ∷ []) ∷ []) ≡ Err (fault.Overflow (sum_of most (pos 1)))
first_sum = refl

-- the product of the second polynomial comes before the sum
product_first : combined (pos 1) ((most, 0 ∷ []) ∷ []) (pos 2) ((pos 9, 0 ∷ []) ∷ (most, []) ∷ []) ≡ Err (fault.Overflow (product_of (pos 2) most))
product_first = refl

-- where 0 and 1 are each other's adjoints and so are 2 and 3, the adjoint of 0 2 is 3 1
adjoint : reversed_star (1 ∷ 0 ∷ 3 ∷ 2 ∷ []) (0 ∷ 2 ∷ []) ≡ 3 ∷ 1 ∷ []
adjoint = refl
