-- The generators of a statement: its assumptions, their adjoints, and the relations of the identities.
use Rattle.std.specs.Prelude.{ℕ, ◌-◌, pos, negsuc, List, [], ◌∷◌, ◌++◌, map, Bool, ◌||◌, nat_eq, nat_le, if◌then◌else◌}
use Rattle.std.specs.List.{flat_map, range_with_len}
use Rattle.definitions.specs.Poly.{Poly, poly_multiple, poly_eq}
use Rattle.definitions.specs.Quiver.{Quiver, letters, source, target, star}

-- the adjoints of the letters, in reverse
abbrev pub adjoint_word : Quiver → List ℕ → List ℕ
adjoint_word q [] = []
adjoint_word q (a ∷ w) = adjoint_word q w ++ (star q a ∷ [])

abbrev pub adjoint_poly : Quiver → Poly → Poly
adjoint_poly q p = map (λ t. (t.0, adjoint_word q t.1)) p

-- the adjoint, unless it is the polynomial itself or its negative
abbrev pub new_adjoint : Quiver → Poly → List Poly
new_adjoint q p = if poly_eq (adjoint_poly q p) p || poly_eq (adjoint_poly q p) (poly_multiple (negsuc 0) p) then [] else (adjoint_poly q p ∷ [])

-- v a - a, and a v - a
abbrev pub left_unit : ℕ → ℕ → Poly
left_unit v a = (pos 1, v ∷ a ∷ []) ∷ (negsuc 0, a ∷ []) ∷ []

abbrev pub right_unit : ℕ → ℕ → Poly
right_unit v a = (pos 1, a ∷ v ∷ []) ∷ (negsuc 0, a ∷ []) ∷ []

-- the relations of the identity of v with the letter a
abbrev pub letter_units : Quiver → Bool → ℕ → ℕ → List Poly
letter_units q starred v a =
    if starred || nat_le a (star q a)
    then ((if nat_eq (target q a) v then (left_unit v a ∷ []) else []) ++ (if nat_eq (source q a) v then (right_unit v a ∷ []) else []))
    else []

-- the relations of the identity of v: with itself, and with each letter in play that is no identity
abbrev pub units : Quiver → Bool → ℕ → List Poly
units q starred v = left_unit v v ∷ flat_map (letter_units q starred v) (range_with_len q.objects (letters q - q.objects))

abbrev pub generators_of : Quiver → Bool → List ℕ → List Poly → List Poly
generators_of q starred marked assumptions = assumptions ++ ((if starred then flat_map (new_adjoint q) assumptions else [])
    ++ flat_map (units q starred) marked)
