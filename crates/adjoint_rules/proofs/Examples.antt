-- The generators of two statements, worked out by hand, and which letters are in play.
use Rattle.adjoint_rules.proofs.Prelude.{◌≡◌, ℕ, ℤ, pos, negsuc, true, false, List, [], ◌∷◌, refl, generators_of, Declaration, object, arrow, quiver_of, is_in_play}

-- object U V, map a : U -> V, map x : V -> U: the letters are [U] = 0, [V] = 1, a = 2, a' = 3, x = 4, x' = 5
abbrev pub inverse_maps : List Declaration
inverse_maps = object (85 ∷ []) ∷ object (86 ∷ []) ∷ arrow (97 ∷ []) 0 1 false ∷ arrow (120 ∷ []) 1 0 false ∷ []

-- the first word minus the second
abbrev pub difference : List ℕ → List ℕ → List (ℤ × List ℕ)
difference v w = (pos 1, v) ∷ (negsuc 0, w) ∷ []

-- pinv a x: a x a - a, x a x - x, x' a' - a x, - x a + a' x'
abbrev pub pinv_assumptions : List (List (ℤ × List ℕ))
pinv_assumptions =
    difference (2 ∷ 4 ∷ 2 ∷ []) (2 ∷ [])
    ∷ difference (4 ∷ 2 ∷ 4 ∷ []) (4 ∷ [])
    ∷ difference (5 ∷ 3 ∷ []) (2 ∷ 4 ∷ [])
    ∷ ((negsuc 0, 4 ∷ 2 ∷ []) ∷ (pos 1, 3 ∷ 5 ∷ []) ∷ [])
    ∷ []

-- of the adjoints the first two are new, and the last two are the negatives of their assumptions
pinv_generators : generators_of (quiver_of inverse_maps) true [] pinv_assumptions ≡ (
    difference (2 ∷ 4 ∷ 2 ∷ []) (2 ∷ [])
    ∷ difference (4 ∷ 2 ∷ 4 ∷ []) (4 ∷ [])
    ∷ difference (5 ∷ 3 ∷ []) (2 ∷ 4 ∷ [])
    ∷ ((negsuc 0, 4 ∷ 2 ∷ []) ∷ (pos 1, 3 ∷ 5 ∷ []) ∷ [])
    ∷ difference (3 ∷ 5 ∷ 3 ∷ []) (3 ∷ [])
    ∷ difference (5 ∷ 3 ∷ 5 ∷ []) (5 ∷ [])
    ∷ [])
pinv_generators = refl

-- object U V, map l : V -> U, map a : U -> V, map r : V -> U: the letters are [U] = 0, [V] = 1, l = 2, l' = 3, a = 4, a' = 5, r = 6, r' = 7
abbrev pub two_inverses : List Declaration
two_inverses = object (85 ∷ []) ∷ object (86 ∷ []) ∷ arrow (108 ∷ []) 1 0 false ∷ arrow (97 ∷ []) 0 1 false ∷ arrow (114 ∷ []) 1 0 false ∷ []

-- l a = [U] and a r = [V]
abbrev pub inverse_assumptions : List (List (ℤ × List ℕ))
inverse_assumptions = difference (2 ∷ 4 ∷ []) (0 ∷ []) ∷ difference (4 ∷ 6 ∷ []) (1 ∷ []) ∷ []

-- with both objects marked: [U] [U] - [U], [U] l - l, a [U] - a, [U] r - r, then [V] [V] - [V], l [V] - l, [V] a - a, r [V] - r
inverse_generators : generators_of (quiver_of two_inverses) false (0 ∷ 1 ∷ []) inverse_assumptions ≡ (
    difference (2 ∷ 4 ∷ []) (0 ∷ [])
    ∷ difference (4 ∷ 6 ∷ []) (1 ∷ [])
    ∷ difference (0 ∷ 0 ∷ []) (0 ∷ [])
    ∷ difference (0 ∷ 2 ∷ []) (2 ∷ [])
    ∷ difference (4 ∷ 0 ∷ []) (4 ∷ [])
    ∷ difference (0 ∷ 6 ∷ []) (6 ∷ [])
    ∷ difference (1 ∷ 1 ∷ []) (1 ∷ [])
    ∷ difference (2 ∷ 1 ∷ []) (2 ∷ [])
    ∷ difference (1 ∷ 4 ∷ []) (4 ∷ [])
    ∷ difference (6 ∷ 1 ∷ []) (6 ∷ [])
    ∷ [])
inverse_generators = refl

-- a starred statement has the relations of adjoints too, and a loop has one on each side
starred_generators : generators_of (quiver_of (object (85 ∷ []) ∷ arrow (97 ∷ []) 0 0 false ∷ [])) true (0 ∷ []) [] ≡ (
    difference (0 ∷ 0 ∷ []) (0 ∷ [])
    ∷ difference (0 ∷ 1 ∷ []) (1 ∷ []) ∷ difference (1 ∷ 0 ∷ []) (1 ∷ [])
    ∷ difference (0 ∷ 2 ∷ []) (2 ∷ []) ∷ difference (2 ∷ 0 ∷ []) (2 ∷ [])
    ∷ [])
starred_generators = refl

-- the identity of a marked object, a map, and its adjoint where the statement is starred
marked_identity : is_in_play inverse_maps false (1 ∷ []) 1 ≡ true
marked_identity = refl

other_identity : is_in_play inverse_maps true (1 ∷ []) 0 ≡ false
other_identity = refl

declared_map : is_in_play inverse_maps false [] 4 ≡ true
declared_map = refl

adjoint_of_map : is_in_play inverse_maps true [] 5 ≡ true
adjoint_of_map = refl

adjoint_without_star : is_in_play inverse_maps false [] 5 ≡ false
adjoint_without_star = refl

no_letter : is_in_play inverse_maps true [] 6 ≡ false
no_letter = refl
