-- The limits of a statement and of bases.
use Rattle.std.specs.Prelude.{ℕ, ◌+◌, ◌-◌, ◌*◌}
use Rattle.quiver.specs.Limits.{object_limit, letter_limit}

abbrev pub assumption_limit : ℕ
assumption_limit = 500

abbrev pub claim_limit : ℕ
claim_limit = 100

abbrev pub shape_limit : ℕ
shape_limit = 16

-- An assumption has one adjoint at most. The relations of identities: one of each identity with itself, and two at most with each other letter.
abbrev pub generator_limit : ℕ
generator_limit = 2 * assumption_limit + (object_limit + 2 * (letter_limit - object_limit))

-- of the side of an object of a shape
abbrev pub shape_side_limit : ℕ
shape_side_limit = 6

-- of the rules of a basis in evidence text
abbrev pub rule_limit : ℕ
rule_limit = 100000
