-- The limits of matrices.
use Rattle.std.specs.Prelude.{ℕ, ◌-◌, ◌^◌}

-- of a modulus
abbrev pub modulus_limit : ℕ
modulus_limit = 2 ^ 31 - 1

-- of a side
abbrev pub side_limit : ℕ
side_limit = 64
