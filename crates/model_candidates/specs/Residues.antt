-- Coefficients modulo a number, for private functions.
use Rattle.std.specs.Prelude.{ℕ, suc, ℤ, pos, negsuc, ◌-◌, ◌%◌, List, map}

-- the coefficient modulo m
abbrev pub residue : ℕ → ℤ → ℕ
residue m (pos n) = n % m
residue m (negsuc n) = (m - suc n % m) % m

-- those of a polynomial
abbrev pub residues : ℕ → List (ℤ × List ℕ) → List ℕ
residues m p = map (λ t. residue m t.0) p
