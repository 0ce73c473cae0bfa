-- The moduli of the fields over which models are searched.
use Rattle.std.specs.Prelude.{ℕ, Bool, List, [], ◌∷◌, nat_eq, IsTrue}
use Rattle.std.specs.List.{list_any}

-- primes, so each number from 1 to the modulus less 1 has an inverse
abbrev pub field_moduli : List ℕ
field_moduli = 2 ∷ 3 ∷ 5 ∷ 7 ∷ 101 ∷ 32003 ∷ 65537 ∷ []

-- whether it is one of them
abbrev pub is_field_modulus : ℕ → Bool
is_field_modulus m = list_any (nat_eq m) field_moduli

abbrev pub IsFieldModulus : ℕ → Type 0
IsFieldModulus m = IsTrue (is_field_modulus m)
