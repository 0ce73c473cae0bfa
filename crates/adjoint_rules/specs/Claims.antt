-- The claims of a problem by their numbers.
use Rattle.std.specs.Prelude.{ℕ, List, length}
use Rattle.std.specs.List.{range_with_len}
use Rattle.definitions.specs.Poly.{Term}
use Rattle.definitions.specs.Combination.{generator_at}
use Rattle.adjoint_rules.specs.declared.problem.Problem.{Problem}
use Rattle.adjoint_rules.specs.Problem.{polynomials}

-- the claim of the problem with this number
abbrev pub claim_at : Problem → ℕ → List Term
claim_at problem number = generator_at (polynomials problem.parts.claims) number

-- the numbers of all claims
abbrev pub claim_numbers : Problem → List ℕ
claim_numbers problem = range_with_len 1 (length problem.parts.claims)
