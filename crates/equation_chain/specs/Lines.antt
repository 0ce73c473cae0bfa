-- The lines of a chain, each defined as a whole.
use Rattle.std.specs.Prelude.{ℕ, ◌+◌, negsuc, List, map, take, length}
use Rattle.std.specs.List.{range_with_len, sum_by}
use Rattle.definitions.specs.Poly.{Poly, poly_sum, poly_multiple}
use Rattle.definitions.specs.Combination.{row_sum}
use Rattle.nc_polynomial.specs.Collected.{collected}
use Rattle.traced_rows.specs.declared.certificate.CertRow.{CertRow}
use Rattle.traced_rows.specs.declared.certificate.Certificate.{Certificate}
use Rattle.traced_rows.specs.Rows.{rows_of}
use Rattle.adjoint_rules.specs.declared.problem.Problem.{Problem}
use Rattle.adjoint_rules.specs.Problem.{polynomials}
use Rattle.cofactor_checker.specs.Acceptance.{claim_of}
use Rattle.equation_chain.specs.Steps.{steps_of}

-- the claim that the certificate names
abbrev pub claim_in : Problem → Certificate → Poly
claim_in problem c = claim_of (polynomials problem.parts.claims) c

-- the denominator times the claim, less these steps, as a canonical list
abbrev pub line_less : Problem → Certificate → List CertRow → Poly
line_less problem c steps =
    collected (poly_sum (poly_multiple c.denominator (claim_in problem c))
    (poly_multiple (negsuc 0) (row_sum (polynomials problem.generators) (rows_of steps))))

-- the line after none of the steps, after the first one, and so on to the last
abbrev pub lines_by : Problem → Certificate → List CertRow → List Poly
lines_by problem c steps = map (λ k. line_less problem c (take k steps)) (range_with_len 0 (length steps + 1))

-- the lines of the certificate's chain
abbrev pub lines_of : Problem → Certificate → List Poly
lines_of problem c = lines_by problem c (steps_of problem c)

-- how many letters the words of a line have, and those of lines
abbrev pub letters_in : Poly → ℕ
letters_in p = sum_by (λ t. length t.1) p

abbrev pub letters_of : List Poly → ℕ
letters_of lines = sum_by letters_in lines
