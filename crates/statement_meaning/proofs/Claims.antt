-- A claim of a problem is a claim of its file.
use Rattle.statement_meaning.proofs.Prelude.{◌≡◌, ◌<◌, ◌≤◌, ℕ, zero, suc, List, [], ◌∷◌, length, slice_get, Some, arith, refl, sym, ap, ◌∙◌, length-map, Statement, Equation, equations_of, claims_in, claims_of, Problem, polynomials, declarations_of, told_polynomial, polynomial_in, polynomials_of, IsProblemOf, all_values, length-values, IsClaim, none_wrong}
use Rattle.nc_polynomial.specs.declared.poly.Poly as made

there : (es : List Equation) (n : ℕ) → n < length es → (e : Equation) × (slice_get es n ≡ Some e)
there [] n inside = absurd (omega arith)
there (e ∷ es) zero inside = (e, refl)
there (e ∷ es) (suc n) inside = there es n (omega arith)

pub claim_count : (statements : List Statement) (problem : Problem) → IsProblemOf statements problem → length problem.parts.claims ≡ length (claims_of statements)
claim_count statements problem stated =
    let ds = declarations_of statements in
    let fine = (all_values (polynomial_in ds) (λ t. told_polynomial t.at) (equations_of ds) (λ t. claims_in t.kind) statements (none_wrong statements stated.no_fault).1).1 in
    let values : polynomials problem.parts.claims ≡ polynomials_of ds (claims_of statements) = stated.parts.claims ∙ ap (λ d. polynomials_of d (claims_of statements)) stated.parts.quiver in
    sym (length-map problem.parts.claims (λ (x : made.Poly). x.terms)) ∙ ap length values ∙ length-values (polynomial_in ds) (claims_of statements) fine

pub claim_there : (statements : List Statement) (problem : Problem) (number : ℕ) → IsProblemOf statements problem → 1 ≤ number → number ≤ length problem.parts.claims
    → (e : Equation) × IsClaim statements number e
claim_there statements problem zero stated least most = absurd (omega arith)
claim_there statements problem (suc n) stated least most = let count = claim_count statements problem stated in there (claims_of statements) n (omega (arith, most, count))
