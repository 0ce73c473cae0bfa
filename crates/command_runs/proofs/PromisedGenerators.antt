-- The generators of a problem have the rational ideal of the polynomials of its file.
use Rattle.command_runs.proofs.Prelude.{◌≡◌, ◌≤◌, ℕ, zero, suc, List, [], ◌∷◌, ◌++◌, Option, Some, Result, Ok, Err, arith, refl, sym, ap, subst, ◌∙◌, length, slice_get, AllZip, append-nil, coefficient_of, poly_between, SamePolynomial, InRationalIdeal, generator_at, generators_of, Declaration, quiver_of, Free, in_ideal, single, all_from_numbers, ideals_stay_inside, Numbered, Statement, Equation, equations_of, assumptions_of, claims_in, claims_of, PolyFault, Problem, polynomials, numbers, generators_in, claim_at, declarations_of, marked_of, is_starred, told_polynomial, polynomial_in, value_in, IsValue, AreValues, all_values, quiver_in, IsClaim, claim_there, none_wrong, IsStated, IsPolynomialOf, IsNotDerivable}
use Rattle.definitions.specs.Poly.{Poly}
use Rattle.signature_typing.specs.Typing.{polynomials_of}
use Rattle.command_runs.proofs.PromisedFiles.{has_no_fault}

-- polynomials with the same coefficients have one rational ideal
between_nothing : (p : Poly) → poly_between [] p [] ≡ p
between_nothing [] = refl
between_nothing (t ∷ p) = λ i. (t.0, append-nil t.1 i) ∷ between_nothing p i

own : (gs : List Poly) (n : ℕ) (p : Poly) → SamePolynomial (generator_at gs n) p → InRationalIdeal gs p
own gs n p same =
    in_ideal gs p (single (Numbered gs Free) (coefficient_of p) (record {
      number = n;
      left = [];
      right = [];
      is = λ w. sym (same.at w) ∙ ap (λ (q : Poly). coefficient_of q w) (sym (between_nothing (generator_at gs n)));
      asked = λ w some. tt;
    }))

with_number : (fs gs : List Poly) → AllZip SamePolynomial fs gs → (n : ℕ) → 1 ≤ n → n ≤ length gs → SamePolynomial (generator_at fs n) (generator_at gs n)
with_number fs gs same zero first last = absurd (omega (arith, first))
with_number [] [] same (suc n) first last = absurd (omega (arith, last))
with_number [] (g ∷ gs) same n first last = absurd same
with_number (f ∷ fs) [] same n first last = absurd same
with_number (f ∷ fs) (g ∷ gs) same (suc zero) first last = same.0
with_number (f ∷ fs) (g ∷ gs) same (suc (suc n)) first last = with_number fs gs same.1 (suc n) (omega arith) (omega (arith, last))

ideal_along : (fs gs : List Poly) → AllZip SamePolynomial fs gs → (p : Poly) → InRationalIdeal gs p → InRationalIdeal fs p
ideal_along fs gs same p inside =
    ideals_stay_inside fs gs p (all_from_numbers (InRationalIdeal fs) gs (λ n first last. own fs n (generator_at gs n) (with_number fs gs same n first last))) inside

-- the polynomials of equations
module _ (ds : List Declaration) where
  polynomials_are : (es : List Equation) → AreValues (polynomial_in ds) es → AllZip (IsPolynomialOf ds) es (polynomials_of ds es)
  polynomials_are [] fine = tt
  polynomials_are (e ∷ es) fine = first (polynomial_in ds e) refl fine.0 (polynomials_of ds es) (polynomials_are es fine.1)
    where
      first : (r : Result Poly PolyFault) → polynomial_in ds e ≡ r → IsValue r → (ps : List Poly) → AllZip (IsPolynomialOf ds) es ps → AllZip (IsPolynomialOf ds) (e ∷ es) (value_in r ++ ps)
      first (Ok p) is value ps rest = (is, rest)
      first (Err f) is value ps rest = absurd value

  polynomial_at : (es : List Equation) (ps : List Poly) → AllZip (IsPolynomialOf ds) es ps → (n : ℕ) (e : Equation) → slice_get es n ≡ Some e → IsPolynomialOf ds e (generator_at ps (suc n))
  polynomial_at [] ps are n e at = absurd (cc)
  polynomial_at (x ∷ es) [] are n e at = absurd are
  polynomial_at (x ∷ es) (p ∷ ps) are zero e at = subst (λ (y : Equation). IsPolynomialOf ds y p) (some_is at) are.0
    where
      some_is : ◌≡◌ {A = Option Equation} (Some x) (Some e) → x ≡ e
      some_is same = cc
  polynomial_at (x ∷ es) (p ∷ ps) are (suc n) e at = polynomial_at es ps are.1 n e at

  claim_polynomial : (statements : List Statement) (ps : List Poly) → AllZip (IsPolynomialOf ds) (claims_of statements) ps → (number : ℕ) (e : Equation) → IsClaim statements number e
      → IsPolynomialOf ds e (generator_at ps number)
  claim_polynomial statements ps are zero e is = absurd is
  claim_polynomial statements ps are (suc n) e is = polynomial_at (claims_of statements) ps are n e is

pub is_not_derivable : (bytes : List ℕ) (problem : Problem) → IsStated bytes problem → (number : ℕ) → 1 ≤ number → number ≤ length problem.parts.claims
    → (InRationalIdeal (polynomials problem.generators) (claim_at problem number) → ⊥) → IsNotDerivable bytes number
is_not_derivable bytes problem stated number least most outside =
    let statements = stated.statements in
    let parts = stated.elaborated.parts in
    let ds = declarations_of statements in
    let fine = all_values (polynomial_in ds) (λ t. told_polynomial t.at) (equations_of ds) (λ t. claims_in t.kind) statements (none_wrong statements stated.elaborated.no_fault).1 in
    let there = claim_there statements problem number stated.elaborated least most in
    let assumptions = polynomials_of ds (assumptions_of ds statements) in
    let claims = polynomials_of ds (claims_of statements) in
    let assumed : polynomials problem.parts.assumptions ≡ assumptions = parts.assumptions ∙ ap (λ (d : List Declaration). polynomials_of d (assumptions_of d statements)) parts.quiver in
    let claimed : polynomials problem.parts.claims ≡ claims = parts.claims ∙ ap (λ (d : List Declaration). polynomials_of d (claims_of statements)) parts.quiver in
    let marked : problem.parts.marked ≡ marked_of ds statements = parts.marked ∙ ap (λ (d : List Declaration). marked_of d statements) parts.quiver in
    let generators : generators_in problem.parts ≡ generators_of (quiver_in statements) (is_starred statements) (numbers (marked_of ds statements)) assumptions =
    λ i. generators_of (quiver_of (parts.quiver i)) (parts.starred i) (numbers (marked i)) (assumed i) in
    record {
      statements = statements;
      file = has_no_fault bytes problem stated;
      assumptions = assumptions;
      assumed = polynomials_are ds (assumptions_of ds statements) fine.0;
      claim = there.0;
      is_claim = there.1;
      polynomial = generator_at claims number;
      claimed = claim_polynomial ds statements claims (polynomials_are ds (claims_of statements) fine.1) number there.0 there.1;
      outside = λ inside.
          let of_parts : InRationalIdeal (generators_in problem.parts) (claim_at problem number) =
          subst (λ (gs : List Poly). InRationalIdeal gs (claim_at problem number)) (sym generators) (subst (λ (ps : List Poly). InRationalIdeal (generators_of (quiver_in statements) (is_starred statements) (numbers (marked_of ds statements)) assumptions) (generator_at ps number)) (sym claimed) inside) in
          outside (ideal_along (polynomials problem.generators) (generators_in problem.parts) problem.closed.same (claim_at problem number) of_parts);
    }
