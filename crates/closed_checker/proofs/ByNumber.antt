-- The generators and the claims of a problem by their numbers: they are canonical, and their letters are letters of its quiver.
use Rattle.closed_checker.proofs.Prelude.{◌≡◌, ◌≢◌, ◌≤◌, ℕ, zero, suc, pos, List, [], ◌∷◌, length, get_or, refl, sym, subst, arith, All, All-nil, All-head, All-tail, IsCoefficient, Term, generator_at, IsOver, word_limit, IsCanonical, Poly, IsDescending-from_recursion, Declaration, letter_count, Problem, polynomials, IsPolyOver}
use Rattle.closed_checker.proofs.ProblemLetters.{generators_over, claims_over}

-- canonical
zero_canonical : IsCanonical []
zero_canonical = record {
  shaped = record {
    descending = IsDescending-from_recursion [] tt;
    nonzero = All-nil (λ (t : Term). t.0 ≢ pos 0);
    in_range = All-nil (λ (t : Term). IsCoefficient t.0);
  };
  short = All-nil (λ (t : Term). length t.1 ≤ word_limit);
  few = omega arith;
}

past : (n : ℕ) → get_or {A = List Term} [] n [] ≡ []
past zero = refl
past (suc n) = refl

-- a polynomial with a number, and zero where there is none
pub canonical_at : (ps : List Poly) (n : ℕ) → IsCanonical (generator_at (polynomials ps) n)
canonical_at ps zero = zero_canonical
canonical_at [] (suc n) = subst IsCanonical (sym (past n)) zero_canonical
canonical_at (p ∷ ps) (suc zero) = p.canonical
canonical_at (p ∷ ps) (suc (suc n)) = canonical_at ps (suc n)

-- letters
module _ (ds : List Declaration) where
  over_at : (ps : List Poly) → All (IsPolyOver ds) ps → (number : ℕ) → All (λ t. IsOver (letter_count ds) t.1) (generator_at (polynomials ps) number)
  over_at ps each zero = All-nil (λ (t : Term). IsOver (letter_count ds) t.1)
  over_at [] each (suc k) = subst (All (λ (t : Term). IsOver (letter_count ds) t.1)) (sym (past k)) (All-nil (λ (t : Term). IsOver (letter_count ds) t.1))
  over_at (p ∷ ps) each (suc zero) = All-head (IsPolyOver ds) p ps each
  over_at (p ∷ ps) each (suc (suc k)) = over_at ps (All-tail (IsPolyOver ds) p ps each) (suc k)

pub generator_over : (problem : Problem) (number : ℕ)
    → All (λ t. IsOver (letter_count problem.parts.quiver) t.1) (generator_at (polynomials problem.generators) number)
generator_over problem = over_at problem.parts.quiver problem.generators (generators_over problem)

pub claim_over : (problem : Problem) (number : ℕ)
    → All (λ t. IsOver (letter_count problem.parts.quiver) t.1) (generator_at (polynomials problem.parts.claims) number)
claim_over problem = over_at problem.parts.quiver problem.parts.claims (claims_over problem)
