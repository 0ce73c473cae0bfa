-- Claims by their numbers.
use Rattle.claim_decider.proofs.Prelude.{◌≡◌, ◌≤◌, ℕ, zero, suc, ◌-◌, List, [], ◌∷◌, length, get_or, slice_get, Option, Some, refl, ap, arith, Term, Poly, Problem, polynomials, claim_at}

same_terms : (p q : Poly) → ◌≡◌ {A = Option Poly} (Some p) (Some q) → p.terms ≡ q.terms
same_terms p q is = ap (λ (x : Poly). x.terms) (same is)
  where
    same : ◌≡◌ {A = Option Poly} (Some p) (Some q) → p ≡ q
    same k = cc

terms_at : (ps : List Poly) (place : ℕ) (p : Poly) → slice_get ps place ≡ Some p → get_or (polynomials ps) place [] ≡ p.terms
terms_at [] place p is = absurd (cc)
terms_at (q ∷ ps) zero p is = same_terms q p is
terms_at (q ∷ ps) (suc place) p is = terms_at ps place p is

pub claim_at-place : (problem : Problem) (number : ℕ) (p : Poly) → 1 ≤ number → slice_get problem.parts.claims (number - 1) ≡ Some p → claim_at problem number ≡ p.terms
claim_at-place problem zero p least is = absurd (omega arith)
claim_at-place problem (suc place) p least is = let same : suc place - 1 ≡ place = omega arith in terms_at problem.parts.claims place p (rw same at is)

pub nothing : (p : List Term) → length p ≡ 0 → p ≡ []
nothing [] none = refl
nothing (t ∷ p) none = absurd (omega arith)
