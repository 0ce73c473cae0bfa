-- What reductions leave, as what is left of a part of the check.
use Rattle.closed_checker.proofs.Prelude.{◌≡◌, ◌≤◌, ℕ, zero, suc, ◌-◌, List, [], ◌∷◌, length, get_or, slice_get, Option, Some, Result, Ok, ap, sym, subst, ◌∙◌, arith, Term, generator_at, Compare, made_cmp, AnyOrder, Poly, PolyFault, Rule, ReduceFault, halt_of, Problem, polynomials, Basis, Part, order_of, rules_of, claim_of, rest_by, rest_of, IsNumberUpTo, IsPart, Reaches, AreRulesOf, Explains, IsAnswer}
use Rattle.nc_polynomial.specs.declared.fault.PolyFault.TheVariants as fault
use Rattle.nc_polynomial.specs.Faults as poly
use Rattle.closed_checker.specs.declared.part.Part.TheVariants as part

pub explains_made : (compare : Compare) (rules : List Rule) (r : Result (List Term) PolyFault) (f : PolyFault) → poly.Explains r f → Explains (rest_by compare rules r) (halt_of f)
explains_made compare rules r (fault.Overflow o) is = ap (rest_by compare rules) is
explains_made compare rules r (fault.Size s) is = ap (rest_by compare rules) is
explains_made compare rules r (fault.Memory e) is = tt

-- the rules and their order
pub rest_same : (problem : Problem) (b : Basis) (order : AnyOrder) (rules : List Rule) (p : Result (List Term) PolyFault) → AreRulesOf problem b order rules
    → rest_by (made_cmp order) rules p ≡ rest_by (order_of problem) (rules_of problem b) p
rest_same problem b order rules p are = λ n. rest_by (are.compares n) (are.same n) p

-- polynomials by their numbers
terms_at : (ps : List Poly) (place : ℕ) (p : Poly) → slice_get ps place ≡ Some p → get_or (polynomials ps) place [] ≡ p.terms
terms_at [] place p is = absurd (cc)
terms_at (q ∷ ps) zero p is = ap (λ (x : Poly). x.terms) (same is)
  where
    same : ◌≡◌ {A = Option Poly} (Some q) (Some p) → q ≡ p
    same k = cc
terms_at (q ∷ ps) (suc place) p is = terms_at ps place p is

pub numbered_terms : (ps : List Poly) (number : ℕ) (p : Poly) → 1 ≤ number → slice_get ps (number - 1) ≡ Some p → generator_at (polynomials ps) number ≡ p.terms
numbered_terms ps zero p least is = absurd (omega (arith, least))
numbered_terms ps (suc place) p least is = let same : suc place - 1 ≡ place = omega arith in terms_at ps place p (subst (λ k. slice_get ps k ≡ Some p) same is)

-- the parts
module _ (problem : Problem) (b : Basis) (order : AnyOrder) (rules : List Rule) (are : AreRulesOf problem b order rules) (result : Result Poly ReduceFault) where
  pub generator_answer : (p : Part) (number : ℕ) (g : Poly) → Reaches problem b p → p ≡ part.Generator number → slice_get problem.generators (number - 1) ≡ Some g
      → IsAnswer result (rest_by (made_cmp order) rules (Ok g.terms)) → IsAnswer result (rest_of problem b p)
  generator_answer p number g reached is at =
      let numbered : IsNumberUpTo (length problem.generators) number = subst (IsPart problem b) is reached.part in
      let terms : generator_at (polynomials problem.generators) number ≡ g.terms = numbered_terms problem.generators number g numbered.least at in
      subst (IsAnswer result)
      (rest_same problem b order rules (Ok g.terms) are ∙ ap (λ (q : List Term). rest_by (order_of problem) (rules_of problem b) (Ok q)) (sym terms) ∙ ap (rest_of problem b) (sym is))

  pub claim_answer : (p : Part) (g : Poly) → Reaches problem b p → p ≡ part.Claim → slice_get problem.parts.claims (b.claim - 1) ≡ Some g
      → IsAnswer result (rest_by (made_cmp order) rules (Ok g.terms)) → IsAnswer result (rest_of problem b p)
  claim_answer p g reached is at =
      let terms : claim_of problem b ≡ g.terms = numbered_terms problem.parts.claims b.claim g reached.has_rules.claim.least at in
      subst (IsAnswer result)
      (rest_same problem b order rules (Ok g.terms) are ∙ ap (λ (q : List Term). rest_by (order_of problem) (rules_of problem b) (Ok q)) (sym terms) ∙ ap (rest_of problem b) (sym is))
