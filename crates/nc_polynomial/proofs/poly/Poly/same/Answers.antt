use Rattle.nc_polynomial.proofs.Prelude.{rules, subst, slice_eq-Decides, SamePolynomial, Same_refl}
use Rattle.nc_polynomial.proofs.Unique.{canonical_unique}
use Rattle.nc_polynomial.proofs.Words.{term_eq-Decides}
use Rattle.nc_polynomial.proofs.poly.Poly.same.Goals as goal

pub returns-clause-terms : goal.returns-clause-terms
returns-clause-terms c = slice_eq-Decides term_eq-Decides c.args.self.now.terms c.args.other.now.terms c.eq.result (search rules)

pub returns-clause-coefficients : goal.returns-clause-coefficients
returns-clause-coefficients c =
    let left = c.args.self.now.terms in
    let right = c.args.other.now.terms in
    let decides = slice_eq-Decides term_eq-Decides left right c.eq.result (search rules) in (
      λ yes. subst (SamePolynomial left) (decides.0 yes) (Same_refl left),
      λ same. decides.1 (canonical_unique left right c.args.self.now.canonical c.args.other.now.canonical same),
    )
