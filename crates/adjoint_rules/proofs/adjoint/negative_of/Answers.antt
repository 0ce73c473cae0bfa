use Rattle.adjoint_rules.proofs.Prelude.{rules, ◌≡◌, sym, subst, negated, IsCanonical}
use Rattle.adjoint_rules.proofs.NewAdjoints.{canonical-negated}
use Rattle.adjoint_rules.proofs.adjoint.negative_of.Goals as goal

pub invariant_of-result : goal.invariant_of-result
invariant_of-result c =
    let p = c.args.poly.now in
    let is : c.in_ok-terms.terms ≡ negated p.terms = search rules in
    record { canonical = subst IsCanonical (sym is) (canonical-negated p.terms p.canonical) }
