use Rattle.expressions.proofs.Prelude.{◌≡◌, rules, sym, subst, negated, IsCanonical}
use Rattle.expressions.proofs.Canonical.{canonical-negated}
use Rattle.expressions.proofs.polynomial.signed.Goals as goal

pub invariant_of-result : goal.invariant_of-result
invariant_of-result c =
    let negated_is : c.in_ok-terms.terms ≡ negated c.args.poly.terms = search rules in
    record { canonical = subst IsCanonical (sym negated_is) (canonical-negated c.args.poly.terms c.args.poly.canonical) }
