use Rattle.expressions.proofs.Prelude.{◌≡◌, take, sym, ap, subst, ◌∙◌, take_all, All, IsCoefficient, adjoint_poly, quiver_of}
use Rattle.expressions.proofs.Canonical.{in_range-adjoint_poly}
use Rattle.expressions.proofs.powers.adjoint.Goals as goal

pub from_terms-requires : goal.from_terms-requires
from_terms-requires c =
    let p = c.args.poly.now.terms in
    let all : take c.loop-term.term-index c.as_slice-term-items.result.now ≡ p = take_all c.loop-term.term-index c.as_slice-term-items.result.now c.loop-term-test.false ∙ c.as_slice-term-items.ensures in
    let whole : c.as_slice.result.now ≡ adjoint_poly (quiver_of c.args.quiver.now) p = c.as_slice.ensures.value ∙ c.loop-term.invariant ∙ ap (adjoint_poly (quiver_of c.args.quiver.now)) all in
    subst (All (λ t. IsCoefficient t.0)) (sym whole) (in_range-adjoint_poly (quiver_of c.args.quiver.now) p c.args.poly.now.canonical.shaped.in_range)
