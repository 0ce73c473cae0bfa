use Rattle.model_candidates.proofs.Prelude.{◌≡◌, ◌↔◌, IsTrue, sym, subst, ◌∙◌, IsTyped, HasValueZeroAt, matrices, representation_of, terms_of, model_in, quiver_in}
use Rattle.model_candidates.proofs.AskedAssumptions.{terms_there}
use Rattle.model_candidates.proofs.KnownTerms.{coefficients_there}
use Rattle.model_candidates.proofs.conditions.is_condition_zero.Goals as goal

pub is_zero-requires-clause-typed : goal.is_zero-requires-clause-typed
is_zero-requires-clause-typed c =
    let problem = c.args.known.now.given.problem.now in
    let q = quiver_in c.args.known.now.given in
    let g = c.args.condition in
    let poly = c.at-poly.result.now in
    let poly_is : poly.terms ≡ terms_of problem g = sym (terms_there problem g.place c.at-poly.ensures) in
    subst (IsTyped q g.sig.source.0 g.sig.target.0) (sym poly_is) c.requires.condition.typed

pub is_zero-requires-clause-coefficients : goal.is_zero-requires-clause-coefficients
is_zero-requires-clause-coefficients c =
    let k = c.args.known.now in
    let g = c.args.condition in
    let poly = c.at-poly.result.now in
    c.as_slice-coefficients.ensures
    ∙ sym c.index-known-place.is ∙ coefficients_there k c.requires.known g.place c.at-poly.ensures c.index-known-place.is

pub returns : goal.returns
returns c =
    let k = c.args.known.now in
    let problem = k.given.problem.now in
    let q = quiver_in k.given in
    let g = c.args.condition in
    let poly = c.at-poly.result.now in
    let poly_is : poly.terms ≡ terms_of problem g = sym (terms_there problem g.place c.at-poly.ensures) in
    subst (λ p. IsTrue c.is_zero.result ↔ HasValueZeroAt (matrices k.given.shape.now.modulus) q (representation_of q (model_in k.given))
    g.sig.source.0 g.sig.target.0 p) poly_is c.is_zero.ensures
