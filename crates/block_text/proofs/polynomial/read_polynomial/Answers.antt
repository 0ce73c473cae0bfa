use Rattle.block_text.proofs.Prelude.{◌≡◌, [], Option, Some, sym, ap, ◌∙◌, Poly, terms_of, poly_behind, tokens_of}
use Rattle.block_text.proofs.PolynomialLaws.{made_canonical, made_over}
use Rattle.block_text.proofs.polynomial.read_polynomial.Goals as goal

pub invariant_of-result : goal.invariant_of-result
invariant_of-result c =
    let made : ◌≡◌ {A = Option Poly} (Some c.in-Some.terms) (poly_behind c.args.quiver.now [] (terms_of (tokens_of c.args.line.now))) =
    sym c.in-Some.is ∙ c.in_ok-terms.ensures ∙ ap (poly_behind c.args.quiver.now []) c.first_term-first.ensures in
    record { canonical = made_canonical c.args.quiver.now (tokens_of c.args.line.now) c.in-Some.terms made }

pub returns-in-Some-clause-over : goal.returns-in-Some-clause-over
returns-in-Some-clause-over c =
    let made : ◌≡◌ {A = Option Poly} (Some c.in-Some.terms) (poly_behind c.args.quiver.now [] (terms_of (tokens_of c.args.line.now))) =
    sym c.in-Some.is ∙ c.in_ok-terms.ensures ∙ ap (poly_behind c.args.quiver.now []) c.first_term-first.ensures in
    made_over c.args.quiver.now (tokens_of c.args.line.now) c.in-Some.terms made
