use Rattle.model_candidates.proofs.Prelude.{◌≡◌, IfOk, IsTrue, IsFalse, sym, ap, ap₂, subst, ◌∙◌, IsArrow, IsTyped, matrices, Add, AreAgainst, representation_of, side_of, numbers_in, has_few, terms_of, residues, assumption_value, solved_terms, rows_with, equations_of, model_in, quiver_in}
use Rattle.definitions.specs.Representation.{value_at}
use Rattle.model_candidates.proofs.AskedAssumptions.{terms_there}
use Rattle.model_candidates.proofs.KnownTerms.{coefficients_there, known_fit, known_sides}
use Rattle.model_candidates.proofs.GivenValues.{given_of}
use Rattle.model_candidates.proofs.ValueRows.{value_ends}
use Rattle.model_candidates.proofs.equations.add_equations.Goals as goal
use Rattle.model_candidates.proofs.equations.add_equations.Goals.{After-at-poly, After-as_slice-coefficients, After-constant_of-value, After-as_slice}

-- the polynomial and its coefficients
poly_is : (c : After-at-poly) → c.at-poly.result.now.terms ≡ terms_of c.args.known.now.given.problem.now c.args.assumption
poly_is c = sym (terms_there c.args.known.now.given.problem.now c.args.assumption.place c.at-poly.ensures)

typed : (c : After-at-poly)
    → IsTyped (quiver_in c.args.known.now.given) c.args.assumption.sig.source.0 c.args.assumption.sig.target.0 c.at-poly.result.now.terms
typed c =
    let g = c.args.assumption in
    subst (IsTyped (quiver_in c.args.known.now.given) g.sig.source.0 g.sig.target.0) (sym (poly_is c)) c.requires.assumption.typed

coefficients : (c : After-as_slice-coefficients)
    → c.as_slice-coefficients.result.now ≡ residues c.args.known.now.given.shape.now.modulus c.at-poly.result.now.terms
coefficients c =
    c.as_slice-coefficients.ensures ∙ sym c.index-known-place.is
    ∙ coefficients_there c.args.known.now c.requires.known c.args.assumption.place c.at-poly.ensures c.index-known-place.is

-- the value and the terms
value_is_arrow : (c : After-constant_of-value) → IsArrow (matrices c.args.known.now.given.shape.now.modulus)
    (side_of (model_in c.args.known.now.given) c.args.assumption.sig.source.0)
    (side_of (model_in c.args.known.now.given) c.args.assumption.sig.target.0) c.constant_of-value.result
value_is_arrow c =
    let given = c.args.known.now.given in
    let m = model_in given in
    let u = c.args.assumption.sig.source.0 in
    let v = c.args.assumption.sig.target.0 in
    subst (IsArrow (matrices given.shape.now.modulus) (side_of m u) (side_of m v)) (sym c.constant_of-value.ensures)
    (value_ends (given_of c.requires.known.given) u v c.requires.assumption.source c.requires.assumption.target c.at-poly.result.now.terms)

terms_are : (c : After-as_slice) → c.at-poly.result.now.terms ≡ terms_of c.args.known.now.given.problem.now c.args.assumption
    → c.as_slice.result.now ≡ solved_terms (quiver_in c.args.known.now.given) c.args.known.now.given.shape.now
    c.args.known.now.given.problem.now.parts.solved (numbers_in c.args.known.now) (model_in c.args.known.now.given)
    c.args.assumption.sig.source.0 (terms_of c.args.known.now.given.problem.now c.args.assumption)
terms_are c same =
    let k = c.args.known.now in
    c.as_slice.ensures ∙ c.in_ok-solved_terms.ensures
    ∙ ap (solved_terms (quiver_in k.given) k.given.shape.now k.given.problem.now.parts.solved (numbers_in k) (model_in k.given)
    c.args.assumption.sig.source.0) same

rows_are : (c : After-as_slice) → c.at-poly.result.now.terms ≡ terms_of c.args.known.now.given.problem.now c.args.assumption
    → rows_with c.args.unknowns c.constant_of-value.result c.as_slice.result.now
    ≡ equations_of c.args.known.now.given.problem.now c.args.known.now.given.shape.now (model_in c.args.known.now.given) c.args.assumption
rows_are c same =
    let given = c.args.known.now.given in
    let m = model_in given in
    let g = c.args.assumption in
    let value_is : c.constant_of-value.result ≡ assumption_value given.problem.now m g =
    c.constant_of-value.ensures
    ∙ ap (value_at (matrices given.shape.now.modulus) (quiver_in given) (representation_of (quiver_in given) m) g.sig.source.0
    g.sig.target.0)
    same in
    ap (λ n. rows_with n c.constant_of-value.result c.as_slice.result.now) c.requires.unknowns ∙ ap₂ (rows_with _) value_is
    (terms_are c same)

pub constant_of-value-requires-clause-typed : goal.constant_of-value-requires-clause-typed
constant_of-value-requires-clause-typed c = typed (goal.at.constant_of-value-requires-clause-typed c).After-at-poly

pub constant_of-value-requires-clause-coefficients : goal.constant_of-value-requires-clause-coefficients
constant_of-value-requires-clause-coefficients c =
    coefficients (goal.at.constant_of-value-requires-clause-coefficients c).After-as_slice-coefficients

pub solved_terms-requires-clause-typed : goal.solved_terms-requires-clause-typed
solved_terms-requires-clause-typed c = typed (goal.at.solved_terms-requires-clause-typed c).After-at-poly

pub solved_terms-requires-clause-coefficients : goal.solved_terms-requires-clause-coefficients
solved_terms-requires-clause-coefficients c = coefficients (goal.at.solved_terms-requires-clause-coefficients c).After-as_slice-coefficients

pub add_rows-requires-clause-terms : goal.add_rows-requires-clause-terms
add_rows-requires-clause-terms c =
    let passed = goal.at.add_rows-requires-clause-terms c in
    known_fit c.args.known.now c.requires.known c.args.assumption c.requires.assumption c.as_slice.result.now
    (terms_are passed.After-as_slice (poly_is passed.After-at-poly))
    (value_is_arrow passed.After-constant_of-value).arrow.modulus_is c.requires.unknowns

pub add_rows-requires-clause-sides : goal.add_rows-requires-clause-sides
add_rows-requires-clause-sides c =
    let passed = goal.at.add_rows-requires-clause-sides c in
    known_sides c.args.known.now c.requires.known c.args.assumption c.requires.assumption c.as_slice.result.now
    (terms_are passed.After-as_slice (poly_is passed.After-at-poly))
    (value_is_arrow passed.After-constant_of-value)

pub add_rows-requires-clause-modulus : goal.add_rows-requires-clause-modulus
add_rows-requires-clause-modulus c =
    c.requires.modulus ∙ sym (value_is_arrow (goal.at.add_rows-requires-clause-modulus c).After-constant_of-value).arrow.modulus_is

pub returns-clause-added : goal.returns-clause-added
returns-clause-added c =
    let passed = goal.at.returns-clause-added c in
    subst (λ xs. IfOk c.add_rows.result (λ fit. IsTrue fit → Add xs c.args.pivots.now c.add_rows.new.pivots))
    (rows_are passed.After-as_slice (poly_is passed.After-at-poly)) c.add_rows.ensures.added

pub returns-clause-against : goal.returns-clause-against
returns-clause-against c =
    let passed = goal.at.returns-clause-against c in
    subst (λ xs. IfOk c.add_rows.result (λ fit. IsFalse fit → AreAgainst xs c.args.pivots.now))
    (rows_are passed.After-as_slice (poly_is passed.After-at-poly)) c.add_rows.ensures.against

pub constant_of-value-requires-clause-few : goal.constant_of-value-requires-clause-few
constant_of-value-requires-clause-few c =
    subst (λ p. IsTrue (has_few (quiver_in c.args.known.now.given) c.args.known.now.given.problem.now.parts.solved 1 p))
    (sym (poly_is (goal.at.constant_of-value-requires-clause-few c).After-at-poly)) c.requires.assumption.few
