use Rattle.model_candidates.proofs.Prelude.{◌-◌, length, sym, ap, subst, ◌∙◌, arith, length-map, AllZip-long, quiver_of, HasObjects, IsTypedOf, IsZeroIn, claim_polynomial, all_at, zip_at, generator_at-number, model_by, residues}
use Rattle.model_candidates.proofs.NumberedShapes.{one_shape, plan_fits, posed_shape, shape_numbered}
use Rattle.model_candidates.proofs.TestedValues.{residues_at, zero_tells}
use Rattle.model_candidates.proofs.tested_values.is_claim_zero.Goals as goal

pub at-sig-requires : goal.at-sig-requires
at-sig-requires c =
    let parts = c.args.problem.now.parts in
    let long = AllZip-long (IsTypedOf parts.quiver) parts.claims parts.claim_sigs c.args.problem.now.posed.claims_typed in
    omega (arith, long, c.requires.claim.least, c.requires.claim.most)

pub at-requires : goal.at-requires
at-requires c =
    let problem = c.args.problem.now in
    let s = c.at-shape.result.now in
    let fits = plan_fits c.requires.plan c.at-shape.ensures in
    let long = ap length fits.tables.claims ∙ length-map problem.parts.claims (λ p. residues s.modulus p.terms) in
    omega (arith, long, c.requires.claim.least, c.requires.claim.most)

pub is_zero-requires-clause-given : goal.is_zero-requires-clause-given
is_zero-requires-clause-given c =
    let problem = c.args.problem.now in
    let s = c.at-shape.result.now in
    let numbered = shape_numbered problem c.requires.plan.least c.at-shape.ensures in
    record {
      shape = posed_shape problem _ c.at-shape.ensures;
      tables = c.as_slice-tables.ensures ∙ (c.requires.plan.fits s numbered).tables.letters;
      values = c.requires.values s numbered;
    }

pub is_zero-requires-clause-source : goal.is_zero-requires-clause-source
is_zero-requires-clause-source c =
    let parts = c.args.problem.now.parts in
    (all_at (HasObjects parts.quiver) parts.claim_sigs (c.args.claim - 1) c.at-sig.result.now c.args.problem.now.posed.claim_ends c.at-sig.ensures).source

pub is_zero-requires-clause-target : goal.is_zero-requires-clause-target
is_zero-requires-clause-target c =
    let parts = c.args.problem.now.parts in
    (all_at (HasObjects parts.quiver) parts.claim_sigs (c.args.claim - 1) c.at-sig.result.now c.args.problem.now.posed.claim_ends c.at-sig.ensures).target

pub is_zero-requires-clause-typed : goal.is_zero-requires-clause-typed
is_zero-requires-clause-typed c =
    let parts = c.args.problem.now.parts in
    zip_at (IsTypedOf parts.quiver) parts.claims parts.claim_sigs (c.args.claim - 1) c.at-poly.result.now c.at-sig.result.now
    c.args.problem.now.posed.claims_typed c.at-poly.ensures c.at-sig.ensures

pub is_zero-requires-clause-coefficients : goal.is_zero-requires-clause-coefficients
is_zero-requires-clause-coefficients c =
    let problem = c.args.problem.now in
    let s = c.at-shape.result.now in
    let fits = plan_fits c.requires.plan c.at-shape.ensures in
    c.as_slice-coefficients.ensures ∙ residues_at s.modulus problem.parts.claims (c.args.claim - 1) fits.tables.claims
    c.at-poly.ensures c.at.ensures

pub returns : goal.returns
returns c = λ t numbered.
    let problem = c.args.problem.now in
    let parts = problem.parts in
    let q = quiver_of parts.quiver in
    let s = c.at-shape.result.now in
    let p = c.at-poly.result.now in
    let sig = c.at-sig.result.now in
    let m = model_by q s 0 c.args.values.now in
    let typed = zip_at (IsTypedOf parts.quiver) parts.claims parts.claim_sigs (c.args.claim - 1) p sig problem.posed.claims_typed c.at-poly.ensures
    c.at-sig.ensures in
    let ends = all_at (HasObjects parts.quiver) parts.claim_sigs (c.args.claim - 1) sig problem.posed.claim_ends c.at-sig.ensures in
    let tells = zero_tells problem m p typed ends in
    let is = generator_at-number parts.claims c.args.claim p c.requires.claim.least c.at-poly.ensures in
    let same = one_shape c.at-shape.ensures numbered in (
      λ true. subst (λ x. IsZeroIn problem (model_by q x 0 c.args.values.now) (claim_polynomial problem c.args.claim)) same
          (subst (IsZeroIn problem m) (sym is) (tells.0 (c.is_zero.ensures.0 true))),
      λ zero. c.is_zero.ensures.1 (tells.1 (subst (IsZeroIn problem m) is
          (subst (λ x. IsZeroIn problem (model_by q x 0 c.args.values.now) (claim_polynomial problem c.args.claim)) (sym same) zero))),
    )
