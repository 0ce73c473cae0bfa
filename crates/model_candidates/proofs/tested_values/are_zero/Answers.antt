use Rattle.model_candidates.proofs.Prelude.{◌≤◌, length, refl, sym, ap, subst, ◌∙◌, arith, true≢false, AllByRecursion, and_parts, length-map, take_all, AllZip-long, quiver_of, HasObjects, IsTypedOf, IsZeroIn, assumptions_of, all_at, zip_at, one_more, model_by, has_few, residues}
use Rattle.model_candidates.proofs.NumberedShapes.{one_shape, plan_fits, posed_shape, shape_numbered}
use Rattle.model_candidates.proofs.TestedValues.{residues_at, zero_at, zero_linear, zero_tells}
use Rattle.model_candidates.proofs.tested_values.are_zero.Goals as goal

pub at-sig-requires : goal.at-sig-requires
at-sig-requires c =
    let parts = c.args.problem.now.parts in
    let long = AllZip-long (IsTypedOf parts.quiver) parts.assumptions parts.sigs c.args.problem.now.posed.assumptions_typed in
    omega (arith, long, c.loop-place-test.true, c.len-place-end.ensures)

pub at-requires : goal.at-requires
at-requires c =
    let problem = c.args.problem.now in
    let s = c.at-shape.result.now in
    let fits = plan_fits c.requires.plan c.at-shape.ensures in
    let long = ap length fits.tables.assumptions ∙ length-map problem.parts.assumptions (λ p. residues s.modulus p.terms) in
    omega (arith, long, c.loop-place-test.true, c.len-place-end.ensures)

pub is_zero-requires-clause-given : goal.is_zero-requires-clause-given
is_zero-requires-clause-given c =
    let problem = c.args.problem.now in
    let s = c.at-shape.result.now in
    let numbered = shape_numbered problem c.requires.plan.least c.at-shape.ensures in
    record {
      shape = posed_shape problem _ c.at-shape.ensures;
      tables = c.as_slice-tables.ensures ∙ (c.requires.plan.fits s numbered).tables.letters;
      values = c.requires.values s numbered;
    }

pub is_zero-requires-clause-source : goal.is_zero-requires-clause-source
is_zero-requires-clause-source c =
    let parts = c.args.problem.now.parts in
    (all_at (HasObjects parts.quiver) parts.sigs c.loop-place.place c.at-sig.result.now c.args.problem.now.posed.assumption_ends c.at-sig.ensures).source

pub is_zero-requires-clause-target : goal.is_zero-requires-clause-target
is_zero-requires-clause-target c =
    let parts = c.args.problem.now.parts in
    (all_at (HasObjects parts.quiver) parts.sigs c.loop-place.place c.at-sig.result.now c.args.problem.now.posed.assumption_ends c.at-sig.ensures).target

pub is_zero-requires-clause-typed : goal.is_zero-requires-clause-typed
is_zero-requires-clause-typed c =
    let parts = c.args.problem.now.parts in
    zip_at (IsTypedOf parts.quiver) parts.assumptions parts.sigs c.loop-place.place c.at-assumption.result.now c.at-sig.result.now
    c.args.problem.now.posed.assumptions_typed c.at-assumption.ensures c.at-sig.ensures

pub is_zero-requires-clause-coefficients : goal.is_zero-requires-clause-coefficients
is_zero-requires-clause-coefficients c =
    let problem = c.args.problem.now in
    let s = c.at-shape.result.now in
    let fits = plan_fits c.requires.plan c.at-shape.ensures in
    c.as_slice-coefficients.ensures ∙ residues_at s.modulus problem.parts.assumptions c.loop-place.place
    fits.tables.assumptions c.at-assumption.ensures c.at.ensures

pub loop-place-init : goal.loop-place-init
loop-place-init c = tt

-- a linear one is zero
pub loop-place-preserved-then-is_passed : goal.loop-place-preserved-then-is_passed
loop-place-preserved-then-is_passed c =
    let problem = c.args.problem.now in
    let parts = problem.parts in
    let q = quiver_of parts.quiver in
    let s = c.at-shape.result.now in
    let p = c.at-assumption.result.now in
    let m = model_by q s 0 c.args.values.now in
    let both = and_parts c.args.known (has_few q parts.solved 1 p.terms) (sym c.is_passed.ensures ∙ c.if-is_passed.true) in
    let linear = c.requires.linear s (shape_numbered problem c.requires.plan.least c.at-shape.ensures) both.0 in
    one_more (IsZeroIn problem m) parts.assumptions c.loop-place.place p c.at-assumption.ensures c.loop-place.invariant
    (zero_linear problem m parts.assumptions (has_few q parts.solved 1) c.loop-place.place c.at-assumption.ensures both.1 linear)

pub returns-then-not-is_zero : goal.returns-then-not-is_zero
returns-then-not-is_zero c = λ t numbered. (
  λ same. absurd (true≢false (sym same)),
  λ all.
      let problem = c.args.problem.now in
      let parts = problem.parts in
      let q = quiver_of parts.quiver in
      let s = c.at-shape.result.now in
      let p = c.at-assumption.result.now in
      let sig = c.at-sig.result.now in
      let m = model_by q s 0 c.args.values.now in
      let typed = zip_at (IsTypedOf parts.quiver) parts.assumptions parts.sigs c.loop-place.place p sig problem.posed.assumptions_typed
      c.at-assumption.ensures c.at-sig.ensures in
      let ends = all_at (HasObjects parts.quiver) parts.sigs c.loop-place.place sig problem.posed.assumption_ends c.at-sig.ensures in
      let here = subst (λ x. AllByRecursion (IsZeroIn problem (model_by q x 0 c.args.values.now)) (assumptions_of problem))
      (sym (one_shape c.at-shape.ensures numbered)) all in
      absurd (true≢false (sym (c.is_zero.ensures.1 ((zero_tells problem m p typed ends).1
      (zero_at problem m parts.assumptions c.loop-place.place here c.at-assumption.ensures))) ∙ c.if-not-is_zero.true)),
)

pub loop-place-preserved : goal.loop-place-preserved
loop-place-preserved c =
    let problem = c.args.problem.now in
    let parts = problem.parts in
    let s = c.at-shape.result.now in
    let p = c.at-assumption.result.now in
    let sig = c.at-sig.result.now in
    let m = model_by (quiver_of parts.quiver) s 0 c.args.values.now in
    let typed = zip_at (IsTypedOf parts.quiver) parts.assumptions parts.sigs c.loop-place.place p sig problem.posed.assumptions_typed
    c.at-assumption.ensures c.at-sig.ensures in
    let ends = all_at (HasObjects parts.quiver) parts.sigs c.loop-place.place sig problem.posed.assumption_ends c.at-sig.ensures in
    one_more (IsZeroIn problem m) parts.assumptions c.loop-place.place p c.at-assumption.ensures c.loop-place.invariant
    ((zero_tells problem m p typed ends).0 (c.is_zero.ensures.0 c.if-not-is_zero.false))

pub returns : goal.returns
returns c = λ t numbered. (
  λ same.
      let problem = c.args.problem.now in
      let q = quiver_of problem.parts.quiver in
      let s = c.at-shape.result.now in
      let ps = problem.parts.assumptions in
      let count = length-map ps (λ p. p.terms) in
      let all : length (assumptions_of problem) ≤ c.loop-place.place = omega (arith, count, c.loop-place-test.false, c.len-place-end.ensures) in
      subst (λ x. AllByRecursion (IsZeroIn problem (model_by q x 0 c.args.values.now)) (assumptions_of problem))
      (one_shape c.at-shape.ensures numbered)
      (subst (AllByRecursion (IsZeroIn problem (model_by q s 0 c.args.values.now))) (take_all c.loop-place.place (assumptions_of problem) all)
      c.loop-place.invariant),
  λ zero. refl,
)
