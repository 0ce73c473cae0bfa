use Rattle.model_candidates.proofs.Prelude.{ℕ, ◌+◌, ◌*◌, ◌%◌, List, map, not, Some, IfNone, IfSome, IfOk, sym, ap, subst, ◌∙◌, arith, range_with_len, IfOk-weaker, quiver_of, posed_quiver, IsCandidate, IsGreedy, IsSolution, digit, model_by, word_of_stream, AreEntryValues, option_map}
use Rattle.model_candidates.proofs.CandidateModels.{modulus_of_shape}
use Rattle.model_candidates.proofs.NumberedShapes.{digits_are_values, draws_are_values, one_shape, plan_fits, posed_shape, shape_numbered}
use Rattle.model_candidates.proofs.TestedValues.{drawn_candidate, greedy_are_values}
use Rattle.model_candidates.proofs.one_candidate.candidate_values.Goals as goal

pub digits_of-requires : goal.digits_of-requires
digits_of-requires c =
    let parts = c.args.problem.now.parts in
    let s = c.at-shape.result.now in
    let shape = posed_shape c.args.problem.now _ c.at-shape.ensures in
    let least = (modulus_of_shape (quiver_of parts.quiver) s (posed_quiver parts c.args.problem.now.posed) shape).at_least in
    omega (arith, least)

pub returns-then-plan-clause-candidate : goal.returns-then-plan-clause-candidate
returns-then-plan-clause-candidate c = λ t numbered.
    let problem = c.args.problem.now in
    let q = quiver_of problem.parts.quiver in
    let plan = c.args.plan.now in
    let s = c.at-shape.result.now in
    let fits = plan_fits c.requires.plan c.at-shape.ensures in
    subst (λ x. IsCandidate problem plan.number x c.args.seed c.args.k (Some (model_by q x 0 c.in_ok-digits_of.field-0)))
    (one_shape c.at-shape.ensures numbered)
    (IsCandidate.numbered (sym fits.exhaustive ∙ c.if-plan.true) (ap (λ values. Some (model_by q s 0 values))
    (c.in_ok-digits_of.ensures ∙ ap (λ n. map (digit s.modulus c.args.k) (range_with_len 0 n)) fits.entries)))

pub returns-then-plan-clause-values : goal.returns-then-plan-clause-values
returns-then-plan-clause-values c = λ t numbered.
    let problem = c.args.problem.now in
    let parts = problem.parts in
    let s = c.at-shape.result.now in
    let shape = posed_shape problem _ c.at-shape.ensures in
    let least = (modulus_of_shape (quiver_of parts.quiver) s (posed_quiver parts problem.posed) shape).at_least in
    let fits = plan_fits c.requires.plan c.at-shape.ensures in
    let digits_is = c.in_ok-digits_of.ensures ∙ ap (λ n. map (digit s.modulus c.args.k) (range_with_len 0 n)) fits.entries in
    subst (λ x. AreEntryValues problem x c.in_ok-digits_of.field-0) (one_shape c.at-shape.ensures numbered)
    (subst (AreEntryValues problem s) (sym digits_is) (digits_are_values problem s c.args.k (omega (arith, least))))

pub draws_of-requires : goal.draws_of-requires
draws_of-requires c =
    let parts = c.args.problem.now.parts in
    let s = c.at-shape.result.now in
    let shape = posed_shape c.args.problem.now _ c.at-shape.ensures in
    let least = (modulus_of_shape (quiver_of parts.quiver) s (posed_quiver parts c.args.problem.now.posed) shape).at_least in
    omega (arith, least)

pub greedy_values-requires-clause-shape : goal.greedy_values-requires-clause-shape
greedy_values-requires-clause-shape c = posed_shape c.args.problem.now _ c.at-shape.ensures

pub greedy_values-requires-clause-plan : goal.greedy_values-requires-clause-plan
greedy_values-requires-clause-plan c = c.requires.plan.fits c.at-shape.result.now (shape_numbered c.args.problem.now
    c.requires.plan.least c.at-shape.ensures)

pub greedy_values-requires-clause-drawn : goal.greedy_values-requires-clause-drawn
greedy_values-requires-clause-drawn c =
    let problem = c.args.problem.now in
    let parts = problem.parts in
    let s = c.at-shape.result.now in
    let shape = posed_shape problem _ c.at-shape.ensures in
    let least = (modulus_of_shape (quiver_of parts.quiver) s (posed_quiver parts problem.posed) shape).at_least in
    let plan = c.args.plan.now in
    let fits = plan_fits c.requires.plan c.at-shape.ensures in
    let draw : ℕ → ℕ → ℕ = λ n j. word_of_stream c.args.seed plan.number (c.args.k * n + j) % s.modulus in
    subst (AreEntryValues problem s) (sym (c.as_slice.ensures ∙ c.in_ok-drawn.ensures ∙ ap (λ n. map (draw n) (range_with_len 0 n)) fits.entries))
    (draws_are_values problem s c.args.plan.now.number c.args.seed c.args.k (omega (arith, least)))

pub returns-clause-candidate : goal.returns-clause-candidate
returns-clause-candidate c =
    let problem = c.args.problem.now in
    let q = quiver_of problem.parts.quiver in
    let plan = c.args.plan.now in
    let s = c.at-shape.result.now in
    let r = c.greedy_values.result in
    let fits = plan_fits c.requires.plan c.at-shape.ensures in
    let draw : ℕ → ℕ → ℕ = λ n j. word_of_stream c.args.seed plan.number (c.args.k * n + j) % s.modulus in
    let drawn_is = c.as_slice.ensures ∙ c.in_ok-drawn.ensures ∙ ap (λ n. map (draw n) (range_with_len 0 n)) fits.entries in
    let is = drawn_candidate problem plan.number c.args.seed c.args.k s (ap not (sym fits.exhaustive ∙ c.if-plan.false)) r
    (subst (λ d. IfOk r (λ found. IfNone found ((values : List ℕ) → ¬ IsSolution problem s d values))) drawn_is c.greedy_values.ensures.none)
    (subst (λ d. IfOk r (λ found. IfSome found (IsGreedy problem s d))) drawn_is c.greedy_values.ensures.greedy) in
    IfOk-weaker r _ _ (λ found candidate t numbered.
    subst (λ x. IsCandidate problem plan.number x c.args.seed c.args.k (option_map (model_by q x 0) found))
    (one_shape c.at-shape.ensures numbered) candidate) is

pub returns-clause-values : goal.returns-clause-values
returns-clause-values c =
    let problem = c.args.problem.now in
    let s = c.at-shape.result.now in
    IfOk-weaker c.greedy_values.result _ _ (λ found greedy t numbered.
    subst (λ x. IfSome found (AreEntryValues problem x)) (one_shape c.at-shape.ensures numbered)
    (greedy_are_values problem s c.as_slice.result.now found greedy)) c.greedy_values.ensures.greedy
