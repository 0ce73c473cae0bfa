use Rattle.model_candidates.proofs.Prelude.{◌≡◌, Some, IfSome, sym, ap, subst, ◌∙◌, quiver_of, posed_quiver, IsCandidate, model_by, AreEntryValues, option_map}
use Rattle.model_candidates.proofs.NumberedShapes.{posed_shape, shape_numbered, one_shape}
use Rattle.model_candidates.proofs.one_candidate.candidate_by.Goals as goal

pub returns-in_default : goal.returns-in_default
returns-in_default c =
    let problem = c.args.problem.now in
    record {
      candidate = λ s numbered.
          subst (λ found. IsCandidate problem c.args.plan.now.number s c.args.seed c.args.k
          (option_map (model_by (quiver_of problem.parts.quiver) s 0) found)) c.in_default.is (c.in_ok-values.ensures.candidate s numbered);
    }

pub model_with-requires-clause-quiver : goal.model_with-requires-clause-quiver
model_with-requires-clause-quiver c = posed_quiver c.args.problem.now.parts c.args.problem.now.posed

pub model_with-requires-clause-shape : goal.model_with-requires-clause-shape
model_with-requires-clause-shape c = posed_shape c.args.problem.now _ c.at-shape.ensures

pub model_with-requires-clause-one_each : goal.model_with-requires-clause-one_each
model_with-requires-clause-one_each c =
    let problem = c.args.problem.now in
    let s = c.at-shape.result.now in
    let numbered = shape_numbered problem c.requires.plan.least c.at-shape.ensures in
    (subst (AreEntryValues problem s) (sym c.as_slice.ensures)
    (subst (λ found. IfSome found (AreEntryValues problem s)) c.in-Some.is (c.in_ok-values.ensures.values s numbered))).one_each

pub model_with-requires-clause-below : goal.model_with-requires-clause-below
model_with-requires-clause-below c =
    let problem = c.args.problem.now in
    let s = c.at-shape.result.now in
    let numbered = shape_numbered problem c.requires.plan.least c.at-shape.ensures in
    (subst (AreEntryValues problem s) (sym c.as_slice.ensures)
    (subst (λ found. IfSome found (AreEntryValues problem s)) c.in-Some.is (c.in_ok-values.ensures.values s numbered))).below

pub returns : goal.returns
returns c =
    let problem = c.args.problem.now in
    let q = quiver_of problem.parts.quiver in
    let number = c.args.plan.now.number in
    let s = c.at-shape.result.now in
    let numbered = shape_numbered problem c.requires.plan.least c.at-shape.ensures in
    let made : c.in_ok-model_with.field-0 ≡ model_by q s 0 c.in-Some.values =
    c.in_ok-model_with.ensures ∙ ap (model_by q s 0) c.as_slice.ensures in
    let is = subst (λ found. IsCandidate problem number s c.args.seed c.args.k (option_map (model_by q s 0) found)) c.in-Some.is
    (c.in_ok-values.ensures.candidate s numbered) in
    record {
      candidate = λ t other.
          subst (λ x. IsCandidate problem number x c.args.seed c.args.k (Some c.in_ok-model_with.field-0))
          (one_shape c.at-shape.ensures other) (subst (λ m. IsCandidate problem number s c.args.seed c.args.k (Some m)) (sym made) is);
    }
