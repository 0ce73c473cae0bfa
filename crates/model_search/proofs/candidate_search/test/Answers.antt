use Rattle.model_search.proofs.Prelude.{None, Some, IfSome, sym, subst, ◌∙◌, true≢false, option_map, quiver_of, IsCandidate, model_by, AreEntryValues, linear_in_candidate}
use Rattle.model_search.proofs.Tested.{flags_refute, tested_by, tested_without_model}
use Rattle.model_search.proofs.candidate_search.test.Goals as goal

pub returns-in_default : goal.returns-in_default
returns-in_default c =
    let pass = c.args.pass.now in
    let problem = pass.problem.now in
    let given = c.requires.tested in
    let is = subst (λ found. IsCandidate problem pass.plan.now.number given.shape pass.seed c.args.candidate
    (option_map (model_by (quiver_of problem.parts.quiver) given.shape 0) found)) c.in_default.is
    (c.in_ok-drawn.ensures.candidate given.shape given.numbered) in
    tested_without_model problem pass.seed pass.plan.now.number c.args.candidate given.shape given.numbered pass.claims.now c.args.found.now is

pub is_model-requires-clause-plan : goal.is_model-requires-clause-plan
is_model-requires-clause-plan c = c.requires.tested.plan_is

pub is_model-requires-clause-values : goal.is_model-requires-clause-values
is_model-requires-clause-values c = λ s numbered.
    let problem = c.args.pass.now.problem.now in
    subst (AreEntryValues problem s) (sym c.as_slice-entries.ensures)
    (subst (λ found. IfSome found (AreEntryValues problem s)) c.in-Some.is (c.in_ok-drawn.ensures.values s numbered))

-- the linear assumptions are zero in a candidate that is drawn
pub is_model-requires-clause-linear : goal.is_model-requires-clause-linear
is_model-requires-clause-linear c = λ s numbered drawn.
    let pass = c.args.pass.now in
    let problem = pass.problem.now in
    let q = quiver_of problem.parts.quiver in
    let is = subst (λ values. IsCandidate problem pass.plan.now.number s pass.seed c.args.candidate (Some (model_by q s 0 values)))
    (sym c.as_slice-entries.ensures)
    (subst (λ found. IsCandidate problem pass.plan.now.number s pass.seed c.args.candidate (option_map (model_by q s 0) found))
    c.in-Some.is (c.in_ok-drawn.ensures.candidate s numbered)) in
    linear_in_candidate problem pass.plan.now.number pass.seed c.args.candidate s (model_by q s 0 c.as_slice-entries.result.now) drawn is

pub returns-then-not-is_model : goal.returns-then-not-is_model
returns-then-not-is_model c =
    let pass = c.args.pass.now in
    let problem = pass.problem.now in
    let given = c.requires.tested in
    let q = quiver_of problem.parts.quiver in
    let m = model_by q given.shape 0 c.as_slice-entries.result.now in
    let is = subst (λ values. IsCandidate problem pass.plan.now.number given.shape pass.seed c.args.candidate (Some (model_by q given.shape 0 values)))
    (sym c.as_slice-entries.ensures)
    (subst (λ found. IsCandidate problem pass.plan.now.number given.shape pass.seed c.args.candidate (option_map (model_by q given.shape 0) found))
    c.in-Some.is (c.in_ok-drawn.ensures.candidate given.shape given.numbered)) in
    tested_by problem pass.seed pass.plan.now.number c.args.candidate given.shape given.numbered pass.claims.now c.args.found.now m is given.in_range
    None (λ zero. true≢false (sym ((c.is_model.ensures given.shape given.numbered).1 zero) ∙ c.if-not-is_model.true))

pub broken_claims-requires-clause-claims : goal.broken_claims-requires-clause-claims
broken_claims-requires-clause-claims c = c.requires.tested.claims_are

pub broken_claims-requires-clause-plan : goal.broken_claims-requires-clause-plan
broken_claims-requires-clause-plan c = c.requires.tested.plan_is

pub broken_claims-requires-clause-values : goal.broken_claims-requires-clause-values
broken_claims-requires-clause-values c = λ s numbered.
    let problem = c.args.pass.now.problem.now in
    subst (AreEntryValues problem s) (sym c.as_slice-entries.ensures)
    (subst (λ found. IfSome found (AreEntryValues problem s)) c.in-Some.is (c.in_ok-drawn.ensures.values s numbered))

pub returns : goal.returns
returns c =
    let pass = c.args.pass.now in
    let problem = pass.problem.now in
    let given = c.requires.tested in
    let q = quiver_of problem.parts.quiver in
    let m = model_by q given.shape 0 c.as_slice-entries.result.now in
    let flags = c.in_ok-broken_claims.field-0 in
    let is = subst (λ values. IsCandidate problem pass.plan.now.number given.shape pass.seed c.args.candidate (Some (model_by q given.shape 0 values)))
    (sym c.as_slice-entries.ensures)
    (subst (λ found. IsCandidate problem pass.plan.now.number given.shape pass.seed c.args.candidate (option_map (model_by q given.shape 0) found))
    c.in-Some.is (c.in_ok-drawn.ensures.candidate given.shape given.numbered)) in
    let zero = (c.is_model.ensures given.shape given.numbered).0 c.if-not-is_model.false in
    tested_by problem pass.seed pass.plan.now.number c.args.candidate given.shape given.numbered pass.claims.now c.args.found.now m is given.in_range
    (Some flags)
    (flags_refute problem pass.seed pass.plan.now.number c.args.candidate given.shape given.numbered pass.claims.now c.args.found.now m is
    given.claims_are zero flags (c.in_ok-broken_claims.ensures given.shape given.numbered))
