use Rattle.claim_decider.proofs.Prelude.{rules, ◌≡◌, ◌<◌, ◌-◌, length, to_z, of_z, Ok, ap, sym, subst, ◌∙◌, refl, w128, All, IsCoefficient, made_cmp, asked_cmp, letters_of, IsRecord, AreRecords, State, ExplainsHalt, normal_form_of, setting_of, IsCauseOf, claim_at, halted_at, record_of, IsProved, IsDoneBy}
use Rattle.cofactor_trace.specs.declared.halt.Place.TheVariants as place
use Rattle.claim_decider.proofs.ClaimNumbers.{claim_at-place, nothing}
use Rattle.claim_decider.proofs.Judging.{same_reduction, left, done_by_fault, done_by_zero, claim_record}
use Rattle.claim_decider.proofs.case.judge.Goals as goal

pub returns-in-Err : goal.returns-in-Err
returns-in-Err c =
    let problem = c.args.problem.now in
    let completion = c.args.completion.now in
    let p = c.at-claim.result.now.terms in
    let claim = claim_at problem c.args.number in
    let steps = completion.budget.steps in
    let is : claim ≡ p = claim_at-place problem c.args.number c.at-claim.result.now c.requires.number.least (search rules) in
    let same = same_reduction completion.rules.order problem.parts.order completion.rules.rules p claim steps c.requires.of_problem.compares is in
    let explained : ExplainsHalt (normal_form_of (made_cmp completion.rules.order) completion.rules.rules p steps) c.in-Err.fault = search rules in
    let why : IsCauseOf c.in-Err.fault c.in_ok-reduction_cause-in-Err.field-0 = search rules in
    let halts : c.halted-outcome.result ≡ halted_at (place.Claim (completion.rounds - 1)) c.in_ok-reduction_cause-in-Err.field-0 = search rules in
    let nf = normal_form_of (asked_cmp problem.parts.order) completion.rules.rules claim steps in
    subst (λ o. IsDoneBy c.args.format c.args.number (completion.rounds - 1) completion.made nf o) (sym halts)
    (done_by_fault c.args.format c.args.number (completion.rounds - 1) completion.made nf c.in-Err.fault c.in_ok-reduction_cause-in-Err.field-0 (subst (λ r. ExplainsHalt r c.in-Err.fault) same explained) why)

pub returns-then-terms-gt0 : goal.returns-then-terms-gt0
returns-then-terms-gt0 c =
    let problem = c.args.problem.now in
    let completion = c.args.completion.now in
    let p = c.at-claim.result.now.terms in
    let claim = claim_at problem c.args.number in
    let steps = completion.budget.steps in
    let is : claim ≡ p = claim_at-place problem c.args.number c.at-claim.result.now c.requires.number.least (search rules) in
    let same = same_reduction completion.rules.order problem.parts.order completion.rules.rules p claim steps c.requires.of_problem.compares is in
    let r = c.in-Ok.reduced in
    let s : State = record { multiplier = r.multiplier; rest = r.rest.terms; rows = r.rows; used = r.used } in
    let ends : normal_form_of (made_cmp completion.rules.order) completion.rules.rules p steps ≡ Ok s = search rules in
    let some : 0 < length r.rest.terms = search rules in
    left (setting_of problem completion.budget) completion.rules.rules claim r.rest.terms s (sym same ∙ ends) refl some

pub prove-requires-clause-records : goal.prove-requires-clause-records
prove-requires-clause-records c =
    let made_are : c.made.result.now ≡ c.args.completion.now.made = search rules in
    subst AreRecords (sym made_are) c.requires.of_problem.records.records

pub prove-requires-clause-record : goal.prove-requires-clause-record
prove-requires-clause-record c =
    let completion = c.args.completion.now in
    let p = c.at-claim.result.now.terms in
    let r = c.in-Ok.reduced in
    let s : State = record { multiplier = r.multiplier; rest = r.rest.terms; rows = r.rows; used = r.used } in
    let ends : normal_form_of (made_cmp completion.rules.order) completion.rules.rules p completion.budget.steps ≡ Ok s = search rules in
    let multiplier : IsCoefficient r.multiplier = search rules in
    let rows : All (λ row. IsCoefficient row.coef) r.rows = search rules in
    let is_record = claim_record (letters_of completion.rules.order) (made_cmp completion.rules.order) completion.rules.rules p completion.budget.steps s completion.rules.each ends multiplier rows in
    let made_are : c.made.result.now ≡ completion.made = search rules in
    let one_each : length c.made.result.now ≡ length completion.rules.rules = ap length made_are ∙ c.requires.of_problem.records.one_each in
    let scale : to_z w128 (of_z w128 r.multiplier) ≡ r.multiplier = search rules in
    subst (λ k. IsRecord (length c.made.result.now) (record { scale = k; rows = r.rows })) (sym scale)
    (subst (λ n. IsRecord n (record_of s)) (sym one_each) is_record)

pub returns : goal.returns
returns c =
    let problem = c.args.problem.now in
    let completion = c.args.completion.now in
    let p = c.at-claim.result.now.terms in
    let claim = claim_at problem c.args.number in
    let steps = completion.budget.steps in
    let round = completion.rounds - 1 in
    let is : claim ≡ p = claim_at-place problem c.args.number c.at-claim.result.now c.requires.number.least (search rules) in
    let same = same_reduction completion.rules.order problem.parts.order completion.rules.rules p claim steps c.requires.of_problem.compares is in
    let r = c.in-Ok.reduced in
    let s : State = record { multiplier = r.multiplier; rest = r.rest.terms; rows = r.rows; used = r.used } in
    let ends : normal_form_of (made_cmp completion.rules.order) completion.rules.rules p steps ≡ Ok s = search rules in
    let none : length r.rest.terms ≡ 0 = search rules in
    let o = c.in_ok-outcome.outcome in
    let proved : IsProved c.args.format c.args.number (place.Certificate round) completion.made (record_of s) o = search rules in
    done_by_zero c.args.format c.args.number round completion.made (normal_form_of (asked_cmp problem.parts.order) completion.rules.rules claim steps) s o (sym same ∙ ends) (nothing r.rest.terms none) proved
