-- What `prove` and `bench` owe: one ending, its status, and what its verdicts mean.
use Rattle.prove_command.proofs.Prelude.{◌≡◌, ◌≤◌, ℕ, zero, suc, ◌+◌, List, [], ◌∷◌, length, refl, sym, ap, subst, ◌∙◌, arith, AllZip, range_with_len, length-map, Structure, PreadditiveLaws, IsSound, Poly, Halt, Problem, polynomials, claim_at, claim_numbers, setting_of, Outcome, IsOutcomeOf, AreOutcomesOf, AreLastRules, outcomes_unique, last_rules_unique, IsEvidenceSound, IsClaimNumber, least_means, OutcomeMeans, HaltMeans, asked_rank, asked_cmp-admissible, outcomes_mean_what_they_say, each_problem_has_outcomes, proved_means, Verdict, report_of, status_of, Ending, OverStatement, IsStated, Asked, Print, AreVerdictsOn, AnswersClaims, VerdictMeans, PrintsMeant, SaysDecided, ReportsMeant, SaysReported, OwesEnding, OwesOver, owed_over, over_stated, over_statement, verdicts_status, AllZip-unique, IsItsOwnEvidence, declared_names_are_names}
use Rattle.claim_decider.specs.declared.outcome.Outcome.TheVariants as outcome
use Rattle.prove_command.proofs.OwnEvidence.{decided_is_evidence}
use Rattle.prove_command.proofs.Outcomes.{OnHalted, broken, left, OnOutcome, by_outcome, verdicts_once, verdicts_end, verdicts_follow}

-- one ending
module _ (problem : Problem) (asked : Asked) where
  outcome_once : (n : ℕ) (o o' : Outcome) → IsOutcomeOf (setting_of problem asked.budget) asked.form n (claim_at problem n) o → IsOutcomeOf (setting_of problem asked.budget) asked.form n (claim_at problem n) o' → o ≡ o'
  outcome_once n o o' one other =
      let order = problem.parts.order in
      outcomes_unique 0 (asked_rank 0 order) (setting_of problem asked.budget) asked.form n (claim_at problem n) o o' (asked_cmp-admissible 0 order) one other

  outcomes_once : (one other : List Outcome) → AreOutcomesOf (setting_of problem asked.budget) asked.form problem (claim_numbers problem) one
      → AreOutcomesOf (setting_of problem asked.budget) asked.form problem (claim_numbers problem) other → one ≡ other
  outcomes_once one other first second =
      AllZip-unique (λ n o. IsOutcomeOf (setting_of problem asked.budget) asked.form n (claim_at problem n) o) outcome_once (claim_numbers problem) one other first second

  rules_once : (one other : List Poly) → AreLastRules (setting_of problem asked.budget) asked.form problem (claim_numbers problem) one
      → AreLastRules (setting_of problem asked.budget) asked.form problem (claim_numbers problem) other → one ≡ other
  rules_once one other first second =
      let order = problem.parts.order in
      last_rules_unique 0 (asked_rank 0 order) (setting_of problem asked.budget) asked.form problem (claim_numbers problem) one other (asked_cmp-admissible 0 order) first second

claims_once : (print : Print) (asked : Asked) (ending ending' : Ending) (problem : Problem) → AnswersClaims print asked problem ending → AnswersClaims print asked problem ending' → ending ≡ ending'
claims_once print asked ending ending' problem one other =
    let outcomes : one.decides.outcomes ≡ other.decides.outcomes = outcomes_once problem asked one.decides.outcomes other.decides.outcomes one.decides.are_outcomes other.decides.are_outcomes in
    let over : AreVerdictsOn problem asked (claim_numbers problem) one.decides.outcomes other.verdicts =
    subst (λ (os : List Outcome). AreVerdictsOn problem asked (claim_numbers problem) os other.verdicts) (sym outcomes) other.decides.are_verdicts in
    let verdicts : one.verdicts ≡ other.verdicts = verdicts_once problem asked (claim_numbers problem) one.decides.outcomes one.verdicts other.verdicts one.decides.are_verdicts over in
    let rules : one.rules ≡ other.rules = rules_once problem asked one.rules other.rules one.decides.are_rules other.decides.are_rules in
    one.says ∙ (λ i. record { status = status_of (verdicts i); report = print problem.parts.quiver (rules i) (verdicts i) }) ∙ sym other.says

-- and each problem has one
claims_end : (print : Print) (asked : Asked) (problem : Problem) → (ending : Ending) × AnswersClaims print asked problem ending
claims_end print asked problem =
    let all = each_problem_has_outcomes problem asked.budget asked.form in
    let said = verdicts_end problem asked (λ n o. IsOutcomeOf (setting_of problem asked.budget) asked.form n (claim_at problem n) o) (claim_numbers problem) all.outcomes all.are_outcomes in
    let verdicts : List Verdict = said.0 in (
      record { status = status_of verdicts; report = print problem.parts.quiver all.rules verdicts },
      record {
        verdicts = verdicts;
        rules = all.rules;
        decides = record { outcomes = all.outcomes; are_outcomes = all.are_outcomes; are_verdicts = said.1; are_rules = all.are_rules };
        says = refl;
      },
    )

-- what verdicts mean
module _ {Object Arrow : Type 0} {s : Structure Object Arrow} (laws : PreadditiveLaws s) (sound : IsSound s) (with_lemmas : IsEvidenceSound s) (problem : Problem) where
  module _ (asked : Asked) where
    halted_means : (number : ℕ) (halt : Halt) (v : Verdict) → HaltMeans problem asked.budget number halt → OnHalted problem asked number halt v → VerdictMeans s problem asked.budget number v
    halted_means number halt v bounded (broken m on least is) = subst (VerdictMeans s problem asked.budget number) (sym is) (least_means problem number asked.seed m least)
    halted_means number halt v bounded (left none is) = subst (VerdictMeans s problem asked.budget number) (sym is) bounded

    outcome_means : (number : ℕ) (o : Outcome) (v : Verdict) → IsClaimNumber problem number → OutcomeMeans problem asked.budget number o → OnOutcome problem asked number o v → VerdictMeans s problem asked.budget number v
    outcome_means number (outcome.Derived e) v is adds says =
        let count : length problem.parts.claims ≡ length (polynomials problem.parts.claims) = sym (length-map problem.parts.claims (λ (x : Poly). x.terms)) in
        subst (VerdictMeans s problem asked.budget number) (sym says)
        (proved_means laws sound with_lemmas problem number e is.least (subst (λ (n : ℕ). number ≤ n) count is.most) adds)
    outcome_means number (outcome.Closed rest) v is outside says = subst (VerdictMeans s problem asked.budget number) (sym says) outside
    outcome_means number (outcome.Halted halt) v is bounded on = halted_means number halt v bounded on

    -- the outcome of a claim of the problem, with its meaning
    abbrev Meant : ℕ → Outcome → Type 0
    Meant number o = IsClaimNumber problem number × OutcomeMeans problem asked.budget number o

    -- the claims from a number on
    outcomes_meant : (first count : ℕ) (os : List Outcome) → 1 ≤ first → first + count ≤ length problem.parts.claims + 1
        → AreOutcomesOf (setting_of problem asked.budget) asked.form problem (range_with_len first count) os → AllZip Meant (range_with_len first count) os
    outcomes_meant first zero [] least most are = tt
    outcomes_meant first zero (o ∷ os) least most are = absurd are
    outcomes_meant first (suc count) [] least most are = absurd are
    outcomes_meant first (suc count) (o ∷ os) least most are =
        ((record { least = least; most = omega arith }, outcomes_mean_what_they_say problem asked.budget asked.form first o are.0), outcomes_meant (first + 1) count os (omega arith) (omega arith) are.1)

    verdicts_mean : (os : List Outcome) (vs : List Verdict) → AreOutcomesOf (setting_of problem asked.budget) asked.form problem (claim_numbers problem) os
        → AreVerdictsOn problem asked (claim_numbers problem) os vs → AllZip (VerdictMeans s problem asked.budget) (claim_numbers problem) vs
    verdicts_mean os vs outcomes verdicts =
        verdicts_follow problem asked Meant (VerdictMeans s problem asked.budget) (λ number o v meant is. outcome_means number o v meant.0 meant.1 (by_outcome problem asked number o v is)) (claim_numbers problem) os vs
        (outcomes_meant 1 (length problem.parts.claims) os (omega arith) (omega arith) outcomes) verdicts

prints_meant : {Object Arrow : Type 0} {s : Structure Object Arrow} → PreadditiveLaws s → IsSound s → IsEvidenceSound s → (print : Print) (asked : Asked) (ending : Ending) (problem : Problem)
    → AnswersClaims print asked problem ending → PrintsMeant s print asked problem ending
prints_meant {s} laws sound with_lemmas print asked ending problem answer = record {
  answer = answer;
  each = verdicts_mean laws sound with_lemmas problem asked answer.decides.outcomes answer.verdicts answer.decides.are_outcomes answer.decides.are_verdicts;
}

-- what is owed
over_claims : (print : Print) (asked : Asked) → OwesOver (AnswersClaims print asked)
over_claims print asked = record {
  one = claims_end print asked;
  no_other = λ problem ending ending'. claims_once print asked ending ending' problem;
  own = λ problem ending answer. verdicts_status ending.status answer.verdicts (ap (λ (e : Ending). e.status) answer.says);
}

-- where the claims are decided, and their verdicts are printed,
pub claims_owe : (print : Print) (asked : Asked) (statement : List ℕ)
    → OwesEnding (OverStatement statement (AnswersClaims print asked)) (λ Object Arrow s ending. SaysDecided s print asked statement ending)
claims_owe print asked statement = owed_over statement (AnswersClaims print asked) (λ Object Arrow s ending. SaysDecided s print asked statement ending) (over_claims print asked)
    (λ Object Arrow s laws sound with_lemmas cancelling ending answers.
    over_statement statement (AnswersClaims print asked) (PrintsMeant s print asked) ending (prints_meant laws sound with_lemmas print asked ending) answers)

-- the report of a statement's claims is its own evidence
pub claims_are_evidence : (asked : Asked) (statement : List ℕ) (ending : Ending) (problem : Problem) → IsStated statement problem → (answer : AnswersClaims report_of asked problem ending)
    → IsItsOwnEvidence problem ending.report answer.verdicts
claims_are_evidence asked statement ending problem is answer =
    subst (λ (e : Ending). IsItsOwnEvidence problem e.report answer.verdicts) (sym answer.says)
    (decided_is_evidence problem asked (declared_names_are_names statement is.statements problem is.tree is.elaborated) answer.verdicts answer.rules answer.decides)

reports_meant : {Object Arrow : Type 0} {s : Structure Object Arrow} → PreadditiveLaws s → IsSound s → IsEvidenceSound s → (asked : Asked) (statement : List ℕ) (ending : Ending) (problem : Problem)
    → IsStated statement problem → AnswersClaims report_of asked problem ending → ReportsMeant s asked problem ending
reports_meant laws sound with_lemmas asked statement ending problem is answer =
    let prints = prints_meant laws sound with_lemmas report_of asked ending problem answer in
    record { prints = prints; own_evidence = claims_are_evidence asked statement ending problem is prints.answer }

-- and where the whole report is
pub reports_owe : (asked : Asked) (statement : List ℕ)
    → OwesEnding (OverStatement statement (AnswersClaims report_of asked)) (λ Object Arrow s ending. SaysReported s asked statement ending)
reports_owe asked statement = owed_over statement (AnswersClaims report_of asked) (λ Object Arrow s ending. SaysReported s asked statement ending) (over_claims report_of asked)
    (λ Object Arrow s laws sound with_lemmas cancelling ending answers.
    over_stated statement (AnswersClaims report_of asked) (ReportsMeant s asked) ending (reports_meant laws sound with_lemmas asked statement ending) answers)
