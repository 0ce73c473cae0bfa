-- What is made of a claim that a run reduces to zero: evidence that adds up, or a halt, and it follows in any case.
use Rattle.outcome_laws.proofs.Prelude.{◌≡◌, ℕ, List, [], length, Ok, sym, ap, ◌∙◌, subst, append-nil, Term, coefficient_of, poly_sum, IsCombination, InRationalIdeal, Cofactors, LemmaCertificate, traced_sum, IsRecord, AreRecords, expansion_of, gathered_of, Traces, rows_of, IsEvidenceOf, lemma_polys, parts, gatherings_add_up, expansions_balance, asked_cmp, Compare, letter_count, Rule, State, polynomials_of, normal_form_of, Problem, polynomials, claim_at, IsReduced, zero_is_inside, traced_sum-by_rules, Budget, RunState, IsRunState, setting_of, record_of, claim_record, done_after}
use Rattle.outcome_laws.proofs.LimitedRuns.{numbered_fits, records_limited}
use Rattle.outcome_laws.proofs.OpenRuns.{claim_reduced}
use Rattle.outcome_laws.proofs.ProblemStates.{state_kept}
use Rattle.outcome_laws.proofs.ReducedWithin.{FitsState, reduced_within}

-- where nothing is left, the rows of a reduction add up to the multiplier times the polynomial
pub zero_traces : (letters : ℕ) (compare : Compare) (generators : List (List Term)) (rules : List Rule) (p : List Term) (s : State)
    → IsReduced letters compare rules p s → s.rest ≡ [] → Traces generators (polynomials_of rules) (record_of s) p
zero_traces letters compare generators rules p s reduced none = record {
  at = λ w.
      let sum = traced_sum [] (polynomials_of rules) s.rows in
      ap (λ q. coefficient_of q w) (ap (λ rs. traced_sum generators (polynomials_of rs) s.rows) (sym (append-nil rules)) ∙ traced_sum-by_rules generators rules [] s.rows reduced.by_rules)
      ∙ sym (ap (λ r. coefficient_of (poly_sum r sum) w) none) ∙ sym (reduced.balances.at w);
}

-- a claim whose rest is zero after this many rounds
module _ (problem : Problem) (budget : Budget) (number rounds : ℕ) (s : RunState) (run : IsRunState (setting_of problem budget) rounds s)
    (left : State) (ends : normal_form_of (asked_cmp problem.parts.order) s.rules (claim_at problem number) budget.steps ≡ Ok left) (none : left.rest ≡ []) where
  abbrev letters : ℕ
  letters = letter_count problem.parts.quiver

  abbrev compare : Compare
  compare = asked_cmp problem.parts.order

  abbrev generators : List (List Term)
  generators = polynomials problem.generators

  abbrev claim : List Term
  claim = claim_at problem number

  reduced : IsReduced letters compare s.rules claim left
  reduced = claim_reduced problem budget number rounds s run left ends

  pub follows : InRationalIdeal generators claim
  follows =
      zero_is_inside letters compare generators s.rules s.made (done_after (setting_of problem budget) rounds) s.treated claim left (state_kept problem budget rounds s run).kept reduced
      (record { at = λ w. ap (λ p. coefficient_of p w) none })

  -- what it leaves of the claim is within the limits
  pub within : FitsState left
  within =
      reduced_within letters compare s.rules (state_kept problem budget rounds s run).kept.are_rules claim budget.steps left (numbered_fits problem.parts.claims number) ends

  records : AreRecords s.made
  records = (records_limited problem budget rounds s run).are_records

  pub claim_is_record : IsRecord (length s.made) (record_of left)
  claim_is_record =
      let kept = (state_kept problem budget rounds s run).kept in
      subst (λ n. IsRecord n (record_of left)) (sym kept.recorded.one_each)
      (claim_record letters compare s.rules claim budget.steps left kept.are_rules ends within.multiplier (λ k r inside. (within.rows k r inside).coefficient))

  traced : Traces generators (polynomials_of s.rules) (record_of left) claim
  traced = zero_traces letters compare generators s.rules claim left reduced none

  pub expansion_adds_up : (c : Cofactors) → expansion_of s.made (record_of left) ≡ Ok c → IsCombination generators (rows_of c.rows) c.denominator claim
  expansion_adds_up c is =
      expansions_balance generators (polynomials_of s.rules) s.made (record_of left) claim c records claim_is_record (state_kept problem budget rounds s run).kept.recorded.traces traced is

  pub gathering_adds_up : (c : LemmaCertificate) → gathered_of number s.made (record_of left) ≡ Ok c → IsEvidenceOf generators (lemma_polys (polynomials_of s.rules) s.made (record_of left)) c claim
  gathering_adds_up c is =
      gatherings_add_up generators (polynomials_of s.rules) number s.made (record_of left) claim c records claim_is_record (state_kept problem budget rounds s run).kept.recorded.traces traced is

  -- a gathered certificate names the claim
  pub gathering_names : (c : LemmaCertificate) → gathered_of number s.made (record_of left) ≡ Ok c → c.claim ≡ number
  gathering_names c is = sym (ap (λ (x : LemmaCertificate). x.claim) (parts number s.made (record_of left) c is).is)
