use Rattle.claim_decider.proofs.Prelude.{rules, ◌≡◌, ◌<◌, [], length, ap, sym, ◌∙◌, refl, arith, Poly, start, setting_of, start_of, claim_at, at_once}
use Rattle.claim_decider.specs.declared.outcome.Outcome.TheVariants as outcome
use Rattle.claim_decider.proofs.ClaimNumbers.{claim_at-place, nothing}
use Rattle.claim_decider.proofs.Judging.{left, no_rules}
use Rattle.claim_decider.proofs.case.open_case.Goals as goal

-- the claim has no terms
pub returns-then-terms-eq0-clause-case : goal.returns-then-terms-eq0-clause-case
returns-then-terms-eq0-clause-case c = λ budget.
    let is : claim_at c.args.problem.now c.args.number ≡ c.at-claim.result.now.terms = claim_at-place c.args.problem.now c.args.number c.at-claim.result.now c.requires.number.least (search rules) in
    let none : length c.at-claim.result.now.terms ≡ 0 = search rules in
    record {
      rounds = 0;
      state = start;
      gets = at_once (is ∙ nothing c.at-claim.result.now.terms none) refl refl (ap outcome.Derived c.prove_zero-evidence.ensures);
      early = omega arith;
    }

-- by no rules all of the claim is left
pub returns-clause-case : goal.returns-clause-case
returns-clause-case c = λ budget.
    let problem = c.args.problem.now in
    let claim = claim_at problem c.args.number in
    let is : claim ≡ c.at-claim.result.now.terms = claim_at-place problem c.args.number c.at-claim.result.now c.requires.number.least (search rules) in
    let is_copy : c.in_ok-copy.field-0 ≡ c.at-claim.result.now = search rules in
    let copied : c.in_ok-copy.field-0.terms ≡ c.at-claim.result.now.terms = ap (λ (p : Poly). p.terms) is_copy in
    let same : claim ≡ c.in_ok-copy.field-0.terms = is ∙ sym copied in
    let some_terms : 0 < length c.at-claim.result.now.terms = search rules in
    let some : 0 < length claim = rw is some_terms in
    record {
      open_yet = (some, refl);
      left = left (setting_of problem budget) [] claim c.in_ok-copy.field-0.terms (start_of claim) (no_rules (setting_of problem budget).compare claim budget.steps) same (rw copied some_terms);
    }
