use Rattle.evidence_commands.proofs.Prelude.{List, sym, subst, ◌∙◌, All, is_ok, InRationalIdeal, asked_cmp, letter_count, Rule, IsRule, polynomials_of, Resolved, polynomials, claim_at, AreSharp, is_sharp}
use Rattle.evidence_commands.proofs.Bases.{rules_generate, rules_miss_claim, rules_from_test, test_from_rules, same_test}
use Rattle.evidence_commands.proofs.confirm.is_sharp.Goals as goal

pub normal_forms-requires-clause-are_rules : goal.normal_forms-requires-clause-are_rules
normal_forms-requires-clause-are_rules c =
    let problem = c.args.problem.now in
    subst (λ (list : List Rule). All (IsRule (letter_count problem.parts.quiver) (asked_cmp problem.parts.order)) list) (sym c.requires.rules) c.requires.means.are_rules

pub normal_forms-requires-clause-resolved : goal.normal_forms-requires-clause-resolved
normal_forms-requires-clause-resolved c =
    let problem = c.args.problem.now in
    subst (λ (list : List Rule). Resolved (letter_count problem.parts.quiver) (asked_cmp problem.parts.order) list) (sym c.requires.rules) c.requires.means.resolved

pub normal_forms-requires-clause-generated : goal.normal_forms-requires-clause-generated
normal_forms-requires-clause-generated c =
    let problem = c.args.problem.now in
    subst (λ (list : List Rule). All (InRationalIdeal (polynomials_of list)) (polynomials problem.generators)) (sym c.requires.rules)
    (rules_generate problem c.args.basis.now c.requires.means)

pub normal_forms-requires-clause-first : goal.normal_forms-requires-clause-first
normal_forms-requires-clause-first c = c.requires.closed.has_rules.claim.least

pub normal_forms-requires-clause-last : goal.normal_forms-requires-clause-last
normal_forms-requires-clause-last c = c.requires.closed.has_rules.claim.most

pub normal_forms-requires-clause-outside : goal.normal_forms-requires-clause-outside
normal_forms-requires-clause-outside c inside =
    let problem = c.args.problem.now in
    let basis = c.args.basis.now in
    rules_miss_claim problem basis c.requires.means
    (subst (λ (list : List Rule). InRationalIdeal (polynomials_of list) (claim_at problem basis.claim)) c.requires.rules inside)

-- the call is Ok exactly where the test of the polynomials holds
pub returns : goal.returns
returns c =
    let problem = c.args.problem.now in
    let basis = c.args.basis.now in
    let means = c.requires.means in
    let same = c.requires.rules in
    c.is_ok.ensures.value ∙ same_test (is_ok c.normal_forms.result) (is_sharp problem.parts (polynomials basis.rules))
    (λ ok. test_from_rules problem basis means (subst (λ (list : List Rule). AreSharp problem.parts list) same (c.normal_forms.ensures.typed.0 ok)))
    (λ holds. c.normal_forms.ensures.typed.1
    (subst (λ (list : List Rule). AreSharp problem.parts list) (sym same) (rules_from_test problem basis means holds)))
