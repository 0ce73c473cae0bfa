use Rattle.equation_chain.proofs.Prelude.{rules, ◌≡◌, ◌≢◌, pos, length, slice_get, sym, ap, ◌∙◌}
use Rattle.equation_chain.proofs.Typed.{step_by_first, zero_is_none, empty_is_none, no_terms}
use Rattle.equation_chain.proofs.step.is_step.Goals as goal

pub returns-then-row-eq0 : goal.returns-then-row-eq0
returns-then-row-eq0 c = sym (zero_is_none c.args.problem.now c.args.claim c.args.row.now (search rules))

pub returns-then-terms-eq0 : goal.returns-then-terms-eq0
returns-then-terms-eq0 c =
    let none : length c.args.generator.now.terms ≡ 0 = search rules in
    sym (empty_is_none c.args.problem.now c.args.claim c.args.row.now (sym c.requires ∙ no_terms c.args.generator.now.terms none))

pub returns : goal.returns
returns c =
    let nonzero : c.args.row.now.coef ≢ pos 0 = search rules in
    let there = ap (λ g. slice_get g 0) (sym c.requires) ∙ c.term-first.ensures in
    c.leads.ensures ∙ step_by_first c.args.problem.now c.args.claim c.args.row.now _ c.claim_ends-ends.result.source.0 c.claim_ends-ends.result.target.0 there nonzero c.claim_ends-ends.ensures
