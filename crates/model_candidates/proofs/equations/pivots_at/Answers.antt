use Rattle.model_candidates.proofs.Prelude.{sym, subst, true≢false, ◌∙◌, All, IfOk-weaker, quiver_of, model_by, IsAssumption, IsZeroAtSignature}
use Rattle.model_candidates.proofs.Found.{none_weaker, some_weaker}
use Rattle.model_candidates.proofs.equations.pivots_at.Goals as goal

pub are_zero-requires-clause-known : goal.are_zero-requires-clause-known
are_zero-requires-clause-known c =
    record {
      given = record { shape = c.requires.shape; tables = c.as_slice.ensures ∙ c.requires.plan.tables.letters; values = c.requires.values };
      zeros = c.requires.zeros;
      numbers = c.as_slice-2.ensures ∙ c.requires.plan.numbers;
      coefficients = c.as_slice-3.ensures ∙ c.requires.plan.tables.assumptions;
    }

pub are_zero-requires-clause-conditions : goal.are_zero-requires-clause-conditions
are_zero-requires-clause-conditions c =
    subst (All (IsAssumption c.args.problem.now 0)) (sym c.as_slice-conditions.ensures) c.requires.plan.assumptions.each_condition

pub pivots_with-requires-clause-known : goal.pivots_with-requires-clause-known
pivots_with-requires-clause-known c =
    record {
      given = record { shape = c.requires.shape; tables = c.as_slice.ensures ∙ c.requires.plan.tables.letters; values = c.requires.values };
      zeros = c.requires.zeros;
      numbers = c.as_slice-2.ensures ∙ c.requires.plan.numbers;
      coefficients = c.as_slice-3.ensures ∙ c.requires.plan.tables.assumptions;
    }

pub returns-then-not-are_zero-clause-none : goal.returns-then-not-are_zero-clause-none
returns-then-not-are_zero-clause-none c = λ hold _ _.
    let problem = c.args.problem.now in
    let there = subst (All (IsZeroAtSignature problem (model_by (quiver_of problem.parts.quiver) c.args.shape.now 0 c.args.values.now)))
    (sym c.as_slice-conditions.ensures) hold in
    true≢false (sym (c.are_zero.ensures.1 there) ∙ c.if-not-are_zero.true)

pub returns-clause-none : goal.returns-clause-none
returns-clause-none c =
    IfOk-weaker c.pivots_with.result _ _ (λ found. none_weaker found _ _ (λ none _. none)) c.pivots_with.ensures.none

pub returns-clause-hold : goal.returns-clause-hold
returns-clause-hold c =
    let problem = c.args.problem.now in
    let hold = subst (All (IsZeroAtSignature problem (model_by (quiver_of problem.parts.quiver) c.args.shape.now 0 c.args.values.now)))
    c.as_slice-conditions.ensures (c.are_zero.ensures.0 c.if-not-are_zero.false) in
    IfOk-weaker c.pivots_with.result _ _ (λ found. some_weaker found _ _ (λ _ _. hold)) c.pivots_with.ensures.pivots
