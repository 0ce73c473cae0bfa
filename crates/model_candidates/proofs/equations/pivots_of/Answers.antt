use Rattle.model_candidates.proofs.Prelude.{◌≡◌, length, sym, ap, ap₂, subst, ◌∙◌, All, IfOk-weaker, quiver_of, HasNoSolution, StandFor, model_by, filled, set_count, unit_values, AreEntryValues, IsZeroAtSignature, system_for, system_in, AreZeros}
use Rattle.model_candidates.proofs.FilledValues.{filled_again, length-unit_values}
use Rattle.model_candidates.proofs.Found.{none_weaker, some_weaker}
use Rattle.model_candidates.proofs.PlanSystems.{plan_start, plan_hold, hold_filled}
use Rattle.model_candidates.proofs.equations.pivots_of.Goals as goal
use Rattle.model_candidates.proofs.equations.pivots_of.Goals.{After-as_slice-3}

-- the values, with the zeros that are filled in
values_are : (c : After-as_slice-3) → c.as_slice-3.result.now
    ≡ filled c.args.plan.now.solved c.args.drawn.now (unit_values (set_count c.args.plan.now.solved) (set_count c.args.plan.now.solved))
values_are c = c.as_slice-3.ensures ∙ c.in_ok-values.ensures
    ∙ ap₂ (λ fs xs. filled fs c.args.drawn.now xs) c.as_slice.ensures
    (c.as_slice-2.ensures ∙ c.in_ok-zeros.ensures ∙ ap (λ n. unit_values n n) c.requires.plan.unknowns)

-- the equations with these values
system_same : (c : After-as_slice-3)
    → system_in c.args.problem.now c.args.shape.now
    (model_by (quiver_of c.args.problem.now.parts.quiver) c.args.shape.now 0 c.as_slice-3.result.now) c.args.plan.now.unknowns
    c.args.plan.now.assumptions.equations
    ≡ system_for c.args.problem.now c.args.shape.now c.args.plan.now.solved c.args.plan.now.assumptions.equations c.args.drawn.now
system_same c =
    ap₂ (λ xs n. system_in c.args.problem.now c.args.shape.now (model_by (quiver_of c.args.problem.now.parts.quiver) c.args.shape.now 0 xs)
    n
    c.args.plan.now.assumptions.equations) (values_are c) c.requires.plan.unknowns

pub filled-requires-clause-one_for_each : goal.filled-requires-clause-one_for_each
filled-requires-clause-one_for_each c =
    ap length (c.as_slice-2.ensures ∙ c.in_ok-zeros.ensures) ∙ length-unit_values c.args.plan.now.unknowns c.args.plan.now.unknowns
    ∙ c.requires.plan.unknowns ∙ ap set_count (sym c.as_slice.ensures)

pub pivots_at-requires-clause-values : goal.pivots_at-requires-clause-values
pivots_at-requires-clause-values c =
    subst (AreEntryValues c.args.problem.now c.args.shape.now)
    (sym (values_are (goal.at.pivots_at-requires-clause-values c).After-as_slice-3))
    (plan_start c.requires.plan (record { shape = c.requires.shape; entries = c.requires.drawn })).entries

pub returns-clause-none : goal.returns-clause-none
returns-clause-none c =
    let before = (goal.at.returns-clause-none c).After-as_slice-3 in
    let problem = c.args.problem.now in
    IfOk-weaker c.pivots_at.result _ _ (λ found. none_weaker found _ _ (λ none hold. subst HasNoSolution (system_same before) (none
    (subst (λ xs. All (IsZeroAtSignature problem (model_by (quiver_of problem.parts.quiver) c.args.shape.now 0 xs))
    c.args.plan.now.assumptions.conditions) (sym (values_are before))
    (hold_filled c.requires.plan (record { shape = c.requires.shape; entries = c.requires.drawn }) hold))))) c.pivots_at.ensures.none

pub returns-clause-hold : goal.returns-clause-hold
returns-clause-hold c =
    let problem = c.args.problem.now in
    IfOk-weaker c.pivots_at.result _ _ (λ found. some_weaker found _ _ (λ _ hold.
    plan_hold c.requires.plan (record { shape = c.requires.shape; entries = c.requires.drawn })
    (subst (λ xs. All (IsZeroAtSignature problem (model_by (quiver_of problem.parts.quiver) c.args.shape.now 0 xs))
    c.args.plan.now.assumptions.conditions) (values_are (goal.at.returns-clause-hold c).After-as_slice-3) hold)))
    c.pivots_at.ensures.hold

pub returns-clause-pivots : goal.returns-clause-pivots
returns-clause-pivots c =
    let same = system_same (goal.at.returns-clause-pivots c).After-as_slice-3 in
    IfOk-weaker c.pivots_at.result _ _ (λ found. some_weaker found _ _ (λ pivots. subst (StandFor pivots) same)) c.pivots_at.ensures.pivots

pub pivots_at-requires-clause-zeros : goal.pivots_at-requires-clause-zeros
pivots_at-requires-clause-zeros c =
    let plan = c.args.plan.now in
    let n = set_count plan.solved in
    subst (λ fs. AreZeros fs c.as_slice-3.result.now) c.requires.plan.solved
    (subst (AreZeros plan.solved) (sym (values_are (goal.at.pivots_at-requires-clause-zeros c).After-as_slice-3))
    (filled_again plan.solved c.args.drawn.now (unit_values n n)))
