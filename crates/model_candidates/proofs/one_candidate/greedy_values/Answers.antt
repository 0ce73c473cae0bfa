use Rattle.model_candidates.proofs.Prelude.{◌≡◌, ◌<◌, IfNone, IfSome, length, sym, ap, ap₂, subst, ◌∙◌, HasNoSolution, StandFor, IsGreedy, model_by, filled, picked, set_count, IsZeroAtSignature, system_for, quiver_of, All}
use Rattle.matrix_models.specs.Greedy as of_system
use Rattle.model_candidates.proofs.DrawnEntries.{flag_of_each}
use Rattle.model_candidates.proofs.GivenValues.{AreGiven}
use Rattle.model_candidates.proofs.PlanSystems.{plan_conditions, plan_prefer, plan_greedy, plan_none}
use Rattle.model_candidates.proofs.one_candidate.greedy_values.Goals as goal
use Rattle.model_candidates.proofs.one_candidate.greedy_values.Goals.{After-as_slice-solved, In-Some, In_ok-values}

-- a drawn value for each flag
flagged : (c : After-as_slice-solved) → length c.args.drawn.now ≡ length c.as_slice-solved.result.now
flagged c =
    let problem = c.args.problem.now in
    c.requires.drawn.one_each ∙ sym (flag_of_each (quiver_of problem.parts.quiver) c.args.shape.now problem.parts.solved)
    ∙ ap length (sym (c.as_slice-solved.ensures ∙ c.requires.plan.solved))

-- the equations that the pivots stand for, and the values that solve them
stand : (c : In-Some) → StandFor c.in-Some.pivots
    (system_for c.args.problem.now c.args.shape.now c.args.plan.now.solved c.args.plan.now.assumptions.equations c.args.drawn.now)
stand c = subst (λ found. IfSome found (λ pivots. StandFor pivots (system_for c.args.problem.now c.args.shape.now c.args.plan.now.solved
    c.args.plan.now.assumptions.equations c.args.drawn.now))) c.in-Some.is c.in_ok-pivots.ensures.pivots

greedy : (c : In_ok-values) → StandFor c.in-Some.pivots
    (system_for c.args.problem.now c.args.shape.now c.args.plan.now.solved c.args.plan.now.assumptions.equations c.args.drawn.now)
    → of_system.IsGreedy
    (system_for c.args.problem.now c.args.shape.now c.args.plan.now.solved c.args.plan.now.assumptions.equations c.args.drawn.now)
    (picked c.args.plan.now.solved c.args.drawn.now) c.in_ok-values.values
greedy c is =
    let system = system_for c.args.problem.now c.args.shape.now c.args.plan.now.solved c.args.plan.now.assumptions.equations
    c.args.drawn.now in
    subst (λ flags. of_system.IsGreedy system (picked flags c.args.drawn.now) c.in_ok-values.values) c.as_slice-solved.ensures
    (c.in_ok-values.ensures system is)

pub solution_by-requires-clause-one_each : goal.solution_by-requires-clause-one_each
solution_by-requires-clause-one_each c = flagged (goal.at.solution_by-requires-clause-one_each c).After-as_slice-solved

pub solution_by-requires-clause-size : goal.solution_by-requires-clause-size
solution_by-requires-clause-size c =
    let prefer = plan_prefer c.requires.plan (record { shape = c.requires.shape; entries = c.requires.drawn }) in
    ap (λ flags. length (picked flags c.args.drawn.now)) c.as_slice-solved.ensures ∙ prefer.one_each
    ∙ sym (stand (goal.at.solution_by-requires-clause-size c).In-Some).size

pub solution_by-requires-clause-below : goal.solution_by-requires-clause-below
solution_by-requires-clause-below c =
    let s = c.args.shape.now in
    let drawn = c.args.drawn.now in
    let prefer = plan_prefer c.requires.plan (record { shape = c.requires.shape; entries = c.requires.drawn }) in
    subst (λ m. All (λ value. value < m) (picked c.as_slice-solved.result.now drawn))
    (sym (stand (goal.at.solution_by-requires-clause-below c).In-Some).modulus)
    (subst (λ flags. All (λ value. value < s.modulus) (picked flags drawn)) (sym c.as_slice-solved.ensures) prefer.below)

pub filled-requires-clause-one_each : goal.filled-requires-clause-one_each
filled-requires-clause-one_each c = flagged (goal.at.filled-requires-clause-one_each c).After-as_slice-solved

pub filled-requires-clause-one_for_each : goal.filled-requires-clause-one_for_each
filled-requires-clause-one_for_each c =
    let passed = goal.at.filled-requires-clause-one_for_each c in
    ap length c.as_slice.ensures
    ∙ (greedy passed.In_ok-values (stand passed.In-Some)).solves.are_values.one_each
    ∙ ap set_count (sym c.as_slice-solved.ensures)

pub returns-clause-greedy : goal.returns-clause-greedy
returns-clause-greedy c =
    let problem = c.args.problem.now in
    let s = c.args.shape.now in
    let plan = c.args.plan.now in
    let drawn = c.args.drawn.now in
    let hold = subst (λ found. IfSome found (λ _. All (IsZeroAtSignature problem (model_by (quiver_of problem.parts.quiver) s 0 drawn))
    plan.assumptions.conditions)) c.in-Some.is c.in_ok-pivots.ensures.hold in
    let all_is = c.in_ok-filled.ensures ∙ ap₂ (λ flags xs. filled flags drawn xs) c.as_slice-solved.ensures c.as_slice.ensures in
    subst (IsGreedy problem s drawn) (sym all_is)
    (plan_greedy c.requires.plan (record { shape = c.requires.shape; entries = c.requires.drawn }) hold c.in_ok-values.values
    (greedy (goal.at.returns-clause-greedy c).In_ok-values (stand (goal.at.returns-clause-greedy c).In-Some)))

-- a solution would show that the conditions hold, and then solve the equations
pub returns-in_default-clause-none : goal.returns-in_default-clause-none
returns-in_default-clause-none c = λ others solution.
    let problem = c.args.problem.now in
    let s = c.args.shape.now in
    let plan = c.args.plan.now in
    let drawn = c.args.drawn.now in
    let given : AreGiven problem s drawn = record { shape = c.requires.shape; entries = c.requires.drawn } in
    let none = subst (λ found. IfNone found (All (IsZeroAtSignature problem (model_by (quiver_of problem.parts.quiver) s 0 drawn)) plan.assumptions.conditions
    → HasNoSolution (system_for problem s plan.solved plan.assumptions.equations drawn))) c.in_default.is c.in_ok-pivots.ensures.none in
    plan_none c.requires.plan given (none (plan_conditions c.requires.plan given others solution)) others solution
