-- The equations of a plan, and what their solutions are.
use Rattle.model_candidates.proofs.Prelude.{◌≡◌, ℕ, ◌<◌, List, length, sym, ap, subst, ◌∙◌, All, quiver_of, AreValues, HasNoSolution, Shape, Problem, Plan, IsSolution, IsGreedy, model_by, set_count, filled, picked, unit_values, FitsShape, IsZeroAtSignature, system_for}
use Rattle.matrix_models.specs.Greedy as of_system
use Rattle.model_candidates.proofs.DrawnEntries.{flag_of_each}
use Rattle.model_candidates.proofs.GivenValues.{AreGiven}
use Rattle.model_candidates.proofs.KnownValues.{conditions_of_solution, conditions_same}
use Rattle.model_candidates.proofs.SolvedEntries.{IsAsDrawn, length-picked, All-picked, filled_as_drawn}
use Rattle.model_candidates.proofs.SystemSolutions.{greedy_filled, solves_from, start}

module _ {problem : Problem} {s : Shape} {plan : Plan} (fits : FitsShape problem s plan) {drawn : List ℕ} (given : AreGiven problem s drawn)
  where
    abbrev AreZero : List ℕ → Type 0
    AreZero values = All (IsZeroAtSignature problem (model_by (quiver_of problem.parts.quiver) s 0 values)) plan.assumptions.conditions

    -- the values of the entries, with 0 where they are solved for
    abbrev pub zeros : List ℕ
    zeros = filled plan.solved drawn (unit_values (set_count plan.solved) (set_count plan.solved))

    pub plan_start : AreGiven problem s zeros
    plan_start = subst (λ flags. AreGiven problem s (filled flags drawn (unit_values (set_count flags) (set_count flags))))
        (sym fits.solved)
        (start given)

    pub value_of_each_flag : length drawn ≡ length plan.solved
    value_of_each_flag = given.entries.one_each ∙ sym (flag_of_each (quiver_of problem.parts.quiver) s problem.parts.solved)
        ∙ ap length (sym fits.solved)

    pub plan_prefer : AreValues (system_for problem s plan.solved plan.assumptions.equations drawn) (picked plan.solved drawn)
    plan_prefer = record {
      one_each = length-picked plan.solved drawn value_of_each_flag;
      below = All-picked (λ value. value < s.modulus) plan.solved drawn given.entries.below;
    }

    -- the assumptions with no solved letter are zero
    pub plan_conditions : (others : List ℕ) → IsSolution problem s drawn others → AreZero drawn
    plan_conditions others = conditions_of_solution given plan.assumptions.conditions fits.assumptions.each_condition

    -- and the same with 0 for the entries that are solved for
    pub plan_hold : AreZero zeros → AreZero drawn
    plan_hold = conditions_same plan_start given (subst (λ flags. IsAsDrawn flags zeros drawn) fits.solved
        (λ place inside unset. sym (filled_as_drawn plan.solved drawn _ place inside unset))) plan.assumptions.conditions
        fits.assumptions.each_condition

    pub hold_filled : AreZero drawn → AreZero zeros
    hold_filled = conditions_same given plan_start (subst (λ flags. IsAsDrawn flags drawn zeros) fits.solved
        (filled_as_drawn plan.solved drawn _)) plan.assumptions.conditions fits.assumptions.each_condition

    pub plan_greedy : AreZero drawn → (chosen : List ℕ)
        → of_system.IsGreedy (system_for problem s plan.solved plan.assumptions.equations drawn)
        (picked plan.solved drawn) chosen
        → IsGreedy problem s drawn (filled plan.solved drawn chosen)
    plan_greedy hold chosen =
        subst (λ flags. of_system.IsGreedy (system_for problem s flags plan.assumptions.equations drawn) (picked flags drawn) chosen
        → IsGreedy problem s drawn (filled flags drawn chosen)) (sym fits.solved) (greedy_filled given fits.assumptions hold chosen)

    pub plan_none : HasNoSolution (system_for problem s plan.solved plan.assumptions.equations drawn) → (others : List ℕ)
        → IsSolution problem s drawn others → ⊥
    plan_none =
        subst (λ flags. HasNoSolution (system_for problem s flags plan.assumptions.equations drawn) → (others : List ℕ)
        → IsSolution problem s drawn others → ⊥) (sym fits.solved)
        (λ none others solution. none _ (solves_from given fits.assumptions solution))
