-- What solves the equations that drawn entries leave is what makes the linear assumptions zero, and so are the greedy solutions.
use Rattle.model_candidates.proofs.Prelude.{◌≡◌, ℕ, ◌+◌, ◌<◌, ◌≤◌, suc, Bool, true, false, List, [], ◌∷◌, ◌++◌, length, get_or, take, drop, refl, sym, ap, subst, ◌∙◌, All, AllByRecursion, append_assoc, take_more, take-append-drop, All-from_recursion, All-weaker, recursion_from_All, Quiver, quiver_of, System, Solves, Shape, Problem, LinearAssumption, IsSolution, CanTake, IsGreedy, solved_flags, set_count, filled, picked, unit_values, IsAssumption, IsZeroAtSignature, AreLinearAssumptions, system_for}
use Rattle.matrix_models.specs.Greedy as of_system
use Rattle.model_candidates.proofs.AssumptionTerms.{linear_zero}
use Rattle.model_candidates.proofs.AssumptionsSuffice.{linear_assumptions_are_zero, linear_generators_are_zero}
use Rattle.model_candidates.proofs.DrawnEntries.{flag_of_each, drawn_by_flags, drawn_by_entries}
use Rattle.model_candidates.proofs.FilledValues.{length-filled, All-filled, unit_values_below, zeros_there}
use Rattle.model_candidates.proofs.GivenValues.{AreGiven, is_modulus, maps_are, model, model_is}
use Rattle.model_candidates.proofs.KnownValues.{conditions_same}
use Rattle.model_candidates.proofs.SolvedEntries.{IsAsDrawn, length-picked, All-picked, filled_as_drawn, before, before_within, filled_set, picked_set, filled-take, picked-take}
use Rattle.model_candidates.proofs.SolvedRows.{all_hold, all_zero}

-- a solution shows that each entry can take its value in it
pub can_take_own : {problem : Problem} {s : Shape} {drawn values : List ℕ} {place : ℕ} → place < length values
    → IsSolution problem s drawn values
    → CanTake problem s drawn values place (get_or values place 0)
can_take_own {problem} {s} {drawn} {values} {place} within solution = record {
  rest = drop (place + 1) values;
  solution = subst (IsSolution problem s drawn) (sym (ap (λ x. x ++ drop (place + 1) values) (sym (take_more values place 0 within))
      ∙ take-append-drop (place + 1) values)) solution;
}

module _ {problem : Problem} {s : Shape} {drawn : List ℕ} (given : AreGiven problem s drawn) where
  abbrev q : Quiver
  q = quiver_of problem.parts.quiver

  abbrev solved : List Bool
  solved = solved_flags q s problem.parts.solved

  abbrev n : ℕ
  n = set_count solved

  flag_each : length drawn ≡ length solved
  flag_each = given.entries.one_each ∙ sym (flag_of_each q s problem.parts.solved)

  pub filled_given : (values : List ℕ) → All (λ value. value < s.modulus) values → AreGiven problem s (filled solved drawn values)
  filled_given values below = record {
    shape = given.shape;
    entries = record {
      one_each = length-filled solved drawn values flag_each ∙ given.entries.one_each;
      below = All-filled (λ value. value < s.modulus) solved drawn values given.entries.below below;
    };
  }

  -- where the entries that are solved for are 0
  pub start : AreGiven problem s (filled solved drawn (unit_values n n))
  start = filled_given (unit_values n n) (unit_values_below n n (is_modulus given).at_least)

  as_start : (values : List ℕ) → IsAsDrawn solved drawn values → IsAsDrawn solved (filled solved drawn (unit_values n n)) values
  as_start values as_drawn place inside unset = as_drawn place inside unset
      ∙ sym (filled_as_drawn solved drawn (unit_values n n) place inside unset)

  module _ {conditions gs : List LinearAssumption} (are : AreLinearAssumptions problem conditions gs) where
    abbrev system : System
    system = system_for problem s solved gs drawn

    linear : AllByRecursion (IsAssumption problem 1) gs
    linear = recursion_from_All (IsAssumption problem 1) gs are.each

    abbrev Hold : Type 0
    Hold = All (IsZeroAtSignature problem (model given)) conditions

    pub solution_from : Hold → {values : List ℕ} → Solves system values → IsSolution problem s drawn (filled solved drawn values)
    solution_from hold {values} solves =
        let by = filled_given values solves.are_values.below in
        let as_drawn = filled_as_drawn solved drawn values in
        record {
          one_each = by.entries.one_each;
          below = by.entries.below;
          as_drawn = drawn_by_entries q s problem.parts.solved drawn (filled solved drawn values) as_drawn;
          zero = linear_generators_are_zero problem (model by) (model_is by) (maps_are by)
              (are.all (model by) (conditions_same given by as_drawn conditions are.each_condition hold)
              (All-from_recursion (IsZeroAtSignature problem (model by)) gs
              (all_zero start by (as_start _ as_drawn) (zeros_there solved drawn flag_each) values
              (λ place inside set. filled_set solved drawn values place flag_each solves.are_values.one_each inside set) gs linear
              solves.each_holds)));
        }

    pub solves_from : {values : List ℕ} → IsSolution problem s drawn values → Solves system (picked solved values)
    solves_from {values} solution =
        let by : AreGiven problem s values = record {
          shape = given.shape;
          entries = record { one_each = solution.one_each; below = solution.below };
        } in
        let same : length values ≡ length solved = solution.one_each ∙ sym (flag_of_each q s problem.parts.solved) in
        record {
          are_values = record {
            one_each = length-picked solved values same;
            below = All-picked (λ value. value < s.modulus) solved values solution.below;
          };
          each_holds = all_hold start by (as_start values (drawn_by_flags q s problem.parts.solved drawn values solution.as_drawn))
              (zeros_there solved drawn flag_each) (picked solved values)
              (λ place inside set. sym (picked_set solved values place same inside set)) gs linear
              (recursion_from_All (IsZeroAtSignature problem (model by)) gs
              (All-weaker (IsAssumption problem 1) (IsZeroAtSignature problem (model by)) (λ g is.
              linear_zero (model by) (linear_assumptions_are_zero problem (model by) solution.zero) is) gs are.each));
        }

    -- greedy solutions
    module _ (hold : Hold) (values : List ℕ) (greedy : of_system.IsGreedy system (picked solved drawn) values) where
      abbrev all : List ℕ
      all = filled solved drawn values

      unknown_of_each : length values ≡ n
      unknown_of_each = greedy.solves.are_values.one_each

      size_of_all : length all ≡ length solved
      size_of_all = length-filled solved drawn values flag_each ∙ flag_each

      solution : IsSolution problem s drawn all
      solution = solution_from hold greedy.solves

      module _ (place : ℕ) (inside : place < length solved) where
        not_solved : get_or solved place false ≡ false → get_or all place 0 ≡ get_or drawn place 0
        not_solved unset = filled_as_drawn solved drawn values place inside unset

        module _ (set : get_or solved place false ≡ true) where
          abbrev unknown : ℕ
          unknown = before solved place

          within : unknown < system.unknowns
          within = before_within solved place inside set

          -- what the entry can take the unknown can take
          taken_by_unknown : (value : ℕ) → CanTake problem s drawn all place value → of_system.CanTake system values unknown value
          taken_by_unknown value can =
              let written = append_assoc (take place all) (value ∷ []) can.rest in
              let picked_is = ap (picked solved) written ∙ picked-take solved drawn values place flag_each unknown_of_each inside set
              value can.rest in
              record {
                rest = picked (drop (suc place) solved) can.rest;
                solves = subst (Solves system)
                    (picked_is ∙ sym (append_assoc (take unknown values) (value ∷ []) (picked (drop (suc place) solved) can.rest)))
                    (solves_from can.solution);
              }

          taken_by_entry : (value : ℕ) → of_system.CanTake system values unknown value → CanTake problem s drawn all place value
          taken_by_entry value can =
              let written = append_assoc (take unknown values) (value ∷ []) can.rest in
              let rest = filled (drop (suc place) solved) (drop (suc place) drawn) can.rest in
              let filled_is = ap (filled solved drawn) written ∙ filled-take solved drawn values place flag_each unknown_of_each
              inside set value can.rest in
              record {
                rest = rest;
                solution = subst (IsSolution problem s drawn) (filled_is ∙ sym (append_assoc (take place all) (value ∷ []) rest))
                    (solution_from hold can.solves);
              }

          value_is : get_or all place 0 ≡ get_or values unknown 0
          value_is = filled_set solved drawn values place flag_each unknown_of_each inside set

          draw_is : get_or (picked solved drawn) unknown 0 ≡ get_or drawn place 0
          draw_is = picked_set solved drawn place flag_each inside set

          drawn_if_set : CanTake problem s drawn all place (get_or drawn place 0) → get_or all place 0 ≡ get_or drawn place 0
          drawn_if_set can =
              value_is ∙ greedy.preferred unknown within (subst (of_system.CanTake system values unknown) (sym draw_is)
              (taken_by_unknown (get_or drawn place 0) can)) ∙ draw_is

          least_if_set : (value : ℕ) → (CanTake problem s drawn all place (get_or drawn place 0) → ⊥)
              → CanTake problem s drawn all place value → get_or all place 0 ≤ value
          least_if_set value cannot can =
              subst (λ x. x ≤ value) (sym value_is)
              (greedy.least unknown value within
              (λ preferred. cannot (taken_by_entry (get_or drawn place 0)
              (subst (of_system.CanTake system values unknown) draw_is preferred))) (taken_by_unknown value can))

        drawn_there : CanTake problem s drawn all place (get_or drawn place 0) → get_or all place 0 ≡ get_or drawn place 0
        drawn_there can =
            elim (get_or solved place false) as (λ b. get_or solved place false ≡ b → get_or all place 0 ≡ get_or drawn place 0) [
              | true ↦ λ set. drawn_if_set set can
              | false ↦ λ unset. not_solved unset
            ] refl

        least_there : (value : ℕ) → (CanTake problem s drawn all place (get_or drawn place 0) → ⊥)
            → CanTake problem s drawn all place value → get_or all place 0 ≤ value
        least_there value cannot can = elim (get_or solved place false) as (λ b. get_or solved place false ≡ b → get_or all place 0 ≤ value) [
          | true ↦ λ set. least_if_set set value cannot can
          | false ↦ λ unset. absurd (cannot (subst (CanTake problem s drawn all place) (not_solved unset) (can_take_own
              (subst (λ x. place < x) (sym size_of_all) inside) solution)))
        ] refl

      pub greedy_filled : IsGreedy problem s drawn all
      greedy_filled = record {
        solution = solution;
        drawn_where_it_can = λ place inside can. drawn_there place (subst (λ x. place < x) size_of_all inside) can;
        else_least = λ place value inside cannot can. least_there place (subst (λ x. place < x) size_of_all inside) value cannot can;
      }
