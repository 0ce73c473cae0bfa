-- What each step keeps, the whole reduction keeps.
use Rattle.std.proofs.Common.{◌≡◌, ℕ, zero, suc, List, Some, None, Ok, Err, refl, subst}
use Rattle.coef_int.specs.Operations.{first_overflow}
use Rattle.nc_polynomial.specs.Faults.{unless_overflow, sized}
use Rattle.word_orders.specs.Admissible.{Compare}
use Rattle.rule_reduce.specs.Choices.{choice_of}
use Rattle.rule_reduce.specs.NormalForms.{then_next, at_limit, one_step, reduction}
use Rattle.rule_reduce.specs.RuleLists.{rule_at, entries_of}
use Rattle.rule_reduce.specs.Steps.{Move, moved, move_operations, if_sized, move_result, move_of, step_by, step_result}
use Rattle.rule_reduce.specs.declared.rule.Rule.{Rule}
use Rattle.rule_reduce.specs.declared.state.Choice.{Choice}
use Rattle.rule_reduce.specs.declared.state.State.{State}

-- a step that goes well is its move
pub move_result-value : (m : Move) (s t : State) → move_result m s ≡ Ok t → moved m s ≡ t
move_result-value m s t is =
    (elim (first_overflow (move_operations m s)) as (λ o. unless_overflow o (if_sized (sized (moved m s).rest) (moved m s)) ≡ Ok t → moved m s ≡ t) [
      | None ↦ elim (sized (moved m s).rest) as (λ r. if_sized r (moved m s) ≡ Ok t → moved m s ≡ t) [ Ok p ↦ λ k. cc | Err e ↦ λ k. absurd (cc) ]
      | Some o ↦ λ k. absurd (cc)
    ]) is

-- a fact that a move by the rule keeps is kept by the step
step_keeps_at : (P : State → Type 0) (rules : List Rule) (c : Choice) (s t : State) → ((g : Rule) → rule_at rules c.number ≡ Some g → P s → P (moved (move_of c g) s)) → step_result rules c s ≡ Ok t → P s → P t
step_keeps_at P rules c s t keeps is before =
    (elim (rule_at rules c.number) as (λ o. rule_at rules c.number ≡ o → step_by o c s ≡ Ok t → P t) [
      | None ↦ λ has k. let same : s ≡ t = cc in subst P same before
      | Some g ↦ λ has k. subst P (move_result-value (move_of c g) s t k) (keeps g has before)
    ]) refl is

-- a fact that each move by a rule keeps is kept by each step
pub step_keeps : (P : State → Type 0) (rules : List Rule) (c : Choice) → ((g : Rule) (s : State) → rule_at rules c.number ≡ Some g → P s → P (moved (move_of c g) s)) → (s t : State) → step_result rules c s ≡ Ok t → P s → P t
step_keeps P rules c keeps s t is before = step_keeps_at P rules c s t (λ g has held. keeps g s has held) is before

module _ (P : State → Type 0) (compare : Compare) (rules : List Rule) where
  -- the fact at the end, where nothing more can be reduced
  pub record Ended (t : State) : Type 0 where
    pub kept : P t
    pub none_left : choice_of compare (entries_of rules) t.rest ≡ None

  pub reduction_keeps : ((c : Choice) (g : Rule) (s : State) → choice_of compare (entries_of rules) s.rest ≡ Some c → rule_at rules c.number ≡ Some g → P s → P (moved (move_of c g) s))
      → (limit n : ℕ) (s t : State) → reduction limit compare rules n s ≡ Ok t → P s → Ended t
  reduction_keeps keeps limit zero s t is before =
      (elim (choice_of compare (entries_of rules) s.rest) as (λ o. choice_of compare (entries_of rules) s.rest ≡ o → at_limit limit o s ≡ Ok t → Ended t) [
        | None ↦ λ none k. let same : s ≡ t = cc in subst Ended same (record { kept = before; none_left = none })
        | Some c ↦ λ chosen k. absurd (cc)
      ]) refl is
  reduction_keeps keeps limit (suc n) s t is before =
      (elim (choice_of compare (entries_of rules) s.rest) as (λ o. choice_of compare (entries_of rules) s.rest ≡ o → one_step rules o s (reduction limit compare rules n) ≡ Ok t → Ended t) [
        | None ↦ λ none k. let same : s ≡ t = cc in subst Ended same (record { kept = before; none_left = none })
        | Some c ↦ λ chosen k. (elim (step_result rules c s) as (λ r. step_result rules c s ≡ r → then_next r (reduction limit compare rules n) ≡ Ok t → Ended t) [
          | Ok u ↦ λ went j. reduction_keeps keeps limit n u t j (step_keeps_at P rules c s u (λ g has held. keeps c g s chosen has held) went before)
          | Err e ↦ λ went j. absurd (cc)
        ]) refl k
      ]) refl is
