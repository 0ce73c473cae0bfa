-- What the steps of a reduction keep holds of how it ends, with what is left or with a fault.
use Rattle.outcome_laws.proofs.Prelude.{◌≡◌, ℕ, zero, suc, List, Option, Some, None, Result, Ok, Err, refl, sym, ap, Overflow, first_overflow, Term, Compare, PolyFault, unless_overflow, sized, Rule, State, Choice, ReduceFault, rule_at, entries_of, choice_of, Move, moved, move_operations, if_sized, move_result, move_of, step_by, step_result, halt_of, then_next, at_limit, one_step, reduction, found, Matched}
use Rattle.rule_reduce.specs.declared.fault.ReduceFault.TheVariants as halt

-- a move without a fault: none of its operations overflows, and what it leaves is not too large
pub record MoveGoes (m : Move) (s t : State) : Type 0 where
  pub none : first_overflow (move_operations m s) ≡ None
  pub size : List Term
  pub fits : sized (moved m s).rest ≡ Ok size
  pub is : moved m s ≡ t

pub move_goes : (m : Move) (s t : State) → move_result m s ≡ Ok t → MoveGoes m s t
move_goes m s t ends = go (first_overflow (move_operations m s)) refl ends
  where
    by_size : first_overflow (move_operations m s) ≡ None → (r : Result (List Term) PolyFault) → sized (moved m s).rest ≡ r → if_sized r (moved m s) ≡ Ok t → MoveGoes m s t
    by_size none (Ok p) is k = record { none = none; size = p; fits = is; is = cc }
    by_size none (Err e) is k = absurd (cc)

    go : (o : Option Overflow) → first_overflow (move_operations m s) ≡ o → unless_overflow o (if_sized (sized (moved m s).rest) (moved m s)) ≡ Ok t → MoveGoes m s t
    go None none k = by_size none (sized (moved m s).rest) refl k
    go (Some o) first k = absurd (cc)

-- by the steps that are left, the state, and how the reduction ends
module _ (compare : Compare) (rules : List Rule) (limit : ℕ) (P : ℕ → State → Result State ReduceFault → Type 0)
    (ended : (n : ℕ) (s : State) → choice_of compare (entries_of rules) s.rest ≡ None → P n s (Ok s))
    (spent : (s : State) (c : Choice) → choice_of compare (entries_of rules) s.rest ≡ Some c → P 0 s (Err (halt.Steps limit)))
    (stops : (n : ℕ) (s : State) (c : Choice) (g : Rule) (e : PolyFault) → choice_of compare (entries_of rules) s.rest ≡ Some c → rule_at rules c.number ≡ Some g
    → move_result (move_of c g) s ≡ Err e → P (suc n) s (Err (halt_of e)))
    (goes : (n : ℕ) (s t : State) (c : Choice) (g : Rule) (r : Result State ReduceFault) → choice_of compare (entries_of rules) s.rest ≡ Some c → rule_at rules c.number ≡ Some g
    → move_result (move_of c g) s ≡ Ok t → P n t r → P (suc n) s r) where
  pub reduction_ends : (n : ℕ) (s : State) → P n s (reduction limit compare rules n s)
  reduction_ends zero s = go (choice_of compare (entries_of rules) s.rest) refl
    where
      go : (o : Option Choice) → choice_of compare (entries_of rules) s.rest ≡ o → P 0 s (at_limit limit o s)
      go None none = ended 0 s none
      go (Some c) chosen = spent s c chosen
  reduction_ends (suc n) s = go (choice_of compare (entries_of rules) s.rest) refl (reduction_ends n)
    where
      go : (o : Option Choice) → choice_of compare (entries_of rules) s.rest ≡ o → ((t : State) → P n t (reduction limit compare rules n t))
          → P (suc n) s (one_step rules o s (reduction limit compare rules n))
      go None none later = ended (suc n) s none
      go (Some c) chosen later = by_result (step_result rules c s) (sym (ap (λ o. step_by o c s) is.numbered))
        where
          is : Matched rules c.word c.number c.place
          is = (found compare rules s.rest c chosen).match

          by_result : (r : Result State PolyFault) → move_result (move_of c is.rule) s ≡ r → P (suc n) s (then_next r (reduction limit compare rules n))
          by_result (Ok t) made = goes n s t c is.rule (reduction limit compare rules n t) chosen is.numbered made (later t)
          by_result (Err e) made = stops n s c is.rule e chosen is.numbered made
