-- One round of a reduction.
use Rattle.rule_reduce.proofs.Prelude.{◌≡◌, ℕ, zero, suc, List, Some, None, Ok, Err, ap, ◌∙◌, PolyFault, Explains, Compare, Rule, Choice, State, entries_of, choice_of, step_result, halt_of, then_next, one_step, at_limit, reduction, ExplainsHalt}
use Rattle.nc_polynomial.specs.declared.fault.PolyFault.TheVariants as fault
use Rattle.rule_reduce.specs.declared.fault.ReduceFault.TheVariants as halt

module _ (limit : ℕ) (compare : Compare) (rules : List Rule) (s : State) where
  -- no word can be reduced
  pub stops : (n : ℕ) → choice_of compare (entries_of rules) s.rest ≡ None → reduction limit compare rules n s ≡ Ok s
  stops zero none = ap (λ o. at_limit limit o s) none
  stops (suc n) none = ap (λ o. one_step rules o s (reduction limit compare rules n)) none

  -- a step goes well
  pub goes_on : (n : ℕ) (c : Choice) (t : State) → choice_of compare (entries_of rules) s.rest ≡ Some c → step_result rules c s ≡ Ok t → reduction limit compare rules (suc n) s ≡ reduction limit compare rules n t
  goes_on n c t chosen stepped = ap (λ o. one_step rules o s (reduction limit compare rules n)) chosen ∙ ap (λ r. then_next r (reduction limit compare rules n)) stepped

  -- a step has a fault
  fails : (n : ℕ) (c : Choice) (e : PolyFault) → choice_of compare (entries_of rules) s.rest ≡ Some c → step_result rules c s ≡ Err e → reduction limit compare rules (suc n) s ≡ Err (halt_of e)
  fails n c e chosen stepped = ap (λ o. one_step rules o s (reduction limit compare rules n)) chosen ∙ ap (λ r. then_next r (reduction limit compare rules n)) stepped

  pub explains_fault : (n : ℕ) (c : Choice) (e : PolyFault) → choice_of compare (entries_of rules) s.rest ≡ Some c → Explains (step_result rules c s) e → ExplainsHalt (reduction limit compare rules (suc n) s) (halt_of e)
  explains_fault n c (fault.Memory m) chosen stepped = tt
  explains_fault n c e chosen stepped = fails n c e chosen stepped

  -- no step is left
  pub runs_out : (c : Choice) → choice_of compare (entries_of rules) s.rest ≡ Some c → reduction limit compare rules zero s ≡ Err (halt.Steps limit)
  runs_out c chosen = ap (λ o. at_limit limit o s) chosen
