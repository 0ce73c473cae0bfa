-- A reduction that ends gives the same with whatever number of steps it ends.
use Rattle.command_runs.proofs.Prelude.{◌≡◌, ℕ, zero, suc, List, Option, Some, None, Result, Ok, Err, sym, ◌∙◌, Term, PolyFault, Compare, Rule, State, Choice, ReduceFault, entries_of, choice_of, step_result, halt_of, then_next, at_limit, one_step, reduction, start_of, normal_form_of}
use Rattle.rule_reduce.specs.declared.fault.ReduceFault.TheVariants as halt

no_state : (e : ReduceFault) (s : State) → ◌≡◌ {A = Result State ReduceFault} (Err e) (Ok s) → ⊥
no_state e s is = cc

same_state : (s t : State) → ◌≡◌ {A = Result State ReduceFault} (Ok s) (Ok t) → s ≡ t
same_state s t is = cc

module _ (compare : Compare) (rules : List Rule) (one other : ℕ) where
  abbrev chosen : State → Option Choice
  chosen s = choice_of compare (entries_of rules) s.rest

  both_at_limit : (c : Option Choice) (s t u : State) → at_limit one c s ≡ Ok t → at_limit other c s ≡ Ok u → t ≡ u
  both_at_limit None s t u first second = sym (same_state s t first) ∙ same_state s u second
  both_at_limit (Some c) s t u first second = absurd (no_state (halt.Steps one) t first)

  first_at_limit : (c : Option Choice) (s t u : State) (next : State → Result State ReduceFault) → at_limit one c s ≡ Ok t → one_step rules c s next ≡ Ok u
      → t ≡ u
  first_at_limit None s t u next first second = sym (same_state s t first) ∙ same_state s u second
  first_at_limit (Some c) s t u next first second = absurd (no_state (halt.Steps one) t first)

  second_at_limit : (c : Option Choice) (s t u : State) (next : State → Result State ReduceFault) → one_step rules c s next ≡ Ok t → at_limit other c s ≡ Ok u
      → t ≡ u
  second_at_limit None s t u next first second = sym (same_state s t first) ∙ same_state s u second
  second_at_limit (Some c) s t u next first second = absurd (no_state (halt.Steps other) u second)

  both_step : (c : Option Choice) (s t u : State) (next after : State → Result State ReduceFault) → ((v : State) → next v ≡ Ok t → after v ≡ Ok u → t ≡ u)
      → one_step rules c s next ≡ Ok t → one_step rules c s after ≡ Ok u → t ≡ u
  both_step None s t u next after more first second = sym (same_state s t first) ∙ same_state s u second
  both_step (Some c) s t u next after more first second = go (step_result rules c s) first second
    where
      go : (r : Result State PolyFault) → then_next r next ≡ Ok t → then_next r after ≡ Ok u → t ≡ u
      go (Ok v) k l = more v k l
      go (Err e) k l = absurd (no_state (halt_of e) t k)

  reduced_once : (n m : ℕ) (s t u : State) → reduction one compare rules n s ≡ Ok t → reduction other compare rules m s ≡ Ok u → t ≡ u
  reduced_once zero zero s t u first second = both_at_limit (chosen s) s t u first second
  reduced_once zero (suc m) s t u first second = first_at_limit (chosen s) s t u (reduction other compare rules m) first second
  reduced_once (suc n) zero s t u first second = second_at_limit (chosen s) s t u (reduction one compare rules n) first second
  reduced_once (suc n) (suc m) s t u first second =
      both_step (chosen s) s t u (reduction one compare rules n) (reduction other compare rules m) (λ v. reduced_once n m v t u) first second

pub ended_once : (compare : Compare) (rules : List Rule) (p : List Term) (one other : ℕ) (s t : State) → normal_form_of compare rules p one ≡ Ok s
    → normal_form_of compare rules p other ≡ Ok t → s ≡ t
ended_once compare rules p one other s t first second = reduced_once compare rules one other one other (start_of p) s t first second
