-- Where a round that stops has its fault: in the reduction of a generator, of an S-polynomial, or of what is left of one.
use Rattle.outcome_laws.proofs.Prelude.{◌≡◌, ℕ, List, [], ◌∷◌, Option, Some, None, Result, Ok, Err, refl, sym, ap, subst, All, All-head, All-tail, Overflow, first_overflow, Term, Compare, PolyFault, Rule, State, ReduceFault, halt_of, normal_form_of, Ambiguity, IsAmbiguity, s_rows_of, s_polynomial_of, rest_with, and_then, halted, each_in_turn, First, first_of, rows_operations, second_rows, second_rest, second_reduction, second_work}
use Rattle.rule_reduce.specs.declared.fault.ReduceFault.TheVariants as fault
use Rattle.traced_completion.specs.Results.{unless_overflow}
use Rattle.outcome_laws.proofs.Results.{failed_first, halted_value}

-- the first result has the fault, or the next one
pub data Failed {A B : Type 0} (r : Result A ReduceFault) (next : A → Result B ReduceFault) (e : ReduceFault) : Type 0 where
  at_first : r ≡ Err e → Failed r next e
  later : (x : A) → r ≡ Ok x → next x ≡ Err e → Failed r next e

pub failed : {A B : Type 0} (r : Result A ReduceFault) (next : A → Result B ReduceFault) (e : ReduceFault) → and_then r next ≡ Err e → Failed r next e
failed (Ok x) next e is = later x refl is
failed {A} {B} (Err d) next e is = at_first (ap Err (cc))

halted_fault : (r : Result (List Term) PolyFault) (e : ReduceFault) → halted r ≡ Err e → (d : PolyFault) × (r ≡ Err d) × (e ≡ halt_of d)
halted_fault (Ok p) e is = absurd (cc)
halted_fault (Err d) e is = (d, refl, sym (cc))

-- the first fault of several
pub record OneFails {A B : Type 0} (Is : A → Type 0) (f : A → Result B ReduceFault) (e : ReduceFault) : Type 0 where
  pub item : A
  pub is : Is item
  pub fails : f item ≡ Err e

one_fails : {A B : Type 0} (Is : A → Type 0) (f : A → Result B ReduceFault) (xs : List A) (e : ReduceFault) → All Is xs → each_in_turn f xs ≡ Err e → OneFails Is f e
one_fails {B} Is f [] e each is = absurd (cc)
one_fails {B} Is f (x ∷ xs) e each is = go (failed (f x) (λ y. and_then (each_in_turn f xs) (λ ys. Ok (y ∷ ys))) e is) (one_fails Is f xs e (All-tail Is x xs each))
  where
    go : Failed (f x) (λ y. and_then (each_in_turn f xs) (λ ys. Ok (y ∷ ys))) e → (each_in_turn f xs ≡ Err e → OneFails Is f e) → OneFails Is f e
    go (at_first fails) rest = record { item = x; is = All-head Is x xs each; fails = fails }
    go (later y went fails) rest = rest (failed_first (each_in_turn f xs) (λ ys. y ∷ ys) e fails)

module _ (compare : Compare) (steps : ℕ) where
  -- A later round: an ambiguity whose S-polynomial isn't made, or isn't reduced.
  pub data FirstFails (rules : List Rule) (e : ReduceFault) : Type 0 where
    not_made : (a : Ambiguity) (d : PolyFault) → IsAmbiguity rules a → s_polynomial_of rules a ≡ Err d → e ≡ halt_of d → FirstFails rules e
    not_reduced : (a : Ambiguity) (p : List Term) → IsAmbiguity rules a → s_polynomial_of rules a ≡ Ok p → normal_form_of compare rules p steps ≡ Err e → FirstFails rules e

  pub first_fails : (rules : List Rule) (taken : List Ambiguity) (e : ReduceFault) → All (IsAmbiguity rules) taken → each_in_turn (first_of compare steps rules) taken ≡ Err e → FirstFails rules e
  first_fails rules taken e are ends =
      let one = one_fails (IsAmbiguity rules) (first_of compare steps rules) taken e are ends in
      by_part one.item one.is (failed (halted (s_polynomial_of rules one.item)) (λ p. and_then (normal_form_of compare rules p steps) (λ s. Ok (record { rows = s_rows_of rules one.item; reduced = s }))) e one.fails)
    where
      by_part : (a : Ambiguity) → IsAmbiguity rules a → Failed {B = First} (halted (s_polynomial_of rules a)) (λ p. and_then (normal_form_of compare rules p steps) (λ s. Ok (record { rows = s_rows_of rules a; reduced = s }))) e → FirstFails rules e
      by_part a is (at_first fails) = let at = halted_fault (s_polynomial_of rules a) e fails in not_made a at.0 is at.1 at.2
      by_part a is (later p made fails) =
          not_reduced a p is (halted_value (s_polynomial_of rules a) p made)
          (failed_first (normal_form_of compare rules p steps) (λ s. record { rows = s_rows_of rules a; reduced = s }) e fails)

  -- What stops a second reduction: its steps, or a product of the rows of the rule that it makes.
  pub data SecondStops (f : First) (rules : List Rule) (e : ReduceFault) : Type 0 where
    in_steps : normal_form_of compare rules f.reduced.rest steps ≡ Err e → SecondStops f rules e
    in_products : (s : State) (o : Overflow) → normal_form_of compare rules f.reduced.rest steps ≡ Ok s → e ≡ fault.Overflow o → first_overflow (rows_operations f s) ≡ Some o → SecondStops f rules e

  rest_fails : (f : First) (rules : List Rule) (s : State) (p : List Term) (e : ReduceFault) → normal_form_of compare rules f.reduced.rest steps ≡ Ok s → second_rest f s p ≡ Err e → SecondStops f rules e
  rest_fails f rules s [] e went is = absurd (cc)
  rest_fails f rules s (t ∷ p) e went is = go (first_overflow (rows_operations f s)) refl is
    where
      go : (o : Option Overflow) → first_overflow (rows_operations f s) ≡ o → unless_overflow o (rest_with (t ∷ p) (second_rows f s)) ≡ Err e → SecondStops f rules e
      go None none k = absurd (cc)
      go (Some o) first k = in_products s o went (sym (cc)) first

  pub second_stops : (f : First) (rules : List Rule) (e : ReduceFault) → second_work compare steps f rules ≡ Err e → SecondStops f rules e
  second_stops f rules e ends = go f.reduced.rest refl ends
    where
      by_part : Failed (normal_form_of compare rules f.reduced.rest steps) (λ s. second_rest f s s.rest) e → SecondStops f rules e
      by_part (at_first fails) = in_steps fails
      by_part (later s went fails) = rest_fails f rules s s.rest e went fails

      go : (p : List Term) → f.reduced.rest ≡ p → second_reduction compare steps f rules p ≡ Err e → SecondStops f rules e
      go [] none k = absurd (cc)
      go (t ∷ p) some k =
          by_part (failed (normal_form_of compare rules f.reduced.rest steps) (λ s. second_rest f s s.rest) e
          (subst (λ v. and_then (normal_form_of compare rules v steps) (λ s. second_rest f s s.rest) ≡ Err e) (sym some) k))
