-- Why a reduction stops, step by step, and what it leaves where it doesn't.
use Rattle.outcome_laws.proofs.Prelude.{◌≡◌, ℕ, suc, Bool, true, false, cond, ◌||◌, List, [], ◌∷◌, length, nat_lt, Option, Some, None, Result, Ok, Err, refl, ap, ◌∙◌, subst, arith, nat_tests, Overflow, IsCoefficient, exact_value, first_overflow, Term, Compare, IsAdmissible, PolyFault, word_limit, term_limit, unless_overflow, has_long_word, size_fault, sized, IsShaped, Rule, State, Choice, ReduceFault, rule_at, entries_of, choice_of, IsChoice, Move, moved, move_operations, if_sized, move_result, move_of, halt_of, reduction, start_of, normal_form_of, choices_are_exact, irreducible_where_none, Reduced, unreduced, IsStep, HasOneMore, IsOfReduction, IsTooLarge, GetsTooLarge, Leaves}
use Rattle.nc_polynomial.specs.declared.fault.PolyFault.TheVariants as fault
use Rattle.rule_reduce.specs.declared.fault.ReduceFault.TheVariants as halt
use Rattle.outcome_laws.proofs.Listed.{failing}
use Rattle.outcome_laws.proofs.ReductionWalks.{move_goes, reduction_ends}
use Rattle.outcome_laws.proofs.StepMade.{reduced_of, next_step, step_made, of_step}

-- a polynomial that is too large
long_word : (p : List Term) → has_long_word p ≡ true → IsTooLarge true p
long_word [] e = absurd (cc)
long_word (t ∷ p) e = go (nat_lt word_limit (length t.1)) refl e (long_word p)
  where
    go : (b : Bool) → nat_lt word_limit (length t.1) ≡ b → (b || has_long_word p) ≡ true → (has_long_word p ≡ true → IsTooLarge true p) → IsTooLarge true (t ∷ p)
    go true is k later = (0, t, omega arith, refl, grind (arith, nat_tests))
    go false is k later = let at = later k in (suc at.0, at.1, omega (arith, at.2), at.3, at.4)

pub too_large : (p : List Term) (e : PolyFault) → sized p ≡ Err e → (letters : Bool) × (e ≡ size_fault letters) × IsTooLarge letters p
too_large p e ends = go (has_long_word p) refl (nat_lt term_limit (length p)) refl ends
  where
    go : (long : Bool) → has_long_word p ≡ long → (many : Bool) → nat_lt term_limit (length p) ≡ many → cond long (Err (size_fault true)) (cond many (Err (size_fault false)) (Ok p)) ≡ Err e
        → (letters : Bool) × (e ≡ size_fault letters) × IsTooLarge letters p
    go true is many of k = (true, (cc), long_word p is)
    go false is true of k = (false, (cc), grind (arith, nat_tests))
    go false is false of k = absurd (cc)

-- Why a move of a state stops: one of its operations is no coefficient, or what it leaves is too large, and none of them is.
pub data MoveStops (m : Move) (s : State) (e : PolyFault) : Type 0 where
  overflows : (o : Overflow) → e ≡ fault.Overflow o → first_overflow (move_operations m s) ≡ Some o → MoveStops m s e
  too_long : (letters : Bool) → e ≡ size_fault letters → first_overflow (move_operations m s) ≡ None → IsTooLarge letters (moved m s).rest → MoveStops m s e

move_stops : (m : Move) (s : State) (e : PolyFault) → move_result m s ≡ Err e → MoveStops m s e
move_stops m s e ends = go (first_overflow (move_operations m s)) refl ends
  where
    size : first_overflow (move_operations m s) ≡ None → (r : Result (List Term) PolyFault) → sized (moved m s).rest ≡ r → if_sized r (moved m s) ≡ Err e → MoveStops m s e
    size fits (Ok p) is k = absurd (cc)
    size fits (Err d) is k = let large = too_large (moved m s).rest d is in too_long large.0 ((cc) ∙ large.1) fits large.2

    go : (o : Option Overflow) → first_overflow (move_operations m s) ≡ o → unless_overflow o (if_sized (sized (moved m s).rest) (moved m s)) ≡ Err e → MoveStops m s e
    go None is k = size is (sized (moved m s).rest) refl k
    go (Some o) is k = overflows o (cc) is

-- Why a reduction of at most this many steps stops.
pub data Stops (compare : Compare) (rules : List Rule) (limit steps : ℕ) (start : Reduced) (e : ReduceFault) : Type 0 where
  steps_spent : e ≡ halt.Steps limit → HasOneMore compare rules steps start → Stops compare rules limit steps start e
  overflow : (o : Overflow) → e ≡ halt.Overflow o → (IsCoefficient (exact_value o) → ⊥) → IsOfReduction compare rules steps start o → Stops compare rules limit steps start e
  size : (letters : Bool) → e ≡ halt_of (size_fault letters) → GetsTooLarge compare rules steps start letters → Stops compare rules limit steps start e

module _ (letters : ℕ) (compare : Compare) (rank : List ℕ → List ℕ) (laws : IsAdmissible letters compare rank) (rules : List Rule) (limit : ℕ) where
  is_choice : (s : State) → IsShaped s.rest → (c : Choice) → choice_of compare (entries_of rules) s.rest ≡ Some c → IsChoice compare rules s.rest c
  is_choice s shaped c chosen = (choices_are_exact letters compare rank rules s.rest c laws shaped.descending).0 chosen

  -- how it ends
  abbrev Ends : ℕ → Reduced → Result State ReduceFault → Type 0
  Ends n s (Ok t) = Leaves compare rules n s (reduced_of t)
  Ends n s (Err e) = Stops compare rules limit n s e

  -- one more step before
  one_earlier : (n : ℕ) (s t : Reduced) (r : Result State ReduceFault) → IsStep compare rules s t → Ends n t r → Ends (suc n) s r
  one_earlier n s t (Ok u) step rest =
      record { made = suc rest.made; few = omega (arith, rest.few); goes = record { after = t; step = step; later = rest.goes }; irreducible = rest.irreducible }
  one_earlier n s t (Err e) step (steps_spent is more) = steps_spent is (record { now = more.now; goes = record { after = t; step = step; later = more.goes }; next = more.next })
  one_earlier n s t (Err e) step (overflow o is fails of) =
      overflow o is fails
      (record {
        earlier = suc of.earlier;
        few = omega (arith, of.few);
        reaches = record { now = of.reaches.now; goes = record { after = t; step = step; later = of.reaches.goes }; next = of.reaches.next };
        of_step = of.of_step;
      })
  one_earlier n s t (Err e) step (size which is gets) =
      size which is
      (record { earlier = suc gets.earlier; few = omega (arith, gets.few); now = gets.now; goes = record { after = t; step = step; later = gets.goes }; large = gets.large })

  -- the step that is chosen
  module _ (s : State) (shaped : IsShaped s.rest) (c : Choice) (chosen : choice_of compare (entries_of rules) s.rest ≡ Some c) (g : Rule) (numbered : rule_at rules c.number ≡ Some g) where
    is : IsChoice compare rules s.rest c
    is = is_choice s shaped c chosen

    stops_at : (n : ℕ) (e : PolyFault) (h : ReduceFault) → h ≡ halt_of e → MoveStops (move_of c g) s e → Stops compare rules limit (suc n) (reduced_of s) h
    stops_at n e h same (overflows o which first) =
        let fail = failing (move_operations (move_of c g) s) o first in
        overflow o (same ∙ ap halt_of which) fail.fails
        (record {
          earlier = 0;
          few = omega arith;
          reaches = record { now = reduced_of s; goes = refl; next = next_step compare rules s shaped c is g numbered };
          of_step = of_step compare rules s shaped c is g numbered o fail.listed;
        })
    stops_at n e h same (too_long which what none large) =
        size which (same ∙ ap halt_of what)
        (record {
          earlier = 0;
          few = omega arith;
          now = reduced_of (moved (move_of c g) s);
          goes = record { after = reduced_of (moved (move_of c g) s); step = step_made compare rules s shaped c is g numbered none; later = refl };
          large = large;
        })

    went : (t : State) → move_result (move_of c g) s ≡ Ok t → IsStep compare rules (reduced_of s) (reduced_of t) × IsShaped t.rest
    went t ends =
        let goes = move_goes (move_of c g) s t ends in
        let step = step_made compare rules s shaped c is g numbered goes.none in
        subst (λ u. IsStep compare rules (reduced_of s) (reduced_of u) × IsShaped u.rest) goes.is (step, step.shaped)

  ends_by : (n : ℕ) (s : State) → IsShaped s.rest → Ends n (reduced_of s) (reduction limit compare rules n s)
  ends_by =
      reduction_ends compare rules limit (λ n s r. IsShaped s.rest → Ends n (reduced_of s) r)
      (λ n s none shaped. record { made = 0; few = omega arith; goes = refl; irreducible = irreducible_where_none compare rules s.rest none })
      (λ s c chosen shaped.
      let is = is_choice s shaped c chosen in
      steps_spent refl (record { now = reduced_of s; goes = refl; next = next_step compare rules s shaped c is is.rule is.numbered }))
      (λ n s c g e chosen numbered fails shaped. stops_at s shaped c chosen g numbered n e (halt_of e) refl (move_stops (move_of c g) s e fails))
      (λ n s t c g r chosen numbered ends later shaped.
      let step = went s shaped c chosen g numbered t ends in
      one_earlier n (reduced_of s) (reduced_of t) r step.0 (later step.1))

-- the normal form of a polynomial
pub normal_form_stops : (letters : ℕ) (compare : Compare) (rank : List ℕ → List ℕ) (rules : List Rule) (p : List Term) (steps : ℕ) (e : ReduceFault) → IsAdmissible letters compare rank → IsShaped p
    → normal_form_of compare rules p steps ≡ Err e → Stops compare rules steps steps (unreduced p) e
normal_form_stops letters compare rank rules p steps e laws shaped ends =
    subst (Ends letters compare rank laws rules steps steps (unreduced p)) ends (ends_by letters compare rank laws rules steps steps (start_of p) shaped)

pub normal_form_leaves : (letters : ℕ) (compare : Compare) (rank : List ℕ → List ℕ) (rules : List Rule) (p : List Term) (steps : ℕ) (s : State) → IsAdmissible letters compare rank → IsShaped p
    → normal_form_of compare rules p steps ≡ Ok s → Leaves compare rules steps (unreduced p) (reduced_of s)
normal_form_leaves letters compare rank rules p steps s laws shaped ends =
    subst (Ends letters compare rank laws rules steps steps (unreduced p)) ends (ends_by letters compare rank laws rules steps steps (start_of p) shaped)
