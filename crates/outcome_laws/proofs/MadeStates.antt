-- The rules of each state of the run of a problem are made one after another, and its records are theirs.
use Rattle.outcome_laws.proofs.Prelude.{ℕ, List, [], ◌∷◌, refl, sym, subst, arith, length-map, Term, generator_at, Compare, asked_cmp, asked_rank, IsShaped, letter_count, Row, Rule, State, Ambiguity, s_polynomials_balance, Problem, polynomials, normal_forms_are_shaped, s_polynomials_are_shaped, Recorded, rest_with, leads_negative, Adds, Budget, IsFirstReduction, IsLeftBy, from_generator, from_ambiguity, AreMade, no_rule, one_more, generator_rows, second_rows, Setting, RunState, IsRunState, setting_of}
use Rattle.outcome_laws.proofs.ProblemPolynomials.{generator_is}
use Rattle.outcome_laws.proofs.ReductionFaults.{normal_form_leaves}
use Rattle.outcome_laws.proofs.StepMade.{reduced_of}
use Rattle.outcome_laws.proofs.ProblemStates.{order_laws, IsKeptInRun, kept_in_run}
use Rattle.outcome_laws.proofs.RunsKept.{BeginsWith, IsFirst, first_with}

module _ (problem : Problem) (budget : Budget) where
  abbrev setting : Setting
  setting = setting_of problem budget

  abbrev letters : ℕ
  letters = letter_count problem.parts.quiver

  abbrev compare : Compare
  compare = asked_cmp problem.parts.order

  abbrev rank : List ℕ → List ℕ
  rank = asked_rank (letter_count problem.parts.quiver) problem.parts.order

  abbrev generators : List (List Term)
  generators = polynomials problem.generators

  abbrev pub IsMade : Recorded → Type 0
  IsMade r = AreMade problem budget r.rules r.made

  -- what is left becomes a rule, where it isn't zero
  one_made : (p : List Term) (rows : List Row) (before after : Recorded) → IsMade before → IsLeftBy problem budget before.rules p rows
      → Adds compare (rest_with p rows) before after → IsMade after
  one_made [] rows before after held left same = subst IsMade (sym same) held
  one_made (t ∷ p) rows before after held left extended =
      subst IsMade (sym extended.appended)
      (one_more before.rules before.made (t ∷ p) rows extended.rule extended.made held left
      (record {
        content = extended.made.scale;
        is_content = extended.made_from.content;
        negated = leads_negative compare (t ∷ p);
        divided = extended.made_from.divided;
        scale_is = refl;
        rows_are = extended.made_from.rows;
      }))

  -- a first reduction, seen from the rules so far of a round
  module _ (rules : List Rule) (a : Ambiguity) (first : State) (is : IsFirst setting rules a first) where
    abbrev polynomial_shaped : IsShaped is.polynomial
    polynomial_shaped = s_polynomials_are_shaped rules a is.polynomial is.made

    pub first_shaped : IsShaped first.rest
    first_shaped = normal_forms_are_shaped compare rules is.polynomial budget.steps first polynomial_shaped is.reduced

    abbrev pub first_reduction : (so_far : List Rule) → BeginsWith rules so_far → IsFirstReduction problem budget so_far (reduced_of first)
    first_reduction so_far front = record {
      first = rules;
      more = front.more;
      begins = front.is;
      polynomial = is.polynomial;
      is = record { ambiguity = a; is = is.is; shaped = polynomial_shaped; is_sum = s_polynomials_balance rules a is.polynomial is.made };
      leaves = normal_form_leaves letters compare rank rules is.polynomial budget.steps first (order_laws problem budget) polynomial_shaped is.reduced;
    }

  pub made_kept : IsKeptInRun problem budget IsMade
  made_kept = record {
    at_start = no_rule;
    generator = λ n before after s at ends adds.
        one_made s.rest (generator_rows n s.multiplier s.rows) before after at.holds
        (from_generator n (reduced_of s) at.in_range.0 (omega (arith, at.in_range.1, length-map problem.generators (λ p. p.terms)))
        (normal_form_leaves letters compare rank before.rules (generator_at generators n) budget.steps s (order_laws problem budget) (generator_is problem n).shaped ends) refl refl) adds;
    ambiguity = λ rules a first before after s at ends fits adds.
        one_made s.rest (second_rows (first_with rules a first) s) before after at.holds
        (from_ambiguity (reduced_of first) (reduced_of s) (first_reduction rules a first at.is_first before.rules at.begins)
        (normal_form_leaves letters compare rank before.rules first.rest budget.steps s (order_laws problem budget) (first_shaped rules a first at.is_first) ends) refl refl) adds;
  }

  pub states_made : (n : ℕ) (s : RunState) → IsRunState setting n s → AreMade problem budget s.rules s.made
  states_made = kept_in_run problem budget IsMade made_kept
