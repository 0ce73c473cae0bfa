-- The rules of the run of a problem are primitive.
use Rattle.outcome_laws.proofs.Prelude.{ℕ, pos, List, [], ◌∷◌, sym, subst, All, All-push, All-nil, Term, asked_cmp, IsContent, Row, Rule, Recorded, rest_with, leads_negative, Adds, quotient_primitive, Problem, Budget, generator_rows, second_rows, RunState, IsRunState, setting_of}
use Rattle.outcome_laws.proofs.ProblemStates.{IsKeptInRun, kept_in_run}
use Rattle.outcome_laws.proofs.RunsKept.{first_with}

module _ (problem : Problem) (budget : Budget) where
  abbrev IsPrimitive : Rule → Type 0
  IsPrimitive g = IsContent g.poly.terms (pos 1)

  abbrev ArePrimitive : Recorded → Type 0
  ArePrimitive r = All IsPrimitive r.rules

  -- what is left becomes a rule, where it isn't zero
  one_made : (p : List Term) (rows : List Row) (before after : Recorded) → Adds (asked_cmp problem.parts.order) (rest_with p rows) before after → ArePrimitive before
      → ArePrimitive after
  one_made [] rows before after same each = subst ArePrimitive (sym same) each
  one_made (t ∷ p) rows before after more each =
      let from = more.made_from in
      subst ArePrimitive (sym more.appended)
      (All-push IsPrimitive before.rules more.rule each
      (quotient_primitive (leads_negative (asked_cmp problem.parts.order) (t ∷ p)) more.made.scale more.rule.poly.terms (t ∷ p) from.positive from.content from.divided))

  primitive_kept : IsKeptInRun problem budget ArePrimitive
  primitive_kept = record {
    at_start = All-nil IsPrimitive;
    generator = λ n before after s at ends adds. one_made s.rest (generator_rows n s.multiplier s.rows) before after adds at.holds;
    ambiguity = λ rules a first before after s at ends fits adds. one_made s.rest (second_rows (first_with rules a first) s) before after adds at.holds;
  }

  pub runs_are_primitive : (n : ℕ) (s : RunState) → IsRunState (setting_of problem budget) n s → All (λ g. IsContent g.poly.terms (pos 1)) s.rules
  runs_are_primitive = kept_in_run problem budget ArePrimitive primitive_kept
