-- What the code keeps of reductions holds.
use Rattle.traced_completion.proofs.Prelude.{◌≡◌, ◌<◌, ℕ, List, length, Ok, Err, Result, IfOk, MatchResult, arith, All, All-weaker, IsCoefficient, Term, IsOver, Compare, Origin, Row, IsAmongFirst, Rule, Reduced, ReduceFault, IsRule, normal_form_of, IsByRule, rows_are_by_rules, Ambiguity, IsAmbiguity, first_row, second_row, s_rows_of, rule_at-first, rule_at-last, all_two, plain, IsKept}
use Rattle.traced_rows.specs.declared.Origin.TheVariants as origin
use Rattle.traced_completion.proofs.NonemptyWords.{nonempty_rest}

pub among_first : (count : ℕ) (from : Origin) → IsByRule count from → IsAmongFirst count from
among_first count (origin.Generator n) by = absurd by
among_first count (origin.Rule n) by = (omega (arith, by.0), by.1)

module _ (letters : ℕ) (compare : Compare) (rules : List Rule) (are_rules : All (IsRule letters compare) rules) (p : List Term) (steps : ℕ) (nonempty : All (λ t. 0 < length t.1) p) where
  kept : (r : Reduced) → normal_form_of compare rules p steps ≡ Ok (plain r) → All (λ t. IsOver letters t.1) r.rest.terms → IsCoefficient r.multiplier → All (λ row. IsCoefficient row.coef) r.rows → IsKept letters (length rules) (plain r)
  kept r ends over multiplier rows = record {
    multiplier = multiplier;
    rows = record {
      in_range = rows;
      named = All-weaker (λ (row : Row). IsByRule (length rules) row.from) (λ (row : Row). IsAmongFirst (length rules) row.from) (λ row. among_first (length rules) row.from) r.rows (rows_are_by_rules compare rules p steps (plain r) ends);
    };
    nonempty = nonempty_rest letters compare rules are_rules p steps (plain r) nonempty r.rest.canonical.shaped ends;
    over = over;
  }

  pub each_kept : (E : ReduceFault → Type 0) (result : Result Reduced ReduceFault) → MatchResult result (λ r. normal_form_of compare rules p steps ≡ Ok (plain r)) E
      → IfOk result (λ r. All (λ t. IsOver letters t.1) r.rest.terms) → IfOk result (λ r. IsCoefficient r.multiplier) → IfOk result (λ r. All (λ row. IsCoefficient row.coef) r.rows)
      → IfOk result (λ r. IsKept letters (length rules) (plain r))
  each_kept E (Ok r) ends over multiplier rows = kept r ends over multiplier rows
  each_kept E (Err e) ends over multiplier rows = tt

-- the rows of an S-polynomial are over two of the rules
pub s_rows_named : (rules : List Rule) (a : Ambiguity) → IsAmbiguity rules a → All (λ r. IsAmongFirst (length rules) r.from) (s_rows_of rules a)
s_rows_named rules a is =
    all_two (λ (r : Row). IsAmongFirst (length rules) r.from) (first_row rules a) (second_row rules a)
    (omega (arith, rule_at-first rules a.i is.first is.first_numbered), omega (arith, rule_at-last rules a.i is.first is.first_numbered))
    (omega (arith, rule_at-first rules a.j is.second is.second_numbered), omega (arith, rule_at-last rules a.j is.second is.second_numbered))
