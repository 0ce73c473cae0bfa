-- What holds of polynomials and rows after reductions and S-polynomials holds of the records of a run.
use Rattle.outcome_laws.proofs.Prelude.{◌≡◌, ◌<◌, ◌≤◌, ℕ, ℤ, ◌*ℤ◌, List, [], ◌∷◌, map, length, Bool, true, false, cond, None, Ok, sym, subst, arith, All, length-append, length-map, All-nil, All-cons, All-head, All-tail, All-weaker, All-append, All-push, All-map, IsCoefficient, product_of, first_overflow, Term, generator_at, Row, Made, Rule, State, IsRule, multiplied_row, row_operations, normal_form_of, Ambiguity, IsAmbiguity, s_rows_of, s_polynomial_of, Recorded, Rest, rest_with, negated_row, negated_rows, leads_negative, IsMadeFrom, Adds, First, generator_rows, less_rows, first_rows, second_rows, rows_operations, RunState, IsRunState, setting_of, Compare, asked_cmp, letter_count, Problem, polynomials, Budget}
use Rattle.traced_rows.specs.declared.Origin.TheVariants as origin
use Rattle.outcome_laws.proofs.Results.{fits_first, none_append}
use Rattle.outcome_laws.proofs.ProblemStates.{IsKeptInRun, kept_in_run}
use Rattle.outcome_laws.proofs.RunsKept.{all_front, first_with}

module _ (problem : Problem) (budget : Budget) where
  abbrev compare : Compare
  compare = asked_cmp problem.parts.order

  abbrev AreRules : List Rule → Type 0
  AreRules = All (IsRule (letter_count problem.parts.quiver) compare)

  abbrev generator : ℕ → List Term
  generator = generator_at (polynomials problem.generators)

  -- properties of polynomials, of rows and of records
  pub record KeepsRows (IsPoly : List Term → Type 0) (IsRow : Row → Type 0) (IsMade : Made → Type 0) : Type 0 where
    pub negative : (r : Row) → IsRow r → IsRow (negated_row r)
    pub multiple : (by : ℤ) (r : Row) → IsRow r → IsCoefficient (r.coef *ℤ by) → IsRow (multiplied_row by r)
    pub reduced : (rules : List Rule) (p : List Term) (s : State) → AreRules rules → IsPoly p → normal_form_of compare rules p budget.steps ≡ Ok s
        → IsPoly s.rest × All IsRow s.rows
    pub ambiguous : (rules : List Rule) (a : Ambiguity) (p : List Term) → AreRules rules → IsAmbiguity rules a → s_polynomial_of rules a ≡ Ok p
        → IsPoly p × All IsRow (s_rows_of rules a)
    pub polynomial : (number : ℕ) → IsPoly (generator number)
    pub row : (number : ℕ) (rules : List Rule) (s : State) → AreRules rules → normal_form_of compare rules (generator number) budget.steps ≡ Ok s
        → IsRow (record { coef = s.multiplier; left = []; from = origin.Generator number; right = [] })
    pub makes : (rest : Rest) (g : Rule) (m : Made) → IsMadeFrom compare rest g m → IsPoly rest.polynomial → All IsRow m.rows → 1 ≤ length m.rows → IsMade m

  module _ (IsPoly : List Term → Type 0) (IsRow : Row → Type 0) (IsMade : Made → Type 0) (keeps : KeepsRows IsPoly IsRow IsMade) where
    negated : (rows : List Row) → All IsRow rows → All IsRow (negated_rows rows)
    negated rows each = All-map IsRow negated_row rows (All-weaker IsRow (λ r. IsRow (negated_row r)) keeps.negative rows each)

    multiplied : (by : ℤ) (rows : List Row) → first_overflow (row_operations rows by) ≡ None → All IsRow rows → All IsRow (map (multiplied_row by) rows)
    multiplied by [] none each = All-nil IsRow
    multiplied by (r ∷ rows) none each =
        let fits = fits_first (product_of r.coef by) (row_operations rows by) none in
        All-cons IsRow (multiplied_row by r) (map (multiplied_row by) rows) (keeps.multiple by r (All-head IsRow r rows each) fits.0) (multiplied by rows fits.1 (All-tail IsRow r rows each))

    -- some rows, each with the property
    abbrev AreRows : List Row → Type 0
    AreRows rows = All IsRow rows × (1 ≤ length rows)

    less : (rows : List Row) (by : ℤ) (taken : List Row) → first_overflow (row_operations rows by) ≡ None → AreRows rows → All IsRow taken → AreRows (less_rows rows by taken)
    less rows by taken none each also = (
      All-append IsRow (map (multiplied_row by) rows) (negated_rows taken) (multiplied by rows none each.0) (negated taken also),
      omega (arith, length-append (map (multiplied_row by) rows) (negated_rows taken), length-map rows (multiplied_row by), each.1),
    )

    signed : (negative : Bool) (rows : List Row) → AreRows rows → AreRows (cond negative (negated_rows rows) rows)
    signed true rows each = (negated rows each.0, omega (arith, length-map rows negated_row, each.1))
    signed false rows each = each

    abbrev AreMade : Recorded → Type 0
    AreMade r = All IsMade r.made

    -- what is left becomes a rule, where it isn't zero
    one_made : (p : List Term) (rows : List Row) (before after : Recorded) → Adds compare (rest_with p rows) before after → AreMade before → IsPoly p
        → (0 < length p → AreRows rows) → AreMade after
    one_made [] rows before after same held is each = subst AreMade (sym same) held
    one_made (t ∷ p) rows before after more held is each =
        let rows_are = subst AreRows (sym more.made_from.rows) (signed (leads_negative compare (t ∷ p)) rows (each (omega arith))) in
        subst AreMade (sym more.appended) (All-push IsMade before.made more.made held (keeps.makes (record { polynomial = t ∷ p; rows = rows }) more.rule more.made more.made_from is rows_are.0 rows_are.1))

    second : (f : First) (s : State) → first_overflow (rows_operations f s) ≡ None → AreRows f.rows → All IsRow f.reduced.rows → All IsRow s.rows → AreRows (second_rows f s)
    second f s none each taken also =
        let fits = none_append (row_operations f.rows f.reduced.multiplier) (row_operations (first_rows f) s.multiplier) none in
        less (first_rows f) s.multiplier s.rows fits.1 (less f.rows f.reduced.multiplier f.reduced.rows fits.0 each taken) also

    made_kept : IsKeptInRun problem budget AreMade
    made_kept = record {
      at_start = All-nil IsMade;
      generator = λ n before after s at ends adds.
          let rules = at.kept.0.are_rules in
          let after_it = keeps.reduced before.rules (generator n) s rules (keeps.polynomial n) ends in
          let row : Row = record { coef = s.multiplier; left = []; from = origin.Generator n; right = [] } in
          one_made s.rest (generator_rows n s.multiplier s.rows) before after adds at.holds after_it.0
          (λ some. (All-cons IsRow row (negated_rows s.rows) (keeps.row n before.rules s rules ends) (negated s.rows after_it.1), omega arith));
      ambiguity = λ rules a first before after s at ends fits adds.
          let are = all_front (IsRule (letter_count problem.parts.quiver) compare) rules before.rules at.begins at.kept.0.are_rules in
          let made = keeps.ambiguous rules a at.is_first.polynomial are at.is_first.is at.is_first.made in
          let once = keeps.reduced rules at.is_first.polynomial first are made.0 at.is_first.reduced in
          let twice = keeps.reduced before.rules first.rest s at.kept.0.are_rules once.0 ends in
          one_made s.rest (second_rows (first_with rules a first) s) before after adds at.holds twice.0
          (λ some. second (first_with rules a first) s (fits some) (made.1, omega arith) once.1 twice.1);
    }

    pub records_made : (n : ℕ) (s : RunState) → IsRunState (setting_of problem budget) n s → All IsMade s.made
    records_made = kept_in_run problem budget AreMade made_kept
