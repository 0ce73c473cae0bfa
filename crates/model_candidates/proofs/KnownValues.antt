-- An assumption with no solved letter has the value that the drawn entries give, whatever the solved ones are.
use Rattle.model_candidates.proofs.Prelude.{ℕ, ◌%◌, List, get_or, sym, ap, ◌∙◌, All, All-get_or, All-from_get_or, All-weaker, quiver_of, Shape, Problem, LinearAssumption, IsSolution, solved_flags, terms_of, IsAssumption, IsZeroAtSignature}
use Rattle.model_candidates.proofs.AssumptionTerms.{assumption_paths, linear_zero, weaker}
use Rattle.model_candidates.proofs.AssumptionsSuffice.{linear_assumptions_are_zero}
use Rattle.model_candidates.proofs.DrawnEntries.{drawn_by_flags}
use Rattle.model_candidates.proofs.GivenValues.{AreGiven, model}
use Rattle.model_candidates.proofs.SolvedEntries.{IsAsDrawn}
use Rattle.model_candidates.proofs.SolvedValues.{terms_same}
use Rattle.model_candidates.proofs.SolvedWords.{few_words}
use Rattle.model_candidates.proofs.ValueRows.{entry_of_zero, value_entry, zero_by_entries}

abbrev pub no_assumption : LinearAssumption
no_assumption = record { place = 0; sig = record { source = record { 0 = 0 }; target = record { 0 = 0 } } }

module _ {problem : Problem} {s : Shape} {xs ys : List ℕ} (base : AreGiven problem s xs) (given : AreGiven problem s ys)
    (alike : IsAsDrawn (solved_flags (quiver_of problem.parts.quiver) s problem.parts.solved) xs ys) where
  condition_same : (g : LinearAssumption) → IsAssumption problem 0 g → IsZeroAtSignature problem (model base) g
      → IsZeroAtSignature problem (model given) g
  condition_same g is zero =
      let u = g.sig.source.0 in
      let v = g.sig.target.0 in
      let p = terms_of problem g in
      zero_by_entries given u v is.source is.target p (λ i j in_rows in_columns.
      value_entry given u v is.source is.target i j in_rows in_columns p (assumption_paths is)
      ∙ ap (λ y. y % s.modulus) (terms_same base given alike u v i j p (assumption_paths is)
      (few_words (quiver_of problem.parts.quiver) problem.parts.solved 0 p is.few))
      ∙ sym (value_entry base u v is.source is.target i j in_rows in_columns p (assumption_paths is))
      ∙ entry_of_zero base u v is.source is.target p zero in_rows in_columns)

  pub conditions_same : (gs : List LinearAssumption) → All (IsAssumption problem 0) gs → All (IsZeroAtSignature problem (model base)) gs
      → All (IsZeroAtSignature problem (model given)) gs
  conditions_same gs each zero = All-from_get_or (IsZeroAtSignature problem (model given)) gs no_assumption (λ k inside.
      condition_same (get_or gs k no_assumption) (All-get_or (IsAssumption problem 0) gs k no_assumption inside each)
      (All-get_or (IsZeroAtSignature problem (model base)) gs k no_assumption inside zero))

-- each solution shows that they are zero
pub conditions_of_solution : {problem : Problem} {s : Shape} {drawn : List ℕ} (given : AreGiven problem s drawn)
    (gs : List LinearAssumption)
    → All (IsAssumption problem 0) gs → {values : List ℕ} → IsSolution problem s drawn values
    → All (IsZeroAtSignature problem (model given)) gs
conditions_of_solution {problem} {s} {drawn} given gs each {values} solution =
    let by : AreGiven problem s values = record
    { shape = given.shape; entries = record { one_each = solution.one_each; below = solution.below } } in
    let as_drawn = drawn_by_flags (quiver_of problem.parts.quiver) s problem.parts.solved drawn values solution.as_drawn in
    conditions_same by given (λ place inside unset. sym (as_drawn place inside unset)) gs each
    (All-weaker (IsAssumption problem 0) (IsZeroAtSignature problem (model by)) (λ g is.
    linear_zero (model by) (linear_assumptions_are_zero problem (model by) solution.zero) (weaker is)) gs each)
