-- Where the entries that are solved for are 0, a term with a solved letter adds nothing to a value.
use Rattle.model_candidates.proofs.Prelude.{◌≡◌, ℕ, ◌<◌, ◌≤◌, ℤ, true, List, [], Some, slice_get, sym, subst, ◌∙◌, position, All-from_recursion, is_path, all_at, Known, is_solved, side_in, solved_count, IsKnown, has_few, solved_flags, quiver_in, term_entry}
use Rattle.model_candidates.proofs.DrawnEntries.{flag_of_each}
use Rattle.model_candidates.proofs.FilledValues.{zeros_there}
use Rattle.model_candidates.proofs.GivenValues.{given_of}
use Rattle.model_candidates.proofs.SolvedEntries.{AreChosen}
use Rattle.model_candidates.proofs.SolvedValues.{nothing_added}
use Rattle.model_candidates.proofs.SolvedWords.{few_words}

module _ (k : Known) (is : IsKnown k) where
  zeros : AreChosen (solved_flags (quiver_in k.given) k.given.shape.now k.given.problem.now.parts.solved) [] k.given.values.now
  zeros =
      let flags = solved_flags (quiver_in k.given) k.given.shape.now k.given.problem.now.parts.solved in
      subst (AreChosen flags []) (sym is.zeros)
      (zeros_there flags k.given.values.now
      (is.given.values.one_each ∙ sym (flag_of_each (quiver_in k.given) k.given.shape.now k.given.problem.now.parts.solved)))

  pub few_at : (p : List (ℤ × List ℕ)) → has_few (quiver_in k.given) k.given.problem.now.parts.solved 1 p ≡ true
      → (place : ℕ) {t : ℤ × List ℕ}
      → slice_get p place ≡ Some t → solved_count (quiver_in k.given) k.given.problem.now.parts.solved t.1 ≤ 1
  few_at p few place {t} there =
      let IsFew : ℤ × List ℕ → Type 0 = λ y. solved_count (quiver_in k.given) k.given.problem.now.parts.solved y.1 ≤ 1 in
      all_at IsFew p place t (All-from_recursion IsFew p (few_words (quiver_in k.given) k.given.problem.now.parts.solved 1 p few)) there

  pub nothing_there : (u v : ℕ) → u < (quiver_in k.given).objects → (t : ℤ × List ℕ) → is_path (quiver_in k.given) u v t.1 ≡ true
      → (place : ℕ)
      → position (is_solved (quiver_in k.given) k.given.problem.now.parts.solved) t.1 ≡ Some place
      → solved_count (quiver_in k.given) k.given.problem.now.parts.solved t.1 ≤ 1
      → {i j : ℕ} → i < side_in k.given.shape.now v → j < side_in k.given.shape.now u → term_entry k.given u i j t ≡ 0
  nothing_there u v in_u t path place found few in_rows in_columns = nothing_added (given_of is.given) zeros u v in_u in_rows in_columns t
      path found few
