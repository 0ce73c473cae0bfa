-- The terms of an assumption that are made in a known model fit its value.
use Rattle.model_candidates.proofs.Prelude.{◌≡◌, ℕ, List, Some, get_or, slice_get, sym, ap, subst, ◌∙◌, Poly, residues, get_or-map, get_or_from_slice_get, slice_get_within, All, All-weaker, All-from_recursion, IsArrow, Matrix, matrices, Shape, LinearAssumption, Known, SolvedTerm, side_in, IsKnown, numbers_in, model_in, quiver_in, terms_of, IsAssumption, solved_flags, set_count, solved_terms, FitsTerm, HasSides}
use Rattle.model_candidates.proofs.AssumptionTerms.{assumption_paths}
use Rattle.model_candidates.proofs.GivenValues.{given_of}
use Rattle.model_candidates.proofs.SolvedTerms.{Fits, terms_fit}

module _ (k : Known) (is : IsKnown k) (g : LinearAssumption) (asked : IsAssumption k.given.problem.now 1 g)
    (terms : List SolvedTerm)
    (terms_are : terms ≡ solved_terms (quiver_in k.given) k.given.shape.now k.given.problem.now.parts.solved (numbers_in k)
    (model_in k.given) g.sig.source.0 (terms_of k.given.problem.now g)) where
  abbrev s : Shape
  s = k.given.shape.now

  abbrev Fit : SolvedTerm → Type 0
  Fit = Fits (given_of is.given) g.sig.source.0 g.sig.target.0 asked.source

  all_fit : All Fit terms
  all_fit =
      subst (All Fit) (sym terms_are)
      (All-from_recursion Fit _ (terms_fit (given_of is.given) g.sig.source.0 g.sig.target.0 asked.source (terms_of k.given.problem.now g)
      (assumption_paths asked)))

  pub known_fit : {modulus unknowns : ℕ} → modulus ≡ s.modulus
      → unknowns ≡ set_count (solved_flags (quiver_in k.given) s k.given.problem.now.parts.solved) → All (FitsTerm modulus unknowns) terms
  known_fit {modulus} {unknowns} modulus_is unknowns_are = subst (λ x. All (FitsTerm x unknowns) terms) (sym modulus_is)
      (subst (λ n. All (FitsTerm s.modulus n) terms) (sym unknowns_are)
      (All-weaker Fit (FitsTerm s.modulus (set_count (solved_flags (quiver_in k.given) s k.given.problem.now.parts.solved)))
      (λ t fit. fit.fits) terms all_fit))

  pub known_sides : {value : Matrix} → IsArrow (matrices s.modulus) (side_in s g.sig.source.0) (side_in s g.sig.target.0) value
      → All (HasSides value.rows value.columns) terms
  known_sides {value} ends = All-weaker Fit (HasSides value.rows value.columns) (λ t fit. record {
    rows_are = fit.has_sides.rows_are ∙ sym ends.target;
    columns_are = fit.has_sides.columns_are ∙ sym ends.source;
  }) terms all_fit

-- the coefficients of an assumption
module _ (k : Known) (is : IsKnown k) (place : ℕ) where
  abbrev assumptions : List Poly
  assumptions = k.given.problem.now.parts.assumptions

  abbrev of : Poly → List ℕ
  of p = residues k.given.shape.now.modulus p.terms

  pub coefficients_there : {p : Poly} → slice_get assumptions place ≡ Some p → {found : List ℕ} → found ≡ get_or k.coefficients.now place found
      → found ≡ residues k.given.shape.now.modulus p.terms
  coefficients_there {p} there {found} read = read ∙ ap (λ xs. get_or xs place found) is.coefficients
      ∙ get_or-map of assumptions place p found (slice_get_within assumptions place p there)
      ∙ ap of (get_or_from_slice_get assumptions place p p there)
