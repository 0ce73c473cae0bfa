-- The terms of an assumption, and that it is zero where all linear assumptions are.
use Rattle.model_candidates.proofs.Prelude.{◌≡◌, ℕ, zero, suc, ◌<◌, ℤ, Bool, true, false, cond, List, [], ◌∷◌, length, get_or, filter, refl, sym, ◌∙◌, arith, true≢false, AllByRecursion, recursion_from_All, is_path, IsCanonical, Poly, quiver_of, words_are_paths, Model, polynomials, Problem, IsZeroIn, LinearAssumption, IsAssumption, IsZeroAtSignature, has_few, linear_assumptions, terms_of}
use Rattle.model_candidates.proofs.SolvedWords.{fewer}

-- what holds of all polynomials that are kept holds of each that is
module _ (P : List (ℤ × List ℕ) → Type 0) (keep : Poly → Bool) where
  pub of_kept : (ps : List Poly) → AllByRecursion P (polynomials (filter keep ps)) → AllByRecursion (λ p. keep p ≡ true → P p.terms) ps
  of_kept [] all = tt
  of_kept (p ∷ ps) all = elim (keep p) as (λ b. keep p ≡ b → AllByRecursion P (polynomials (cond b (p ∷ filter keep ps) (filter keep ps)))
      → (keep p ≡ true → P p.terms) × AllByRecursion (λ r. keep r ≡ true → P r.terms) ps) [
        | true ↦ λ is own. (λ kept. own.0, of_kept ps own.1)
        | false ↦ λ is own. (λ kept. absurd (true≢false (sym kept ∙ is)), of_kept ps own)
      ] refl all

  pub all_kept : (ps : List Poly) → AllByRecursion (λ p. keep p ≡ true → P p.terms) ps → AllByRecursion P (polynomials (filter keep ps))
  all_kept [] each = tt
  all_kept (p ∷ ps) each = elim (keep p) as (λ b. keep p ≡ b
      → AllByRecursion P (polynomials (cond b (p ∷ filter keep ps) (filter keep ps)))) [
        | true ↦ λ is. (each.0 is, all_kept ps each.1)
        | false ↦ λ is. all_kept ps each.1
      ] refl

at_place : (Q : List (ℤ × List ℕ) → Type 0) (ps : List Poly) → AllByRecursion (λ p. Q p.terms) ps → (place : ℕ) → place < length ps
    → Q (get_or (polynomials ps) place [])
at_place Q [] all place inside = absurd (omega (arith, inside))
at_place Q (p ∷ ps) all zero inside = all.0
at_place Q (p ∷ ps) all (suc place) inside = at_place Q ps all.1 place (omega (arith, inside))

terms_canonical : (ps : List Poly) (place : ℕ) → place < length ps → IsCanonical (get_or (polynomials ps) place [])
terms_canonical [] place inside = absurd (omega (arith, inside))
terms_canonical (p ∷ ps) zero inside = p.canonical
terms_canonical (p ∷ ps) (suc place) inside = terms_canonical ps place (omega (arith, inside))

module _ {problem : Problem} {g : LinearAssumption} where
  pub assumption_paths : {most : ℕ} → IsAssumption problem most g
      → AllByRecursion (λ t. is_path (quiver_of problem.parts.quiver) g.sig.source.0 g.sig.target.0 t.1 ≡ true) (terms_of problem g)
  assumption_paths is =
      let q = quiver_of problem.parts.quiver in
      recursion_from_All (λ t. is_path q g.sig.source.0 g.sig.target.0 t.1 ≡ true) (terms_of problem g)
      (words_are_paths q g.sig.source.0 g.sig.target.0 (terms_of problem g) (terms_canonical problem.parts.assumptions g.place is.place) is.typed)

  -- one with no solved letter is linear
  pub weaker : IsAssumption problem 0 g → IsAssumption problem 1 g
  weaker is = record {
    place = is.place;
    few = fewer (quiver_of problem.parts.quiver) problem.parts.solved (terms_of problem g) is.few;
    source = is.source;
    target = is.target;
    typed = is.typed;
  }

  pub linear_zero : (m : Model) → AllByRecursion (IsZeroIn problem m) (linear_assumptions problem) → IsAssumption problem 1 g
      → IsZeroAtSignature problem m g
  linear_zero m all is =
      let few : List (ℤ × List ℕ) → Bool = has_few (quiver_of problem.parts.quiver) problem.parts.solved 1 in
      (at_place (λ p. few p ≡ true → IsZeroIn problem m p) problem.parts.assumptions
      (of_kept (IsZeroIn problem m) (λ p. few p.terms) problem.parts.assumptions all) g.place is.place is.few).at g.sig.source.0
      g.sig.target.0 is.source is.target is.typed
