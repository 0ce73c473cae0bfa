-- In a model the linear assumptions are zero exactly where all linear generators are: adjoints are zero with what they are the adjoints of, and the relations of
-- identities are zero anyway.
use Rattle.model_candidates.proofs.Prelude.{◌≡◌, ◌≢◌, ℕ, ◌+◌, ◌<◌, ◌≤◌, ℤ, negsuc, pos, Bool, true, false, cond, ◌||◌, nat_eq, nat_le, List, [], ◌∷◌, ◌++◌, length, get_or, filter, refl, sym, ap, ap₂, subst, ◌∙◌, arith, eqb-true, eq-eqb, All, AllByRecursion, AllZip, flat_map, list_all, list_any, le-leb, length-append, filter-append, list_all-from_AllPass, SamePolynomial, coefficient_of, poly_eq, poly_multiple, word_eq, Quiver, IsQuiver, letters, star, adjoint_word, adjoint_poly, new_adjoint, units, Representation, StarRepresents, IsStarSound, star_star_each, adjoint_word-adjoint_word, coefficient_of-adjoint_poly, word_eq-true, coefficient_other, all-append, star_sound, Letter, Poly, distinct-descending, words_listed, recursion_from_IsDescending, canonical_unique, quiver_of, Matrix, matrices, transpose, matrices_laws, transpose_laws, Model, Problem, polynomials, numbers, generators_in, posed_quiver, marked_are_objects, zero_along, IsModel, HaveMatrices, IsZeroIn, representation_of, star_represents, is_linear, is_solved, linear_generators, solved_count, linear_assumptions}
use Rattle.model_candidates.proofs.AssumptionTerms.{all_kept, of_kept}
use Rattle.model_candidates.proofs.SolvedWords.{few_words, kept_first}

-- linear polynomials
same_truth : (b c : Bool) → (b ≡ true → c ≡ true) → (c ≡ true → b ≡ true) → b ≡ c
same_truth true c there back = sym (there refl)
same_truth false true there back = back refl
same_truth false false there back = refl

or_turned : (b c : Bool) → (b || c) ≡ (c || b)
or_turned true true = refl
or_turned true false = refl
or_turned false true = refl
or_turned false false = refl

any_same : {X : Type 0} (p r : X → Bool) → ((x : X) → p x ≡ r x) → (xs : List X) → list_any p xs ≡ list_any r xs
any_same p r same [] = refl
any_same p r same (x ∷ xs) = ap₂ ◌||◌ (same x) (any_same p r same xs)

module _ (q : Quiver) (quiver : IsQuiver q) (solved : List Letter) where
  -- each word with a coefficient has one solved letter at most
  abbrev IsLinear : List (ℤ × List ℕ) → Type 0
  IsLinear p = (w : List ℕ) → coefficient_of p w ≢ pos 0 → solved_count q solved w ≤ 1

  pub linear_same : (r p : List (ℤ × List ℕ)) → SamePolynomial r p → IsLinear r → IsLinear p
  linear_same r p same linear w there = linear w (λ none. there (sym (same.at w) ∙ none))

  linear_from_words : (p : List (ℤ × List ℕ)) → AllByRecursion (λ t. solved_count q solved t.1 ≤ 1) p → IsLinear p
  linear_from_words [] all w there = absurd (there refl)
  linear_from_words (t ∷ p) all w there = go (word_eq t.1 w) refl (linear_from_words p all.1 w)
    where
      go : (b : Bool) → word_eq t.1 w ≡ b → (coefficient_of p w ≢ pos 0 → solved_count q solved w ≤ 1) → solved_count q solved w ≤ 1
      go true same later = subst (λ x. solved_count q solved x ≤ 1) (word_eq-true t.1 w same) all.0
      go false other later = later (λ none. there (coefficient_other w t p other ∙ none))

  pub linear_poly : (p : Poly) → is_linear q solved p ≡ true → IsLinear p.terms
  linear_poly p is = linear_from_words p.terms (few_words q solved 1 p.terms is)

  all_few : (p : List (ℤ × List ℕ)) → All (λ t. solved_count q solved t.1 ≤ 1) p
      → list_all (λ t. nat_le (solved_count q solved t.1) 1) p ≡ true
  all_few p few = list_all-from_AllPass (λ (t : ℤ × List ℕ). nat_le (solved_count q solved t.1) 1) p (λ k t inside. le-leb (solved_count q solved (get_or p k t).1) 1 (few k t inside))

  pub poly_linear : (p : Poly) → IsLinear p.terms → is_linear q solved p ≡ true
  poly_linear p linear = all_few p.terms
      (words_listed (λ w. solved_count q solved w ≤ 1) p.terms
      (distinct-descending p.terms (recursion_from_IsDescending p.terms p.canonical.shaped.descending))
      p.canonical.shaped.nonzero linear)

  -- adjoints
  star_moved : (a b : ℕ) → nat_eq (star q a) b ≡ nat_eq a (star q b)
  star_moved a b = same_truth (nat_eq (star q a) b) (nat_eq a (star q b))
      (λ is. eq-eqb a (star q b) (sym (star_star_each q quiver a) ∙ ap (star q) (eqb-true (star q a) b is)))
      (λ is. eq-eqb (star q a) b (ap (star q) (eqb-true a (star q b) is) ∙ star_star_each q quiver b))

  solved_adjoint : (a : ℕ) → is_solved q solved (star q a) ≡ is_solved q solved a
  solved_adjoint a =
      any_same (λ l. nat_eq (star q a) l.0 || nat_eq (star q a) (star q l.0)) (λ l. nat_eq a l.0 || nat_eq a (star q l.0)) each solved
    where
      each : (l : Letter) → (nat_eq (star q a) l.0 || nat_eq (star q a) (star q l.0)) ≡ (nat_eq a l.0 || nat_eq a (star q l.0))
      each l =
          ap₂ ◌||◌ (star_moved a l.0) (star_moved a (star q l.0) ∙ ap (nat_eq a) (star_star_each q quiver l.0))
          ∙ or_turned (nat_eq a (star q l.0)) (nat_eq a l.0)

  count-adjoint_word : (w : List ℕ) → solved_count q solved (adjoint_word q w) ≡ solved_count q solved w
  count-adjoint_word [] = refl
  count-adjoint_word (a ∷ w) =
      let keep = is_solved q solved in
      let both = ap length (filter-append keep (adjoint_word q w) (star q a ∷ []))
      ∙ length-append (filter keep (adjoint_word q w)) (filter keep (star q a ∷ [])) in
      let last = kept_first keep (star q a) [] ∙ ap (λ b. cond b 1 0 + 0) (solved_adjoint a) in
      omega (arith, both, last, count-adjoint_word w, kept_first keep a w)

  linear_from_adjoint : (p : List (ℤ × List ℕ)) → IsLinear (adjoint_poly q p) → IsLinear p
  linear_from_adjoint p linear w there =
      subst (λ n. n ≤ 1) (count-adjoint_word w) (linear (adjoint_word q w) (λ none.
      there (sym (ap (coefficient_of p) (adjoint_word-adjoint_word q quiver w)) ∙ sym (coefficient_of-adjoint_poly q quiver p (adjoint_word q w))
      ∙ none)))

module _ (problem : Problem) (m : Model) where
  abbrev q' : Quiver
  q' = quiver_of problem.parts.quiver

  abbrev posed : IsQuiver q'
  posed = posed_quiver problem.parts problem.posed

  abbrev maps : List Letter
  maps = problem.parts.solved

  abbrev keep : Poly → Bool
  keep = is_linear q' maps

  abbrev IsZero : List (ℤ × List ℕ) → Type 0
  IsZero p = IsZeroIn problem m p

  -- from the generators
  first_ones : (ps : List Poly) (more : List (List (ℤ × List ℕ))) (gs : List Poly) → AllZip SamePolynomial (polynomials gs) (polynomials ps ++ more)
      → AllByRecursion (λ g. keep g ≡ true → IsZero g.terms) gs → AllByRecursion (λ p. keep p ≡ true → IsZero p.terms) ps
  first_ones [] more gs same zero = tt
  first_ones (p ∷ ps) more [] same zero = absurd same
  first_ones (p ∷ ps) more (g ∷ gs) same zero =
      let terms = canonical_unique g.terms p.terms g.canonical p.canonical same.0 in (
        subst (λ ts. list_all (λ t. nat_le (solved_count q' maps t.1) 1) ts ≡ true → IsZero ts) terms zero.0,
        first_ones ps more gs same.1 zero.1,
      )

  pub linear_assumptions_are_zero : AllByRecursion IsZero (polynomials (linear_generators problem)) → AllByRecursion IsZero (linear_assumptions problem)
  linear_assumptions_are_zero zero = all_kept IsZero keep problem.parts.assumptions
      (first_ones problem.parts.assumptions _ problem.generators problem.closed.same (of_kept IsZero keep problem.generators zero))

  -- from the assumptions
  module _ (model : IsModel q' m) (matrices_are : HaveMatrices q' m (letters q')) where
    abbrev f : Representation ℕ Matrix
    f = representation_of q' m

    rep : StarRepresents (matrices m.modulus) (transpose m.modulus) q' f
    rep = star_represents q' posed m model matrices_are

    sound : IsStarSound (matrices m.modulus) (transpose m.modulus)
    sound = star_sound (matrices_laws m.modulus) (transpose_laws m.modulus)

    -- zero, where it is linear
    abbrev IsZeroIfLinear : List (ℤ × List ℕ) → Type 0
    IsZeroIfLinear p = IsLinear q' posed maps p → IsZero p

    own : (ps : List Poly) → AllByRecursion (λ p. keep p ≡ true → IsZero p.terms) ps → AllByRecursion IsZeroIfLinear (polynomials ps)
    own [] zero = tt
    own (p ∷ ps) zero = (λ linear. zero.0 (poly_linear q' posed maps p linear), own ps zero.1)

    of_adjoint : (p : List (ℤ × List ℕ)) → IsZeroIfLinear p → AllByRecursion IsZeroIfLinear (new_adjoint q' p)
    of_adjoint p zero = go (poly_eq (adjoint_poly q' p) p || poly_eq (adjoint_poly q' p) (poly_multiple (negsuc 0) p))
        (λ linear. (sound.generators q' true [] (p ∷ []) posed tt f rep (zero (linear_from_adjoint q' posed maps p linear), tt)).1)
      where
        go : (b : Bool) → (IsLinear q' posed maps (adjoint_poly q' p) → AllByRecursion IsZero ((cond b [] (adjoint_poly q' p ∷ []) ++ []) ++ []))
            → AllByRecursion IsZeroIfLinear (cond b [] (adjoint_poly q' p ∷ []))
        go true zero = tt
        go false zero = (λ linear. (zero linear).0, tt)

    of_adjoints : (ps : List (List (ℤ × List ℕ))) → AllByRecursion IsZeroIfLinear ps → AllByRecursion IsZeroIfLinear (flat_map (new_adjoint q') ps)
    of_adjoints [] zero = tt
    of_adjoints (p ∷ ps) zero = all-append IsZeroIfLinear (new_adjoint q' p) (flat_map (new_adjoint q') ps) (of_adjoint p zero.0) (of_adjoints ps zero.1)

    anyway : (ps : List (List (ℤ × List ℕ))) → AllByRecursion IsZero ps → AllByRecursion IsZeroIfLinear ps
    anyway [] zero = tt
    anyway (p ∷ ps) zero = (λ linear. zero.0, anyway ps zero.1)

    of_units : (starred : Bool) (marked : List ℕ) → AllByRecursion (λ v. v < q'.objects) marked
        → AllByRecursion IsZero (flat_map (units q' starred) marked)
    of_units starred marked inside =
        elim starred as (λ b. AllByRecursion IsZero (cond b [] [] ++ flat_map (units q' starred) marked)
        → AllByRecursion IsZero (flat_map (units q' starred) marked)) [ true ↦ λ zero. zero | false ↦ λ zero. zero ]
        (sound.generators q' starred marked [] posed inside f rep tt)

    of_definition : (starred : Bool) (marked : List ℕ) → AllByRecursion (λ v. v < q'.objects) marked → (ps : List (List (ℤ × List ℕ)))
        → AllByRecursion IsZeroIfLinear ps
        → AllByRecursion IsZeroIfLinear (ps ++ (cond starred (flat_map (new_adjoint q') ps) [] ++ flat_map (units q' starred) marked))
    of_definition starred marked inside ps zero =
        all-append IsZeroIfLinear ps _ zero (all-append IsZeroIfLinear _ (flat_map (units q' starred) marked) (adjoints starred)
        (anyway (flat_map (units q' starred) marked) (of_units starred marked inside)))
      where
        adjoints : (b : Bool) → AllByRecursion IsZeroIfLinear (cond b (flat_map (new_adjoint q') ps) [])
        adjoints true = of_adjoints ps zero
        adjoints false = tt

    same_zero : {r p : List (ℤ × List ℕ)} → SamePolynomial r p → IsZero p → IsZero r
    same_zero {r} {p} same zero = (zero_along (matrices_laws m.modulus) q' f rep.represents (r ∷ []) (p ∷ []) (same, tt) (zero, tt)).0

    back : (gs : List Poly) (ps : List (List (ℤ × List ℕ))) → AllZip SamePolynomial (polynomials gs) ps → AllByRecursion IsZeroIfLinear ps
        → AllByRecursion (λ g. keep g ≡ true → IsZero g.terms) gs
    back [] [] same zero = tt
    back [] (p ∷ ps) same zero = absurd same
    back (g ∷ gs) [] same zero = absurd same
    back (g ∷ gs) (p ∷ ps) same zero = (
      λ kept. same_zero same.0 (zero.0 (linear_same q' posed maps g.terms p same.0 (linear_poly q' posed maps g kept))),
      back gs ps same.1 zero.1,
    )

    pub linear_generators_are_zero : AllByRecursion IsZero (linear_assumptions problem) → AllByRecursion IsZero (polynomials (linear_generators problem))
    linear_generators_are_zero zero =
        all_kept IsZero keep problem.generators (back problem.generators (generators_in problem.parts) problem.closed.same
        (of_definition problem.parts.starred (numbers problem.parts.marked) (marked_are_objects problem.parts problem.posed)
        (polynomials problem.parts.assumptions) (own problem.parts.assumptions (of_kept IsZero keep problem.parts.assumptions zero))))
