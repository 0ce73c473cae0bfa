-- The letters of a problem's generators and of its claims are letters of its quiver.
use Rattle.closed_checker.proofs.Prelude.{◌≡◌, ◌≤◌, ◌<◌, ℕ, true, List, [], ◌∷◌, slice_get, Some, subst, arith, All, AllByRecursion, All-nil, All-cons, All-weaker, slice_get_within, get_or_from_slice_get, Term, Quiver, letters, source, leads, is_path, HasSignature, step, IsOver, Poly, distinct-descending, words_listed, recursion_from_IsDescending, Declaration, letter_count, quiver_of, letters-quiver_of, Problem, polynomials, claims_have_signatures, generators_have_signatures, IsPolyOver}

-- paths
leads_over : (q : Quiver) (u v : ℕ) (w : List ℕ) → leads q u v w ≡ true → IsOver (letters q) w
leads_over q u v [] path = All-nil (λ a. a < letters q)
leads_over q u v (a ∷ w) path = let first = step q u v a w path in All-cons (λ b. b < letters q) a w first.letter (leads_over q u (source q a) w first.rest)

path_over : (q : Quiver) (u v : ℕ) (w : List ℕ) → is_path q u v w ≡ true → IsOver (letters q) w
path_over q u v [] path = All-nil (λ a. a < letters q)
path_over q u v (a ∷ w) path = leads_over q u v (a ∷ w) path

-- polynomials with a signature
module _ (ds : List Declaration) where
  typed_over : (p : Poly) → HasSignature (quiver_of ds) p.terms → IsPolyOver ds p
  typed_over p has =
      words_listed (IsOver (letter_count ds)) p.terms (distinct-descending p.terms (recursion_from_IsDescending p.terms p.canonical.shaped.descending))
      p.canonical.shaped.nonzero
      (λ w some. subst (λ k. IsOver k w) (letters-quiver_of ds) (path_over (quiver_of ds) has.source has.target w (has.typed.at w some)))

  all_over : (ps : List Poly) → AllByRecursion (HasSignature (quiver_of ds)) (polynomials ps) → All (IsPolyOver ds) ps
  all_over [] each = All-nil (IsPolyOver ds)
  all_over (p ∷ ps) each = All-cons (IsPolyOver ds) p ps (typed_over p each.0) (all_over ps each.1)

-- of a problem
module _ (problem : Problem) where
  pub generators_over : All (IsPolyOver problem.parts.quiver) problem.generators
  generators_over = all_over problem.parts.quiver problem.generators (generators_have_signatures problem.parts problem.posed problem.generators problem.closed)

  pub claims_over : All (IsPolyOver problem.parts.quiver) problem.parts.claims
  claims_over = all_over problem.parts.quiver problem.parts.claims (claims_have_signatures problem.parts problem.posed)

-- more letters
pub over_more : (few many : ℕ) (p : List Term) → few ≤ many → All (λ t. IsOver few t.1) p → All (λ t. IsOver many t.1) p
over_more few many p most each =
    All-weaker (λ (t : Term). IsOver few t.1) (λ (t : Term). IsOver many t.1)
    (λ t word. All-weaker (λ a. a < few) (λ a. a < many) (λ a below. omega (arith, below, most)) t.1 word) p each

-- what stands at a place of a list of polynomials over the quiver
pub over_at : (ds : List Declaration) (ps : List Poly) (place many : ℕ) (p : Poly) → letter_count ds ≤ many → All (IsPolyOver ds) ps → slice_get ps place ≡ Some p
    → All (λ t. IsOver many t.1) p.terms
over_at ds ps place many p most each at =
    over_more (letter_count ds) many p.terms most (subst (IsPolyOver ds) (get_or_from_slice_get ps place p p at) (each place p (slice_get_within ps place p at)))
