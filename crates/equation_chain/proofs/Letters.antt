-- Steps and lines have letters of the quiver alone, and each line has a signature.
use Rattle.equation_chain.proofs.Prelude.{◌≡◌, ℕ, zero, suc, ◌+◌, ◌<◌, negsuc, true, List, [], ◌∷◌, take, length, get_or, Result, Ok, Err, IfOk, sym, subst, arith, All, AllByRecursion, range_with_len, get_or-map, length-map, All-nil, All-cons, All-map, All-take, All-filter, AllZip-long, Term, poly_sum, poly_multiple, row_sum, Quiver, letters, source, leads, is_path, IsTyped, HasSignature, step, IsOver, descending-collected, nonzero-collected, distinct-descending, words_listed, Declaration, object_count, letter_count, quiver_of, ends_of, letters-quiver_of, CertRow, Certificate, rows_of, Problem, polynomials, IsRowOver, IsNumberUpTo, length-polynomials, Chain, ChainFault, claim_ends, is_typed, is_step, steps_of, claim_in, line_less, lines_of, IsAccepted, line_before, steps_before, IsChainOf, IsWritable}
use Rattle.equation_chain.proofs.Vanishing.{all_in_range, typed_in, line_typed, typed_line}

-- paths
leads_over : (q : Quiver) (u v : ℕ) (w : List ℕ) → leads q u v w ≡ true → IsOver (letters q) w
leads_over q u v [] path = All-nil (λ a. a < letters q)
leads_over q u v (a ∷ w) path = let first = step q u v a w path in All-cons (λ b. b < letters q) a w first.letter (leads_over q u (source q a) w first.rest)

path_over : (q : Quiver) (u v : ℕ) (w : List ℕ) → is_path q u v w ≡ true → IsOver (letters q) w
path_over q u v [] path = absurd cc
path_over q u v (a ∷ w) path = leads_over q u v (a ∷ w) path

-- the ends of a claim
ends_are_objects : (problem : Problem) (n : ℕ) → IsNumberUpTo (length (polynomials problem.parts.claims)) n
    → ((claim_ends problem n).0 < object_count problem.parts.quiver) × ((claim_ends problem n).1 < object_count problem.parts.quiver)
ends_are_objects problem zero number = let least = number.least in absurd (omega (arith, least))
ends_are_objects problem (suc n) number =
    let most = number.most in
    let claims = length-polynomials problem.parts.claims in
    let sigs = AllZip-long _ problem.parts.claims problem.parts.claim_sigs problem.posed.claims_typed in
    let ends : All (λ s. Inside (ends_of s)) problem.parts.claim_sigs = λ k d below. let has = problem.posed.claim_ends k d below in (has.source, has.target) in
    All-map Inside ends_of problem.parts.claim_sigs ends n (0, 0) (omega (arith, most, claims, sigs, length-map problem.parts.claim_sigs ends_of))
  where
    Inside : ℕ × ℕ → Type 0
    Inside e = (e.0 < object_count problem.parts.quiver) × (e.1 < object_count problem.parts.quiver)

module _ (problem : Problem) (c : Certificate) where
  abbrev ds : List Declaration
  ds = problem.parts.quiver

  -- letters
  abbrev pub IsLineOver : List Term → Type 0
  IsLineOver p = All (λ (t : Term). IsOver (letter_count ds) t.1) p

  -- a line after steps
  less_over : (steps : List CertRow) → All (λ r. is_typed problem c.claim r ≡ true) steps → IsLineOver (line_less problem c steps)
  less_over steps all =
      let line : List Term = line_less problem c steps in
      let terms : List Term = poly_sum (poly_multiple c.denominator (claim_in problem c)) (poly_multiple (negsuc 0) (row_sum (polynomials problem.generators) (rows_of steps))) in
      let typed : IsTyped (quiver_of ds) (claim_ends problem c.claim).0 (claim_ends problem c.claim).1 line = line_typed problem c steps all in
      words_listed (IsOver (letter_count ds)) line (distinct-descending line (descending-collected terms)) (nonzero-collected terms)
      (λ w there. subst (λ (n : ℕ). IsOver n w) (letters-quiver_of ds) (path_over (quiver_of ds) (claim_ends problem c.claim).0 (claim_ends problem c.claim).1 w (typed.at w there)))

  pub line_over : (i : ℕ) → IsLineOver (line_before problem c i)
  line_over i = less_over (steps_before problem c i) (typed_in problem c (take i c.rows))

  pub lines_over : All IsLineOver (lines_of problem c)
  lines_over =
      All-map IsLineOver (λ k. line_less problem c (take k (steps_of problem c))) (range_with_len 0 (length (steps_of problem c) + 1))
      (λ i d below. less_over _ (All-take (λ r. is_typed problem c.claim r ≡ true) (get_or (range_with_len 0 (length (steps_of problem c) + 1)) i d) (steps_of problem c) (typed_in problem c c.rows)))

  chain_over : All (IsRowOver ds) c.rows → (chain : Chain) → IsChainOf problem c chain → IsWritable ds chain
  chain_over over chain is = record {
    steps = subst (All (IsRowOver ds)) (sym is.steps) (All-filter (is_step problem c.claim) (IsRowOver ds) c.rows over);
    lines = λ k p below.
        subst IsLineOver (get_or-map (λ l. l.terms) chain.lines k p p.terms below)
        (subst (All IsLineOver) (sym is.lines) lines_over k p.terms (omega (arith, below, length-map chain.lines (λ l. l.terms))));
  }

  pub writable_part : (r : Result Chain ChainFault) → IfOk r (IsChainOf problem c) → All (IsRowOver ds) c.rows → IfOk r (IsWritable ds)
  writable_part (Ok chain) is over = chain_over over chain is
  writable_part (Err f) is over = tt

  -- signatures
  pub lines_have_signatures : IsAccepted problem c → AllByRecursion (HasSignature (quiver_of ds)) (lines_of problem c)
  lines_have_signatures accepted =
      let ends = ends_are_objects problem c.claim accepted.adds_up.begins.posed.claim in
      all_in_range (HasSignature (quiver_of ds)) (λ k. line_less problem c (take k (steps_of problem c)))
      (λ k. record { source = (claim_ends problem c.claim).0; target = (claim_ends problem c.claim).1; source_is_object = ends.0; target_is_object = ends.1; typed = typed_line problem c k })
      0 (length (steps_of problem c) + 1)
