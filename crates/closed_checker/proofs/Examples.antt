-- Two rules of words in the letters s = 1 and t = 3 in the canonical order, worked out by hand: t t - s, which leaves t s - s t of its overlap with
-- itself, and that one, with which nothing is left.
use Rattle.closed_checker.proofs.Prelude.{◌≡◌, ◌<ℤ◌, pos, negsuc, List, [], ◌∷◌, Ok, refl, arith, IsSomeAnd, Term, word_cmp, IsCanonical, Poly, Rule, leading_term, Overlap, Ambiguity, s_polynomial_of, shaped_as_written, canonical_as_written, step_limit, rules_from, rest_by, MayBeRule}

abbrev square_terms : List Term
square_terms = (pos 1, 3 ∷ 3 ∷ []) ∷ (negsuc 0, 1 ∷ []) ∷ []

abbrev commuting_terms : List Term
commuting_terms = (pos 1, 3 ∷ 1 ∷ []) ∷ (negsuc 0, 1 ∷ 3 ∷ []) ∷ []

square_canonical : IsCanonical square_terms
square_canonical =
    canonical_as_written square_terms
    (shaped_as_written square_terms ((refl, tt), (tt, tt)) ((λ e. cc), ((λ e. cc), tt)) (omega arith, (omega arith, tt)))
    (omega arith, (omega arith, tt)) (omega arith)

commuting_canonical : IsCanonical commuting_terms
commuting_canonical =
    canonical_as_written commuting_terms
    (shaped_as_written commuting_terms ((refl, tt), (tt, tt)) ((λ e. cc), ((λ e. cc), tt)) (omega arith, (omega arith, tt)))
    (omega arith, (omega arith, tt)) (omega arith)

abbrev square : Poly
square = record { terms = square_terms; canonical = square_canonical }

abbrev commuting : Poly
commuting = record { terms = commuting_terms; canonical = commuting_canonical }

abbrev alone : List Rule
alone = rules_from word_cmp (square ∷ [])

abbrev both : List Rule
both = rules_from word_cmp (square ∷ commuting ∷ [])

-- their leading words
leading : alone ≡ record { leading = pos 1; lead = 3 ∷ 3 ∷ []; poly = square } ∷ []
leading = refl

-- t t and t t in t t t, t t and t s in t t s
abbrev itself : Ambiguity
itself = record { i = 1; j = 1; kind = Overlap; place = 1 }

abbrev other : Ambiguity
other = record { i = 1; j = 2; kind = Overlap; place = 1 }

-- the generator t t - s
generated : rest_by word_cmp alone (Ok square_terms) ≡ Ok []
unfolding step_limit
generated = refl

left_alone : rest_by word_cmp alone (s_polynomial_of alone itself) ≡ Ok commuting_terms
unfolding step_limit
left_alone = refl

nothing_left : rest_by word_cmp both (s_polynomial_of both itself) ≡ Ok []
unfolding step_limit
nothing_left = refl

nothing_left_of_other : rest_by word_cmp both (s_polynomial_of both other) ≡ Ok []
unfolding step_limit
nothing_left_of_other = refl

-- the claim s s s is left as it is, and t t t is not
cube : rest_by word_cmp both (Ok ((pos 1, 1 ∷ 1 ∷ 1 ∷ []) ∷ [])) ≡ Ok ((pos 1, 1 ∷ 1 ∷ 1 ∷ []) ∷ [])
unfolding step_limit
cube = refl

reduced : rest_by word_cmp both (Ok ((pos 1, 3 ∷ 3 ∷ 3 ∷ []) ∷ [])) ≡ Ok ((pos 1, 1 ∷ 3 ∷ []) ∷ [])
unfolding step_limit
reduced = refl

-- zero is no rule
zero_is_none : (p : Poly) → p.terms ≡ [] → MayBeRule word_cmp p → ⊥
zero_is_none p none may = go p.terms none may.positive
  where
    go : (terms : List Term) → terms ≡ [] → IsSomeAnd (leading_term word_cmp terms) (λ t. pos 0 <ℤ t.0) → ⊥
    go [] e some = some
    go (t ∷ terms) e some = cc
