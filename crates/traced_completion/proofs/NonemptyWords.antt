-- No word of an S-polynomial is empty, nor one of what a reduction leaves.
use Rattle.traced_completion.proofs.Prelude.{◌≡◌, ◌≢◌, ◌<◌, ℕ, pos, List, ◌++◌, length, Some, Ok, arith, get_or, All, length-append, All-map, Term, coefficient_of, poly_between, Compare, IsShaped, distinct-descending, words_listed, recursion_from_IsDescending, Rule, State, IsRule, rule_at, normal_form_of, rule_at-all, words_with_coefficients, words_kept, Ambiguity, IsAmbiguity, first_row, second_row, s_polynomial_of, of_either, coefficient_of-s_polynomial}

abbrev pub IsNonempty : List ℕ → Type 0
IsNonempty w = 0 < length w

-- what holds of each word with a coefficient holds of each word in the list
listed : (p : List Term) → IsShaped p → ((w : List ℕ) → coefficient_of p w ≢ pos 0 → IsNonempty w) → All (λ t. IsNonempty t.1) p
listed p shaped each = words_listed IsNonempty p (distinct-descending p (recursion_from_IsDescending p shaped.descending)) shaped.nonzero each

between_nonempty : (l w r : List ℕ) → IsNonempty w → IsNonempty (l ++ (w ++ r))
between_nonempty l w r some = omega (arith, length-append l (w ++ r), length-append w r, some)

each_between : (l r : List ℕ) (p : List Term) → All (λ t. IsNonempty t.1) p → All (λ t. IsNonempty (l ++ (t.1 ++ r))) p
each_between l r p each i t below = between_nonempty l (get_or p i t).1 r (each i t below)

poly_between_nonempty : (l r : List ℕ) (p : List Term) → All (λ t. IsNonempty t.1) p → All (λ t. IsNonempty t.1) (poly_between l p r)
poly_between_nonempty l r p each = All-map (λ (t : Term). IsNonempty t.1) (λ (t : Term). (t.0, l ++ (t.1 ++ r))) p (each_between l r p each)

module _ (letters : ℕ) (compare : Compare) (rules : List Rule) (are_rules : All (IsRule letters compare) rules) where
  rule_words : (n : ℕ) (g : Rule) → rule_at rules n ≡ Some g → All (λ t. IsNonempty t.1) g.poly.terms
  rule_words n g has = (rule_at-all (IsRule letters compare) rules n g has are_rules).nonempty

  pub nonempty_s : (a : Ambiguity) → IsAmbiguity rules a → (p : List Term) → IsShaped p → s_polynomial_of rules a ≡ Ok p → All (λ t. IsNonempty t.1) p
  nonempty_s a is p shaped ends =
      let one = first_row rules a in
      let two = second_row rules a in
      listed p shaped
      (of_either one.coef two.coef (poly_between one.left is.first.poly.terms one.right) (poly_between two.left is.second.poly.terms two.right) p (coefficient_of-s_polynomial rules a is p ends) IsNonempty
      (words_with_coefficients IsNonempty (poly_between one.left is.first.poly.terms one.right) (poly_between_nonempty one.left one.right is.first.poly.terms (rule_words a.i is.first is.first_numbered)))
      (words_with_coefficients IsNonempty (poly_between two.left is.second.poly.terms two.right) (poly_between_nonempty two.left two.right is.second.poly.terms (rule_words a.j is.second is.second_numbered))))

  pub nonempty_rest : (p : List Term) (steps : ℕ) (s : State) → All (λ t. IsNonempty t.1) p → IsShaped s.rest → normal_form_of compare rules p steps ≡ Ok s → All (λ t. IsNonempty t.1) s.rest
  nonempty_rest p steps s each shaped ends =
      listed s.rest shaped (words_kept IsNonempty compare rules (λ n g has l r some. each_between l r g.poly.terms (rule_words n g has)) p steps s each ends).rest
