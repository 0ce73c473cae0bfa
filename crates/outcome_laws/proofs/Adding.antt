-- What is added for a rest is appended, so that the invariant holds.
use Rattle.outcome_laws.proofs.Prelude.{◌≢◌, ◌<◌, ℕ, pos, Bool, List, [], ◌∷◌, length, refl, sym, ap, ◌∙◌, arith, All, All-head, Term, coefficient_of, Quiver, IsOver, Compare, IsShaped, distinct-descending, words_listed, first_coefficient, recursion_from_IsDescending, Row, Made, Rule, IsNonzero, IsMadeOf, IsAppended, nothing_left, rule_made, scale_positive, pushed_rules_are_made, typed_has_no_empty_word, Recorded, rest_with, leads_negative, IsMadeFrom, Adds, IsGenerator, quotient_words, leading_positive}

-- what holds of each word with a coefficient holds of each term
listed : (P : List ℕ → Type 0) (p : List Term) → IsShaped p → ((w : List ℕ) → coefficient_of p w ≢ pos 0 → P w) → All (λ t. P t.1) p
listed P p shaped each = words_listed P p (distinct-descending p (recursion_from_IsDescending p shaped.descending)) shaped.nonzero each

-- a sorted list with a term isn't zero
pub nonzero : (t : Term) (p : List Term) → IsShaped (t ∷ p) → IsNonzero (t ∷ p)
nonzero t p shaped = record { word = t.1; occurs = λ none. All-head (λ (u : Term). u.0 ≢ pos 0) t p shaped.nonzero (sym (first_coefficient t p (distinct-descending (t ∷ p) (recursion_from_IsDescending (t ∷ p) shaped.descending)).0) ∙ none) }

module _ (q : Quiver) (play : ℕ → Bool) (letters : ℕ) (compare : Compare) where
  made_of : (t : Term) (p : List Term) (rows : List Row) (g : Rule) (m : Made) → IsGenerator q play letters (t ∷ p)
      → IsMadeFrom compare (record { polynomial = t ∷ p; rows = rows }) g m → IsMadeOf letters compare (t ∷ p) rows g m
  made_of t p rows g m is from =
      let some = nonzero t p is.shaped in
      let scale = scale_positive (t ∷ p) g.poly.terms (leads_negative compare (t ∷ p)) m.scale some from.content from.divided in
      pushed_rules_are_made letters compare (t ∷ p) rows (leads_negative compare (t ∷ p)) g m some from.content from.divided from.leading
      (leading_positive compare m.scale g.poly.terms (t ∷ p) scale from.divided (omega arith) is.shaped.nonzero)
      (quotient_words (λ w. 0 < length w) _ g.poly.terms (t ∷ p) from.divided (listed (λ w. 0 < length w) (t ∷ p) is.shaped (typed_has_no_empty_word q play (t ∷ p) is.typed).at))
      (quotient_words (IsOver letters) _ g.poly.terms (t ∷ p) from.divided is.over)
      from.rows

  pub appended : (p : List Term) (rows : List Row) (before after : Recorded) → IsGenerator q play letters p → Adds compare (rest_with p rows) before after
      → IsAppended letters compare p rows before.rules before.made after.rules after.made
  appended [] rows before after is same = nothing_left (record { at = λ w. refl }) (ap (λ (r : Recorded). r.rules) same) (ap (λ (r : Recorded). r.made) same)
  appended (t ∷ p) rows before after is extended =
      rule_made extended.rule extended.made (made_of t p rows extended.rule extended.made is extended.made_from)
      (ap (λ (r : Recorded). r.rules) extended.appended) (ap (λ (r : Recorded). r.made) extended.appended)
