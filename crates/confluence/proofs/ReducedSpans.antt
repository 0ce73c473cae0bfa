-- What was reduced, as rows over the rules.
use Rattle.std.proofs.Common.{◌≡◌, ◌≢◌, ℕ, pos, ◌+ℤ◌, ◌*ℤ◌, List, [], ◌∷◌, ◌++◌, refl, sym, ap, ◌∙◌, subst, arith, ◌⊎◌, inl, inr, neg_ℤ, length}
use Rattle.std.proofs.lemmas.List.Elements.{All-tail, All-weaker}
use Rattle.std.specs.List.{All}
use Rattle.definitions.proofs.Coefficients.{coefficient_of-append, coefficient_of-multiple}
use Rattle.definitions.specs.Combination.{generator_at}
use Rattle.definitions.specs.Poly.{Word, Term, coefficient_of, poly_between}
use Rattle.traced_rows.specs.Traces.{origin_poly, traced_poly, traced_sum}
use Rattle.traced_rows.specs.declared.Origin.{Origin}
use Rattle.traced_rows.specs.declared.Row.{Row}
use Rattle.word_orders.proofs.Orders.{order_from_laws, below_less}
use Rattle.word_orders.specs.Admissible.{Compare, IsAdmissible}
use Rattle.word_orders.specs.Orders.{Order, IsBelow}
use Rattle.rule_reduce.specs.KeptWords.{IsAtMostOf}
use Rattle.rule_reduce.specs.Laws.{IsByRule}
use Rattle.rule_reduce.specs.RuleLists.{IsRule, polynomials_of}
use Rattle.rule_reduce.specs.declared.rule.Rule.{Rule}
use Rattle.rule_reduce.specs.declared.state.State.{State}
use Rattle.confluence.specs.Reductions.{IsZero, IsReduced}
use Rattle.traced_rows.specs.declared.Origin.TheVariants as origin
use Rattle.confluence.proofs.Spans.{Span, nothing, more, Coefs, span_same}
use Rattle.confluence.proofs.SumRows.{Numbered, span_from_numbered}
use Rattle.confluence.proofs.Integers.{second_part}
use Rattle.confluence.proofs.Led.{IsAtMostOf as IsAtMostIn}
use Rattle.confluence.proofs.LedRules.{leds_are, ordered, Bounded, at_most_bounded, from_rest}
use Rattle.confluence.proofs.Meets.{Allowed}
use Rattle.confluence.proofs.Outside.{AnyRow}

-- each word to which the row multiplies its polynomial is as asked
abbrev pub IsAsked : List (List Term) → (Word → Type 0) → Row → Type 0
IsAsked polys Asked row = (w : Word) → coefficient_of (origin_poly [] polys row.from) w ≢ pos 0 → Asked (row.left ++ (w ++ row.right))

module _ (polys : List (List Term)) (Asked : Word → Type 0) (count : ℕ) where
  pub numbered_rows : (rows : List Row) → All (λ row. IsByRule count row.from) rows → All (IsAsked polys Asked) rows → Span (Numbered polys Asked) (coefficient_of (traced_sum [] polys rows))
  numbered_rows [] by_rules asked = nothing _ (λ w. refl)
  numbered_rows (row ∷ rows) by_rules asked =
      go row.from refl (by_rules 0 row (omega arith)) (numbered_rows rows (All-tail (λ (r : Row). IsByRule count r.from) row rows by_rules) (All-tail (IsAsked polys Asked) row rows asked))
    where
      go : (x : Origin) → row.from ≡ x → IsByRule count row.from → Span (Numbered polys Asked) (coefficient_of (traced_sum [] polys rows)) → Span (Numbered polys Asked) (coefficient_of (traced_sum [] polys (row ∷ rows)))
      go (origin.Generator n) is by_rule rest = absurd (subst (IsByRule count) is by_rule)
      go (origin.Rule n) is by_rule rest =
          more _ (coefficient_of (traced_sum [] polys rows)) (coefficient_of (poly_between row.left (generator_at polys n) row.right)) row.coef
          (record { number = n; left = row.left; right = row.right; is = λ w. refl; asked = λ w some. asked 0 row (omega arith) w (subst (λ o. coefficient_of (origin_poly [] polys o) w ≢ pos 0) (sym is) some) })
          rest
          (λ w. coefficient_of-append (traced_poly [] polys row) (traced_sum [] polys rows) w ∙ ap (λ z. z +ℤ coefficient_of (traced_sum [] polys rows) w) (coefficient_of-multiple row.coef (poly_between row.left (origin_poly [] polys row.from) row.right) w ∙ ap (λ o. row.coef *ℤ coefficient_of (poly_between row.left (origin_poly [] polys o) row.right) w) is))

-- the multiplier times the polynomial, less the rest
abbrev pub reduced_part : List Term → State → Coefs
reduced_part p s w = s.multiplier *ℤ coefficient_of p w +ℤ neg_ℤ (coefficient_of s.rest w)

-- it is the sum of the rows
pub numbered_span : (letters : ℕ) (compare : Compare) (rules : List Rule) (p : List Term) (s : State) → IsReduced letters compare rules p s
    → (Asked : Word → Type 0) → ((w : Word) → IsAtMostOf letters compare p w → Asked w) → Span (Numbered (polynomials_of rules) Asked) (reduced_part p s)
numbered_span letters compare rules p s reduced Asked asked =
    span_same (Numbered (polynomials_of rules) Asked) (coefficient_of (traced_sum [] (polynomials_of rules) s.rows)) (reduced_part p s)
    (numbered_rows (polynomials_of rules) Asked (length rules) s.rows reduced.by_rules
    (All-weaker (IsAsked (polynomials_of rules) (IsAtMostOf letters compare p)) (IsAsked (polynomials_of rules) Asked) (λ row each w some. asked (row.left ++ (w ++ row.right)) (each w some)) s.rows reduced.words.rows))
    (λ w. second_part (s.multiplier *ℤ coefficient_of p w) (coefficient_of s.rest w) (coefficient_of (traced_sum [] (polynomials_of rules) s.rows) w)
    (sym (coefficient_of-multiple s.multiplier p w) ∙ reduced.balances.at w ∙ coefficient_of-append s.rest (traced_sum [] (polynomials_of rules) s.rows) w))

module _ (letters : ℕ) (compare : Compare) (rank : List ℕ → List ℕ) (laws : IsAdmissible letters compare rank) where
  abbrev order : Order
  order = order_from_laws letters compare rank laws

  -- words that are at most a word of a polynomial
  pub at_most_in : (p : List Term) (w : Word) → IsAtMostOf letters compare p w → IsAtMostIn order p w
  at_most_in p w most = record { word = most.word; occurs = most.occurs; at_most = go most.at_most }
    where
      go : (w ≡ most.word) ⊎ IsBelow letters compare w most.word → (w ≡ most.word) ⊎ order.Less w most.word
      go (inl same) = inl same
      go (inr less) = inr (below_less letters compare rank laws w most.word less)

  module _ (rules : List Rule) (are : All (IsRule letters compare) rules) (q : Allowed order) (p : List Term) (s : State) (reduced : IsReduced letters compare rules p s) (bounded : Bounded order q p) where
    pub reduced_span : Span (AnyRow order (ordered letters compare rank laws rules are) q) (reduced_part p s)
    reduced_span =
        span_from_numbered order rules (leds_are letters compare rank laws rules are) q Asked (λ u asked. asked) (reduced_part p s)
        (numbered_span letters compare rules p s reduced Asked (λ u most. at_most_bounded order q p bounded u (at_most_in p u most)))
      where
        Asked : Word → Type 0
        Asked u = order.Range u × q.May u

    -- where the rest is zero
    pub zero_rest_span : IsZero s.rest → Span (AnyRow order (ordered letters compare rank laws rules are) q) (coefficient_of p)
    zero_rest_span none = from_rest (AnyRow order (ordered letters compare rank laws rules are) q) p s.rest s.multiplier reduced.positive reduced_span (nothing (coefficient_of s.rest) none.at)
