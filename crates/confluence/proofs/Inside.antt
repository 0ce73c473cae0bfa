-- What is in the rational ideal of the generators.
use Rattle.std.proofs.Common.{◌≡◌, inl, inr, ◌≤◌, ◌<◌, ℕ, zero, suc, ◌+ℤ◌, ◌*ℤ◌, List, [], ◌∷◌, length, slice_get, Some, refl, ap, ◌∙◌, subst, arith}
use Rattle.std.proofs.lemmas.List.Elements.{All-contains, All-tail}
use Rattle.std.proofs.lemmas.Option.{slice_get_cases}
use Rattle.std.specs.List.{All}
use Rattle.definitions.proofs.Coefficients.{coefficient_of-append, coefficient_of-multiple}
use Rattle.definitions.specs.Combination.{generator_at, InRationalIdeal}
use Rattle.definitions.specs.Poly.{Term, coefficient_of, poly_between}
use Rattle.traced_rows.specs.Traces.{origin_poly, traced_poly, traced_sum}
use Rattle.traced_rows.specs.declared.Made.{Made}
use Rattle.traced_rows.specs.declared.Origin.{Origin}
use Rattle.traced_rows.specs.declared.Row.{Row}
use Rattle.word_orders.specs.Admissible.{Compare}
use Rattle.rule_reduce.proofs.Numbers.{rule_at-polynomial}
use Rattle.rule_reduce.specs.RuleLists.{rule_at, polynomials_of}
use Rattle.rule_reduce.specs.declared.rule.Rule.{Rule}
use Rattle.rule_reduce.specs.declared.state.State.{State}
use Rattle.ambiguities.proofs.Numbers.{rule_at-first, rule_at-last}
use Rattle.confluence.specs.Conclusions.{AreAllDone, RulesAreInside, ZeroIsInside}
use Rattle.confluence.specs.Kept.{AreRecorded, IsReached}
use Rattle.confluence.specs.Reductions.{IsZero, IsReduced}
use Rattle.confluence.specs.Rests.{IsEarlier}
use Rattle.traced_rows.specs.declared.Origin.TheVariants as origin
use Rattle.confluence.proofs.Integers.{positive_nat}
use Rattle.confluence.proofs.Spans.{Span, nothing, part, single, span_same, span_add, span_scale}
use Rattle.confluence.proofs.SumRows.{Numbered}
use Rattle.confluence.proofs.RestLaws.{zero_rests_are_inside}
use Rattle.confluence.proofs.FreeRows.{Free, in_ideal}
use Rattle.confluence.proofs.Ideals.{between_span, all_from_numbers, ideals_stay_inside}
use Rattle.confluence.proofs.RowSums.{length-polynomials}

-- strong induction
pub strong : (P : ℕ → Type 0) → ((n : ℕ) → ((m : ℕ) → m < n → P m) → P n) → (n : ℕ) → P n
strong P step n = step n (below n)
  where
    below : (n m : ℕ) → m < n → P m
    below zero m less = absurd (omega arith)
    below (suc n) m less = step m (λ k lower. below n k (omega arith))

slice_some : (made : List Made) (n : ℕ) → n < length made → (m : Made) × (slice_get made n ≡ Some m)
slice_some made n inside = elim (slice_get_cases made n).1 [ inl (m, within, is, _) ↦ (m, is) | inr past ↦ absurd (omega (arith, inside, past.0)) ]

module _ (generators : List (List Term)) where
  abbrev FromGenerators : List Term → Type 0
  FromGenerators p = Span (Numbered generators Free) (coefficient_of p)

  -- rows over generators and over rules that come from generators
  from_rows : (rules : List (List Term)) (bound : ℕ) → ((n : ℕ) → 1 ≤ n → n ≤ bound → FromGenerators (generator_at rules n)) → (rows : List Row) → All (λ row. IsEarlier (length generators) bound row.from) rows → FromGenerators (traced_sum generators rules rows)
  from_rows rules bound each [] earlier = nothing _ (λ w. refl)
  from_rows rules bound each (row ∷ rows) earlier =
      span_same (Numbered generators Free) _ _
      (span_add (Numbered generators Free) (λ w. row.coef *ℤ coefficient_of (poly_between row.left (origin_poly generators rules row.from) row.right) w) (coefficient_of (traced_sum generators rules rows))
      (span_scale (Numbered generators Free) row.coef (coefficient_of (poly_between row.left (origin_poly generators rules row.from) row.right)) (of_origin row.from (earlier 0 row (omega arith)))) (from_rows rules bound each rows (All-tail (λ (r : Row). IsEarlier (length generators) bound r.from) row rows earlier)))
      (λ w. coefficient_of-append (traced_poly generators rules row) (traced_sum generators rules rows) w ∙ ap (λ z. z +ℤ coefficient_of (traced_sum generators rules rows) w) (coefficient_of-multiple row.coef (poly_between row.left (origin_poly generators rules row.from) row.right) w))
    where
      of_origin : (x : Origin) → IsEarlier (length generators) bound x → Span (Numbered generators Free) (coefficient_of (poly_between row.left (origin_poly generators rules x) row.right))
      of_origin (origin.Generator n) named = single (Numbered generators Free) _ (record { number = n; left = row.left; right = row.right; is = λ w. refl; asked = λ w some. tt })
      of_origin (origin.Rule n) named = between_span generators row.left row.right (generator_at rules n) (each n named.0 named.1)

  module _ (rules : List Rule) (made : List Made) (recorded : AreRecorded generators rules made) where
    -- each rule, by the record of it and the rules before it
    rule_from_generators : (n : ℕ) → 1 ≤ n → n ≤ length rules → FromGenerators (generator_at (polynomials_of rules) n)
    rule_from_generators = strong (λ n. 1 ≤ n → n ≤ length rules → FromGenerators (generator_at (polynomials_of rules) n)) step
      where
        step : (n : ℕ) → ((j : ℕ) → j < n → 1 ≤ j → j ≤ length rules → FromGenerators (generator_at (polynomials_of rules) j)) → 1 ≤ n → n ≤ length rules → FromGenerators (generator_at (polynomials_of rules) n)
        step zero before first last = absurd (omega (arith, first))
        step (suc place) before first last = of_record (slice_some made place (omega (arith, last, recorded.one_each)))
          where
            of_record : ((m : Made) × (slice_get made place ≡ Some m)) → FromGenerators (generator_at (polynomials_of rules) (suc place))
            of_record (m, found) = let (k, above, scale) = positive_nat m.scale (recorded.each place m found).positive in
                part (coefficient_of (generator_at (polynomials_of rules) (suc place))) (coefficient_of (traced_sum generators (polynomials_of rules) m.rows)) k above rows
                (λ w. (recorded.traces.at place m found).at w ∙ coefficient_of-multiple m.scale (generator_at (polynomials_of rules) (suc place)) w ∙ ap (λ z. z *ℤ coefficient_of (generator_at (polynomials_of rules) (suc place)) w) scale)
              where
                rows : FromGenerators (traced_sum generators (polynomials_of rules) m.rows)
                rows = from_rows (polynomials_of rules) place (λ j above within. before j (omega (arith, within)) above (omega (arith, within, last))) m.rows (recorded.each place m found).earlier

    pub rule_inside : (n : ℕ) (g : Rule) → rule_at rules n ≡ Some g → InRationalIdeal generators g.poly.terms
    rule_inside n g numbered = in_ideal generators g.poly.terms (subst FromGenerators (rule_at-polynomial rules n g numbered) (rule_from_generators n (rule_at-first rules n g numbered) (rule_at-last rules n g numbered)))

    pub zero_inside : (letters : ℕ) (compare : Compare) (p : List Term) (s : State) → IsReduced letters compare rules p s → IsZero s.rest → InRationalIdeal generators p
    zero_inside letters compare p s reduced none =
        ideals_stay_inside generators (polynomials_of rules) p
        (all_from_numbers (InRationalIdeal generators) (polynomials_of rules) (λ n first last. in_ideal generators (generator_at (polynomials_of rules) n) (rule_from_generators n first (omega (arith, last, length-polynomials rules)))))
        (zero_rests_are_inside letters compare rules p s reduced none)

pub rules_are_inside : RulesAreInside
rules_are_inside letters compare generators rules made done treated n g kept numbered = rule_inside generators rules made kept.recorded n g numbered

pub zero_is_inside : ZeroIsInside
zero_is_inside letters compare generators rules made done treated p s kept reduced none = zero_inside generators rules made kept.recorded letters compare p s reduced none

-- where all generators were reached, what is in their rational ideal is in that of the rules
pub inside_rules : (letters : ℕ) (compare : Compare) (generators : List (List Term)) (rules : List Rule) (done : List ℕ) → All (λ n. IsReached letters compare rules (generator_at generators n)) done → AreAllDone generators done
    → (p : List Term) → InRationalIdeal generators p → InRationalIdeal (polynomials_of rules) p
inside_rules letters compare generators rules done reached all p inside = ideals_stay_inside (polynomials_of rules) generators p (all_from_numbers (InRationalIdeal (polynomials_of rules)) generators each) inside
  where
    each : (n : ℕ) → 1 ≤ n → n ≤ length generators → InRationalIdeal (polynomials_of rules) (generator_at generators n)
    each n first last =
        let r : IsReached letters compare rules (generator_at generators n) = All-contains (λ k. IsReached letters compare rules (generator_at generators k)) done n reached (all n first last) in
        record { denominator = r.denominator; rows = r.rows; combination = r.combination }
