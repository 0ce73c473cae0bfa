-- S-polynomials are within the limits, and so are their rows.
use Rattle.outcome_laws.proofs.Prelude.{◌≡◌, ◌≤◌, ◌<ℤ◌, ℕ, ◌+◌, ℤ, pos, int_div, List, ◌++◌, length, take, drop, Option, Some, None, Ok, refl, sym, ap, subst, arith, All, length-append, length-take, length-drop, Overflow, IsCoefficient, first_overflow, gcd_of-positive, Term, scaled, products, added, sums, unless_overflow, sized, finished, combined, no_error, sized-value, in_range-added, all_two, Compare, Rule, IsRule, leading-all, rule_at-all, Kind, Overlap, Inclusion, Ambiguity, MeetsAs, IsAmbiguity, lead_at, joined_word, leading_at, shared_divisor, first_row, second_row, s_rows_of, row_multiple, s_polynomial_of, lead_at-is, leading_at-is, passed, word_limit}
use Rattle.nc_polynomial.specs.declared.fault.PolyFault.TheVariants as fault
use Rattle.nc_polynomial.specs.Product.{and_then}
use Rattle.outcome_laws.proofs.Results.{none_append}
use Rattle.outcome_laws.proofs.EvidenceRanges.{quotient_in_range, negative_in_range}
use Rattle.outcome_laws.proofs.ReducedWithin.{Fits, sized_short, IsShortRow}

-- S-polynomials
finished_parts : (os : List Overflow) (p v : List Term) → finished os p ≡ Ok v → (first_overflow os ≡ None) × (sized p ≡ Ok v)
finished_parts os p v ends = go (first_overflow os) refl ends
  where
    go : (o : Option Overflow) → first_overflow os ≡ o → unless_overflow o (sized p) ≡ Ok v → (first_overflow os ≡ None) × (sized p ≡ Ok v)
    go None is k = (is, k)
    go (Some o) is k = absurd (no_error v (fault.Overflow o) (sym k))

combined_fits : (a : ℤ) (p : List Term) (b : ℤ) (q r : List Term) → combined a p b q ≡ Ok r → Fits r
combined_fits a p b q r ends =
    let whole = added (scaled a p) (scaled b q) in
    let parts = finished_parts (products a p ++ (products b q ++ sums (scaled a p) (scaled b q))) whole r ends in
    let rest = none_append (products a p) (products b q ++ sums (scaled a p) (scaled b q)) parts.0 in
    let last = none_append (products b q) (sums (scaled a p) (scaled b q)) rest.1 in
    subst Fits (sized-value whole r parts.1)
    (record { short = sized_short whole r parts.1; in_range = in_range-added (scaled a p) (scaled b q) last.1 })

pub s_polynomial_fits : (rules : List Rule) (a : Ambiguity) (p : List Term) → s_polynomial_of rules a ≡ Ok p → Fits p
s_polynomial_fits rules a p ends =
    let one = first_row rules a in
    let two = second_row rules a in
    let first = passed (row_multiple rules one) (λ m. and_then (row_multiple rules two) (λ n. combined one.coef m two.coef n)) p ends in
    let second = passed (row_multiple rules two) (λ n. combined one.coef first.value two.coef n) p first.rest in
    combined_fits one.coef first.value two.coef second.value p second.rest

-- what follows the first word, before the second one and after that
abbrev AreShortParts : Kind → ℕ → List ℕ → List ℕ → Type 0
AreShortParts kind place p q =
    (length (drop (length p) (joined_word kind p q place)) ≤ word_limit) × (length (take place (joined_word kind p q place)) ≤ word_limit) × (length (drop (place + length q) (joined_word kind p q place)) ≤ word_limit)

short_parts : (kind : Kind) (i j : ℕ) (p q : List ℕ) (place : ℕ) → MeetsAs kind i j p q place → length p ≤ word_limit → length q ≤ word_limit → AreShortParts kind place p q
short_parts Overlap i j p q place meets p_short q_short =
    let place_in : place ≤ length p = omega (arith, ap length meets.left_splits, length-append meets.before meets.shared, meets.at_place) in
    let front = length-take place p in
    let whole = length-append (take place p) q in (
      omega (arith, length-drop (length p) (take place p ++ q), whole, front, q_short, place_in),
      omega (arith, length-take place (take place p ++ q), p_short, place_in),
      omega (arith, length-drop (place + length q) (take place p ++ q), whole, front, place_in),
    )
short_parts Inclusion i j p q place meets p_short q_short = (
  omega (arith, length-drop (length p) p),
  omega (arith, length-take place p, p_short),
  omega (arith, length-drop (place + length q) p, p_short),
)

module _ (letters : ℕ) (compare : Compare) (rules : List Rule) (are : All (IsRule letters compare) rules) (a : Ambiguity) (is : IsAmbiguity rules a) where
  first_is : IsRule letters compare is.first
  first_is = rule_at-all (IsRule letters compare) rules a.i is.first is.first_numbered are

  second_is : IsRule letters compare is.second
  second_is = rule_at-all (IsRule letters compare) rules a.j is.second is.second_numbered are

  lead_short : (g : Rule) → IsRule letters compare g → length g.lead ≤ word_limit
  lead_short g is_rule = leading-all (λ (t : Term). length t.1 ≤ word_limit) compare g.poly.terms (g.leading, g.lead) is_rule.leading g.poly.canonical.short

  parts_short : AreShortParts a.kind a.place (lead_at rules a.i) (lead_at rules a.j)
  parts_short =
      subst (λ p. AreShortParts a.kind a.place p (lead_at rules a.j)) (sym (lead_at-is rules a.i is.first is.first_numbered))
      (subst (λ q. AreShortParts a.kind a.place is.first.lead q) (sym (lead_at-is rules a.j is.second is.second_numbered))
      (short_parts a.kind a.i a.j is.first.lead is.second.lead a.place is.meets (lead_short is.first first_is) (lead_short is.second second_is)))

  divisor_positive : pos 0 <ℤ shared_divisor rules a
  divisor_positive = gcd_of-positive (leading_at rules a.i) (leading_at rules a.j) (subst (λ z. pos 0 <ℤ z) (sym (leading_at-is rules a.i is.first is.first_numbered)) first_is.positive)

  pub s_rows_short : All IsShortRow (s_rows_of rules a)
  s_rows_short =
      let first_in : IsCoefficient (leading_at rules a.i) = subst IsCoefficient (sym (leading_at-is rules a.i is.first is.first_numbered)) first_is.in_range in
      let second_in : IsCoefficient (leading_at rules a.j) = subst IsCoefficient (sym (leading_at-is rules a.j is.second is.second_numbered)) second_is.in_range in
      all_two IsShortRow (first_row rules a) (second_row rules a)
      (record { coefficient = quotient_in_range (leading_at rules a.j) (shared_divisor rules a) divisor_positive second_in; left = omega arith; right = parts_short.0 })
      (record {
        coefficient = negative_in_range (int_div (leading_at rules a.i) (shared_divisor rules a)) (quotient_in_range (leading_at rules a.i) (shared_divisor rules a) divisor_positive first_in);
        left = parts_short.1;
        right = parts_short.2;
      })
