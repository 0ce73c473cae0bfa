-- The numbers of evidence are coefficients, and its denominator and scales are positive.
use Rattle.outcome_laws.proofs.Prelude.{rules, ◌≡◌, ℕ, zero, suc, ℤ, pos, negsuc, neg_ℤ, ◌+ℤ◌, ◌*ℤ◌, ◌<ℤ◌, int_div, List, [], ◌∷◌, ◌++◌, map, get_or, Option, Some, None, Result, Ok, refl, subst, arith, ints, All-nil, All-append, All-replicate, All-map, All, fold, flat_map, option_map, Overflow, IsCoefficient, product_of, sum_of, first_overflow, Origin, Row, Made, CertRow, Cofactors, Lemma, LemmaCertificate, ExpandFault, multiples_of, coefficients_at, total_at, kept_row, gathered, running_sums, sums_of_gathering, Known, multiple_products, denominators, common_denominator, denominator_products, joined, joined_products, limit_fault, content_of, divided_row, primitive, unless, overflow_in, record_expansion, expansion_of, gathered_of, parts_of, IsRanged, quotient_positive, product_positive, content-first, content-positive, common_multiple-positive, parts, each_part, lemma_record_each}
use Rattle.cofactor_trace.specs.declared.fault.ExpandFault.TheVariants as fault
use Rattle.outcome_laws.proofs.Results.{same_value, fits_first, none_append}
use Rattle.outcome_laws.proofs.EvidenceWords.{expansion_is}

-- a quotient is no larger
pub quotient_in_range : (a d : ℤ) → pos 0 <ℤ d → IsCoefficient a → IsCoefficient (int_div a d)
quotient_in_range a d positive fits = search rules

pub negative_in_range : (z : ℤ) → IsCoefficient z → IsCoefficient (neg_ℤ z)
negative_in_range z fits = omega (arith, ints, fits)

-- sums
sum_in_range : (so_far : ℤ) (cs : List ℤ) → IsCoefficient so_far → first_overflow (running_sums so_far cs) ≡ None → IsCoefficient (fold ◌+ℤ◌ so_far cs)
sum_in_range so_far [] fits others = fits
sum_in_range so_far (c ∷ cs) fits others =
    let first = fits_first (sum_of so_far c) (running_sums (so_far +ℤ c) cs) others in
    sum_in_range (so_far +ℤ c) cs first.0 first.1

abbrev HasNumber : CertRow → Type 0
HasNumber r = IsCoefficient r.coef

abbrev AreIn : List CertRow → Type 0
AreIn rows = All HasNumber rows

each_in : {X : Type 0} (out : X → List CertRow) (operations : X → List Overflow) → ((x : X) → first_overflow (operations x) ≡ None → AreIn (out x)) → (xs : List X) → first_overflow (flat_map operations xs) ≡ None → AreIn (flat_map out xs)
each_in out operations each [] fits = All-nil HasNumber
each_in out operations each (x ∷ xs) fits =
    let both = none_append (operations x) (flat_map operations xs) fits in
    All-append HasNumber (out x) (flat_map out xs) (each x both.0) (each_in out operations each xs both.1)

integer_cases : (P : ℤ → Type 0) → P (pos 0) → ((n : ℕ) → P (pos (suc n))) → ((n : ℕ) → P (negsuc n)) → (z : ℤ) → P z
integer_cases P at_zero above below (pos zero) = at_zero
integer_cases P at_zero above below (pos (suc n)) = above n
integer_cases P at_zero above below (negsuc n) = below n

gathered_in : (rows : List CertRow) → first_overflow (sums_of_gathering rows) ≡ None → AreIn (gathered rows)
gathered_in rows fits =
    each_in (λ m. kept_row (total_at m rows) m) (λ m. running_sums (pos 0) (coefficients_at m rows))
    (λ m one. integer_cases (λ z. IsCoefficient z → AreIn (kept_row z m)) (λ h. All-nil HasNumber)
    (λ n h. All-replicate HasNumber 1 (record { coef = pos (suc n); left = m.left; generator = m.generator; right = m.right }) h)
    (λ n h. All-replicate HasNumber 1 (record { coef = negsuc n; left = m.left; generator = m.generator; right = m.right }) h) (total_at m rows) (sum_in_range (pos 0) (coefficients_at m rows) (omega (arith, ints)) one))
    (multiples_of rows) fits

divided_in : (d : ℤ) → pos 0 <ℤ d → (rows : List CertRow) → AreIn rows → AreIn (map (divided_row d) rows)
divided_in d positive rows each = All-map HasNumber (divided_row d) rows (λ k r inside. quotient_in_range (get_or rows k r).coef d positive (each k r inside))

-- one record
unless_ok : {A : Type 0} (first : Option ExpandFault) (r : Result A ExpandFault) (x : A) → unless first r ≡ Ok x → (first ≡ None) × (r ≡ Ok x)
unless_ok None r x h = (refl, h)
unless_ok (Some e) r x h = absurd (cc)

no_overflow : (o : Option Overflow) → option_map fault.Overflow o ≡ None → o ≡ None
no_overflow None e = refl
no_overflow (Some x) e = absurd (cc)

module _ (known : Known) (each_positive : (o : Origin) → pos 0 <ℤ (known o).denominator) where
  record_ranged : (m : Made) (c : Cofactors) → pos 0 <ℤ m.scale → record_expansion known m ≡ Ok c → IsRanged c
  record_ranged m c scale_in ends =
      let common = common_denominator known m.rows in
      let rows = joined known common m.rows in
      let d = m.scale *ℤ common in
      let operations = joined_products known common m.rows ++ sums_of_gathering rows in
      let first = unless_ok (overflow_in (denominator_products known m)) (unless (limit_fault rows) (unless (overflow_in operations) (Ok (primitive d (gathered rows))))) c ends in
      let second = unless_ok (limit_fault rows) (unless (overflow_in operations) (Ok (primitive d (gathered rows)))) c first.1 in
      let third = unless_ok (overflow_in operations) (Ok (primitive d (gathered rows))) c second.1 in
      let products = none_append (multiple_products (pos 1) (denominators known m.rows)) (product_of m.scale common ∷ []) (no_overflow (first_overflow (denominator_products known m)) first.0) in
      let d_fits : IsCoefficient d = (fits_first (product_of m.scale common) [] products.1).0 in
      let sums = none_append (joined_products known common m.rows) (sums_of_gathering rows) (no_overflow (first_overflow operations) third.0) in
      let common_in : pos 0 <ℤ common = common_multiple-positive (pos 1) (denominators known m.rows) (omega (arith, ints)) (All-map (λ e. pos 0 <ℤ e) (λ (r : Row). (known r.from).denominator) m.rows (λ k r below. each_positive _)) in
      let d_in : pos 0 <ℤ d = product_positive m.scale common scale_in common_in in
      let coefs = map (λ (r : CertRow). r.coef) (gathered rows) in
      let g = content_of d (gathered rows) in
      let g_in : pos 0 <ℤ g = content-positive d coefs d_in in
      subst IsRanged (same_value (primitive d (gathered rows)) c third.1)
      (record {
        positive = quotient_positive d g d_in g_in (content-first d coefs);
        denominator_in = quotient_in_range d g g_in d_fits;
        coefficients_in = divided_in g g_in (gathered rows) (gathered_in rows sums.1);
      })

-- Where each scale is positive, an expansion has coefficients and a positive denominator.
pub expansion_ranged : (made : List Made) (target : Made) (c : Cofactors) → All (λ m. pos 0 <ℤ m.scale) made → pos 0 <ℤ target.scale → expansion_of made target ≡ Ok c → IsRanged c
expansion_ranged =
    expansion_is IsRanged (λ m. pos 0 <ℤ m.scale) (record { positive = omega (arith, ints); denominator_in = omega (arith, ints); coefficients_in = All-nil HasNumber })
    (λ n. record {
      positive = omega (arith, ints);
      denominator_in = omega (arith, ints);
      coefficients_in = All-replicate HasNumber 1 (record { coef = pos 1; left = []; generator = n; right = [] }) (omega (arith, ints));
    })
    (λ known m c each scale_in ends. record_ranged known (λ o. (each o).positive) m c scale_in ends)

-- Where each scale of the records is positive, so are those of the lemmas and of the goal, and the denominator.
pub gathered_positive : (claim : ℕ) (made : List Made) (target : Made) (c : LemmaCertificate) → All (λ m. pos 0 <ℤ m.scale) made → pos 0 <ℤ target.scale → gathered_of claim made target ≡ Ok c
    → (pos 0 <ℤ c.denominator) × All (λ l. pos 0 <ℤ l.scale) (parts_of c)
gathered_positive claim made target c rules scale_in ends =
    let p = parts claim made target c ends in
    let each = each_part claim made target (λ m. pos 0 <ℤ m.scale) (λ (l : Lemma). pos 0 <ℤ l.scale) (λ m h. h) (lemma_record_each claim made target (λ m. pos 0 <ℤ m.scale) rules) scale_in in
    subst (λ (x : LemmaCertificate). (pos 0 <ℤ x.denominator) × All (λ l. pos 0 <ℤ l.scale) (parts_of x)) p.is
    (common_multiple-positive (pos 1) _ (omega (arith, ints)) (All-map (λ z. pos 0 <ℤ z) (λ (l : Lemma). l.scale) _ each), each)
