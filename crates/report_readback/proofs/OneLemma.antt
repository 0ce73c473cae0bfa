-- A lemma whose rows add up to its scale times a polynomial of the program is refused for a limit alone, or for want of memory.
use Rattle.report_readback.proofs.Prelude.{◌≡◌, ◌≢◌, ◌≤◌, ◌+◌, ◌⊎◌, inl, inr, ◌<ℤ◌, ◌*ℤ◌, ℕ, ℤ, pos, false, nat_lt, List, [], ◌∷◌, ◌++◌, Err, arith, refl, sym, ap, ◌∙◌, subst, length, map, get_or, int_div, All, ◌∣◌, unsigned_abs, dvd-mul_right, nat_tests, ints, unsigned_abs-mul, length-append, length-map, All-head, All-tail, All-map, Term, coefficient_of, poly_multiple, Row, SizeFault, collected, DividesEach, sized, has_long_word, IsCanonical, coefficient_of-collected, descending-collected, nonzero-collected, scaled_by_nonzero, Descends, recursion_from_IsDescending, descending-scaled, nonzero-scaled, descending_unique, CertFrom, Lemma, IsWithin, NamesWithin, AddsUpTo, IsNumberUpTo, Refusal, place_of, plain_row, plain_rows, plain_sum, lemma_polynomial, IsLeastIndivisible, RefusesLemmaRows, RefusesLemma, IsMemory, sums_agree, no_rest, place-generator, place-lemma, quotient_back, word_limit, term_limit, PassesLimit}
use Rattle.nc_polynomial.specs.declared.fault.PolyFault.TheVariants as fault
use Rattle.traced_rows.specs.declared.evidence.CertFrom.TheVariants as cert
use Rattle.cofactor_checker.specs.declared.refusal.Refusal.TheVariants as refusal
use Rattle.report_readback.proofs.PlainAnswers.{Polys, none_lacks}

-- rows
place_there : (generators lemmas : ℕ) (from : CertFrom) → IsWithin generators lemmas from → IsNumberUpTo (generators + lemmas) (place_of generators lemmas from)
place_there generators lemmas (cert.Generator n) within =
    subst (IsNumberUpTo (generators + lemmas)) (sym (place-generator generators lemmas n within.1)) (record { least = within.0; most = omega (arith, within.1) })
place_there generators lemmas (cert.Lemma n) within =
    subst (IsNumberUpTo (generators + lemmas)) (sym (place-lemma generators lemmas n within.0 within.1)) (record { least = omega (arith, within.0); most = omega (arith, within.1) })

-- the rows of a lemma or of the goal are over generators and lemmas that there are
rows_there : (gs before : Polys) (l : Lemma) → NamesWithin (length gs) (length before) l → All (λ r. IsNumberUpTo (length (gs ++ before)) r.generator) (plain_rows gs before l.rows)
rows_there gs before l names =
    All-map (λ (r : Row). IsNumberUpTo (length (gs ++ before)) r.generator) (plain_row (length gs) (length before)) l.rows
    (λ k row below. subst (λ count. IsNumberUpTo count (place_of (length gs) (length before) (get_or l.rows k row).from)) (sym (length-append gs before))
    (place_there (length gs) (length before) (get_or l.rows k row).from (names k row below)))

abbrev pub Answers : Refusal → Type 0
Answers r = PassesLimit r ⊎ IsMemory r

pub rows_answer : (gs before : Polys) (number : ℕ) (l : Lemma) → NamesWithin (length gs) (length before) l → (r : Refusal) → RefusesLemmaRows gs before number l.rows r → Answers r
rows_answer gs before number l names (refusal.NoSuchGenerator row) refused = absurd (none_lacks (gs ++ before) (plain_rows gs before l.rows) refused.in_lemma (rows_there gs before l names) refused.lacks)
rows_answer gs before number l names (refusal.NoSuchLemma row) refused = absurd (none_lacks (gs ++ before) (plain_rows gs before l.rows) refused.in_lemma (rows_there gs before l names) refused.lacks)
rows_answer gs before number l names (refusal.Overflow row overflow) refused = inl tt
rows_answer gs before number l names (refusal.Size row) refused = inl tt
rows_answer gs before number l names (refusal.Memory failed) refused = inr tt
rows_answer gs before number l names other refused = absurd refused

-- a positive integer times a polynomial of the program
multiple_descends : (s : ℤ) (p : List Term) → pos 0 <ℤ s → IsCanonical p → Descends (poly_multiple s p) × All (λ t. t.0 ≢ pos 0) (poly_multiple s p)
multiple_descends s p positive canonical =
    let same = scaled_by_nonzero s (λ none. omega (arith, ints, positive, none)) p canonical.shaped.nonzero in (
      subst Descends (sym same) (descending-scaled s p (recursion_from_IsDescending p canonical.shaped.descending)),
      subst (All (λ t. t.0 ≢ pos 0)) (sym same) (nonzero-scaled s p),
    )

divides_multiple : (s : ℤ) (p : List Term) → DividesEach (unsigned_abs s) (poly_multiple s p)
divides_multiple s p =
    All-map (λ (t : Term). unsigned_abs s ∣ unsigned_abs t.0) (λ t. (s *ℤ t.0, t.1)) p
    (λ k t below. subst (λ n. unsigned_abs s ∣ n) (sym (unsigned_abs-mul s (get_or p k t).0)) (dvd-mul_right (unsigned_abs s) (unsigned_abs (get_or p k t).0)))

-- sizes
none_long : (s : ℤ) (p : List Term) → All (λ t. length t.1 ≤ word_limit) p → has_long_word (poly_multiple s p) ≡ false
none_long s [] short = refl
none_long s (t ∷ p) short =
    let here : nat_lt word_limit (length t.1) ≡ false = grind (arith, nat_tests, All-head (λ (u : Term). length u.1 ≤ word_limit) t p short) in
    rw (here, none_long s p (All-tail (λ (u : Term). length u.1 ≤ word_limit) t p short)) refl

multiple_fits : (s : ℤ) (p : List Term) (limit : SizeFault) → IsCanonical p → sized (poly_multiple s p) ≡ Err (fault.Size limit) → ⊥
multiple_fits s p limit canonical =
    let few : nat_lt term_limit (length (poly_multiple s p)) ≡ false = grind (arith, nat_tests, length-map {B = Term} p (λ (t : Term). (s *ℤ t.0, t.1)), canonical.few) in
    rw (none_long s p canonical.short, few) (λ same. cc)

-- the lemma
module _ (gs before : Polys) (l : Lemma) (p : List Term) (positive : pos 0 <ℤ l.scale) (adds_up : AddsUpTo gs before l p) (canonical : IsCanonical p) where
  sum_is : collected (plain_sum gs before l.rows) ≡ poly_multiple l.scale p
  sum_is =
      let multiple = multiple_descends l.scale p positive canonical in
      let sum = plain_sum gs before l.rows in
      descending_unique (collected sum) (poly_multiple l.scale p) (descending-collected sum) multiple.0 (nonzero-collected sum) multiple.1
      (record { at = λ w. coefficient_of-collected sum w ∙ ap (λ q. coefficient_of q w) (sym (sums_agree gs before l.rows)) ∙ adds_up.at w })

  pub polynomial_is : lemma_polynomial gs before l ≡ p
  polynomial_is = ap (map (λ (t : Term). (int_div t.0 l.scale, t.1))) sum_is ∙ quotient_back l.scale p (omega (arith, ints, positive))

  pub lemma_answer : (number : ℕ) → NamesWithin (length gs) (length before) l → (r : Refusal) → RefusesLemma gs before number l r → Answers r
  lemma_answer number names (refusal.NotDivisible lemma word got) refused =
      absurd (no_rest l.scale (poly_multiple l.scale p) word got (divides_multiple l.scale p) (subst (λ q. IsLeastIndivisible l.scale q word got) sum_is refused.least.least))
  lemma_answer number names (refusal.LemmaSize lemma) refused = absurd (multiple_fits l.scale p refused.limit canonical (ap sized (sym sum_is) ∙ refused.size))
  lemma_answer number names (refusal.Kept row) refused = inl tt
  lemma_answer number names (refusal.NoSuchGenerator row) refused = rows_answer gs before number l names (refusal.NoSuchGenerator row) refused
  lemma_answer number names (refusal.NoSuchLemma row) refused = rows_answer gs before number l names (refusal.NoSuchLemma row) refused
  lemma_answer number names (refusal.Overflow row overflow) refused = inl tt
  lemma_answer number names (refusal.Size row) refused = inl tt
  lemma_answer number names (refusal.Memory failed) refused = inr tt
  lemma_answer number names other refused = absurd refused
