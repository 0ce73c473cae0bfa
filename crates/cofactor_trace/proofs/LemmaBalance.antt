-- The rows of lemmas and goal add up to their scales times their polynomials.
use Rattle.cofactor_trace.proofs.Prelude.{◌≡◌, ℕ, zero, suc, ◌-◌, ◌≤◌, ℤ, pos, ◌+ℤ◌, ◌*ℤ◌, ◌<ℤ◌, Bool, true, false, Some, List, [], ◌∷◌, ◌++◌, map, nat_eq, eqb-true, length, sym, refl, ap, ap₂, subst, ◌∙◌, append_assoc, arith, cond_both, ints, map-append, append-nil, get_or-map, length-map, All-map, +ℤ_idr, ◌∣◌, unsigned_abs, All, AllByRecursion, slice_get, Term, coefficient_of, SamePolynomial, poly_multiple, poly_between, generator_at, coefficient_of-append, coefficient_of-multiple, *ℤ_assoc, one-*ℤ, Origin, Row, Made, Lemma, LemmaCertificate, Replacement, Traces, AreTraces, origin_poly, traced_poly, traced_sum, IsRecord, AreRecords, Numbered, naming_of, direct_of, lemma_rules, lemma_number, lemma_row, lemma_of, signed, cert_poly, lemma_row_poly, lemma_sum, AddsUpTo, AreOfLemmas, IsShareOf, IsEvidenceOf, lemma_polys, GatheringsAddUp, between-same, between-multiple, between-nothing}
use Rattle.cofactor_trace.proofs.Divisors.{common_multiple-each, common_multiple-positive}
use Rattle.cofactor_trace.proofs.Closure.{is_numbered}
use Rattle.cofactor_trace.proofs.NamingLaws.{are_records}
use Rattle.cofactor_trace.proofs.LemmaLaws.{NamesNeeded, target_names}
use Rattle.cofactor_trace.proofs.LemmaSources.{direct_is, number_positive, IsKnown, by_source, lemma_knows, target_knows, lemma_entries}
use Rattle.cofactor_trace.proofs.GatheredParts.{whole, scales, parts, each_part}

-- z, or its negative, is a product
signed_times : (negative : Bool) (z : ℤ) → signed negative z ≡ z *ℤ signed negative (pos 1)
signed_times true z = omega (arith, ints)
signed_times false z = omega (arith, ints)

-- a later place of a list
place_behind : (p : List Term) (ps : List (List Term)) (k : ℕ) → 1 ≤ k → generator_at (p ∷ ps) (suc k) ≡ generator_at ps k
place_behind p ps zero h = absurd (omega (arith, h))
place_behind p ps (suc k) h = refl

module _ (generators rules : List (List (ℤ × List ℕ))) where
  abbrev pub polys : List Numbered → List (List (ℤ × List ℕ))
  polys = map (λ e. generator_at rules e.0)

  -- the polynomial of a lemma is its rule
  poly_at : (n : ℕ) (done rest : List Numbered) → is_numbered n done ≡ true → generator_at (polys done) (lemma_number n (done ++ rest)) ≡ generator_at rules n
  poly_at n [] rest h = absurd (cc)
  poly_at n (e ∷ done) rest h =
      cond_both (nat_eq n e.0) _ _ (λ k. generator_at (generator_at rules e.0 ∷ polys done) k ≡ generator_at rules n)
      (λ same. ap (generator_at rules) (sym (eqb-true n e.0 same)))
      (λ other. place_behind (generator_at rules e.0) (polys done) (lemma_number n (done ++ rest)) (number_positive n (done ++ rest)) ∙ poly_at n done rest (grind arith))

  -- the replacement of a generator or a rule equals it, over the generators and the lemmas before
  abbrev StandsFor : List (List (ℤ × List ℕ)) → Origin → Replacement → Type 0
  StandsFor before o x = SamePolynomial (poly_multiple (signed x.negative (pos 1)) (cert_poly generators before x.from)) (origin_poly generators rules o)

  itself : (before : List (List (ℤ × List ℕ))) (p : List Term) → SamePolynomial (poly_multiple (pos 1) p) p
  itself before p = record { at = λ w. coefficient_of-multiple (pos 1) p w ∙ one-*ℤ (coefficient_of p w) }

  -- a row with its generator or rule replaced
  row_same : (before : List (List (ℤ × List ℕ))) (x : Replacement) (r : Row) (w : List ℕ) → StandsFor before r.from x
      → coefficient_of (poly_multiple (signed x.negative r.coef) (poly_between r.left (cert_poly generators before x.from) r.right)) w ≡ coefficient_of (traced_poly generators rules r) w
  row_same before x r w stands =
      let s = signed x.negative (pos 1) in
      let q = cert_poly generators before x.from in
      let p = origin_poly generators rules r.from in
      let y = coefficient_of (poly_between r.left q r.right) w in
      let z = coefficient_of (poly_between r.left p r.right) w in
      let same : s *ℤ y ≡ z =
      sym (coefficient_of-multiple s (poly_between r.left q r.right) w) ∙ ap (λ g. coefficient_of g w) (sym (between-multiple r.left r.right s q))
      ∙ (between-same r.left r.right (poly_multiple s q) p stands).at w in
      coefficient_of-multiple (signed x.negative r.coef) (poly_between r.left q r.right) w
      ∙ ap (λ k. k *ℤ y) (signed_times x.negative r.coef) ∙ *ℤ_assoc r.coef s y ∙ ap (λ k. r.coef *ℤ k) same
      ∙ sym (coefficient_of-multiple r.coef (poly_between r.left p r.right) w)

  -- a direct rule is the generator or its negative
  direct_stands : (before : List (List (ℤ × List ℕ))) (m : Made) (x : Replacement) (p : List Term) → direct_of m ≡ Some x → Traces generators rules m p
      → SamePolynomial (poly_multiple (signed x.negative (pos 1)) (cert_poly generators before x.from)) p
  direct_stands before m x p e traced =
      let d = direct_is m x e in
      let s = signed x.negative (pos 1) in
      let g = generator_at generators d.generator in
      record {
        at = λ w.
            let row : coefficient_of (traced_sum generators rules m.rows) w ≡ coefficient_of (poly_multiple s g) w =
            ap (λ rows. coefficient_of (traced_sum generators rules rows) w) d.rows_are
            ∙ coefficient_of-append (poly_multiple s (poly_between [] g [])) [] w
            ∙ +ℤ_idr (coefficient_of (poly_multiple s (poly_between [] g [])) w)
            ∙ ap (λ q. coefficient_of (poly_multiple s q) w) (between-nothing g) in
            let one : coefficient_of (poly_multiple m.scale p) w ≡ coefficient_of p w =
            ap (λ k. coefficient_of (poly_multiple k p) w) d.scale_is ∙ (itself before p).at w in
            ap (λ f. coefficient_of (poly_multiple s (cert_poly generators before f)) w) d.from_is ∙ sym row ∙ traced.at w ∙ one;
      }

  module _ (made : List Made) (target : Made) (records : AreRecords made) (is_record : IsRecord (length made) target) (traces : AreTraces generators rules made) where
    stands : (done rest : List Numbered) → done ++ rest ≡ lemma_rules made target → (o : Origin) → IsKnown made target records is_record done o → StandsFor (polys done) o (naming_of made target o)
    stands done rest all =
        by_source made target records is_record (StandsFor (polys done)) done rest all
        (λ n. itself (polys done) (generator_at generators n))
        (λ n m x positive item e.
        let number : suc (n - 1) ≡ n = omega (arith, positive) in
        direct_stands (polys done) m x (generator_at rules n) e (subst (λ k. Traces generators rules m (generator_at rules k)) number (traces.at (n - 1) m item)))
        (λ n listed. subst (λ q. SamePolynomial (poly_multiple (pos 1) q) (generator_at rules n)) (sym (poly_at n done rest listed)) (itself (polys done) (generator_at rules n)))

    rows_same : (done rest : List Numbered) → done ++ rest ≡ lemma_rules made target → (w : List ℕ) (rows : List Row) → AllByRecursion (λ r. IsKnown made target records is_record done r.from) rows
        → coefficient_of (lemma_sum generators (polys done) (map (lemma_row (naming_of made target)) rows)) w ≡ coefficient_of (traced_sum generators rules rows) w
    rows_same done rest all w [] known = refl
    rows_same done rest all w (r ∷ rows) known =
        coefficient_of-append (lemma_row_poly generators (polys done) (lemma_row (naming_of made target) r)) (lemma_sum generators (polys done) (map (lemma_row (naming_of made target)) rows)) w
        ∙ ap₂ ◌+ℤ◌ (row_same (polys done) (naming_of made target r.from) r w (stands done rest all r.from known.0)) (rows_same done rest all w rows known.1)
        ∙ sym (coefficient_of-append (traced_poly generators rules r) (traced_sum generators rules rows) w)

    adds_up : (done rest : List Numbered) → done ++ rest ≡ lemma_rules made target → (m : Made) (p : List Term) → AllByRecursion (λ r. IsKnown made target records is_record done r.from) m.rows
        → Traces generators rules m p → AddsUpTo generators (polys done) (lemma_of (naming_of made target) m) p
    adds_up done rest all m p known traced = record { at = λ w. rows_same done rest all w m.rows known ∙ traced.at w }

    -- one lemma after another
    lemmas_add_up : (done rest : List Numbered) → done ++ rest ≡ lemma_rules made target
        → AllByRecursion (λ e. (1 ≤ e.0) × (slice_get made (e.0 - 1) ≡ Some e.1) × NamesNeeded made target records is_record e.1) rest
        → AreOfLemmas generators (polys done) (map (lemma_of (naming_of made target)) (map (λ e. e.1) rest)) (polys rest)
    lemmas_add_up done [] all entries = tt
    lemmas_add_up done (e ∷ rest) all entries =
        let number : suc (e.0 - 1) ≡ e.0 = omega (arith, entries.0.0) in
        let known = lemma_knows made target records is_record done e rest all (records.at (e.0 - 1) e.1 entries.0.1) entries.0.0 entries.0.2 in
        let traced = subst (λ n. Traces generators rules e.1 (generator_at rules n)) number (traces.at (e.0 - 1) e.1 entries.0.1) in
        let next : (done ++ e ∷ []) ++ rest ≡ lemma_rules made target = append_assoc done (e ∷ []) rest ∙ all in
        let later = lemmas_add_up (done ++ e ∷ []) rest next entries.1 in (
          adds_up done (e ∷ rest) all e.1 (generator_at rules e.0) known traced,
          subst (λ before. AreOfLemmas generators before (map (lemma_of (naming_of made target)) (map (λ (n : Numbered). n.1) rest)) (polys rest)) (map-append (λ (n : Numbered). generator_at rules n.0) done (e ∷ [])) later,
        )

-- the scales
shares : (d : ℤ) (ls : List Lemma) → All (λ l. pos 0 <ℤ l.scale) ls → All (λ s. unsigned_abs s ∣ unsigned_abs d) (map (λ l. l.scale) ls) → All (IsShareOf d) ls
shares d ls positive divide = λ k l below.
    let divides = divide k l.scale (omega (arith, below, length-map ls (λ (m : Lemma). m.scale))) in
    (positive k l below, subst (λ s. unsigned_abs s ∣ unsigned_abs d) (get_or-map (λ (m : Lemma). m.scale) ls k l l.scale below) divides)

-- the law
pub gatherings_add_up : GatheringsAddUp
gatherings_add_up generators rules claim made target p c records is_record traces traced ends =
    let g = parts claim made target c ends in
    let w = whole claim made target in
    let positive = each_part claim made target (IsRecord (length made)) (λ l. pos 0 <ℤ l.scale) (λ m h. h.positive) (are_records made target records) is_record in
    subst (λ (x : LemmaCertificate). IsEvidenceOf generators (lemma_polys rules made target) x p) g.is
    (record {
      positive = common_multiple-positive (pos 1) (scales claim made target) (omega (arith, ints)) (All-map (λ s. pos 0 <ℤ s) (λ (l : Lemma). l.scale) (w.lemmas ++ w.goal ∷ []) positive);
      shares = shares w.denominator (w.lemmas ++ w.goal ∷ []) positive (common_multiple-each (pos 1) (scales claim made target));
      lemmas_add_up = lemmas_add_up generators rules made target records is_record traces [] (lemma_rules made target) refl (lemma_entries made target records is_record);
      goal_adds_up = adds_up generators rules made target records is_record traces (lemma_rules made target) [] (append-nil (lemma_rules made target)) target p
          (target_knows made target records is_record (target_names made target records is_record)) traced;
    })
