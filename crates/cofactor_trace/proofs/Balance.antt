-- The rows of an expansion add up to its denominator times the polynomial.
use Rattle.cofactor_trace.proofs.Prelude.{◌≡◌, ℕ, zero, suc, ℤ, pos, negsuc, ◌+ℤ◌, ◌*ℤ◌, neg_ℤ, ◌<ℤ◌, int_div, List, [], ◌∷◌, map, Ok, sym, ap, ap₂, subst, ◌∙◌, arith, ints, *ℤ_comm, *ℤ-zero, ◌∣◌, unsigned_abs, All, AllByRecursion, All-nil, All-cons, All-head, All-tail, Term, coefficient_of, poly_multiple, poly_between, generator_at, row_sum, IsCombination, coefficient_of-append, coefficient_of-multiple, *ℤ_assoc, *ℤ-+ℤ, *ℤ-neg_ℤ, *ℤ_zero, quotient_times, Origin, Row, Made, CertRow, Cofactors, rows_of, origin_poly, traced_poly, traced_sum, gathered, Known, denominators, common_denominator, share, joined_rows, joined, content_of, divided_row, primitive, record_expansion, Traces, between-same, between-multiple}
use Rattle.cofactor_trace.proofs.Divisors.{content-first, content-each, content-positive, quotient_positive, product_positive, common_multiple-each, common_multiple-positive}
use Rattle.cofactor_trace.proofs.RecordLaws.{primitive_is}
use Rattle.cofactor_trace.proofs.Values.{value, value-sum, value-append, value-gathered, value-joined}

-- integers
cancel : (d a b : ℤ) → pos 0 <ℤ d → d *ℤ a ≡ d *ℤ b → a ≡ b
cancel (pos zero) a b positive e = absurd (omega (arith, ints))
cancel (negsuc n) a b positive e = absurd (omega (arith, ints))
cancel (pos (suc n)) a b positive e =
    let apart : pos (suc n) *ℤ (a +ℤ neg_ℤ b) ≡ pos 0 =
    *ℤ-+ℤ (pos (suc n)) a (neg_ℤ b) ∙ ap (λ z. pos (suc n) *ℤ a +ℤ z) (*ℤ-neg_ℤ (pos (suc n)) b) ∙ difference (pos (suc n) *ℤ a) (pos (suc n) *ℤ b) e in
    let none : a +ℤ neg_ℤ b ≡ pos 0 = *ℤ_zero n (a +ℤ neg_ℤ b) apart in
    omega (arith, ints)
  where
    difference : (x y : ℤ) → x ≡ y → x +ℤ neg_ℤ y ≡ pos 0
    difference x y e = omega (arith, ints)

-- (a s) (d x) = l (a x), where d s = l
regroup : (a s d x l : ℤ) → d *ℤ s ≡ l → (a *ℤ s) *ℤ (d *ℤ x) ≡ l *ℤ (a *ℤ x)
regroup a s d x l e =
    *ℤ_assoc a s (d *ℤ x)
    ∙ ap (λ z. a *ℤ z) (sym (*ℤ_assoc s d x) ∙ ap (λ z. z *ℤ x) (*ℤ_comm s d ∙ e))
    ∙ sym (*ℤ_assoc a l x) ∙ ap (λ z. z *ℤ x) (*ℤ_comm a l) ∙ *ℤ_assoc l a x

-- one record
module _ (generators rules : List (List (ℤ × List ℕ))) (known : Known) where
  -- what is known of a generator or a rule is a combination of it
  abbrev pub IsKnown : Origin → Type 0
  IsKnown o = IsCombination generators (rows_of (known o).rows) (known o).denominator (origin_poly generators rules o)

  -- L is a multiple of each denominator
  abbrev Shares : ℤ → List Row → Type 0
  Shares common rows = AllByRecursion (λ r. (known r.from).denominator *ℤ share known common r ≡ common) rows

  shares : (x : ℤ) (rows : List Row) → All (λ d. unsigned_abs d ∣ unsigned_abs x) (denominators known rows) → Shares x rows
  shares x [] h = tt
  shares x (r ∷ rows) h =
      let d = (known r.from).denominator in
      (quotient_times x d (All-head (λ e. unsigned_abs e ∣ unsigned_abs x) d (denominators known rows) h), shares x rows (All-tail (λ e. unsigned_abs e ∣ unsigned_abs x) d (denominators known rows) h))

  positive_denominators : (rows : List Row) → AllByRecursion (λ r. IsKnown r.from) rows → All (λ d. pos 0 <ℤ d) (denominators known rows)
  positive_denominators [] h = All-nil (λ d. pos 0 <ℤ d)
  positive_denominators (r ∷ rows) h = All-cons (λ d. pos 0 <ℤ d) (known r.from).denominator (denominators known rows) h.0.positive (positive_denominators rows h.1)

  module _ (w : List ℕ) where
    joined_one : (common : ℤ) (r : Row) → IsKnown r.from → (known r.from).denominator *ℤ share known common r ≡ common
        → value generators w (joined_rows known common r) ≡ common *ℤ coefficient_of (traced_poly generators rules r) w
    joined_one common r is_known shared =
        let k = r.coef *ℤ share known common r in
        let d = (known r.from).denominator in
        let inner = row_sum generators (rows_of (known r.from).rows) in
        let p = origin_poly generators rules r.from in
        let x = coefficient_of (poly_between r.left p r.right) w in
        let same : coefficient_of (poly_between r.left inner r.right) w ≡ d *ℤ x =
        (between-same r.left r.right inner (poly_multiple d p) is_known.sum).at w
        ∙ ap (λ q. coefficient_of q w) (between-multiple r.left r.right d p)
        ∙ coefficient_of-multiple d (poly_between r.left p r.right) w in
        value-joined generators w k r (known r.from).rows ∙ ap (λ z. k *ℤ z) same ∙ regroup r.coef (share known common r) d x common shared
        ∙ ap (λ z. common *ℤ z) (sym (coefficient_of-multiple r.coef (poly_between r.left p r.right) w))

    joined_all : (common : ℤ) (rows : List Row) → AllByRecursion (λ r. IsKnown r.from) rows → Shares common rows
        → value generators w (joined known common rows) ≡ common *ℤ coefficient_of (traced_sum generators rules rows) w
    joined_all common [] h shared = sym (*ℤ-zero common)
    joined_all common (r ∷ rows) h shared =
        value-append generators w (joined_rows known common r) (joined known common rows)
        ∙ ap₂ ◌+ℤ◌ (joined_one common r h.0 shared.0) (joined_all common rows h.1 shared.1)
        ∙ sym (*ℤ-+ℤ common (coefficient_of (traced_poly generators rules r) w) (coefficient_of (traced_sum generators rules rows) w))
        ∙ ap (λ z. common *ℤ z) (sym (coefficient_of-append (traced_poly generators rules r) (traced_sum generators rules rows) w))

    divided : (g : ℤ) (rows : List CertRow) → AllByRecursion (λ c. unsigned_abs g ∣ unsigned_abs c) (map (λ r. r.coef) rows) → g *ℤ value generators w (map (divided_row g) rows) ≡ value generators w rows
    divided g [] h = *ℤ-zero g
    divided g (r ∷ rows) h =
        let x = coefficient_of (poly_between r.left (generator_at generators r.generator) r.right) w in
        *ℤ-+ℤ g (int_div r.coef g *ℤ x) (value generators w (map (divided_row g) rows))
        ∙ ap₂ ◌+ℤ◌ (sym (*ℤ_assoc g (int_div r.coef g) x) ∙ ap (λ z. z *ℤ x) (quotient_times r.coef g h.0)) (divided g rows h.1)

  -- the end of a record
  pub primitive_balances : (m : Made) (p : List Term) → pos 0 <ℤ m.scale → AllByRecursion (λ r. IsKnown r.from) m.rows → Traces generators rules m p
      → (let c = primitive (m.scale *ℤ common_denominator known m.rows) (gathered (joined known (common_denominator known m.rows) m.rows)) in IsCombination generators (rows_of c.rows) c.denominator p)
  primitive_balances m p scale_in each traced =
      let common = common_denominator known m.rows in
      let rows = gathered (joined known common m.rows) in
      let coefs = map (λ (r : CertRow). r.coef) rows in
      let d = m.scale *ℤ common in
      let g = content_of d rows in
      let common_in : pos 0 <ℤ common = common_multiple-positive (pos 1) (denominators known m.rows) (omega (arith, ints)) (positive_denominators m.rows each) in
      let d_in : pos 0 <ℤ d = product_positive m.scale common scale_in common_in in
      let g_in : pos 0 <ℤ g = content-positive d coefs d_in in
      let shared = shares common m.rows (common_multiple-each (pos 1) (denominators known m.rows)) in
      record {
        positive = quotient_positive d g d_in g_in (content-first d coefs);
        sum = record {
          at = λ w.
              let x = coefficient_of p w in
              let sum_is : g *ℤ value generators w (map (divided_row g) rows) ≡ common *ℤ (m.scale *ℤ x) =
              divided w g rows (content-each d coefs) ∙ value-gathered generators w (joined known common m.rows) ∙ joined_all w common m.rows each shared
              ∙ ap (λ z. common *ℤ z) (traced.at w ∙ coefficient_of-multiple m.scale p w) in
              let multiple_is : g *ℤ (int_div d g *ℤ x) ≡ common *ℤ (m.scale *ℤ x) =
              sym (*ℤ_assoc g (int_div d g) x) ∙ ap (λ z. z *ℤ x) (quotient_times d g (content-first d coefs) ∙ *ℤ_comm m.scale common) ∙ *ℤ_assoc common m.scale x in
              value-sum generators w (map (divided_row g) rows)
              ∙ cancel g (value generators w (map (divided_row g) rows)) (int_div d g *ℤ x) g_in (sum_is ∙ sym multiple_is)
              ∙ sym (coefficient_of-multiple (int_div d g) p w);
        };
      }

  pub record_balances : (m : Made) (p : List Term) (c : Cofactors) → pos 0 <ℤ m.scale → AllByRecursion (λ r. IsKnown r.from) m.rows → Traces generators rules m p
      → record_expansion known m ≡ Ok c → IsCombination generators (rows_of c.rows) c.denominator p
  record_balances m p c scale_in each traced ends =
      subst (λ x. IsCombination generators (rows_of x.rows) x.denominator p) (primitive_is known m c ends).1 (primitive_balances m p scale_in each traced)
