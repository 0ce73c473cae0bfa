-- The coefficient of a word in a sum of rows, and what gathering leaves of it.
use Rattle.cofactor_trace.proofs.Prelude.{◌≡◌, ℕ, zero, suc, ℤ, pos, negsuc, ◌+ℤ◌, ◌*ℤ◌, true, false, ◌||◌, cond, List, [], ◌∷◌, ◌++◌, map, filter, sym, refl, ap, ap₂, subst, ◌∙◌, arith, or_left, or_parts, ints, +ℤ_assoc, +ℤ_idl, +ℤ_idr, zero-*ℤ, *ℤ-zero, AllByRecursion, fold, flat_map, IsStrictlySortedBy, insert_key, is_eq, Ordering, Less, Equal, Greater, coefficient_of, poly_multiple, poly_between, generator_at, row_poly, row_sum, coefficient_of-append, coefficient_of-multiple, *ℤ_assoc, *ℤ-+ℤ, +ℤ-*ℤ, +ℤ_left_comm, Row, CertRow, Multiple, row_of, rows_of, multiple_of, multiple_cmp, multiples_of, total_at, coefficients_at, kept_row, gathered, joined_row, between-append, between-multiple, between-between}
use Rattle.cofactor_trace.proofs.TableLaws.{is_among, equal, itself, turned_round, among_all, among_inserted, sorted-multiples}

module _ (generators : List (List (ℤ × List ℕ))) (w : List ℕ) where
  -- the coefficient in l G r
  abbrev pub weight : Multiple → ℤ
  weight m = coefficient_of (poly_between m.left (generator_at generators m.generator) m.right) w

  -- the coefficient in the sum of the rows
  abbrev pub value : List CertRow → ℤ
  value [] = pos 0
  value (r ∷ rows) = r.coef *ℤ weight (multiple_of r) +ℤ value rows

  pub value-sum : (rows : List CertRow) → coefficient_of (row_sum generators (rows_of rows)) w ≡ value rows
  value-sum [] = refl
  value-sum (r ∷ rows) =
      coefficient_of-append (row_poly generators (row_of r)) (row_sum generators (rows_of rows)) w
      ∙ ap₂ ◌+ℤ◌ (coefficient_of-multiple r.coef (poly_between r.left (generator_at generators r.generator) r.right) w) (value-sum rows)

  pub value-append : (xs ys : List CertRow) → value (xs ++ ys) ≡ value xs +ℤ value ys
  value-append [] ys = sym (+ℤ_idl (value ys))
  value-append (r ∷ xs) ys = ap (λ z. r.coef *ℤ weight (multiple_of r) +ℤ z) (value-append xs ys) ∙ sym (+ℤ_assoc (r.coef *ℤ weight (multiple_of r)) (value xs) (value ys))

  -- gathering
  value-kept : (c : ℤ) (m : Multiple) → value (kept_row c m) ≡ c *ℤ weight m
  value-kept (pos zero) m = sym (zero-*ℤ (weight m))
  value-kept (pos (suc n)) m = +ℤ_idr (pos (suc n) *ℤ weight m)
  value-kept (negsuc n) m = +ℤ_idr (negsuc n *ℤ weight m)

  abbrev totals : List CertRow → List Multiple → ℤ
  totals rows [] = pos 0
  totals rows (m ∷ ms) = total_at m rows *ℤ weight m +ℤ totals rows ms

  value-totals : (rows : List CertRow) (ms : List Multiple) → value (flat_map (λ m. kept_row (total_at m rows) m) ms) ≡ totals rows ms
  value-totals rows [] = refl
  value-totals rows (m ∷ ms) =
      value-append (kept_row (total_at m rows) m) (flat_map (λ m. kept_row (total_at m rows) m) ms)
      ∙ ap₂ ◌+ℤ◌ (value-kept (total_at m rows) m) (value-totals rows ms)

  fold_start : (z : ℤ) (cs : List ℤ) → fold ◌+ℤ◌ z cs ≡ z +ℤ fold ◌+ℤ◌ (pos 0) cs
  fold_start z [] = sym (+ℤ_idr z)
  fold_start z (c ∷ cs) =
      let here = fold_start (z +ℤ c) cs in
      let there = fold_start (pos 0 +ℤ c) cs in
      omega (arith, ints)

  total-more : (m : Multiple) (r : CertRow) (rows : List CertRow) → total_at m (r ∷ rows) ≡ cond (is_eq (multiple_cmp m (multiple_of r))) (r.coef +ℤ total_at m rows) (total_at m rows)
  total-more m r rows =
      elim (is_eq (multiple_cmp m (multiple_of r))) as (λ b. fold ◌+ℤ◌ (pos 0) (map (λ (s : CertRow). s.coef) (cond b (r ∷ filter (λ s. is_eq (multiple_cmp m (multiple_of s))) rows) (filter (λ s. is_eq (multiple_cmp m (multiple_of s))) rows)))
      ≡ cond b (r.coef +ℤ total_at m rows) (total_at m rows))
      [ true ↦ fold_start (pos 0 +ℤ r.coef) (coefficients_at m rows) ∙ ap (λ z. z +ℤ total_at m rows) (+ℤ_idl r.coef) | false ↦ refl ]

  -- a row adds nothing where its multiple isn't listed
  totals-other : (r : CertRow) (rows : List CertRow) (ms : List Multiple) → is_among ms (multiple_of r) ≡ false → totals (r ∷ rows) ms ≡ totals rows ms
  totals-other r rows [] h = refl
  totals-other r rows (m ∷ ms) h =
      let parts = or_parts (is_eq (multiple_cmp (multiple_of r) m)) (is_among ms (multiple_of r)) h in
      ap₂ (λ z y. z *ℤ weight m +ℤ y)
      (total-more m r rows ∙ ap (λ b. cond b (r.coef +ℤ total_at m rows) (total_at m rows)) (turned_round (multiple_of r) m parts.0)) (totals-other r rows ms parts.1)

  not_among : (m : Multiple) (ms : List Multiple) → AllByRecursion (λ q. multiple_cmp m q ≡ Less) ms → is_among ms m ≡ false
  not_among m [] h = refl
  not_among m (q ∷ ms) h = ap₂ ◌||◌ (ap is_eq h.0) (not_among m ms h.1)

  -- and once where it is
  totals-one : (r : CertRow) (rows : List CertRow) (ms : List Multiple) → IsStrictlySortedBy multiple_cmp ms → is_among ms (multiple_of r) ≡ true
      → totals (r ∷ rows) ms ≡ r.coef *ℤ weight (multiple_of r) +ℤ totals rows ms
  unfolding IsStrictlySortedBy
  totals-one r rows [] sorted h = absurd (cc)
  totals-one r rows (k ∷ ks) sorted h = go (multiple_cmp (multiple_of r) k) refl h (totals-one r rows ks sorted.1)
    where
      apart : is_eq (multiple_cmp (multiple_of r) k) ≡ false → is_among ks (multiple_of r) ≡ true → (is_among ks (multiple_of r) ≡ true → totals (r ∷ rows) ks ≡ r.coef *ℤ weight (multiple_of r) +ℤ totals rows ks)
          → totals (r ∷ rows) (k ∷ ks) ≡ r.coef *ℤ weight (multiple_of r) +ℤ totals rows (k ∷ ks)
      apart e listed rest =
          ap₂ (λ z y. z *ℤ weight k +ℤ y)
          (total-more k r rows ∙ ap (λ b. cond b (r.coef +ℤ total_at k rows) (total_at k rows)) (turned_round (multiple_of r) k e)) (rest listed)
          ∙ +ℤ_left_comm (total_at k rows *ℤ weight k) (r.coef *ℤ weight (multiple_of r)) (totals rows ks)

      go : (o : Ordering) → multiple_cmp (multiple_of r) k ≡ o → is_eq o || is_among ks (multiple_of r) ≡ true
          → (is_among ks (multiple_of r) ≡ true → totals (r ∷ rows) ks ≡ r.coef *ℤ weight (multiple_of r) +ℤ totals rows ks)
          → totals (r ∷ rows) (k ∷ ks) ≡ r.coef *ℤ weight (multiple_of r) +ℤ totals rows (k ∷ ks)
      go Less e listed rest = apart (ap is_eq e) listed rest
      go Greater e listed rest = apart (ap is_eq e) listed rest
      go Equal e listed rest =
          let same : multiple_of r ≡ k = equal (multiple_of r) k e in
          let below : AllByRecursion (λ q. multiple_cmp (multiple_of r) q ≡ Less) ks = subst (λ x. AllByRecursion (λ q. multiple_cmp x q ≡ Less) ks) (sym same) sorted.0 in
          let here : total_at k (r ∷ rows) ≡ r.coef +ℤ total_at k rows =
          total-more k r rows ∙ ap (λ x. cond (is_eq (multiple_cmp k x)) (r.coef +ℤ total_at k rows) (total_at k rows)) same
          ∙ ap (λ o. cond (is_eq o) (r.coef +ℤ total_at k rows) (total_at k rows)) (itself k) in
          ap₂ (λ z y. z *ℤ weight k +ℤ y) here (totals-other r rows ks (not_among (multiple_of r) ks below))
          ∙ ap (λ z. z +ℤ totals rows ks) (+ℤ-*ℤ r.coef (total_at k rows) (weight k))
          ∙ +ℤ_assoc (r.coef *ℤ weight k) (total_at k rows *ℤ weight k) (totals rows ks)
          ∙ ap (λ x. r.coef *ℤ weight x +ℤ (total_at k rows *ℤ weight k +ℤ totals rows ks)) (sym same)

  totals-nothing : (ms : List Multiple) → totals [] ms ≡ pos 0
  totals-nothing [] = refl
  totals-nothing (m ∷ ms) = ap₂ ◌+ℤ◌ (zero-*ℤ (weight m)) (totals-nothing ms)

  totals-all : (rows : List CertRow) (ms : List Multiple) → IsStrictlySortedBy multiple_cmp ms → AllByRecursion (λ r. is_among ms (multiple_of r) ≡ true) rows → totals rows ms ≡ value rows
  totals-all [] ms sorted h = totals-nothing ms
  totals-all (r ∷ rows) ms sorted h = totals-one r rows ms sorted h.0 ∙ ap (λ z. r.coef *ℤ weight (multiple_of r) +ℤ z) (totals-all rows ms sorted h.1)

  all_listed : (ms : List Multiple) (rows : List CertRow) → AllByRecursion (λ r. is_among (fold (insert_key multiple_cmp) ms (map multiple_of rows)) (multiple_of r) ≡ true) rows
  all_listed ms [] = tt
  all_listed ms (r ∷ rows) = (
    among_all rows (insert_key multiple_cmp ms (multiple_of r)) (multiple_of r)
        ∙ or_left _ _ (among_inserted ms (multiple_of r) (multiple_of r) ∙ or_left _ _ (ap is_eq (itself (multiple_of r)))),
    all_listed (insert_key multiple_cmp ms (multiple_of r)) rows,
  )

  -- gathering keeps the sum
  pub value-gathered : (rows : List CertRow) → value (gathered rows) ≡ value rows
  value-gathered rows = value-totals rows (multiples_of rows) ∙ totals-all rows (multiples_of rows) (sorted-multiples rows) (all_listed [] rows)

  -- rows between the words of another
  pub value-joined : (k : ℤ) (outer : Row) (inner : List CertRow) → value (map (joined_row k outer) inner) ≡ k *ℤ coefficient_of (poly_between outer.left (row_sum generators (rows_of inner)) outer.right) w
  value-joined k outer [] = sym (*ℤ-zero k)
  value-joined k outer (s ∷ inner) =
      let l = outer.left in
      let r = outer.right in
      let g = generator_at generators s.generator in
      let first = row_poly generators (row_of s) in
      let rest = row_sum generators (rows_of inner) in
      let one : coefficient_of (poly_between l first r) w ≡ s.coef *ℤ coefficient_of (poly_between (l ++ s.left) g (s.right ++ r)) w =
      ap (λ p. coefficient_of p w) (between-multiple l r s.coef (poly_between s.left g s.right) ∙ ap (poly_multiple s.coef) (between-between l s.left s.right r g))
      ∙ coefficient_of-multiple s.coef (poly_between (l ++ s.left) g (s.right ++ r)) w in
      ap₂ ◌+ℤ◌ (*ℤ_assoc k s.coef (coefficient_of (poly_between (l ++ s.left) g (s.right ++ r)) w) ∙ ap (λ z. k *ℤ z) (sym one)) (value-joined k outer inner)
      ∙ sym (*ℤ-+ℤ k (coefficient_of (poly_between l first r) w) (coefficient_of (poly_between l rest r) w))
      ∙ ap (λ z. k *ℤ z) (sym (coefficient_of-append (poly_between l first r) (poly_between l rest r) w) ∙ ap (λ p. coefficient_of p w) (sym (between-append l r first rest)))
