-- What gathering and dividing keep of rows: what holds of each multiple, and bounds on sums over them.
use Rattle.cofactor_trace.proofs.Prelude.{◌≡◌, ℕ, zero, suc, ◌+◌, ◌≤◌, ℤ, pos, negsuc, List, [], ◌∷◌, ◌++◌, map, sym, refl, ap, ◌∙◌, arith, sum_by-cons, sum_by-append, AllByRecursion, fold, flat_map, sum_by, insert_key, match_ordering, Ordering, Less, Equal, Greater, CertRow, Multiple, multiple_of, multiple_cmp, multiples_of, total_at, kept_row, gathered, divided_row, primitive, content_of}
use Rattle.cofactor_trace.proofs.TableLaws.{all_inserted}

all_append : {X : Type 0} (P : X → Type 0) (xs ys : List X) → AllByRecursion P xs → AllByRecursion P ys → AllByRecursion P (xs ++ ys)
all_append P [] ys h k = k
all_append P (x ∷ xs) ys h k = (h.0, all_append P xs ys h.1 k)

-- each multiple
module _ (P : Multiple → Type 0) where
  abbrev pub Each : List CertRow → Type 0
  Each rows = AllByRecursion (λ r. P (multiple_of r)) rows

  pub each_append : (xs ys : List CertRow) → Each xs → Each ys → Each (xs ++ ys)
  each_append xs ys h k = all_append (λ r. P (multiple_of r)) xs ys h k

  each_multiple : (rows : List CertRow) (ms : List Multiple) → AllByRecursion P ms → Each rows → AllByRecursion P (fold (insert_key multiple_cmp) ms (map multiple_of rows))
  each_multiple [] ms h each = h
  each_multiple (r ∷ rows) ms h each = each_multiple rows (insert_key multiple_cmp ms (multiple_of r)) (all_inserted P ms (multiple_of r) h each.0) each.1

  each_kept : (c : ℤ) (m : Multiple) → P m → Each (kept_row c m)
  each_kept (pos zero) m p = tt
  each_kept (pos (suc n)) m p = (p, tt)
  each_kept (negsuc n) m p = (p, tt)

  each_of : (rows : List CertRow) (ms : List Multiple) → AllByRecursion P ms → Each (flat_map (λ m. kept_row (total_at m rows) m) ms)
  each_of rows [] h = tt
  each_of rows (m ∷ ms) h = each_append (kept_row (total_at m rows) m) (flat_map (λ m. kept_row (total_at m rows) m) ms) (each_kept (total_at m rows) m h.0) (each_of rows ms h.1)

  each_divided : (g : ℤ) (rows : List CertRow) → Each rows → Each (map (divided_row g) rows)
  each_divided g [] h = tt
  each_divided g (r ∷ rows) h = (h.0, each_divided g rows h.1)

  pub each_primitive : (d : ℤ) (rows : List CertRow) → Each rows → Each (primitive d (gathered rows)).rows
  each_primitive d rows h = each_divided (content_of d (gathered rows)) (gathered rows) (each_of rows (multiples_of rows) (each_multiple rows [] tt h))

-- sums over multiples
module _ (f : Multiple → ℕ) where
  abbrev pub sum_of : List CertRow → ℕ
  sum_of rows = sum_by (λ r. f (multiple_of r)) rows

  inserted_sum : (ms : List Multiple) (m : Multiple) → sum_by f (insert_key multiple_cmp ms m) ≤ f m + sum_by f ms
  inserted_sum [] m = omega (arith, sum_by-cons f m [])
  inserted_sum (k ∷ ks) m = go (multiple_cmp m k) (inserted_sum ks m)
    where
      go : (o : Ordering) → sum_by f (insert_key multiple_cmp ks m) ≤ f m + sum_by f ks → sum_by f (match_ordering o (m ∷ (k ∷ ks)) (k ∷ ks) (k ∷ insert_key multiple_cmp ks m)) ≤ f m + sum_by f (k ∷ ks)
      go Less h = omega (arith, sum_by-cons f m (k ∷ ks))
      go Equal h = omega arith
      go Greater h = omega (arith, sum_by-cons f k ks, sum_by-cons f k (insert_key multiple_cmp ks m))

  multiples_sum : (rows : List CertRow) (ms : List Multiple) → sum_by f (fold (insert_key multiple_cmp) ms (map multiple_of rows)) ≤ sum_by f ms + sum_of rows
  multiples_sum [] ms = omega arith
  multiples_sum (r ∷ rows) ms =
      let rest = multiples_sum rows (insert_key multiple_cmp ms (multiple_of r)) in
      let here = inserted_sum ms (multiple_of r) in
      let more = sum_by-cons (λ (s : CertRow). f (multiple_of s)) r rows in
      omega (arith, rest, here, more)

  kept_sum : (c : ℤ) (m : Multiple) → sum_of (kept_row c m) ≤ f m
  kept_sum (pos zero) m = omega arith
  kept_sum (pos (suc n)) m = omega arith
  kept_sum (negsuc n) m = omega arith

  sum_is : (rows : List CertRow) (ms : List Multiple) → sum_of (flat_map (λ m. kept_row (total_at m rows) m) ms) ≤ sum_by f ms
  sum_is rows [] = omega arith
  sum_is rows (m ∷ ms) =
      let here = kept_sum (total_at m rows) m in
      let rest = sum_is rows ms in
      let whole = sum_by-append (λ (s : CertRow). f (multiple_of s)) (kept_row (total_at m rows) m) (flat_map (λ m. kept_row (total_at m rows) m) ms) in
      let more = sum_by-cons f m ms in
      omega (arith, here, rest, whole, more)

  divided_sum : (g : ℤ) (rows : List CertRow) → sum_of (map (divided_row g) rows) ≡ sum_of rows
  divided_sum g [] = refl
  divided_sum g (r ∷ rows) =
      sum_by-cons (λ (s : CertRow). f (multiple_of s)) (divided_row g r) (map (divided_row g) rows)
      ∙ ap (λ n. f (multiple_of r) + n) (divided_sum g rows) ∙ sym (sum_by-cons (λ (s : CertRow). f (multiple_of s)) r rows)

  pub sum-primitive : (d : ℤ) (rows : List CertRow) → sum_of (primitive d (gathered rows)).rows ≤ sum_of rows
  sum-primitive d rows =
      let same = divided_sum (content_of d (gathered rows)) (gathered rows) in
      let at_most = sum_is rows (multiples_of rows) in
      let bound = multiples_sum rows [] in
      omega (arith, same, at_most, bound)
