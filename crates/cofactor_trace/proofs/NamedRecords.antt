-- Records that are pointed to, one by one.
use Rattle.cofactor_trace.proofs.Prelude.{◌≡◌, ℕ, ◌+◌, ◌<◌, ℤ, int_div, List, [], ◌∷◌, ◌++◌, map, length, drop, get_or, Some, sym, ap, subst, ◌∙◌, All, Bor, get_or-map, length-map, Overflow, IsCoefficient, product_of, first_overflow, drop_next, first-fits, gcd_of, Made, lcm_of, common_multiple, multiple_products, records}
use Rattle.cofactor_trace.proofs.Operations.{first-before}

module _ (xs : List (Bor Made)) (i : ℕ) (x : Bor Made) (inside : i < length xs) (item : x ≡ get_or xs i x) where
  -- what holds of each record holds of this one
  pub of_record : (P : Made → Type 0) → All P (records xs) → P x.now
  of_record P all =
      subst P (get_or-map (λ (m : Bor Made). m.now) xs i x x.now inside ∙ ap (λ (m : Bor Made). m.now) (sym item))
      (all i x.now (subst (λ n. i < n) (sym (length-map xs (λ (m : Bor Made). m.now))) inside))

  pub records_next : records (drop i xs) ≡ x.now ∷ records (drop (i + 1) xs)
  records_next = ap records (drop_next xs i x inside item)

  -- the common multiple of scales, with one more
  module _ (goal : Made) (common : ℤ) where
    abbrev rest : ℕ → List ℤ
    rest k = map (λ m. m.scale) (records (drop k xs) ++ goal ∷ [])

    rest_is : rest i ≡ x.now.scale ∷ rest (i + 1)
    rest_is = ap (λ l. map (λ (m : Made). m.scale) (l ++ goal ∷ [])) records_next

    pub multiple_next : (next : ℤ) → next ≡ lcm_of common x.now.scale → common_multiple next (rest (i + 1)) ≡ common_multiple common (rest i)
    multiple_next next is = ap (λ z. common_multiple z (rest (i + 1))) is ∙ sym (ap (common_multiple common) rest_is)

    pub products_next : (next : ℤ) → next ≡ lcm_of common x.now.scale → IsCoefficient (lcm_of common x.now.scale)
        → first_overflow (multiple_products next (rest (i + 1))) ≡ first_overflow (multiple_products common (rest i))
    products_next next is fits =
        ap (λ z. first_overflow (multiple_products z (rest (i + 1)))) is
        ∙ sym (first-fits (product_of common (int_div x.now.scale (gcd_of common x.now.scale))) (multiple_products (lcm_of common x.now.scale) (rest (i + 1))) fits)
        ∙ sym (ap (λ l. first_overflow (multiple_products common l)) rest_is)

    -- the first product is the one that overflows
    pub products_stop : (o : Overflow) → first_overflow (multiple_products common (x.now.scale ∷ [])) ≡ Some o → first_overflow (multiple_products common (rest i)) ≡ Some o
    products_stop o stopped =
        ap (λ l. first_overflow (multiple_products common l)) rest_is
        ∙ first-before (multiple_products common (x.now.scale ∷ [])) (multiple_products (lcm_of common x.now.scale) (rest (i + 1))) o stopped
