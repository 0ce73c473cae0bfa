-- Terms added to a table one by one: the first overflow and the sum are those of two descending lists.
use Rattle.nc_polynomial.proofs.Prelude.{◌≡◌, ◌≢◌, ℕ, ℤ, pos, ◌+ℤ◌, List, [], ◌∷◌, ◌++◌, get_or, map, cond, Some, sym, refl, ap, ap₂, subst, ◌∙◌, arith, ints, +ℤ_idr, All, All-nil, All-cons, All-tail, is_eq, Ordering, Less, Equal, Greater, Overflow, IsCoefficient, is_coefficient, sum_of, first_overflow, word_cmp, word_cmp-same, word_cmp-turned, Term, coefficient_of, coefficient_other, coefficient_of-append, only_right, aligned, aligned_at, total_operations, by_order, added, sums}
use Rattle.nc_polynomial.proofs.Chains.{first-fits}
use Rattle.nc_polynomial.proofs.CoefficientLaws.{coefficient_of-added}
use Rattle.nc_polynomial.proofs.Distinct.{none_listed, first_coefficient, distinct-descending, apart-before}
use Rattle.nc_polynomial.proofs.Shapes.{Descends, IsBelow, IsInRange, higher, descending-added, nonzero-added}
use Rattle.nc_polynomial.proofs.Unique.{descending_unique}
use Rattle.nc_polynomial.proofs.Words.{word_eq-cmp}

-- the sums of terms with what their words have so far
abbrev pub sums_with : (List ℕ → ℤ) → List Term → List Overflow
sums_with so_far q = map (λ t. sum_of (so_far t.1) t.0) q

sum-first : (x y z : ℤ) (os more : List Overflow) → x ≡ y → first_overflow os ≡ first_overflow more → first_overflow (sum_of x z ∷ os) ≡ first_overflow (sum_of y z ∷ more)
sum-first x y z os more e f = ap₂ (λ k r. cond (is_coefficient (k +ℤ z)) r (Some (sum_of k z))) e f

-- a word above all words of a list has no coefficient there
none_above : (v : List ℕ) (p : List Term) → All (λ t. word_cmp v t.1 ≡ Greater) p → Descends p → coefficient_of p v ≡ pos 0
none_above v p above d = none_listed v p (distinct-descending ((pos 1, v) ∷ p) (above, d)).0

module _ (so_far : List ℕ → ℤ) where
  -- so far the words of q have their coefficients in p
  abbrev AgreesAt : List Term → Term → Type 0
  AgreesAt p t = so_far t.1 ≡ coefficient_of p t.1

  abbrev Agrees : List Term → List Term → Type 0
  Agrees p q = All (AgreesAt p) q

  agrees-below : (x : Term) (p q : List Term) → All (λ t. word_cmp x.1 t.1 ≡ Greater) q → Agrees (x ∷ p) q → Agrees p q
  agrees-below x p q below h i t k = h i t k ∙ coefficient_other (get_or q i t).1 x p (word_eq-cmp x.1 (get_or q i t).1 ∙ ap is_eq (below i t k))

  first_right : (q : List Term) → Agrees [] q → first_overflow (total_operations (map only_right q)) ≡ first_overflow (sums_with so_far q)
  first_right [] h = refl
  first_right (y ∷ q) h = sum-first (pos 0) (so_far y.1) y.0 (total_operations (map only_right q)) (sums_with so_far q) (sym (h 0 y (omega arith))) (first_right q (All-tail (AgreesAt []) y q h))

  first_at : (x : Term) (p : List Term) → IsCoefficient x.0 → All (λ t. word_cmp x.1 t.1 ≡ Greater) p → Descends p
      → ((q : List Term) → Descends q → Agrees p q → first_overflow (sums p q) ≡ first_overflow (sums_with so_far q))
      → (q : List Term) → Descends q → Agrees (x ∷ p) q → first_overflow (total_operations (aligned_at x q (aligned p))) ≡ first_overflow (sums_with so_far q)
  first_at x p fits above down rest [] d h = first-fits (sum_of x.0 (pos 0)) (sums p []) (subst IsCoefficient (sym (+ℤ_idr x.0)) fits) ∙ rest [] tt (All-nil (AgreesAt p))
  first_at x p fits above down rest (y ∷ q) d h = go (word_cmp x.1 y.1) refl (first_at x p fits above down rest q d.1 (All-tail (AgreesAt (x ∷ p)) y q h))
    where
      go : (o : Ordering) → word_cmp x.1 y.1 ≡ o → first_overflow (total_operations (aligned_at x q (aligned p))) ≡ first_overflow (sums_with so_far q)
          → first_overflow (total_operations (by_order o ((pos 0, y.0, y.1) ∷ aligned_at x q (aligned p)) ((x.0, y.0, x.1) ∷ aligned p q) ((x.0, pos 0, x.1) ∷ aligned p (y ∷ q)))) ≡ first_overflow (sums_with so_far (y ∷ q))
      go Less e more =
          let over = word_cmp-turned x.1 y.1 e in
          let none = none_above y.1 (x ∷ p) (All-cons (IsBelow y.1) x p over (higher y.1 x.1 p over above)) (above, down) in
          sum-first (pos 0) (so_far y.1) y.0 (total_operations (aligned_at x q (aligned p))) (sums_with so_far q) (sym (h 0 y (omega arith) ∙ none)) more
      go Equal e more =
          let same = word_cmp-same x.1 y.1 e in
          let here : coefficient_of (x ∷ p) y.1 ≡ x.0 = ap (coefficient_of (x ∷ p)) (sym same) ∙ first_coefficient x p (distinct-descending (x ∷ p) (above, down)).0 in
          let below = subst (λ v. All (IsBelow v) q) (sym same) d.0 in
          sum-first x.0 (so_far y.1) y.0 (sums p q) (sums_with so_far q) (sym (h 0 y (omega arith) ∙ here)) (rest q d.1 (agrees-below x p q below (All-tail (AgreesAt (x ∷ p)) y q h)))
      go Greater e more =
          first-fits (sum_of x.0 (pos 0)) (sums p (y ∷ q)) (subst IsCoefficient (sym (+ℤ_idr x.0)) fits)
          ∙ rest (y ∷ q) d (agrees-below x p (y ∷ q) (All-cons (IsBelow x.1) y q e (higher x.1 y.1 q e d.0)) h)

  first-sums : (p q : List Term) → All (λ t. IsCoefficient t.0) p → Descends p → Descends q → Agrees p q → first_overflow (sums p q) ≡ first_overflow (sums_with so_far q)
  first-sums [] q fits down d h = first_right q h
  first-sums (x ∷ p) q fits down d h = first_at x p (fits 0 x (omega arith)) down.0 down.1 (λ r e k. first-sums p r (All-tail IsInRange x p fits) down.1 e k) q d h

-- a sum of two descending lists overflows first where the terms of the second one do, each added to what its word has in the first
pub first-sums_with : (p q : List Term) → All (λ t. IsCoefficient t.0) p → Descends p → Descends q → first_overflow (sums p q) ≡ first_overflow (sums_with (coefficient_of p) q)
first-sums_with p q fits down d = first-sums (coefficient_of p) p q fits down d (λ i t k. refl)

pub sums-with_same : (f g : List ℕ → ℤ) (q : List Term) → ((w : List ℕ) → f w ≡ g w) → sums_with f q ≡ sums_with g q
sums-with_same f g [] same = refl
sums-with_same f g (t ∷ q) same = ap₂ (λ z os. sum_of z t.0 ∷ os) (same t.1) (sums-with_same f g q same)

-- the list with the coefficients of both is their sum
pub added_is : (p q r : List Term) → Descends p → Descends q → Descends r → All (λ t. t.0 ≢ pos 0) r → ((w : List ℕ) → coefficient_of r w ≡ coefficient_of p w +ℤ coefficient_of q w) → added p q ≡ r
added_is p q r d e f nonzero same = descending_unique (added p q) r (descending-added p q d e) f (nonzero-added p q) nonzero (record { at = λ w. coefficient_of-added w p q ∙ sym (same w) })

-- one more term
module _ (start now : List ℕ → ℤ) (terms front : List Term) (t : Term) (more : List Term) (splits : front ++ t ∷ more ≡ terms) (descends : Descends terms)
    (so_far : (w : List ℕ) → now w ≡ start w +ℤ coefficient_of front w) where
  -- its word has what it had at the start
  pub word_untouched : now t.1 ≡ start t.1
  word_untouched =
      so_far t.1 ∙ ap (λ k. start t.1 +ℤ k) (none_listed t.1 front (apart-before front t more (subst Descends (sym splits) descends))) ∙ +ℤ_idr (start t.1)

  pub sums-next : first_overflow (sums_with start (t ∷ more)) ≡ first_overflow (sum_of (now t.1) t.0 ∷ sums_with start more)
  sums-next = sum-first (start t.1) (now t.1) t.0 (sums_with start more) (sums_with start more) (sym word_untouched) refl

  pub coefficients-more : (new : List ℕ → ℤ) → ((w : List ℕ) → new w ≡ now w +ℤ coefficient_of (t ∷ []) w) → (w : List ℕ) → new w ≡ start w +ℤ coefficient_of (front ++ t ∷ []) w
  coefficients-more new added w =
      let both : coefficient_of (front ++ t ∷ []) w ≡ coefficient_of front w +ℤ coefficient_of (t ∷ []) w = coefficient_of-append front (t ∷ []) w in
      omega (arith, ints, added w, so_far w, both)
