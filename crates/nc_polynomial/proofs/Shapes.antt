-- Sums and multiples of polynomials are descending, have no zero coefficient, and are in range where nothing overflows.
use Rattle.std.proofs.Common.{◌≡◌, ◌≢◌, ℕ, zero, suc, ℤ, pos, negsuc, ◌+ℤ◌, ◌*ℤ◌, true, List, [], ◌∷◌, ◌++◌, get_or, map, None, neg_ℤ, sym, refl, ap, ◌∙◌, subst, arith}
use Rattle.std.proofs.Math.IntN.{neg_ℤ-neg_ℤ}
use Rattle.std.proofs.lemmas.Bool.Decides.{nat_tests}
use Rattle.std.proofs.lemmas.List.Elements.{All-nil, All-cons, All-tail, All-contains, All-map, Contains-append_right}
use Rattle.std.proofs.lemmas.List.Kept.{AllPairs-cons}
use Rattle.std.specs.List.{All}
use Rattle.std.specs.declared.cmp.Ordering.{Ordering}
use Rattle.std.specs.declared.cmp.Ordering.TheVariants.{Less, Equal, Greater}
use Rattle.definitions.specs.Poly.{Term}
use Rattle.coef_int.specs.Operations.{product_of, sum_of, exact_value, first_overflow}
use Rattle.coef_int.specs.Range.{IsCoefficient, is_coefficient}
use Rattle.coef_int.specs.declared.Overflow.{Overflow}
use Rattle.word_core.proofs.Order.{word_cmp-same, word_cmp-turned, word_cmp-trans}
use Rattle.word_core.specs.Canonical.{word_cmp}
use Rattle.nc_polynomial.specs.Shape.{IsShaped}
use Rattle.nc_polynomial.specs.Terms.{Pair, only_right, keep, scaled, products, multiplied, multiplications, shifted, negated, aligned, aligned_at, totals, total_operations, added, sums, by_order, IsDescending}

abbrev pub IsNonzero : Term → Type 0
IsNonzero t = t.0 ≢ pos 0

abbrev pub IsInRange : Term → Type 0
IsInRange t = IsCoefficient t.0

-- the word of the term is below the word
abbrev pub IsBelow : List ℕ → Term → Type 0
IsBelow w t = word_cmp w t.1 ≡ Greater

-- what holds of a term, where its coefficient isn't zero, and of a list holds of the list with it
pub all-keep : (P : Term → Type 0) (z : ℤ) (v : List ℕ) (p : List Term) → (z ≢ pos 0 → P (z, v)) → All P p → All P (keep z v p)
all-keep P (pos zero) v p h k = k
all-keep P (pos (suc n)) v p h k = All-cons P (pos (suc n), v) p (h (λ e. cc)) k
all-keep P (negsuc n) v p h k = All-cons P (negsuc n, v) p (h (λ e. cc)) k

-- what holds of each word of both holds of each word of the sum
module _ (P : List ℕ → Type 0) where
  abbrev OfTerm : Term → Type 0
  OfTerm t = P t.1

  abbrev OfPair : Pair → Type 0
  OfPair a = P a.2

  pub all-scaled : (k : ℤ) (p : List Term) → All (λ t. P t.1) p → All (λ t. P t.1) (scaled k p)
  all-scaled k [] h = h
  all-scaled k (t ∷ p) h = all-keep OfTerm (k *ℤ t.0) t.1 (scaled k p) (λ e. h 0 t (omega arith)) (all-scaled k p (All-tail OfTerm t p h))

  pub all-totals : (pairs : List Pair) → All (λ a. P a.2) pairs → All (λ t. P t.1) (totals pairs)
  all-totals [] h = All-nil OfTerm
  all-totals (a ∷ rest) h = all-keep OfTerm (a.0 +ℤ a.1) a.2 (totals rest) (λ e. h 0 a (omega arith)) (all-totals rest (All-tail OfPair a rest h))

  all-right : (q : List Term) → All (λ t. P t.1) q → All (λ a. P a.2) (map only_right q)
  all-right q h = All-map OfPair only_right q h

  all-at : (x : Term) (rest : List Term → List Pair) → P x.1 → ((q : List Term) → All (λ t. P t.1) q → All (λ a. P a.2) (rest q)) → (q : List Term) → All (λ t. P t.1) q → All (λ a. P a.2) (aligned_at x q rest)
  all-at x rest h r [] k = All-cons OfPair (x.0, pos 0, x.1) (rest []) h (r [] k)
  all-at x rest h r (y ∷ q) k =
      elim (word_cmp x.1 y.1) as (λ o. All (λ a. P a.2) (by_order o ((pos 0, y.0, y.1) ∷ aligned_at x q rest) ((x.0, y.0, x.1) ∷ rest q) ((x.0, pos 0, x.1) ∷ rest (y ∷ q)))) [
        | Less ↦ All-cons OfPair (pos 0, y.0, y.1) (aligned_at x q rest) (k 0 y (omega arith)) (all-at x rest h r q (All-tail OfTerm y q k))
        | Equal ↦ All-cons OfPair (x.0, y.0, x.1) (rest q) h (r q (All-tail OfTerm y q k))
        | Greater ↦ All-cons OfPair (x.0, pos 0, x.1) (rest (y ∷ q)) h (r (y ∷ q) k)
      ]

  pub all-aligned : (p q : List Term) → All (λ t. P t.1) p → All (λ t. P t.1) q → All (λ a. P a.2) (aligned p q)
  all-aligned [] q h k = all-right q k
  all-aligned (x ∷ p) q h k = all-at x (aligned p) (h 0 x (omega arith)) (λ s m. all-aligned p s (All-tail OfTerm x p h) m) q k

-- what holds of all holds of the one between two parts
pub all_middle : {X : Type 0} (P : X → Type 0) (front : List X) (x : X) (rest : List X) → All P (front ++ x ∷ rest) → P x
all_middle P front x rest h = All-contains P (front ++ x ∷ rest) x h (Contains-append_right front (x ∷ rest) x (0, omega arith, refl))

-- the same by recursion
abbrev pub Descends : List Term → Type 0
Descends [] = Unit {0}
Descends (t ∷ p) = All (λ u. word_cmp t.1 u.1 ≡ Greater) p × Descends p

pub IsDescending-from_recursion : (p : List Term) → Descends p → IsDescending p
IsDescending-from_recursion [] d = λ i j x h k. absurd (omega arith)
IsDescending-from_recursion (t ∷ p) d = AllPairs-cons (λ t u. word_cmp t.1 u.1 ≡ Greater) t p d.0 (IsDescending-from_recursion p d.1)

pub recursion_from_IsDescending : (p : List Term) → IsDescending p → Descends p
recursion_from_IsDescending [] d = tt
recursion_from_IsDescending (t ∷ p) d = (λ i x h. d 0 (suc i) x (omega arith) (omega arith), recursion_from_IsDescending p (λ i j x h k. d (suc i) (suc j) x (omega arith) (omega arith)))

pub descends_one : (t : Term) → Descends (t ∷ [])
descends_one t = (All-nil (IsBelow t.1), tt)

-- all words before one are above it
pub over-front : (front : List Term) (t : Term) (more : List Term) → Descends (front ++ t ∷ more) → All (λ u. word_cmp u.1 t.1 ≡ Greater) front
over-front [] t more d = All-nil (λ (u : Term). word_cmp u.1 t.1 ≡ Greater)
over-front (u ∷ front) t more d = All-cons (λ (x : Term). word_cmp x.1 t.1 ≡ Greater) u front (all_middle (IsBelow u.1) front t more d.0) (over-front front t more d.1)

abbrev pub IsFalling : List Pair → Type 0
IsFalling [] = Unit {0}
IsFalling (a ∷ rest) = All (λ b. word_cmp a.2 b.2 ≡ Greater) rest × IsFalling rest

pub higher : (u v : List ℕ) (p : List Term) → word_cmp u v ≡ Greater → All (λ t. word_cmp v t.1 ≡ Greater) p → All (λ t. word_cmp u t.1 ≡ Greater) p
higher u v p h k i d lt = word_cmp-trans u v (get_or p i d).1 h (k i d lt)

falling-right : (q : List Term) → Descends q → IsFalling (map only_right q)
falling-right [] d = tt
falling-right (y ∷ q) d = (all-right (λ w. word_cmp y.1 w ≡ Greater) q d.0, falling-right q d.1)

falling-at : (x : Term) (p : List Term) → All (λ t. word_cmp x.1 t.1 ≡ Greater) p → ((q : List Term) → Descends q → IsFalling (aligned p q)) → (q : List Term) → Descends q → IsFalling (aligned_at x q (aligned p))
falling-at x p h r [] d = (all-aligned (λ w. word_cmp x.1 w ≡ Greater) p [] h (All-nil (IsBelow x.1)), r [] tt)
falling-at x p h r (y ∷ q) d = go (word_cmp x.1 y.1) refl (falling-at x p h r q d.1)
  where
    go : (o : Ordering) → word_cmp x.1 y.1 ≡ o → IsFalling (aligned_at x q (aligned p)) → IsFalling (by_order o ((pos 0, y.0, y.1) ∷ aligned_at x q (aligned p)) ((x.0, y.0, x.1) ∷ aligned p q) ((x.0, pos 0, x.1) ∷ aligned p (y ∷ q)))
    go Less e m =
        let above = word_cmp-turned x.1 y.1 e in
        (all-aligned (λ w. word_cmp y.1 w ≡ Greater) (x ∷ p) q (All-cons (IsBelow y.1) x p above (higher y.1 x.1 p above h)) d.0, m)
    go Equal e m = (all-aligned (λ w. word_cmp x.1 w ≡ Greater) p q h (subst (λ v. All (IsBelow v) q) (sym (word_cmp-same x.1 y.1 e)) d.0), r q d.1)
    go Greater e m = (all-aligned (λ w. word_cmp x.1 w ≡ Greater) p (y ∷ q) h (All-cons (IsBelow x.1) y q e (higher x.1 y.1 q e d.0)), r (y ∷ q) d)

pub falling-aligned : (p q : List Term) → Descends p → Descends q → IsFalling (aligned p q)
falling-aligned [] q d e = falling-right q e
falling-aligned (x ∷ p) q d e = falling-at x p d.0 (λ s m. falling-aligned p s d.1 m) q e

pub descending-keep : (z : ℤ) (v : List ℕ) (p : List Term) → All (λ t. word_cmp v t.1 ≡ Greater) p → Descends p → Descends (keep z v p)
descending-keep (pos zero) v p h d = d
descending-keep (pos (suc n)) v p h d = (h, d)
descending-keep (negsuc n) v p h d = (h, d)

descending-totals : (pairs : List Pair) → IsFalling pairs → Descends (totals pairs)
descending-totals [] d = tt
descending-totals (a ∷ rest) d = descending-keep (a.0 +ℤ a.1) a.2 (totals rest) (all-totals (λ w. word_cmp a.2 w ≡ Greater) rest d.0) (descending-totals rest d.1)

pub descending-added : (p q : List Term) → Descends p → Descends q → Descends (added p q)
descending-added p q d e = descending-totals (aligned p q) (falling-aligned p q d e)

pub descending-scaled : (k : ℤ) (p : List Term) → Descends p → Descends (scaled k p)
descending-scaled k [] d = tt
descending-scaled k (t ∷ p) d = descending-keep (k *ℤ t.0) t.1 (scaled k p) (all-scaled (λ w. word_cmp t.1 w ≡ Greater) k p d.0) (descending-scaled k p d.1)

pub nonzero-scaled : (k : ℤ) (p : List Term) → All (λ t. t.0 ≢ pos 0) (scaled k p)
nonzero-scaled k [] = All-nil IsNonzero
nonzero-scaled k (t ∷ p) = all-keep IsNonzero (k *ℤ t.0) t.1 (scaled k p) (λ h. h) (nonzero-scaled k p)

nonzero-totals : (pairs : List Pair) → All (λ t. t.0 ≢ pos 0) (totals pairs)
nonzero-totals [] = All-nil IsNonzero
nonzero-totals (a ∷ rest) = all-keep IsNonzero (a.0 +ℤ a.1) a.2 (totals rest) (λ h. h) (nonzero-totals rest)

pub nonzero-added : (p q : List Term) → All (λ t. t.0 ≢ pos 0) (added p q)
nonzero-added p q = nonzero-totals (aligned p q)

-- where no operation overflows, each value is a coefficient
pub first_fits : (o : Overflow) (os : List Overflow) → first_overflow (o ∷ os) ≡ None → IsCoefficient (exact_value o) × (first_overflow os ≡ None)
first_fits o os e = let inside : is_coefficient (exact_value o) ≡ true = grind arith in (grind (arith, nat_tests), grind arith)

pub in_range-scaled : (k : ℤ) (p : List Term) → first_overflow (products k p) ≡ None → All (λ t. IsCoefficient t.0) (scaled k p)
in_range-scaled k [] e = All-nil IsInRange
in_range-scaled k (t ∷ p) e =
    let parts = first_fits (product_of k t.0) (products k p) e in
    all-keep IsInRange (k *ℤ t.0) t.1 (scaled k p) (λ h. parts.0) (in_range-scaled k p parts.1)

in_range-totals : (pairs : List Pair) → first_overflow (total_operations pairs) ≡ None → All (λ t. IsCoefficient t.0) (totals pairs)
in_range-totals [] e = All-nil IsInRange
in_range-totals (a ∷ rest) e =
    let parts = first_fits (sum_of a.0 a.1) (total_operations rest) e in
    all-keep IsInRange (a.0 +ℤ a.1) a.2 (totals rest) (λ h. parts.0) (in_range-totals rest parts.1)

pub in_range-added : (p q : List Term) → first_overflow (sums p q) ≡ None → All (λ t. IsCoefficient t.0) (added p q)
in_range-added p q e = in_range-totals (aligned p q) e

pub in_range-multiplied : (p : List Term) (k : ℤ) → first_overflow (multiplications p k) ≡ None → All (λ t. IsCoefficient t.0) (multiplied p k)
in_range-multiplied [] k e = All-nil IsInRange
in_range-multiplied (t ∷ p) k e =
    let parts = first_fits (product_of t.0 k) (multiplications p k) e in
    all-keep IsInRange (t.0 *ℤ k) t.1 (multiplied p k) (λ h. parts.0) (in_range-multiplied p k parts.1)

pub in_range-shifted : (k : ℤ) (l : List ℕ) (p : List Term) (r : List ℕ) → first_overflow (products k p) ≡ None → All (λ t. IsCoefficient t.0) (shifted k l p r)
in_range-shifted k l [] r e = All-nil IsInRange
in_range-shifted k l (t ∷ p) r e =
    let parts = first_fits (product_of k t.0) (products k p) e in
    all-keep IsInRange (k *ℤ t.0) (l ++ (t.1 ++ r)) (shifted k l p r) (λ h. parts.0) (in_range-shifted k l p r parts.1)

pub shaped-scaled : (k : ℤ) (p : List Term) → first_overflow (products k p) ≡ None → IsShaped p → IsShaped (scaled k p)
shaped-scaled k p e h = record {
  descending = IsDescending-from_recursion (scaled k p) (descending-scaled k p (recursion_from_IsDescending p h.descending));
  nonzero = nonzero-scaled k p;
  in_range = in_range-scaled k p e;
}

pub shaped-added : (p q : List Term) → first_overflow (sums p q) ≡ None → IsShaped p → IsShaped q → IsShaped (added p q)
shaped-added p q e h k = record {
  descending = IsDescending-from_recursion (added p q) (descending-added p q (recursion_from_IsDescending p h.descending) (recursion_from_IsDescending q k.descending));
  nonzero = nonzero-added p q;
  in_range = in_range-added p q e;
}

-- the negated polynomial has the same words
descending-negated : (p : List Term) → Descends p → Descends (negated p)
descending-negated [] d = tt
descending-negated (t ∷ p) d = (All-map (IsBelow t.1) (λ (u : Term). (neg_ℤ u.0, u.1)) p d.0, descending-negated p d.1)

pub in_range-neg_ℤ : (z : ℤ) → IsCoefficient z → IsCoefficient (neg_ℤ z)
in_range-neg_ℤ (pos zero) k = k
in_range-neg_ℤ (pos (suc n)) k = k
in_range-neg_ℤ (negsuc n) k = k

pub shaped-negated : (p : List Term) → IsShaped p → IsShaped (negated p)
shaped-negated p h = record {
  descending = IsDescending-from_recursion (negated p) (descending-negated p (recursion_from_IsDescending p h.descending));
  nonzero = All-map IsNonzero (λ (t : Term). (neg_ℤ t.0, t.1)) p (λ i d lt e. h.nonzero i d lt (sym (neg_ℤ-neg_ℤ (get_or p i d).0) ∙ ap neg_ℤ e));
  in_range = All-map IsInRange (λ (t : Term). (neg_ℤ t.0, t.1)) p (λ i d lt. in_range-neg_ℤ (get_or p i d).0 (h.in_range i d lt));
}
