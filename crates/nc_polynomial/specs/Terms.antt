-- Sums and multiples of lists of terms, over integers of any size.
use Rattle.std.specs.Prelude.{◌≡◌, ℕ, zero, suc, ℤ, pos, negsuc, neg_ℤ, ◌+ℤ◌, ◌*ℤ◌, List, [], ◌∷◌, ◌++◌, map}
use Rattle.std.specs.List.{AllPairs}
use Rattle.std.specs.declared.cmp.Ordering.{Ordering}
use Rattle.std.specs.declared.cmp.Ordering.TheVariants.{Less, Equal, Greater}
use Rattle.coef_int.specs.declared.Overflow.{Overflow}
use Rattle.coef_int.specs.Operations.{product_of, sum_of}
use Rattle.word_core.specs.Canonical.{word_cmp}
use Rattle.definitions.specs.Poly.{Term}

-- each word is above all later words
abbrev pub IsDescending : List Term → Type 0
IsDescending p = AllPairs (λ t u. word_cmp t.1 u.1 ≡ Greater) p

-- a term before a list, unless its coefficient is zero
abbrev pub keep : ℤ → List ℕ → List Term → List Term
keep (pos zero) w p = p
keep (pos (suc n)) w p = (pos (suc n), w) ∷ p
keep (negsuc n) w p = (negsuc n, w) ∷ p

-- k p, and its products in order, with k on the left
abbrev pub scaled : ℤ → List Term → List Term
scaled k [] = []
scaled k (t ∷ p) = keep (k *ℤ t.0) t.1 (scaled k p)

abbrev pub products : ℤ → List Term → List Overflow
products k p = map (λ t. product_of k t.0) p

-- p k, and its products in order, with k on the right
abbrev pub multiplied : List Term → ℤ → List Term
multiplied [] k = []
multiplied (t ∷ p) k = keep (t.0 *ℤ k) t.1 (multiplied p k)

abbrev pub multiplications : List Term → ℤ → List Overflow
multiplications p k = map (λ t. product_of t.0 k) p

-- k l p r, whose products are those of k p
abbrev pub shifted : ℤ → List ℕ → List Term → List ℕ → List Term
shifted k l [] r = []
shifted k l (t ∷ p) r = keep (k *ℤ t.0) (l ++ (t.1 ++ r)) (shifted k l p r)

-- -p
abbrev pub negated : List Term → List Term
negated p = map (λ t. (neg_ℤ t.0, t.1)) p

-- a word with its coefficient in a left and in a right polynomial
abbrev pub Pair : Type 0
Pair = ℤ × ℤ × List ℕ

-- a word that only the right one has
abbrev pub only_right : Term → Pair
only_right y = (pos 0, y.0, y.1)

-- one of three, by the order of two words
abbrev pub by_order : {X : Type 0} → Ordering → X → X → X → X
by_order Less a b c = a
by_order Equal a b c = b
by_order Greater a b c = c

-- The words of two descending polynomials, descending, each with both its coefficients.
-- x is the first term of the left one, q is the right one, and rest aligns the terms of the left one after x.
abbrev pub aligned_at : Term → List Term → (List Term → List Pair) → List Pair
aligned_at x [] rest = (x.0, pos 0, x.1) ∷ rest []
aligned_at x (y ∷ q) rest = by_order (word_cmp x.1 y.1)
    ((pos 0, y.0, y.1) ∷ aligned_at x q rest)
    ((x.0, y.0, x.1) ∷ rest q)
    ((x.0, pos 0, x.1) ∷ rest (y ∷ q))

abbrev pub aligned : List Term → List Term → List Pair
aligned [] q = map only_right q
aligned (x ∷ p) q = aligned_at x q (aligned p)

-- the sums of such pairs, of which zeros are left out
abbrev pub totals : List Pair → List Term
totals [] = []
totals (a ∷ rest) = keep (a.0 +ℤ a.1) a.2 (totals rest)

abbrev pub total_operations : List Pair → List Overflow
total_operations pairs = map (λ a. sum_of a.0 a.1) pairs

-- p + q, and its sums in order; a sum with zero is always a coefficient
abbrev pub added : List Term → List Term → List Term
added p q = totals (aligned p q)

abbrev pub sums : List Term → List Term → List Overflow
sums p q = total_operations (aligned p q)
