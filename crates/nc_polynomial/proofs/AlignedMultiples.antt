-- The words of two multiples side by side: those of the two lists, with each coefficient multiplied.
use Rattle.nc_polynomial.proofs.Prelude.{◌≡◌, ℤ, pos, ◌+ℤ◌, ◌*ℤ◌, List, [], ◌∷◌, ◌++◌, map, Err, sym, refl, ap, ap₂, subst, ◌∙◌, arith, *ℤ-zero, All-tail, All, AllByRecursion, Less, Equal, Greater, IsCoefficient, sum_of, Term, poly_multiple, word_cmp, Pair, only_right, aligned, aligned_at, by_order, keep, totals, total_operations}
use Rattle.nc_polynomial.specs.declared.fault.PolyFault.TheVariants as fault
use Rattle.nc_polynomial.proofs.Shapes.{IsInRange}
use Rattle.nc_polynomial.proofs.Checked.{join, total_from, one-fits, one-fails}

module _ (a b : ℤ) where
  abbrev pub multiplied_pairs : List Pair → List Pair
  multiplied_pairs pairs = map (λ n. (a *ℤ n.0, b *ℤ n.1, n.2)) pairs

  only-right : (q : List Term) → map only_right (poly_multiple b q) ≡ multiplied_pairs (map only_right q)
  only-right [] = refl
  only-right (y ∷ q) = ap₂ (λ (z : ℤ) (rest : List Pair). (z, b *ℤ y.0, y.1) ∷ rest) (sym (*ℤ-zero a)) (only-right q)

  at-term : (x : Term) (rest more : List Term → List Pair) → ((q : List Term) → more (poly_multiple b q) ≡ multiplied_pairs (rest q)) → (q : List Term)
      → aligned_at (a *ℤ x.0, x.1) (poly_multiple b q) more ≡ multiplied_pairs (aligned_at x q rest)
  at-term x rest more h [] = ap₂ (λ (z : ℤ) (l : List Pair). (a *ℤ x.0, z, x.1) ∷ l) (sym (*ℤ-zero b)) (h [])
  at-term x rest more h (y ∷ q) =
      elim (word_cmp x.1 y.1) as (λ o. by_order o ((pos 0, b *ℤ y.0, y.1) ∷ aligned_at (a *ℤ x.0, x.1) (poly_multiple b q) more) ((a *ℤ x.0, b *ℤ y.0, x.1) ∷ more (poly_multiple b q)) ((a *ℤ x.0, pos 0, x.1) ∷ more (poly_multiple b (y ∷ q)))
      ≡ multiplied_pairs (by_order o ((pos 0, y.0, y.1) ∷ aligned_at x q rest) ((x.0, y.0, x.1) ∷ rest q) ((x.0, pos 0, x.1) ∷ rest (y ∷ q)))) [
        | Less ↦ ap₂ (λ (z : ℤ) (l : List Pair). (z, b *ℤ y.0, y.1) ∷ l) (sym (*ℤ-zero a)) (at-term x rest more h q)
        | Equal ↦ ap (λ l. (a *ℤ x.0, b *ℤ y.0, x.1) ∷ l) (h q)
        | Greater ↦ ap₂ (λ (z : ℤ) (l : List Pair). (a *ℤ x.0, z, x.1) ∷ l) (sym (*ℤ-zero b)) (h (y ∷ q))
      ]

  pub aligned-multiples : (p q : List Term) → aligned (poly_multiple a p) (poly_multiple b q) ≡ multiplied_pairs (aligned p q)
  aligned-multiples [] q = only-right q
  aligned-multiples (x ∷ p) q = at-term x (aligned p) (aligned (poly_multiple a p)) (aligned-multiples p) q

-- both coefficients of each pair are in range
abbrev pub AreInRange : List Pair → Type 0
AreInRange pairs = AllByRecursion (λ n. IsCoefficient n.0 × IsCoefficient n.1) pairs

in_range-right : (q : List Term) → All IsInRange q → AreInRange (map only_right q)
in_range-right [] h = tt
in_range-right (y ∷ q) h = ((omega arith, h 0 y (omega arith)), in_range-right q (All-tail IsInRange y q h))

in_range-at : (x : Term) (rest : List Term → List Pair) → IsCoefficient x.0 → ((q : List Term) → All IsInRange q → AreInRange (rest q)) → (q : List Term) → All IsInRange q → AreInRange (aligned_at x q rest)
in_range-at x rest h r [] k = ((h, omega arith), r [] k)
in_range-at x rest h r (y ∷ q) k =
    elim (word_cmp x.1 y.1) as (λ o. AreInRange (by_order o ((pos 0, y.0, y.1) ∷ aligned_at x q rest) ((x.0, y.0, x.1) ∷ rest q) ((x.0, pos 0, x.1) ∷ rest (y ∷ q)))) [
      | Less ↦ ((omega arith, k 0 y (omega arith)), in_range-at x rest h r q (All-tail IsInRange y q k))
      | Equal ↦ ((h, k 0 y (omega arith)), r q (All-tail IsInRange y q k))
      | Greater ↦ ((h, omega arith), r (y ∷ q) k)
    ]

pub in_range-aligned : (p q : List Term) → All (λ t. IsCoefficient t.0) p → All (λ t. IsCoefficient t.0) q → AreInRange (aligned p q)
in_range-aligned [] q h k = in_range-right q k
in_range-aligned (x ∷ p) q h k = in_range-at x (aligned p) (h 0 x (omega arith)) (λ s m. in_range-aligned p s (All-tail IsInRange x p h) m) q k

-- one step of the loop that adds two multiples, where the next pair is n
module _ (a b : ℤ) (pairs rest : List Pair) (n : Pair) (next : pairs ≡ n ∷ rest) where
  pub next-in_range : AreInRange (multiplied_pairs a b pairs) → (IsCoefficient (a *ℤ n.0) × IsCoefficient (b *ℤ n.1)) × AreInRange (multiplied_pairs a b rest)
  next-in_range h = subst (λ l. AreInRange (multiplied_pairs a b l)) next h

  pub next-fits : (out : List Term) → IsCoefficient (a *ℤ n.0 +ℤ b *ℤ n.1)
      → join (out ++ keep (a *ℤ n.0 +ℤ b *ℤ n.1) n.2 []) (total_from (multiplied_pairs a b rest)) ≡ join out (total_from (multiplied_pairs a b pairs))
  next-fits out fits =
      let later = multiplied_pairs a b rest in
      sym (one-fits (sum_of (a *ℤ n.0) (b *ℤ n.1)) (total_operations later) n.2 out (totals later) fits)
      ∙ ap (λ l. join out (total_from (multiplied_pairs a b l))) (sym next)

  pub next-overflows : (out : List Term) → (IsCoefficient (a *ℤ n.0 +ℤ b *ℤ n.1) → ⊥) → join out (total_from (multiplied_pairs a b pairs)) ≡ Err (fault.Overflow (sum_of (a *ℤ n.0) (b *ℤ n.1)))
  next-overflows out misses =
      let later = multiplied_pairs a b rest in
      ap (λ l. join out (total_from (multiplied_pairs a b l))) next
      ∙ one-fails (sum_of (a *ℤ n.0) (b *ℤ n.1)) (total_operations later) out (keep (a *ℤ n.0 +ℤ b *ℤ n.1) n.2 (totals later)) misses
