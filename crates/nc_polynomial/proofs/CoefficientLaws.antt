-- The coefficients of multiples and of sums.
use Rattle.std.proofs.Common.{◌≡◌, ℕ, zero, suc, ℤ, pos, negsuc, ◌+ℤ◌, ◌*ℤ◌, Bool, true, false, cond, List, [], ◌∷◌, map, sym, refl, ap, ap₂, ◌∙◌, arith}
use Rattle.std.proofs.Math.IntN.{*ℤ-zero}
use Rattle.std.proofs.lemmas.Int.{ints}
use Rattle.std.specs.declared.cmp.Ordering.{Ordering}
use Rattle.std.specs.declared.cmp.Ordering.TheVariants.{Less, Equal, Greater}
use Rattle.definitions.proofs.Integers.{*ℤ-+ℤ}
use Rattle.definitions.specs.Poly.{Term, word_eq, coefficient_of}
use Rattle.word_core.proofs.Order.{word_cmp-same}
use Rattle.word_core.specs.Canonical.{word_cmp}
use Rattle.nc_polynomial.specs.Terms.{Pair, only_right, keep, scaled, aligned, aligned_at, totals, added, by_order}

abbrev pub lefts : List Pair → List Term
lefts pairs = map (λ a. (a.0, a.2)) pairs

abbrev pub rights : List Pair → List Term
rights pairs = map (λ a. (a.1, a.2)) pairs

no_term : (b : Bool) (z : ℤ) → cond b (pos 0) (pos 0) +ℤ z ≡ z
no_term b z = grind (arith, ints)

pub coefficient_of-keep : (z : ℤ) (v : List ℕ) (p : List Term) (w : List ℕ) → coefficient_of (keep z v p) w ≡ cond (word_eq v w) z (pos 0) +ℤ coefficient_of p w
coefficient_of-keep (pos zero) v p w = sym (no_term (word_eq v w) (coefficient_of p w))
coefficient_of-keep (pos (suc n)) v p w = refl
coefficient_of-keep (negsuc n) v p w = refl

pub coefficient_of-scaled : (k : ℤ) (p : List Term) (w : List ℕ) → coefficient_of (scaled k p) w ≡ k *ℤ coefficient_of p w
coefficient_of-scaled k [] w = sym (*ℤ-zero k)
coefficient_of-scaled k (t ∷ p) w =
    let inside = elim (word_eq t.1 w) as (λ b. cond b (k *ℤ t.0) (pos 0) ≡ k *ℤ cond b t.0 (pos 0)) [ true ↦ refl | false ↦ sym (*ℤ-zero k) ] in
    coefficient_of-keep (k *ℤ t.0) t.1 (scaled k p) w
    ∙ ap₂ ◌+ℤ◌ inside (coefficient_of-scaled k p w) ∙ sym (*ℤ-+ℤ k (cond (word_eq t.1 w) t.0 (pos 0)) (coefficient_of p w))

pub coefficient_of-totals : (pairs : List Pair) (w : List ℕ) → coefficient_of (totals pairs) w ≡ coefficient_of (lefts pairs) w +ℤ coefficient_of (rights pairs) w
coefficient_of-totals [] w = refl
coefficient_of-totals (a ∷ rest) w =
    coefficient_of-keep (a.0 +ℤ a.1) a.2 (totals rest) w
    ∙ ap (λ z. cond (word_eq a.2 w) (a.0 +ℤ a.1) (pos 0) +ℤ z) (coefficient_of-totals rest w)
    ∙ both (word_eq a.2 w) (coefficient_of (lefts rest) w) (coefficient_of (rights rest) w)
  where
    both : (b : Bool) (l r : ℤ) → cond b (a.0 +ℤ a.1) (pos 0) +ℤ (l +ℤ r) ≡ (cond b a.0 (pos 0) +ℤ l) +ℤ (cond b a.1 (pos 0) +ℤ r)
    both true l r = omega (arith, ints)
    both false l r = omega (arith, ints)

module _ (w : List ℕ) where
  right_only : (q : List Term) → coefficient_of (lefts (map only_right q)) w ≡ pos 0
  right_only [] = refl
  right_only (y ∷ q) = no_term (word_eq y.1 w) _ ∙ right_only q

  all_right : (q : List Term) → coefficient_of (rights (map only_right q)) w ≡ coefficient_of q w
  all_right [] = refl
  all_right (y ∷ q) = ap (λ z. cond (word_eq y.1 w) y.0 (pos 0) +ℤ z) (all_right q)

  left_at : (x : Term) (p : List Term) (rest : List Term → List Pair) → ((q : List Term) → coefficient_of (lefts (rest q)) w ≡ coefficient_of p w) → (q : List Term) → coefficient_of (lefts (aligned_at x q rest)) w ≡ coefficient_of (x ∷ p) w
  left_at x p rest h [] = ap (λ z. cond (word_eq x.1 w) x.0 (pos 0) +ℤ z) (h [])
  left_at x p rest h (y ∷ q) = go (word_cmp x.1 y.1) (left_at x p rest h q)
    where
      go : (o : Ordering) → coefficient_of (lefts (aligned_at x q rest)) w ≡ coefficient_of (x ∷ p) w
          → coefficient_of (lefts (by_order o ((pos 0, y.0, y.1) ∷ aligned_at x q rest) ((x.0, y.0, x.1) ∷ rest q) ((x.0, pos 0, x.1) ∷ rest (y ∷ q)))) w ≡ coefficient_of (x ∷ p) w
      go Less k = no_term (word_eq y.1 w) _ ∙ k
      go Equal k = ap (λ z. cond (word_eq x.1 w) x.0 (pos 0) +ℤ z) (h q)
      go Greater k = ap (λ z. cond (word_eq x.1 w) x.0 (pos 0) +ℤ z) (h (y ∷ q))

  pub coefficient_of-lefts : (p q : List Term) → coefficient_of (lefts (aligned p q)) w ≡ coefficient_of p w
  coefficient_of-lefts [] q = right_only q
  coefficient_of-lefts (x ∷ p) q = left_at x p (aligned p) (coefficient_of-lefts p) q

  right_at : (x : Term) (rest : List Term → List Pair) → ((q : List Term) → coefficient_of (rights (rest q)) w ≡ coefficient_of q w) → (q : List Term) → coefficient_of (rights (aligned_at x q rest)) w ≡ coefficient_of q w
  right_at x rest h [] = no_term (word_eq x.1 w) _ ∙ h []
  right_at x rest h (y ∷ q) = go (word_cmp x.1 y.1) refl (right_at x rest h q)
    where
      go : (o : Ordering) → word_cmp x.1 y.1 ≡ o → coefficient_of (rights (aligned_at x q rest)) w ≡ coefficient_of q w
          → coefficient_of (rights (by_order o ((pos 0, y.0, y.1) ∷ aligned_at x q rest) ((x.0, y.0, x.1) ∷ rest q) ((x.0, pos 0, x.1) ∷ rest (y ∷ q)))) w ≡ coefficient_of (y ∷ q) w
      go Less e k = ap (λ z. cond (word_eq y.1 w) y.0 (pos 0) +ℤ z) k
      go Equal e k = ap₂ (λ v z. cond (word_eq v w) y.0 (pos 0) +ℤ z) (word_cmp-same x.1 y.1 e) (h q)
      go Greater e k = no_term (word_eq x.1 w) _ ∙ h (y ∷ q)

  pub coefficient_of-rights : (p q : List Term) → coefficient_of (rights (aligned p q)) w ≡ coefficient_of q w
  coefficient_of-rights [] q = all_right q
  coefficient_of-rights (x ∷ p) q = right_at x (aligned p) (coefficient_of-rights p) q

  pub coefficient_of-added : (p q : List Term) → coefficient_of (added p q) w ≡ coefficient_of p w +ℤ coefficient_of q w
  coefficient_of-added p q = coefficient_of-totals (aligned p q) w ∙ ap₂ ◌+ℤ◌ (coefficient_of-lefts p q) (coefficient_of-rights p q)
