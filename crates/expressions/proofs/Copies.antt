-- Powers, product by product.
use Rattle.expressions.proofs.Prelude.{◌≡◌, ℕ, suc, ◌+◌, ◌-◌, ◌<◌, ◌∷◌, replicate, Ok, sym, ap, ◌∙◌, arith, Poly, PolyFault, Explains, product_result, product_from, ◌>>=◌}
use Rattle.expressions.proofs.PolynomialLoops.{explains-on}

-- the first of the copies that are left
copies-next : {X : Type 0} (x : X) (n i : ℕ) → i < n → replicate (n - i) x ≡ x ∷ replicate (n - (i + 1)) x
copies-next x n i inside = ap (λ k. replicate k x) (go inside)
  where
    go : i < n → n - i ≡ suc (n - (i + 1))
    go h = omega arith

module _ (base power : Poly) (n i : ℕ) (inside : i < n) where
  left_is : product_from power (replicate (n - i) base) ≡ (product_result power base >>= λ next. product_from next (replicate (n - (i + 1)) base))
  left_is = ap (product_from power) (copies-next base n i inside)

  pub power-next : (next : Poly) → product_result power base ≡ Ok next → product_from next (replicate (n - (i + 1)) base) ≡ product_from power (replicate (n - i) base)
  power-next next ok = sym (left_is ∙ ap (λ r. r >>= λ p. product_from p (replicate (n - (i + 1)) base)) ok)

  pub power-fault : (e : PolyFault) → Explains (product_result power base) e → Explains (product_from power (replicate (n - i) base)) e
  power-fault e why = explains-on (product_result power base) (product_from power (replicate (n - i) base)) e
      (λ f k. left_is ∙ ap (λ r. r >>= λ p. product_from p (replicate (n - (i + 1)) base)) k) why
