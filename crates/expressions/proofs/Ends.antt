-- The ends of signatures are objects of the quiver.
use Rattle.expressions.proofs.Prelude.{ℕ, nat_eq, List, [], ◌∷◌, Option, Some, None, Result, Ok, Err, IfOk, cond_both, Sig, Spot, Mark, Adjoint, Power, SignatureFault, ◌>>=◌, HasObjects, same_ends, is_repeated, repeated, mark_signature, marked_signature, sum_step}
use Rattle.expressions.specs.Signatures.{product_step}

module _ (n : ℕ) where
  objects-repeated : (first caret : Spot) (s : Option Sig) → HasObjects n s → IfOk (repeated first caret s) (HasObjects n)
  objects-repeated first caret None h = tt
  objects-repeated first caret (Some s) h = cond_both (nat_eq s.source.0 s.target.0) _ _ (λ r. IfOk r (HasObjects n)) (λ _. h) (λ _. tt)

  objects-mark_signature : (first : Spot) (m : Mark) (s : Option Sig) → HasObjects n s → IfOk (mark_signature first m s) (HasObjects n)
  objects-mark_signature first Adjoint None h = tt
  objects-mark_signature first Adjoint (Some s) h = (h.1, h.0)
  objects-mark_signature first (Power caret exponent) s h =
      cond_both (is_repeated exponent.value) _ _ (λ r. IfOk r (HasObjects n)) (λ _. objects-repeated first caret s h) (λ _. h)

  pub objects-marked_signature : (first : Spot) (marks : List Mark) (s : Option Sig) → HasObjects n s → IfOk (marked_signature first marks s) (HasObjects n)
  objects-marked_signature first [] s h = h
  objects-marked_signature first (m ∷ marks) s h = go (mark_signature first m s) (objects-mark_signature first m s h) (objects-marked_signature first marks)
    where
      go : (r : Result (Option Sig) SignatureFault) → IfOk r (HasObjects n) → ((next : Option Sig) → HasObjects n next → IfOk (marked_signature first marks next) (HasObjects n))
          → IfOk (r >>= marked_signature first marks) (HasObjects n)
      go (Ok next) k more = more next k
      go (Err e) k more = tt

  pub objects-product_step : (so_far : Result (Option Sig) SignatureFault) (at : Spot) (next : Option Sig) → IfOk so_far (HasObjects n) → HasObjects n next → IfOk (product_step so_far at next) (HasObjects n)
  objects-product_step (Err e) at next h k = tt
  objects-product_step (Ok so_far) at None h k = tt
  objects-product_step (Ok None) at (Some s) h k = k
  objects-product_step (Ok (Some left)) at (Some right) h k = cond_both (nat_eq left.source.0 right.target.0) _ _ (λ r. IfOk r (HasObjects n)) (λ _. (k.0, h.1)) (λ _. tt)

  pub objects-sum_step : (so_far : Result (Option Sig) SignatureFault) (at : Spot) (next : Option Sig) → IfOk so_far (HasObjects n) → HasObjects n next → IfOk (sum_step so_far at next) (HasObjects n)
  objects-sum_step (Err e) at next h k = tt
  objects-sum_step (Ok so_far) at None h k = h
  objects-sum_step (Ok None) at (Some s) h k = k
  objects-sum_step (Ok (Some before)) at (Some s) h k = cond_both (same_ends before s) _ _ (λ r. IfOk r (HasObjects n)) (λ _. h) (λ _. tt)
