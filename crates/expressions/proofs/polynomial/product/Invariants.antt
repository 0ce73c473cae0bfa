use Rattle.expressions.proofs.Prelude.{◌≡◌, length, into_iter_items, into_iter_len, product_begun, product_from, product_poly, ◌>>=◌}
use Rattle.expressions.proofs.PolynomialLoops.{polys_of}
use Rattle.expressions.proofs.polynomial.product.Given as goal

-- the factors that are left, after the product so far, make the whole product
abbrev pub invariant-loop-next : goal.invariant-loop-next
invariant-loop-next l = record {
  left : into_iter_len l.next-iterator ≡ length (into_iter_items l.next-iterator);
  rest : (product_begun l.begun >>= λ p. product_from p (polys_of (into_iter_items l.next-iterator))) ≡ product_poly (polys_of l.fn.polys.items);
}
