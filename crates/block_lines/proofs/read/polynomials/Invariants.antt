use Rattle.block_lines.proofs.Prelude.{◌≡◌, ◌++◌, map, length, All, into_iter_items, into_iter_len, IsCanonical}
use Rattle.block_lines.proofs.read.polynomials.Given as goal

-- those that were taken are the terms of the polynomials so far, and those that are left are canonical
abbrev pub invariant-loop-terms : goal.invariant-loop-terms
invariant-loop-terms l = record {
  canonical : All IsCanonical (into_iter_items l.terms-iterator);
  left : into_iter_len l.terms-iterator ≡ length (into_iter_items l.terms-iterator);
  same : map (λ p. p.terms) l.polynomials ++ into_iter_items l.terms-iterator ≡ l.fn.lists;
}
