use Rattle.block_lines.proofs.Prelude.{◌≡◌, ◌++◌, map, length, All, into_iter_items, into_iter_len, by_terms, AreCanonical}
use Rattle.block_lines.proofs.read.bases_of.Given as goal

-- those that were taken are the terms of the bases so far, and those that are left are canonical
abbrev pub invariant-loop-block : goal.invariant-loop-block
invariant-loop-block l = record {
  canonical : All AreCanonical (into_iter_items l.block-iterator);
  left : into_iter_len l.block-iterator ≡ length (into_iter_items l.block-iterator);
  same : map by_terms l.bases ++ into_iter_items l.block-iterator ≡ l.fn.blocks;
}
