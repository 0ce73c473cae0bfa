use Rattle.ambiguities.proofs.Prelude.{◌≡◌, ◌++◌, List, map, into_iter_items, Key}
use Rattle.ambiguities.proofs.sorting.take_waiting.Given as goal

-- the ambiguities of the keys that were passed
abbrev pub invariant-loop-key : goal.invariant-loop-key
invariant-loop-key l = record {
  passed : List Key;
  all : l.fn.keys.items ≡ passed ++ into_iter_items l.key-iterator;
  moved : l.items.items ≡ map (λ (k : Key). k.waiting) passed;
}
