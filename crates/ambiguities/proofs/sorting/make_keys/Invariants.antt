use Rattle.ambiguities.proofs.Prelude.{◌≡◌, ◌^◌, map, take, All, IsOver, Key, key_of}
use Rattle.ambiguities.proofs.sorting.make_keys.Given as goal

-- the keys of the ambiguities that were passed
abbrev pub invariant-loop-which : goal.invariant-loop-which
invariant-loop-which g l = record {
  exact : l.keys.items ≡ map (key_of (g.O.WordOrder.measure_of l.rules.order) l.rules.rules) (take l.which-index l.found);
  over : All (λ (k : Key). IsOver (2 ^ 16) k.waiting.word) l.keys.items;
}
