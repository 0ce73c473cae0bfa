use Rattle.block_text.proofs.Prelude.{◌≡◌, ◌++◌, take, flat_map, later_by}
use Rattle.block_text.proofs.poly.put_later_terms.Given as goal

abbrev pub invariant-loop-term : goal.invariant-loop-term
invariant-loop-term g l = l.out.items ≡ l.initial.out.items ++ flat_map (later_by (g.L.Letters.text l.letters)) (take l.term-index l.terms)
