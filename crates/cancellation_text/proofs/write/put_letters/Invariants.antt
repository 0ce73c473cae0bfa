use Rattle.cancellation_text.proofs.Prelude.{◌≡◌, ◌++◌, take, flat_map, Left, Right, called_text}
use Rattle.cancellation_text.proofs.write.put_letters.Given as goal

abbrev pub invariant-loop-letter : goal.invariant-loop-letter
invariant-loop-letter l = l.out.items ≡ l.fn.out.items ++ flat_map (called_text l.quiver Left) (take l.letter-index l.letter-items)

abbrev pub invariant-loop-letter-2 : goal.invariant-loop-letter-2
invariant-loop-letter-2 l =
    l.out.items ≡ (l.fn.out.items ++ flat_map (called_text l.quiver Left) l.proof.monic) ++ flat_map (called_text l.quiver Right) (take l.letter-index l.letter-items)
