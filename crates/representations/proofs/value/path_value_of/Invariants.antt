use Rattle.representations.proofs.Prelude.{◌≡◌, ◌<◌, length, drop, word_value, listed}
use Rattle.representations.proofs.value.path_value_of.Given as goal

-- the value of the letters from the place on
abbrev pub invariant-loop-place : goal.invariant-loop-place
invariant-loop-place g l = record {
  within : l.place < length l.word;
  value_is : (o : _) (a none : _)
      → l.value ≡ word_value (g.C.Preadditive.structure l.category) (listed l.representation.objects l.representation.arrows o a) none (drop l.place l.word);
}

abbrev pub decreases-loop-place : goal.decreases-loop-place
decreases-loop-place g l = l.place
