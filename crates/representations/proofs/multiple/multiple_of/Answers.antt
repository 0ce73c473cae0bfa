use Rattle.representations.proofs.Multiples.{equal_negative_is_arrow}
use Rattle.representations.proofs.multiple.multiple_of.Goals as goal

pub negate-requires : goal.negate-requires
negate-requires g c = c.in_ok-natural.ensures.ends.arrow

pub returns-in_ok-negative-clause-ends : goal.returns-in_ok-negative-clause-ends
returns-in_ok-negative-clause-ends g c =
    equal_negative_is_arrow (g.C.Preadditive.laws c.args.category.now) c.args.arrow c.requires c.in_ok-natural.natural c.in_ok-negative.negative
    c.in_ok-natural.ensures.ends c.in_ok-negative.ensures

pub returns-else-integer-lt0-clause-ends : goal.returns-else-integer-lt0-clause-ends
returns-else-integer-lt0-clause-ends g c = c.in_ok-natural.ensures.ends
