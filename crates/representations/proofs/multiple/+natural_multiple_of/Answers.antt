use Rattle.representations.proofs.Prelude.{refl, sym}
use Rattle.representations.proofs.Multiples.{even_multiple, odd_multiple, equal_is_arrow, equal_sum_is_arrow}
use Rattle.representations.proofs.multiple.+natural_multiple_of.Goals as goal

pub returns-then-n-eq0-2-clause-value : goal.returns-then-n-eq0-2-clause-value
returns-then-n-eq0-2-clause-value g t c =
    even_multiple (g.C.Preadditive.laws c.args.category.now) c.args.arrow.now c.requires c.args.n c.in_ok-half.half c.in_ok-double.double
    c.if-n-eq0-2.true c.in_ok-half.ensures.value c.in_ok-double.ensures

pub returns-clause-ends : goal.returns-clause-ends
returns-clause-ends g t c =
    equal_is_arrow (g.C.Preadditive.laws c.args.category.now) c.args.arrow.now c.requires c.args.n c.in_ok-more.more
    (odd_multiple (g.C.Preadditive.laws c.args.category.now) c.args.arrow.now c.requires c.args.n c.in_ok-half.half c.in_ok-double.double c.in_ok-more.more
    c.if-n-eq0-2.false c.in_ok-half.ensures.value c.in_ok-double.ensures c.in_ok-more.ensures)

pub returns-clause-value : goal.returns-clause-value
returns-clause-value g t c =
    odd_multiple (g.C.Preadditive.laws c.args.category.now) c.args.arrow.now c.requires c.args.n c.in_ok-half.half c.in_ok-double.double c.in_ok-more.more
    c.if-n-eq0-2.false c.in_ok-half.ensures.value c.in_ok-double.ensures c.in_ok-more.ensures

pub add-requires-clause-left_is_arrow : goal.add-requires-clause-left_is_arrow
add-requires-clause-left_is_arrow g t c = c.in_ok-half.ensures.ends.arrow

pub add-requires-clause-right_is_arrow : goal.add-requires-clause-right_is_arrow
add-requires-clause-right_is_arrow g t c = c.in_ok-half.ensures.ends.arrow

pub add-requires-clause-same_source : goal.add-requires-clause-same_source
add-requires-clause-same_source g t c = refl

pub add-requires-clause-same_target : goal.add-requires-clause-same_target
add-requires-clause-same_target g t c = refl

pub returns-then-n-eq0-2-clause-ends : goal.returns-then-n-eq0-2-clause-ends
returns-then-n-eq0-2-clause-ends g t c =
    equal_sum_is_arrow (g.C.Preadditive.laws c.args.category.now) c.args.arrow.now c.requires c.in_ok-half.half c.in_ok-half.half c.in_ok-double.double
    c.in_ok-half.ensures.ends c.in_ok-half.ensures.ends c.in_ok-double.ensures

pub add-requires-else-n-eq0-2-clause-left_is_arrow : goal.add-requires-else-n-eq0-2-clause-left_is_arrow
add-requires-else-n-eq0-2-clause-left_is_arrow g t c = c.requires

pub add-requires-else-n-eq0-2-clause-right_is_arrow : goal.add-requires-else-n-eq0-2-clause-right_is_arrow
add-requires-else-n-eq0-2-clause-right_is_arrow g t c =
    (equal_sum_is_arrow (g.C.Preadditive.laws c.args.category.now) c.args.arrow.now c.requires c.in_ok-half.half c.in_ok-half.half c.in_ok-double.double
    c.in_ok-half.ensures.ends c.in_ok-half.ensures.ends c.in_ok-double.ensures).arrow

pub add-requires-else-n-eq0-2-clause-same_source : goal.add-requires-else-n-eq0-2-clause-same_source
add-requires-else-n-eq0-2-clause-same_source g t c =
    sym (equal_sum_is_arrow (g.C.Preadditive.laws c.args.category.now) c.args.arrow.now c.requires c.in_ok-half.half c.in_ok-half.half c.in_ok-double.double
    c.in_ok-half.ensures.ends c.in_ok-half.ensures.ends c.in_ok-double.ensures).source

pub add-requires-else-n-eq0-2-clause-same_target : goal.add-requires-else-n-eq0-2-clause-same_target
add-requires-else-n-eq0-2-clause-same_target g t c =
    sym (equal_sum_is_arrow (g.C.Preadditive.laws c.args.category.now) c.args.arrow.now c.requires c.in_ok-half.half c.in_ok-half.half c.in_ok-double.double
    c.in_ok-half.ensures.ends c.in_ok-half.ensures.ends c.in_ok-double.ensures).target
