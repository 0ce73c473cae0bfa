use Rattle.expressions.proofs.Prelude.{◌≡◌, Ok, rules, added, sums, checked, shaped_add}
use Rattle.expressions.proofs.added.add.Goals as goal

pub from_descending-requires : goal.from_descending-requires
from_descending-requires c =
    let left = c.args.left.terms in
    let right = c.args.right.terms in
    let sum : checked (sums left right) (added left right) ≡ Ok c.in_ok-terms.terms = search rules in
    shaped_add left right c.in_ok-terms.terms c.args.left.canonical.shaped c.args.right.canonical.shaped sum
