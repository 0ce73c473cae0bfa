use Rattle.representations.proofs.Multiples.{itself, one_multiple}
use Rattle.representations.proofs.multiple.times.Goals as goal

pub returns-then-n-eq1-clause-ends : goal.returns-then-n-eq1-clause-ends
returns-then-n-eq1-clause-ends g c = itself (g.C.Preadditive.laws c.args.category.now) c.args.arrow c.requires

pub returns-then-n-eq1-clause-value : goal.returns-then-n-eq1-clause-value
returns-then-n-eq1-clause-value g c =
    one_multiple (g.C.Preadditive.laws c.args.category.now) c.args.arrow c.requires c.args.n c.if-n-eq1.true
