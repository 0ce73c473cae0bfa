use Rattle.equation_chain.proofs.Vanishing as lemma
use Rattle.equation_chain.proofs.laws.lines_vanish.Goals as goal

pub returns : goal.returns
returns g c = lemma.lines_vanish (g.C.Preadditive.laws c.args.category.now)
