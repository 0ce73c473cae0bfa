use Rattle.statement_meaning.proofs.Equations as equations
use Rattle.statement_meaning.proofs.laws.equations_are_read.Goals as goal

pub returns-clause-plain : goal.returns-clause-plain
returns-clause-plain g c = equations.equations_are_read (g.C.Preadditive.laws c.args.category.now)

pub returns-clause-by_star : goal.returns-clause-by_star
returns-clause-by_star g c = equations.starred_equations_are_read (g.C.Preadditive.laws c.args.category.now)
