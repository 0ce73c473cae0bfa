use Rattle.statement_meaning.proofs.Statements as statements
use Rattle.statement_meaning.proofs.laws.statements_are_read.Goals as goal

pub returns-clause-plain : goal.returns-clause-plain
returns-clause-plain g c = statements.statements_are_read (g.C.Preadditive.laws c.args.category.now)

pub returns-clause-by_star : goal.returns-clause-by_star
returns-clause-by_star g c = statements.starred_statements_are_read (g.C.Preadditive.laws c.args.category.now)
