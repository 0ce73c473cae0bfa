use Rattle.stated_problem.proofs.statement.read_statement.Goals as goal

-- the statement has a tree, and the tree a problem or a fault
pub returns-clause-stopped : goal.returns-clause-stopped
returns-clause-stopped c = c.problem_of.ensures.stopped c.args.statement.now c.in_ok-tree.ensures.tree
