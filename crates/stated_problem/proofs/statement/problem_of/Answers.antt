use Rattle.stated_problem.proofs.Prelude.{◌≡◌, Some, refl, rules, fault_of, refused_statement, statement_fault, no_problem, faulty}
use Rattle.signature_typing.specs.declared.fault.TypeFault.TheVariants as typing
use Rattle.stated_problem.proofs.statement.problem_of.Goals as goal

-- the tree has a fault
pub returns-in_ok-ending-in-Err-Fault-clause-stopped : goal.returns-in_ok-ending-in-Err-Fault-clause-stopped
returns-in_ok-ending-in-Err-Fault-clause-stopped c bytes tree =
    let f = c.in-Err-Fault in
    let found : fault_of c.args.tree.now.statements ≡ Some (typing.Fault f.code f.line f.column f.left f.right f.limit) = search rules in
    let is : c.in_ok-ending-in-Err-Fault.ending ≡ refused_statement (statement_fault f.code f.line f.column f.limit f.left f.right) = search rules in
    faulty _ (no_problem c.args.tree.now.statements (typing.Fault f.code f.line f.column f.left f.right f.limit) tree found refl) is
