use Rattle.stated_problem.proofs.Prelude.{◌≡◌, ◌∙◌, ap, None, refl, rules, TellsFirstFault, refused_statement, statement_fault, no_tree, faulty}
use Rattle.statement_syntax.specs.declared.fault.SyntaxFault.TheVariants as syntax
use Rattle.stated_problem.proofs.statement.tree_of.Goals as goal

-- the bytes have a fault
pub returns-in_ok-ending-in-Err-Fault-clause-stopped : goal.returns-in_ok-ending-in-Err-Fault-clause-stopped
returns-in_ok-ending-in-Err-Fault-clause-stopped c =
    let f = c.in-Err-Fault in
    let first : TellsFirstFault c.args.statement.now (syntax.Fault f.code f.line f.column) = search rules in
    let is : c.in_ok-ending-in-Err-Fault.ending ≡ refused_statement (statement_fault f.code f.line f.column 0 None None) = search rules in
    faulty _
    (no_tree first.0 (record { line = f.line; column = f.column }) first.2 refl)
    (is ∙ ap (λ n. refused_statement (statement_fault n f.line f.column 0 None None)) first.1)
