use Rattle.statement_names.proofs.Prelude.{◌≡◌, None, rules, sym, subst, name_fault_of, declarations_of, IsReady}
use Rattle.statement_names.proofs.FileReady.{file_ready}
use Rattle.statement_names.proofs.names.read_names.Goals as goal

pub returns-in-Ok-clause-ready : goal.returns-in-Ok-clause-ready
returns-in-Ok-clause-ready c =
    let statements = c.args.tree.now.statements in
    let sound : name_fault_of statements ≡ None = search rules in
    let declared : c.in_ok-quiver.quiver ≡ declarations_of statements = search rules in
    subst (λ ds. IsReady ds statements) (sym declared) (file_ready statements sound)
