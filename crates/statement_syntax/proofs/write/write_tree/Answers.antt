use Rattle.statement_syntax.proofs.Prelude.{◌≡◌, arith, sym, subst, common_steps, ∥∥₁_map, ReadsBackAs, tree_text}
use Rattle.statement_syntax.proofs.FileBack.{reads_back}
use Rattle.statement_syntax.proofs.write.write_tree.Goals as goal

pub returns-clause-read_back : goal.returns-clause-read_back
returns-clause-read_back c =
    let is : c.loop-statement.text.items ≡ tree_text c.args.tree.now.statements = grind (arith, common_steps) in
    ∥∥₁_map c.args.tree.now.spelled (λ text. subst (λ x. ReadsBackAs x c.args.tree.now.statements) (sym is) (reads_back c.args.tree.now.statements text))
