use Rattle.statement_meaning.proofs.Statements as statements
use Rattle.statement_meaning.proofs.Meanings as meanings
use Rattle.statement_meaning.proofs.laws.says_equations.Goals as goal

pub returns : goal.returns
returns g c =
    let laws = g.C.Preadditive.laws c.args.category.now in
    record {
      plain = statements.statements_are_read laws;
      by_star = statements.starred_statements_are_read laws;
      proved = meanings.proved_claims_hold laws;
      refuted = meanings.refuted_claims_fail;
    }
