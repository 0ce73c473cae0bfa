use Rattle.certificate_text.proofs.Prelude.{rules, tokens_of, parts_of}
use Rattle.certificate_text.proofs.RowLines.{lemma_row_of_parts}
use Rattle.certificate_text.proofs.row.lemma_row_of.Goals as goal

pub returns-in_err-row : goal.returns-in_err-row
returns-in_err-row c = rw (lemma_row_of_parts c.args.quiver.now (tokens_of c.args.line.now) (parts_of c.in-Some.tokens) (search rules)) (search rules)

pub returns : goal.returns
returns c = rw (lemma_row_of_parts c.args.quiver.now (tokens_of c.args.line.now) (parts_of c.in-Some.tokens) (search rules), c.in_ok-row.ensures) (search rules)
