use Rattle.certificate_text.proofs.Prelude.{rules, tokens_of, parts_of}
use Rattle.certificate_text.proofs.RowLines.{row_of_parts}
use Rattle.certificate_text.proofs.row.row_of.Goals as goal

pub returns-in-Some : goal.returns-in-Some
returns-in-Some c = rw (row_of_parts c.args.quiver.now (tokens_of c.args.line.now) (parts_of c.in-Some.tokens) (search rules) (search rules)) c.row_at.ensures
