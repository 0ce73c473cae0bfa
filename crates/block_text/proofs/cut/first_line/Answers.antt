use Rattle.block_text.proofs.Prelude.{sym, ◌∙◌}
use Rattle.block_text.proofs.Cuts.{line_before, last_line}
use Rattle.block_text.proofs.cut.first_line.Goals as goal

pub returns-in-Some-clause-lines : goal.returns-in-Some-clause-lines
returns-in-Some-clause-lines c =
    rw c.ended_line.ensures (line_before c.args.text.now c.in-Some.end (sym c.line_end.ensures.first ∙ c.in-Some.is) c.in-Some.ensures.within)

pub returns-in-None-clause-lines : goal.returns-in-None-clause-lines
returns-in-None-clause-lines c = last_line c.args.text.now (sym c.line_end.ensures.first ∙ c.in-None.is) c.requires.some
