use Rattle.report_text.proofs.Prelude.{◌≡◌, ◌≤◌, ◌+◌, ◌*◌, take, length}
use Rattle.report_text.proofs.Counts.{rows_in}
use Rattle.report_text.proofs.head.lemma_row_count.Given as goal

abbrev pub invariant-loop-lemma : goal.invariant-loop-lemma
invariant-loop-lemma l = (l.count ≡ length (rows_in (take l.lemma-index l.certificate.lemmas)) + length l.certificate.goal.rows)
    × (l.count ≤ (l.lemma-index + 1) * 18446744073709551615)
