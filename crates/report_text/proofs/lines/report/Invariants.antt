use Rattle.report_text.proofs.Prelude.{◌≡◌, take, report_from}
use Rattle.report_text.proofs.lines.report.Given as goal

abbrev pub invariant-loop-place : goal.invariant-loop-place
invariant-loop-place l = l.out.items ≡ report_from l.quiver l.rules 1 (take l.place l.verdicts)
