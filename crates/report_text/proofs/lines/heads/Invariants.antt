use Rattle.report_text.proofs.Prelude.{◌≡◌, take, length, heads_from}
use Rattle.report_text.proofs.lines.heads.Given as goal

abbrev pub invariant-loop-place : goal.invariant-loop-place
invariant-loop-place l = l.out.items ≡ heads_from l.quiver (length l.rules) 1 (take l.place l.verdicts)
