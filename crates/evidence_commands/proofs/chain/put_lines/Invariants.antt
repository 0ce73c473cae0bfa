use Rattle.evidence_commands.proofs.Prelude.{◌≡◌, ◌++◌, ℕ, List, StepsPass, IsLineBefore, text_before}
use Rattle.evidence_commands.proofs.chain.put_lines.Given as goal

-- the present line is the one after the rows so far, whose steps pass, and all lines up to it are written
abbrev pub invariant-loop-place : goal.invariant-loop-place
invariant-loop-place l = record {
  written : (front : List ℕ) → l.initial.out.items ≡ front ++ text_before l.problem l.certificate 0 → l.out.items ≡ front ++ text_before l.problem l.certificate l.place;
  line : IsLineBefore l.problem l.certificate l.place l.line;
  passed : StepsPass l.problem l.certificate l.place;
}
