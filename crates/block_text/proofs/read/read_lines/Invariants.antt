use Rattle.block_text.proofs.Prelude.{◌≡◌, ◌+◌, ◌≤◌, length, lines, read_lines, beginning, IsSound}
use Rattle.block_text.proofs.read.read_lines.Given as goal

-- what the lines that are left make of what is read so far
abbrev pub invariant-loop-rest : goal.invariant-loop-rest
invariant-loop-rest g l = record {
  within : l.number + length l.rest ≤ length l.text + 1;
  sound : IsSound (g.K.BlockKind.is_sound l.kind) l.progress.place;
  same : read_lines (g.K.BlockKind.steps l.kind) l.number l.progress (lines l.rest) ≡ read_lines (g.K.BlockKind.steps l.kind) 1 beginning (lines l.text);
}

abbrev pub decreases-loop-rest : goal.decreases-loop-rest
decreases-loop-rest g l = length l.rest
