use Rattle.flow_io.proofs.Prelude.{◌+◌, ◌-◌, ◌≤◌, vec_len, Consumes}
use Rattle.flow_io.proofs.real_shelf.read_whole.Given as goal

-- the bytes so far are the first of the file, at most one past the limit
abbrev pub invariant-loop-block : goal.invariant-loop-block
invariant-loop-block g l = record { within : vec_len l.bytes ≤ l.most + 1; read : Consumes (g.F.Read.remaining l.initial.file) (g.F.Read.remaining l.file) l.bytes.items }

abbrev pub decreases-loop-block : goal.decreases-loop-block
decreases-loop-block g l = l.most + 1 - vec_len l.bytes
