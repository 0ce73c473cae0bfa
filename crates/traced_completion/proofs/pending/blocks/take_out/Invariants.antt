use Rattle.traced_completion.proofs.Prelude.{◌≡◌, length, restored}
use Rattle.traced_completion.proofs.pending.blocks.take_out.Given as goal

-- without what is left to take out, the blocks are what they are to become
abbrev pub invariant-loop-number : goal.invariant-loop-number
invariant-loop-number l = record { left : restored l.places.items l.blocks.items ≡ restored l.fn.places.items l.fn.blocks.items }

abbrev pub decreases-loop-number : goal.decreases-loop-number
decreases-loop-number l = length l.places.items
