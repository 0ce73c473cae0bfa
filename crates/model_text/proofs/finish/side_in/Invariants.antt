use Rattle.model_text.proofs.Prelude.{◌≡◌, drop, side_in}
use Rattle.model_text.proofs.finish.side_in.Given as goal

-- those that are left say the same
abbrev pub invariant-loop-entry : goal.invariant-loop-entry
invariant-loop-entry l = side_in (drop l.entry-index l.entries) l.object ≡ side_in l.entries l.object
