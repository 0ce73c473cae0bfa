use Rattle.closed_checker.proofs.Prelude.{take, All, LeavesZero}
use Rattle.closed_checker.specs.declared.part.Part.TheVariants as part
use Rattle.closed_checker.proofs.check.reduce_ambiguities.Given as goal

-- nothing is left of the ambiguities so far
abbrev pub invariant-loop-which : goal.invariant-loop-which
invariant-loop-which l = All (λ a. LeavesZero l.problem l.basis (part.Ambiguity a)) (take l.which-index l.which-items)
