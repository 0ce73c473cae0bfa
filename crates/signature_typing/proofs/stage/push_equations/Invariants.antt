use Rattle.signature_typing.proofs.Prelude.{map}
use Rattle.signature_typing.proofs.Progress.{IsSoFar}
use Rattle.signature_typing.proofs.stage.push_equations.Given as goal

abbrev pub invariant-loop-equation : goal.invariant-loop-equation
invariant-loop-equation g l =
    let made = g.S.Stage.made l.stage in
    let said = map (g.S.Stage.said l.stage) in
    IsSoFar (made.values l.quiver) (made.fault l.quiver l.at) l.equations l.equation-index (said l.initial.values) (said l.values)
