use Rattle.signature_typing.proofs.Prelude.{map, equations_of, claims_in, made_of, wrong_in}
use Rattle.signature_typing.proofs.Progress.{AreSoFar}
use Rattle.signature_typing.proofs.stage.all_stated.Given as goal

abbrev pub invariant-loop-statement : goal.invariant-loop-statement
invariant-loop-statement g l =
    let made = g.S.Stage.made l.stage in
    let said = map (g.S.Stage.said l.stage) in
    AreSoFar (λ s. made_of made l.quiver (equations_of l.quiver s)) (λ s. made_of made l.quiver (claims_in s.kind)) (wrong_in made l.quiver) l.statements l.statement-index
    (said l.stated.assumptions) (said l.stated.claims)
