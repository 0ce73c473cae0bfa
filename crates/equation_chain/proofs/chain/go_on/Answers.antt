use Rattle.equation_chain.proofs.Prelude.{◌≡◌, ◌++◌, [], ◌∷◌, Some, false, subst, ap, ◌∙◌, CertRow, is_step, GoesOn}
use Rattle.equation_chain.proofs.Making.{making_stays, making_goes_on}
use Rattle.equation_chain.proofs.chain.go_on.Goals as goal

pub returns-in-None-clause-making : goal.returns-in-None-clause-making
returns-in-None-clause-making c =
    let problem = c.args.problem.now in
    let certificate = c.args.certificate.now in
    let row = c.at-row.result.now in
    let goes : GoesOn problem certificate c.args.place row c.in_ok-next.next = c.in_ok-next.ensures.line row c.at-row.ensures in
    let no_step : is_step problem certificate.claim row ≡ false = subst (GoesOn problem certificate c.args.place row) c.in-None.is goes in
    making_stays problem certificate c.args.place row c.at-row.ensures no_step c.args.making c.requires.making

pub returns-in_ok-push-in-Some-2-clause-making : goal.returns-in_ok-push-in-Some-2-clause-making
returns-in_ok-push-in-Some-2-clause-making c =
    let problem = c.args.problem.now in
    let certificate = c.args.certificate.now in
    let row = c.at-row.result.now in
    let goes : GoesOn problem certificate c.args.place row c.in_ok-next.next = c.in_ok-next.ensures.line row c.at-row.ensures in
    let step : GoesOn problem certificate c.args.place row (Some c.in-Some.line) = subst (GoesOn problem certificate c.args.place row) c.in-Some.is goes in
    making_goes_on problem certificate c.args.place row c.at-row.ensures step.0 c.args.making c.requires.making _ step.1
    (c.in_ok-push-in-Some.ensures.ok ∙ ap (λ (x : CertRow). c.args.making.steps ++ x ∷ []) c.in_ok-step-in-Some.ensures.same) c.in_ok-push-in-Some-2.ensures.ok
