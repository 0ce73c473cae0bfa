use Rattle.cofactor_checker.proofs.Prelude.{rules, ◌≡◌, polynomials, Lemmas}
use Rattle.cofactor_checker.proofs.LemmaOutcomes.{shows_result}
use Rattle.cofactor_checker.proofs.Judged.{not_refused_result}
use Rattle.cofactor_checker.proofs.evidence.check_evidence.Goals as goal

pub returns-in-Lemmas-clause-adds_up : goal.returns-in-Lemmas-clause-adds_up
returns-in-Lemmas-clause-adds_up c =
    let claims_are : c.as_slice-claims.result.now ≡ c.args.problem.now.parts.claims = search rules in
    let generators_are : c.as_slice.result.now ≡ c.args.problem.now.generators = search rules in
    let claims = polynomials c.as_slice-claims.result.now in
    let generators = polynomials c.as_slice.result.now in
    rw (c.in-Lemmas.is, ← claims_are, ← generators_are) (shows_result claims generators c.in-Lemmas.certificate c.check_lemmas.result c.check_lemmas.ensures.accepts)

pub returns-in-Lemmas-clause-complete : goal.returns-in-Lemmas-clause-complete
returns-in-Lemmas-clause-complete c =
    let claims_are : c.as_slice-claims.result.now ≡ c.args.problem.now.parts.claims = search rules in
    let generators_are : c.as_slice.result.now ≡ c.args.problem.now.generators = search rules in
    let claims = polynomials c.as_slice-claims.result.now in
    let generators = polynomials c.as_slice.result.now in
    rw (c.in-Lemmas.is, ← claims_are, ← generators_are) (λ accepted. not_refused_result claims generators (Lemmas c.in-Lemmas.certificate) accepted c.check_lemmas.result c.check_lemmas.ensures.refuses)
