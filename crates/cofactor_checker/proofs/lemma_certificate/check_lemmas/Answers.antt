use Rattle.cofactor_checker.proofs.Prelude.{rules, ◌≡◌, Err, ap, ◌∙◌, to_z, of_z, polynomials, ReachesClaim, RefusesGoal, row_count, goal_claim, all_polynomials, HasLemmas, GoalBegins}
use mir.Syntax.{w128}
use Rattle.cofactor_checker.proofs.LemmaOutcomes.{refuses_from_lemmas, refuses_from_goal}
use Rattle.cofactor_checker.proofs.Judged.{begun, told_start}
use Rattle.cofactor_checker.proofs.lemma_certificate.check_lemmas.Goals as goal
use Rattle.cofactor_checker.proofs.lemma_certificate.check_lemmas.Goals.{In_ok-claim, In_ok-made}

-- the tests before its lemmas pass
starts : (c : In_ok-claim) → GoalBegins (polynomials c.args.claims.now) c.args.certificate.now
starts c =
    let is : to_z w128 (of_z w128 c.args.certificate.now.denominator) ≡ c.args.certificate.now.denominator = search rules in
    begun (polynomials c.args.claims.now) (polynomials c.args.generators.now) c.args.certificate.now (rw (is, c.as_slice-items.ensures) at c.in_ok-claim.ensures.starts)

-- its lemmas pass, and these are their polynomials
lemmas : (c : In_ok-made) → GoalBegins (polynomials c.args.claims.now) c.args.certificate.now → HasLemmas (polynomials c.args.claims.now) (polynomials c.args.generators.now) c.args.certificate.now
lemmas c begins = record { begins = begins; lemmas = rw c.as_slice-items.ensures at c.in_ok-made.ensures.passed }

made : (c : In_ok-made) → polynomials c.in_ok-made.made.polynomials ≡ all_polynomials (polynomials c.args.generators.now) c.args.certificate.now
made c = rw c.as_slice-items.ensures at c.in_ok-made.ensures.polynomials

pub returns-in_err-claim-clause-refuses : goal.returns-in_err-claim-clause-refuses
returns-in_err-claim-clause-refuses c =
    let e = c.in_err-claim.field-0.0 in
    let back : c.from_residual.result ≡ Err e = search rules in
    let is : to_z w128 (of_z w128 c.args.certificate.now.denominator) ≡ c.args.certificate.now.denominator = search rules in
    rw back (told_start (polynomials c.args.claims.now) (polynomials c.args.generators.now) c.args.certificate.now e (rw (is, c.as_slice-items.ensures) at c.in_err-claim.ensures.refused))

pub returns-in_err-made-clause-refuses : goal.returns-in_err-made-clause-refuses
returns-in_err-made-clause-refuses c =
    let e = c.in_err-made.field-0.0 in
    let back : c.from_residual-in_err-made.result ≡ Err e = search rules in
    rw back (refuses_from_lemmas (polynomials c.args.claims.now) (polynomials c.args.generators.now) c.args.certificate.now (starts (goal.at.returns-in_err-made-clause-refuses c).In_ok-claim) e (rw c.as_slice-items.ensures at c.in_err-made.ensures.refused))

pub returns-in_err-check_goal-clause-refuses : goal.returns-in_err-check_goal-clause-refuses
returns-in_err-check_goal-clause-refuses c =
    let passed = goal.at.returns-in_err-check_goal-clause-refuses c in
    let gs = polynomials c.args.generators.now in
    let certificate = c.args.certificate.now in
    let e = c.in_err-check_goal.field-0.0 in
    let back : c.from_residual-in_err-check_goal.result ≡ Err e = search rules in
    let before : c.in_ok-made.made.rows ≡ row_count certificate.lemmas = c.in_ok-made.ensures.rows ∙ ap row_count c.as_slice-items.ensures in
    let same = made passed.In_ok-made in
    let of_goal : RefusesGoal gs (all_polynomials gs certificate) (row_count certificate.lemmas) certificate.goal (goal_claim (polynomials c.args.claims.now) certificate) e =
    rw (← same, ← before, ← c.as_slice-lemmas.ensures, ← c.in_ok-claim.ensures.claim) c.in_err-check_goal.ensures.refused in
    rw back (refuses_from_goal (polynomials c.args.claims.now) gs certificate (lemmas passed.In_ok-made (starts passed.In_ok-claim)) e of_goal)

pub returns-clause-accepts : goal.returns-clause-accepts
returns-clause-accepts c =
    let passed = goal.at.returns-clause-accepts c in
    let gs = polynomials c.args.generators.now in
    let certificate = c.args.certificate.now in
    let same = made passed.In_ok-made in
    let reached : ReachesClaim gs (all_polynomials gs certificate) certificate.goal (goal_claim (polynomials c.args.claims.now) certificate) =
    rw (← same, ← c.as_slice-lemmas.ensures, ← c.in_ok-claim.ensures.claim) c.in_ok-check_goal.ensures.reaches in
    record { adds_up = record { lemmas = lemmas passed.In_ok-made (starts passed.In_ok-claim); rows = reached.rows }; sum = reached.sum }
