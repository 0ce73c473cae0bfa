use Rattle.traced_completion.proofs.Prelude.{rules, ◌≡◌, ◌≤◌, ℕ, List, Err, sym, subst, arith, asked_cmp, made_cmp, letters_of, letter_count}
use Rattle.traced_completion.proofs.Transitions.{first_run}
use Rattle.traced_completion.proofs.completion.Completion.start.Goals as goal

pub returns-clause-of_problem : goal.returns-clause-of_problem
returns-clause-of_problem c =
    let problem = c.args.problem.now in
    let order = c.in_ok-new.field-0.order in
    let same : order ≡ c.in-Ok.order = c.in_ok-new.ensures.order in
    let letters : letter_count problem.parts.quiver ≤ letters_of c.in-Ok.order = omega (arith, c.letters.ensures.count, c.in-Ok.ensures.letters (omega (arith, c.letters.ensures.few))) in
    first_run problem c.args.budget order c.in_ok-new.field-0.rules c.new-3.result c.new-4.result c.new-5.result
    (subst (λ o. (u v : List ℕ) → made_cmp o u v ≡ asked_cmp problem.parts.order u v) (sym same) c.in-Ok.ensures.order) (subst (λ o. letter_count problem.parts.quiver ≤ letters_of o) (sym same) letters)
    c.requires c.in_ok-new.ensures.rules c.new-3.ensures c.new-4.ensures c.new-5.ensures

pub returns-in_err-new-clause-of_problem : goal.returns-in_err-new-clause-of_problem
returns-in_err-new-clause-of_problem c =
    let back : c.from_residual.result ≡ Err c.in_err-new.field-0.0 = search rules in
    rw back tt

pub returns-in_err-new-clause-budget : goal.returns-in_err-new-clause-budget
returns-in_err-new-clause-budget c =
    let back : c.from_residual.result ≡ Err c.in_err-new.field-0.0 = search rules in
    rw back tt

pub returns-in_err-new-clause-no_round : goal.returns-in_err-new-clause-no_round
returns-in_err-new-clause-no_round c =
    let back : c.from_residual.result ≡ Err c.in_err-new.field-0.0 = search rules in
    rw back tt
