use Rattle.model_search.proofs.Prelude.{length, get_or, MatchOption, subst, arith, AreUnbroken, IsFirstBroken}
use Rattle.model_search.proofs.Blocks.{first_of_answers, none_of_answers}
use Rattle.model_search.proofs.candidate_search.found_among.Goals as goal

pub returns-in_ok-found_at-in-Some : goal.returns-in_ok-found_at-in-Some
returns-in_ok-found_at-in-Some c =
    let pass = c.args.pass.now in
    let answers = c.args.answers.now in
    let first : IsFirstBroken c.args.place answers c.in-Some.number =
    subst (λ o. MatchOption o (AreUnbroken c.args.place (length answers) answers) (IsFirstBroken c.args.place answers)) c.in-Some.is c.in_ok-number.ensures in
    first_of_answers pass.problem.now pass.seed pass.plan.now.number (get_or pass.claims.now c.args.place 0) c.args.first c.args.place answers c.requires.told
    c.in-Some.number c.in_ok-found_at-in-Some.field-0 first c.in_ok-found_at-in-Some.ensures

pub returns-in-None : goal.returns-in-None
returns-in-None c =
    let pass = c.args.pass.now in
    let answers = c.args.answers.now in
    let none : AreUnbroken c.args.place (length answers) answers =
    subst (λ o. MatchOption o (AreUnbroken c.args.place (length answers) answers) (IsFirstBroken c.args.place answers)) c.in-None.is c.in_ok-number.ensures in
    none_of_answers pass.problem.now pass.seed pass.plan.now.number (get_or pass.claims.now c.args.place 0) c.args.first c.args.place answers c.requires.told
    (length answers) (omega arith) none
