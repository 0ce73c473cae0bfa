use Rattle.claim_decider.proofs.Prelude.{rules, ◌≡◌, [], ◌∷◌, sym, subst, All, start, setting_of, IsCase, all_one}
use Rattle.claim_decider.proofs.claims.decide.Goals as goal

-- the one claim is opened
pub run-requires-clause-cases : goal.run-requires-clause-cases
run-requires-clause-cases g c κs within =
    let setting = setting_of c.args.problem.now c.args.budget in
    let case = c.in_ok-open_case.field-0 in
    let one : c.push.new.self.items ≡ case ∷ [] = search rules in
    subst (All (IsCase setting c.args.format c.args.problem.now 0 start)) (sym one)
    (all_one (IsCase setting c.args.format c.args.problem.now 0 start) case (c.in_ok-open_case.ensures.case c.args.budget))
