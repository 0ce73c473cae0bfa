use Rattle.claim_decider.proofs.Prelude.{rules, ◌≡◌, ◌+◌, [], ◌∷◌, ◌++◌, ap, sym, ◌∙◌, arith, range_with_len, map-append, all_push, start, setting_of, Case, IsNumber, IsOfProblem, IsCase, case_numbers}
use Rattle.claim_decider.proofs.CaseLists.{range_with_len-more}
use Rattle.claim_decider.proofs.claims.open_all.Goals as goal

pub loop-place-preserved : goal.loop-place-preserved
loop-place-preserved c =
    let problem = c.args.problem.now in
    let before = c.loop-place.cases.items in
    let case = c.in_ok-open_case.field-0 in
    let i = c.loop-place.place in
    let pushed : c.push.new.self.items ≡ before ++ case ∷ [] = search rules in
    let number : case.number ≡ i + 1 = search rules in
    let next : 1 + i ≡ i + 1 = omega arith in
    let numbers : case_numbers c.push.new.self.items ≡ range_with_len 1 (i + 1) =
    ap case_numbers pushed ∙ map-append (λ (x : Case). x.number) before (case ∷ [])
    ∙ ap (λ l. l ++ case.number ∷ []) c.loop-place.invariant.numbers
    ∙ ap (λ n. range_with_len 1 i ++ n ∷ []) (number ∙ sym next)
    ∙ sym (range_with_len-more 1 i) in
    let named : IsNumber problem case.number = rw number (record { least = omega arith; most = search rules }) in
    record {
      numbers = numbers;
      named = all_push (IsOfProblem problem) before c.push.new.self.items case c.loop-place.invariant.named named pushed;
      cases = λ budget. all_push (IsCase (setting_of problem budget) c.args.format problem 0 start) before c.push.new.self.items case (c.loop-place.invariant.cases budget) (c.in_ok-open_case.ensures.case budget) pushed;
    }
