use Rattle.prove_command.proofs.Prelude.{◌≡◌, ◌+◌, ◌++◌, ◌∷◌, [], take, sym, ap, ◌∙◌, append-nil, rules, Outcome, halted_from}
use Rattle.prove_command.proofs.Said.{halted_more, not_halted}
use Rattle.prove_command.proofs.prove.searched_claims.Goals.{in-Halted+in_ok-push, in_default}
use Rattle.prove_command.proofs.prove.searched_claims.Goals as goal

-- one more claim that halted, or one that didn't
pub loop-place-preserved : goal.loop-place-preserved
loop-place-preserved c =
    let place = c.loop-place.place in
    let before = take place c.args.outcomes.now in
    let o : Outcome = c.index-outcomes-place.result in
    let more = halted_more c.args.outcomes.now place o c.loop-place-test.true c.index-outcomes-place.is in
    elim c.match-outcome.branch [
      | in-Halted+in_ok-push w ↦
          let pushed : c.match-outcome.claims.items ≡ c.loop-place.claims.items ++ (place + 1) ∷ [] = search rules in
          let alone = ap (λ (one : Outcome). halted_from (place + 1) (one ∷ [])) w.in-Halted.is in
          pushed ∙ ap (λ claims. claims ++ (place + 1) ∷ []) c.loop-place.invariant
          ∙ ap (λ claims. halted_from 1 before ++ claims) (sym alone) ∙ sym more
      | in_default w ↦
          let none = not_halted (place + 1) o w.in_default.not-Halted in
          rw w.claims-is (c.loop-place.invariant ∙ sym (append-nil (halted_from 1 before)) ∙ ap (λ claims. halted_from 1 before ++ claims) (sym none) ∙ sym more)
    ]
