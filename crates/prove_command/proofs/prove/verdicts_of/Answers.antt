use Rattle.prove_command.proofs.Prelude.{◌≡◌, ◌<◌, ◌++◌, ◌∷◌, [], length, sym, ap, subst, ◌∙◌, rules, arith, option_flatten, option_to_list, into_iter_items, nil_from_length, length-append, searched_from}
use Rattle.prove_command.proofs.Said.{TakesNext, IsSaidBy, AreFoundFor, SaidSoFar, said_none, said_derived, said_closed, said_halted, said_all}
use Rattle.prove_command.proofs.prove.verdicts_of.Goals.{in-Derived, in-Closed, in-Halted}
use Rattle.prove_command.proofs.prove.verdicts_of.Goals as goal

pub loop-outcome-init : goal.loop-outcome-init
loop-outcome-init g c =
    let outcomes : into_iter_items c.into_iter-outcome-iterator.result ≡ c.args.outcomes =
    c.into_iter-outcome-iterator.ensures.into_iter_gives.0 ∙ c.into_vec-outcome-items.ensures in
    let found : into_iter_items c.into_iter-found.result ≡ c.in_ok-found.found = search rules in
    let slice : c.as_slice.result.now ≡ c.args.outcomes = search rules in
    let asked = c.args.asked in
    let found_for : AreFoundFor c.args.problem.now asked (searched_from asked.models 1 c.args.outcomes) (into_iter_items c.into_iter-found.result) =
    rw (found, ← slice) (c.in_ok-found.ensures.found, c.in_ok-found.ensures.none) in
    record {
      left = search rules;
      found_left = search rules;
      said = rw (c.in_ok-verdicts.ensures, outcomes)
          (said_none c.args.problem.now asked c.args.outcomes (into_iter_items c.into_iter-found.result) c.requires.one_each found_for);
    }

-- one more claim has its verdict
pub loop-outcome-preserved : goal.loop-outcome-preserved
loop-outcome-preserved g c =
    let at = c.loop-outcome in
    let problem = c.args.problem.now in
    let asked = c.args.asked in
    let left = into_iter_items c.next.new.self in
    let steps : into_iter_items at.outcome-iterator ≡ c.in-Some.outcome ∷ left = c.in-Some.ensures.steps.0 in
    let pushed : c.push.new.self ≡ at.verdicts ++ c.match-outcome.verdict ∷ [] = search rules in
    let more : SaidSoFar problem asked c.args.outcomes (at.verdicts ++ c.match-outcome.verdict ∷ []) left (into_iter_items c.match-outcome.found) =
    elim c.match-outcome.branch [
      | in-Derived w ↦ rw (w.verdict-is, w.found-is) (said_derived problem asked at.invariant.said w.in-Derived.evidence (rw (← w.in-Derived.is) steps))
      | in-Closed w ↦ rw (w.verdict-is, w.found-is) (said_closed problem asked at.invariant.said w.in-Closed.rest (rw (← w.in-Closed.is) steps))
      | in-Halted w ↦
          let next = w.next-in-Halted in
          let takes : TakesNext (into_iter_items at.found) next.result (into_iter_items next.new.self) =
          record { items = next.ensures.items; some = λ more. next.ensures.variant.1 (subst (λ n. 0 < n) (sym at.invariant.found_left) more) } in
          let said = w.verdict_on_halted-verdict.ensures in
          let says : IsSaidBy w.in-Halted.halt (option_flatten next.result) w.verdict_on_halted-verdict.result =
          rw (← w.flatten.ensures) (record { refuted = said.refuted; undecided = said.undecided }) in
          rw (w.verdict-is, w.found-is)
          (said_halted problem asked at.invariant.said w.in-Halted.halt next.result (into_iter_items next.new.self) w.verdict_on_halted-verdict.result
          (rw (← w.in-Halted.is) steps) takes says)
    ] in
    record {
      left = let was = at.invariant.left in let gone = c.in-Some.ensures.steps.1 in let short = ap length steps in omega arith;
      found_left = elim c.match-outcome.branch [
        | in-Derived w ↦ rw w.found-is at.invariant.found_left
        | in-Closed w ↦ rw w.found-is at.invariant.found_left
        | in-Halted w ↦
            let was = at.invariant.found_left in
            let gone = w.next-in-Halted.ensures.len in
            let short = ap length w.next-in-Halted.ensures.items ∙ length-append (option_to_list w.next-in-Halted.result) _ in
            rw w.found-is (omega arith)
      ];
      said = rw pushed more;
    }

-- all have theirs
pub returns : goal.returns
returns g c =
    let at = c.loop-outcome in
    let empty : into_iter_items at.outcome-iterator ≡ [] = nil_from_length _ (sym at.invariant.left ∙ c.in-None.ensures.steps.0) in
    said_all c.args.problem.now c.args.asked at.invariant.said empty
