use Rattle.refute_command.proofs.Prelude.{◌≡◌, ◌<◌, ◌+◌, ◌∷◌, ◌++◌, [], length, get_or, sym, ap, subst, ◌∙◌, rules, arith, into_iter_items, nil_from_length, length-range_with_len, get_or-range_with_len, claim_numbers, IsClaimNumber}
use Rattle.refute_command.proofs.Answered.{searched_over}
use Rattle.refute_command.proofs.Said.{said_none, said_more, said_all}
use Rattle.refute_command.proofs.refute.search_all.Goals as goal

pub search_each-requires-clause-claims : goal.search_each-requires-clause-claims
search_each-requires-clause-claims g c κs alive place default inside =
    let problem = c.args.problem.now in
    let numbers = c.as_slice.ensures.value ∙ c.in_ok-claims.ensures in
    let below : place < length problem.parts.claims =
    subst (λ n. place < n) (ap length numbers ∙ length-range_with_len 1 (length problem.parts.claims)) inside in
    let is : get_or c.as_slice.result.now place default ≡ 1 + place =
    ap (λ xs. get_or xs place default) numbers ∙ get_or-range_with_len 1 (length problem.parts.claims) place default below in
    subst (IsClaimNumber problem) (sym is) (record { least = omega arith; most = omega (arith, below) })

pub loop-one-init : goal.loop-one-init
loop-one-init g c =
    let problem = c.args.problem.now in
    let found = c.in_ok-found.found in
    let items : into_iter_items c.into_iter-one-iterator.result ≡ found = search rules in
    record {
      left = search rules;
      said = said_none problem c.args.seed c.as_slice.result.now (claim_numbers problem) _ found (into_iter_items c.into_iter-one-iterator.result)
          (c.as_slice.ensures.value ∙ c.in_ok-claims.ensures) items (search rules) c.in_ok-found.ensures.found c.in_ok-found.ensures.none;
    }

-- one more claim has its verdict
pub loop-one-preserved : goal.loop-one-preserved
loop-one-preserved g c =
    let at = c.loop-one in
    let steps : into_iter_items at.one-iterator ≡ c.in-Some.one ∷ into_iter_items c.next.new.self = c.in-Some.ensures.steps.0 in
    let pushed : c.push.new.self ≡ at.verdicts ++ c.verdict_by.result ∷ [] = search rules in
    record {
      left = let was = at.invariant.left in let gone = c.in-Some.ensures.steps.1 in let short = ap length steps in omega arith;
      said = said_more c.args.problem.now c.args.seed (claim_numbers c.args.problem.now) at.verdicts c.push.new.self (into_iter_items at.one-iterator)
          (into_iter_items c.next.new.self) c.in-Some.one c.verdict_by.result at.invariant.said steps pushed
          (λ claim is. c.verdict_by.ensures c.args.seed claim is);
    }

-- all claims have theirs
pub returns-clause-each : goal.returns-clause-each
returns-clause-each g c =
    let at = c.loop-one in
    let empty : into_iter_items at.one-iterator ≡ [] = nil_from_length _ (sym at.invariant.left ∙ c.in-None.ensures.steps.0) in
    said_all c.args.problem.now c.args.seed (claim_numbers c.args.problem.now) at.verdicts (into_iter_items at.one-iterator) at.invariant.said empty

pub returns-clause-over : goal.returns-clause-over
returns-clause-over g c =
    let at = c.loop-one in
    let empty : into_iter_items at.one-iterator ≡ [] = nil_from_length _ (sym at.invariant.left ∙ c.in-None.ensures.steps.0) in
    searched_over c.args.problem.now c.args.seed (claim_numbers c.args.problem.now) at.verdicts
    (said_all c.args.problem.now c.args.seed (claim_numbers c.args.problem.now) at.verdicts (into_iter_items at.one-iterator) at.invariant.said empty)
