use Rattle.ambiguities.proofs.Prelude.{rules, ◌≡◌, ◌<◌, ◌≤◌, ◌+◌, ◌-◌, length, arith, IsGrown, IsOfPair}
use Rattle.ambiguities.proofs.Numbered.{seconds-more, seconds-all}
use Rattle.ambiguities.proofs.Marked.{some_at, first_at}
use Rattle.ambiguities.proofs.list.push_first.Goals as goal
use Rattle.ambiguities.proofs.list.push_first.Goals.{then-i-from, else-i-from}

pub loop-j-preserved : goal.loop-j-preserved
loop-j-preserved c =
    let pair : IsGrown (IsOfPair c.args.rules.now c.args.i c.loop-j.j) c.loop-j.found c.push_marked.new.found = search rules in
    record {
      reached = omega arith;
      seconds = seconds-more c.args.rules.now c.args.i c.if-i-from.least c.loop-j.j c.args.found.now c.loop-j.found c.push_marked.new.found c.loop-j.invariant.reached c.loop-j.invariant.seconds pair;
    }

pub returns-after-i-from : goal.returns-after-i-from
returns-after-i-from c =
    let all = c.args.rules.now in
    let early : c.args.i < c.args.from → c.if-i-from.least ≡ c.args.from = elim c.if-i-from.branch [ then-i-from w ↦ search rules | else-i-from w ↦ λ less. absurd (omega arith) ] in
    let late : c.args.from ≤ c.args.i → c.if-i-from.least ≡ 1 = elim c.if-i-from.branch [ then-i-from w ↦ λ reached. absurd (omega arith) | else-i-from w ↦ search rules ] in
    seconds-all all c.args.from c.args.i c.if-i-from.least c.loop-j.j c.args.found.now c.loop-j.found (omega arith) early late c.loop-j.invariant.seconds

pub returns-in_ok-push_marked : goal.returns-in_ok-push_marked
returns-in_ok-push_marked c =
    let all = c.args.rules.now in
    let early : c.args.i < c.args.from → c.if-i-from.least ≡ c.args.from = elim c.if-i-from.branch [ then-i-from w ↦ search rules | else-i-from w ↦ λ less. absurd (omega arith) ] in
    let late : c.args.from ≤ c.args.i → c.if-i-from.least ≡ 1 = elim c.if-i-from.branch [ then-i-from w ↦ λ reached. absurd (omega arith) | else-i-from w ↦ search rules ] in
    let pair : IsGrown (IsOfPair all c.args.i c.loop-j.j) c.loop-j.found c.push_marked.new.found = search rules in
    let seconds = seconds-more all c.args.i c.if-i-from.least c.loop-j.j c.args.found.now c.loop-j.found c.push_marked.new.found c.loop-j.invariant.reached c.loop-j.invariant.seconds pair in
    seconds-all all c.args.from c.args.i c.if-i-from.least (c.loop-j.j + 1) c.args.found.now c.push_marked.new.found (omega arith) early late seconds

pub push_marked-requires-clause-some : goal.push_marked-requires-clause-some
push_marked-requires-clause-some c =
    let j = c.loop-j.j in
    let is : j ≡ (j - 1) + 1 = omega arith in
    let inside : j - 1 < length c.args.rules.now = omega arith in
    some_at c.args.rules.now j (j - 1) is inside c.requires.nonempty c.rule_with.result.now

pub push_marked-requires-clause-first : goal.push_marked-requires-clause-first
push_marked-requires-clause-first c =
    let j = c.loop-j.j in
    let is : j ≡ (j - 1) + 1 = omega arith in
    let inside : j - 1 < length c.args.rules.now = omega arith in
    first_at c.args.rules.now j (j - 1) is inside c.args.firsts.now c.requires.firsts c.rule_with.result.now
