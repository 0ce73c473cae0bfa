use Rattle.ambiguities.proofs.Prelude.{rules, ◌≡◌, ◌+◌, [], sym, subst, arith, IsBefore, ListsExactly, IsGrown, IsOfFirst, IsAmbiguityFrom}
use Rattle.ambiguities.proofs.Exactly.{grown-whole}
use Rattle.ambiguities.proofs.Numbered.{firsts-more, firsts-all}
use Rattle.ambiguities.proofs.list.list_all.Goals as goal
use Rattle.ambiguities.proofs.list.list_all.Goals.{else-loop-i-test, then-loop-i-test+in_ok-push_first+else-i-i-end}

pub loop-i-preserved : goal.loop-i-preserved
loop-i-preserved c =
    let made : IsGrown (IsOfFirst c.args.from c.args.rules.now c.loop-i.i) c.loop-i.found c.push_first.new.found = search rules in
    firsts-more c.args.rules.now c.args.from c.loop-i.i [] c.loop-i.found c.push_first.new.found c.loop-i.invariant made

pub returns : goal.returns
returns c =
    let all = c.args.rules.now in
    let from = c.args.from in
    let i = c.loop-i.i in
    elim c.loop-i-test.branch [
      | else-loop-i-test w ↦
          let now : c.loop-i-test.found ≡ c.loop-i.found = search rules in
          subst (ListsExactly IsBefore (IsAmbiguityFrom from all)) (sym now)
          (grown-whole (IsAmbiguityFrom from all) c.loop-i.found (firsts-all all from i [] c.loop-i.found (omega arith) c.loop-i.invariant))
      | then-loop-i-test+in_ok-push_first+else-i-i-end w ↦
          let made : IsGrown (IsOfFirst from all i) c.loop-i.found w.push_first.new.found = search rules in
          let now : c.loop-i-test.found ≡ w.push_first.new.found = search rules in
          let more = firsts-more all from i [] c.loop-i.found w.push_first.new.found c.loop-i.invariant made in
          subst (ListsExactly IsBefore (IsAmbiguityFrom from all)) (sym now)
          (grown-whole (IsAmbiguityFrom from all) w.push_first.new.found (firsts-all all from (i + 1) [] w.push_first.new.found (omega arith) more))
    ]
