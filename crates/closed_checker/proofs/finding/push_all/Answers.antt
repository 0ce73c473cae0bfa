use Rattle.closed_checker.proofs.Prelude.{rules, ◌≡◌, ◌+◌, ◌<◌, true, false, [], ◌∷◌, ◌++◌, length, take, get_or, sym, ◌∙◌, subst, arith, ambiguity_at, IsAdded, IsWith}
use Rattle.closed_checker.proofs.Walking.{with-met, with-apart}
use Rattle.closed_checker.proofs.finding.push_all.Goals as goal
use Rattle.closed_checker.proofs.finding.push_all.Goals.{then-may_meet+in_ok-push, else-may_meet}

pub loop-second-preserved : goal.loop-second-preserved
loop-second-preserved c =
    let seconds = c.args.seconds.now in
    let i = c.args.first in
    let kind = c.args.kind in
    let place = c.args.place in
    let n = c.loop-second.second-index in
    let l = c.second-item.result in
    let old = c.args.found.now in
    let mid = c.loop-second.found in
    let inside : n < length seconds = omega arith in
    let here : get_or seconds n l ≡ l = sym c.second-item.is in
    elim c.if-may_meet.branch [
      | then-may_meet+in_ok-push w ↦
          let yes : c.may_meet.result ≡ true = search rules in
          let now : c.if-may_meet.found ≡ mid ++ ambiguity_at i l.number kind place ∷ [] = search rules in
          subst (IsAdded (IsWith (take (n + 1) seconds) i kind place) old) (sym now)
          (with-met seconds c.requires i kind place n l inside here old mid c.loop-second.invariant (c.may_meet.ensures.0 yes))
      | else-may_meet w ↦
          let no : c.may_meet.result ≡ false = search rules in
          let now : c.if-may_meet.found ≡ mid = search rules in
          subst (IsAdded (IsWith (take (n + 1) seconds) i kind place) old) (sym now)
          (with-apart seconds c.requires i kind place n l inside here old mid c.loop-second.invariant
          (λ met. absurd (cc (sym (c.may_meet.ensures.1 met) ∙ no))))
    ]
