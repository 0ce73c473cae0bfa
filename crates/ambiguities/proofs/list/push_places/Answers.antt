use Rattle.ambiguities.proofs.Prelude.{rules, ◌≡◌, ◌∷◌, ◌++◌, [], ◌+◌, true, false, sym, subst, ◌∙◌, arith, IsAgreement, IsGrown, ambiguity_at}
use Rattle.ambiguities.proofs.Agreeing.{agreeing-first, agreeing-more, agreeing-same, agreeing-all}
use Rattle.ambiguities.proofs.list.push_places.Goals as goal
use Rattle.ambiguities.proofs.list.push_places.Goals.{then-agree+in_ok-push, else-agree}

pub loop-place-init : goal.loop-place-init
loop-place-init c =
    let pair = c.args.pair.now in
    record {
      nothing = λ _. search rules;
      grown = agreeing-first pair.i pair.j c.args.kind pair.word.now pair.other.now c.args.low c.args.found.now;
    }

pub loop-place-preserved : goal.loop-place-preserved
loop-place-preserved c =
    let pair = c.args.pair.now in
    let word = pair.word.now in
    let other = pair.other.now in
    let n = c.loop-place.place in
    let old = c.args.found.now in
    let before = c.loop-place.found in
    let kept = c.loop-place.invariant.grown in
    record {
      nothing = λ past. absurd (omega (arith, past, c.loop-place.auto.place, c.loop-place-test.true));
      grown = elim c.if-agree.branch [
        | then-agree+in_ok-push w ↦
            let yes : c.agree.result ≡ true = search rules in
            let now : c.if-agree.found ≡ before ++ ambiguity_at pair.i pair.j c.args.kind n ∷ [] = search rules in
            agreeing-more pair.i pair.j c.args.kind word other c.args.low n old before c.if-agree.found c.loop-place.auto.place (c.agree.ensures.0 yes) now kept
        | else-agree w ↦
            let no : c.agree.result ≡ false = search rules in
            let now : c.if-agree.found ≡ before = search rules in
            subst (IsGrown (IsAgreement pair.i pair.j c.args.kind word other c.args.low (n + 1)) old) (sym now)
            (agreeing-same pair.i pair.j c.args.kind word other c.args.low n old before (λ agree. absurd (cc (sym (c.agree.ensures.1 agree) ∙ no))) kept)
      ];
    }

pub returns : goal.returns
returns c =
    let pair = c.args.pair.now in
    let n = c.loop-place.place in
    agreeing-all pair.i pair.j c.args.kind pair.word.now pair.other.now c.args.low n c.args.high c.args.found.now c.loop-place.found
    (λ ordered. omega (arith, c.loop-place.auto.place-end ordered, c.loop-place-test.false)) c.loop-place.invariant.nothing c.loop-place.invariant.grown
