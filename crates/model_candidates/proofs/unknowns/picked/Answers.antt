use Rattle.model_candidates.proofs.Prelude.{rules, ◌≡◌, ◌+◌, ◌<◌, ◌++◌, ◌∷◌, [], true, false, length, get_or, take, sym, ap, ◌∙◌, arith, take_all, take_more, picked}
use Rattle.model_candidates.proofs.SolvedEntries.{before, before_more, before_within, before_all, length-picked, picked_set}
use Rattle.model_candidates.proofs.unknowns.picked.Goals as goal
use Rattle.model_candidates.proofs.unknowns.picked.Goals.{then-solved-place+in_ok-push, else-solved-place}

pub loop-place-preserved : goal.loop-place-preserved
loop-place-preserved c =
    let flags = c.args.solved.now in
    let values = c.args.values.now in
    let place = c.loop-place.place in
    let chosen = picked flags values in
    elim c.if-solved-place.branch [
      | then-solved-place+in_ok-push w ↦
          let set : get_or flags place false ≡ true = search rules in
          let pushed : c.if-solved-place.chosen ≡ c.loop-place.chosen ++ get_or values place 0 ∷ [] = search rules in
          let inside : before flags place < length chosen = omega (
            arith,
            length-picked flags values c.requires.one_each,
            before_within
                flags place c.loop-place-test.true set,
          ) in
          let more : before flags place + 1 ≡ before flags (place + 1) = sym (before_more flags true c.loop-place-test.true set) in
          pushed
          ∙ ap (λ xs. xs ++ get_or values place 0 ∷ []) c.loop-place.invariant
          ∙ ap (λ x. take (before flags place) chosen ++ x ∷ [])
          (sym (picked_set flags values place c.requires.one_each c.loop-place-test.true set))
          ∙ sym (take_more chosen (before flags place) 0 inside)
          ∙ ap (λ n. take n chosen) more
      | else-solved-place w ↦
          let unset : get_or flags place false ≡ false = search rules in
          let same : before flags place ≡ before flags (place + 1) = omega (arith, before_more flags false c.loop-place-test.true unset) in
          let kept : c.if-solved-place.chosen ≡ c.loop-place.chosen = search rules in
          kept ∙ c.loop-place.invariant ∙ ap (λ n. take n chosen) same
    ]

pub returns : goal.returns
returns c =
    let flags = c.args.solved.now in
    let values = c.args.values.now in
    let chosen = picked flags values in
    let all = before_all flags c.loop-place.place (omega (arith, c.loop-place.auto.place-end, c.loop-place-test.false)) in
    c.loop-place.invariant ∙ take_all (before flags c.loop-place.place) chosen
    (omega (arith, all, length-picked flags values c.requires.one_each))
