use Rattle.model_candidates.proofs.Prelude.{rules, ◌≡◌, ℕ, Bool, List, ◌+◌, ◌<◌, ◌++◌, ◌∷◌, [], true, false, length, get_or, take, sym, ap, ◌∙◌, arith, take_all, take_more, filled, set_count}
use Rattle.model_candidates.proofs.FilledValues.{length-filled}
use Rattle.model_candidates.proofs.SolvedEntries.{before, before_more, before_within, filled_set, filled_as_drawn}
use Rattle.model_candidates.proofs.unknowns.filled.Goals as goal
use Rattle.model_candidates.proofs.unknowns.filled.Goals.{then-solved-place, else-solved-place}

-- the next value is there
next_within : (flags : List Bool) {place next count : ℕ} → count ≡ set_count flags → next ≡ before flags place → place < length flags → get_or flags place false ≡ true → next < count
next_within flags {place} one_each is inside set = omega (arith, before_within flags place inside set, one_each, is)

pub offset_bounds-values-next : goal.offset_bounds-values-next
offset_bounds-values-next c =
    search (rules, next_within c.args.solved.now c.requires.one_for_each c.loop-place.invariant.1 c.loop-place-test.true (search rules))

pub bounds-values-next : goal.bounds-values-next
bounds-values-next c = next_within c.args.solved.now c.requires.one_for_each c.loop-place.invariant.1 c.loop-place-test.true (search rules)

pub overflow_add-next : goal.overflow_add-next
overflow_add-next c =
    search (rules, next_within c.args.solved.now c.requires.one_for_each c.loop-place.invariant.1 c.loop-place-test.true (search rules))

pub loop-place-preserved : goal.loop-place-preserved
loop-place-preserved c =
    let flags = c.args.solved.now in
    let drawn = c.args.drawn.now in
    let values = c.args.values.now in
    let place = c.loop-place.place in
    let all = filled flags drawn values in
    let inside : place < length all = omega (
      arith,
      length-filled flags drawn values c.requires.one_each,
      c.requires.one_each,
      c.loop-place-test.true,
    ) in
    let pushed : c.push.new.self ≡ c.loop-place.all ++ c.if-solved-place.value ∷ [] = search rules in
    elim c.if-solved-place.branch [
      | then-solved-place w ↦
          let set : get_or flags place false ≡ true = search rules in
          let taken : c.if-solved-place.value ≡ get_or values c.loop-place.next 0 = search rules in
          let value = ap (λ k. get_or values k 0) c.loop-place.invariant.1
          ∙ sym (filled_set flags drawn values place c.requires.one_each c.requires.one_for_each c.loop-place-test.true set) in
          let next : c.if-solved-place.next ≡ c.loop-place.next + 1 = search rules in (
            pushed ∙ ap (λ xs. xs ++ c.if-solved-place.value ∷ []) c.loop-place.invariant.0
                ∙ ap (λ x. take place all ++ x ∷ []) (taken ∙ value) ∙ sym (take_more all place 0 inside),
            omega (arith, next, c.loop-place.invariant.1, before_more flags true c.loop-place-test.true set),
          )
      | else-solved-place w ↦
          let unset : get_or flags place false ≡ false = search rules in
          let taken : c.if-solved-place.value ≡ get_or drawn place 0 = search rules in
          let value = sym (filled_as_drawn flags drawn values place c.loop-place-test.true unset) in
          let next : c.if-solved-place.next ≡ c.loop-place.next = search rules in (
            pushed ∙ ap (λ xs. xs ++ c.if-solved-place.value ∷ []) c.loop-place.invariant.0 ∙ ap (λ x. take place all ++ x ∷ []) (taken ∙ value)
                ∙ sym (take_more all place 0 inside),
            omega (arith, next, c.loop-place.invariant.1, before_more flags false c.loop-place-test.true unset),
          )
    ]

pub returns : goal.returns
returns c =
    let flags = c.args.solved.now in
    let drawn = c.args.drawn.now in
    let values = c.args.values.now in
    let all = filled flags drawn values in
    c.loop-place.invariant.0 ∙ take_all c.loop-place.place all
    (omega (arith, length-filled flags drawn values c.requires.one_each, c.requires.one_each, c.loop-place-test.false))
