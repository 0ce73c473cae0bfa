use Rattle.model_checker.proofs.Prelude.{◌≡◌, map, sym, ap, ap₂, ◌∙◌, ◌++◌, ◌∷◌, [], arith, rules, range_with_len, map-range_with_len_more, letters, quiver_of, letters-quiver_of, arrow_of}
use Rattle.model_checker.proofs.representation.representation_of.Goals as goal

pub loop-number-preserved : goal.loop-number-preserved
loop-number-preserved c =
    let f = arrow_of (quiver_of c.args.quiver.now) c.args.model.now in
    let k = c.loop-number.number in
    let is : c.in_ok-arrow_for.field-0 ≡ f k = search rules in
    let pushed : c.push.new.self ≡ c.loop-number.arrows ++ c.in_ok-arrow_for.field-0 ∷ [] = search rules in
    pushed ∙ ap₂ (λ xs x. xs ++ x ∷ []) c.loop-number.invariant is ∙ sym (map-range_with_len_more f 0 k k (omega arith))

pub returns : goal.returns
returns c =
    let q = quiver_of c.args.quiver.now in
    let all : c.loop-number.number ≡ letters q = omega (arith, c.loop-number.auto.number-end, c.loop-number-test.false, c.letters-number-end.ensures.count, letters-quiver_of c.args.quiver.now) in
    record {
      objects_are = c.in_ok-objects.ensures.same;
      arrows_are = c.loop-number.invariant ∙ ap (λ n. map (arrow_of q c.args.model.now) (range_with_len 0 n)) all;
    }
