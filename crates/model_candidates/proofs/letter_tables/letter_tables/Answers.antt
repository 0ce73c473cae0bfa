use Rattle.model_candidates.proofs.Prelude.{rules, ◌≡◌, ◌++◌, ◌∷◌, [], map, ap, ap₂, sym, ◌∙◌, arith, range_with_len, map-range_with_len_more, letters, quiver_of, letters-quiver_of, letter_table}
use Rattle.model_candidates.proofs.letter_tables.letter_tables.Goals as goal

pub loop-number-preserved : goal.loop-number-preserved
loop-number-preserved c =
    let q = quiver_of c.args.quiver.now in
    let a = c.loop-number.number in
    let pushed : c.push.new.self ≡ c.loop-number.tables ++ c.in_ok-letter_table.field-0 ∷ [] = search rules in
    pushed ∙ ap₂ (λ xs x. xs ++ x ∷ []) c.loop-number.invariant c.in_ok-letter_table.ensures
    ∙ sym (map-range_with_len_more (letter_table q c.args.shape.now) 0 a a (omega arith))

pub returns : goal.returns
returns c =
    let q = quiver_of c.args.quiver.now in
    let all : c.loop-number.number ≡ letters q =
    omega (arith, c.loop-number.auto.number-end, c.loop-number-test.false, c.letters-number-end.ensures.count, letters-quiver_of c.args.quiver.now) in
    c.loop-number.invariant ∙ ap (λ n. map (letter_table q c.args.shape.now) (range_with_len 0 n)) all
