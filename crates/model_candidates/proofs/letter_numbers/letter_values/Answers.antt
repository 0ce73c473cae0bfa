use Rattle.model_candidates.proofs.Prelude.{rules, ◌≡◌, ◌*◌, ◌/◌, ◌%◌, ℕ, ◌++◌, ◌∷◌, [], map, ap, ap₂, sym, ◌∙◌, arith, range_with_len, map-range_with_len_more, source, target, quiver_of, side_in, letter_value}
use Rattle.model_candidates.proofs.letter_numbers.letter_values.Goals as goal

pub loop-place-preserved : goal.loop-place-preserved
loop-place-preserved c =
    let q = quiver_of c.args.quiver.now in
    let columns = c.side_at-columns.result in
    let k = c.loop-place.place in
    let f : ℕ → ℕ = λ n. letter_value q c.args.shape.now c.args.values.now c.args.letter.0 (n / columns) (n % columns) in
    let pushed : c.push.new.self ≡ c.loop-place.list ++ c.letter_value.result ∷ [] = search rules in
    let value : c.letter_value.result ≡ f k = c.letter_value.ensures in
    pushed ∙ ap₂ (λ xs x. xs ++ x ∷ []) c.loop-place.invariant value ∙ sym (map-range_with_len_more f 0 k k (omega arith))

pub returns : goal.returns
returns c =
    let q = quiver_of c.args.quiver.now in
    let s = c.args.shape.now in
    let a = c.args.letter.0 in
    let rows = c.side_at-rows.result in
    let columns = c.side_at-columns.result in
    let f : ℕ → ℕ → ℕ = λ row column. letter_value q s c.args.values.now a row column in
    let all : c.loop-place.place ≡ rows * columns = omega (arith, c.loop-place.auto.place-end, c.loop-place-test.false) in
    let rows_are : rows ≡ side_in s (target q a) = c.side_at-rows.ensures.value ∙ ap (side_in s) c.signature_of-ends.ensures.target in
    let columns_are : columns ≡ side_in s (source q a) = c.side_at-columns.ensures.value ∙ ap (side_in s) c.signature_of-ends.ensures.source in
    c.loop-place.invariant ∙ ap (λ n. map (λ k. f (k / columns) (k % columns)) (range_with_len 0 n)) all
    ∙ ap₂ (λ r c. map (λ k. f (k / c) (k % c)) (range_with_len 0 (r * c))) rows_are columns_are
