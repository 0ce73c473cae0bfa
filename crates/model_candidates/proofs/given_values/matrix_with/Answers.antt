use Rattle.model_candidates.proofs.Prelude.{rules, ◌≡◌, ◌<◌, ◌*◌, ◌/◌, ◌%◌, ℕ, ◌++◌, ◌∷◌, [], map, length, ap, ap₂, sym, subst, ◌∙◌, arith, range_with_len, All, All-push, map-range_with_len_more, length-map-range_with_len, IfOk-weaker, source, target, quiver_of, side_in, entry_shown, value_of_entry}
use Rattle.model_candidates.proofs.CandidateModels.{value_below}
use Rattle.model_candidates.proofs.given_values.matrix_with.Goals as goal

pub loop-place-preserved : goal.loop-place-preserved
loop-place-preserved c =
    let q = quiver_of c.args.quiver.now in
    let s = c.args.shape.now in
    let columns = c.side_at-columns.result in
    let k = c.loop-place.place in
    let f : ℕ → ℕ = λ n. value_of_entry q s c.args.values.now (entry_shown q c.args.letter.0 (n / columns) (n % columns)) in
    let pushed : c.push.new.self ≡ c.loop-place.entries ++ c.value_shown.result ∷ [] = search rules in
    let shown : c.value_shown.result ≡ f k = c.value_shown.ensures in
    let small = value_below q s c.requires.quiver c.requires.shape c.args.values.now c.requires.one_each c.requires.below
    (entry_shown q c.args.letter.0 (k / columns) (k % columns)) in (
      pushed ∙ ap₂ (λ xs x. xs ++ x ∷ []) c.loop-place.invariant.0 shown ∙ sym (map-range_with_len_more f 0 k k (omega arith)),
      subst (All (λ entry. entry < s.modulus)) (sym pushed) (All-push (λ entry. entry < s.modulus) c.loop-place.entries c.value_shown.result c.loop-place.invariant.1
          (subst (λ entry. entry < s.modulus) (sym shown) small)),
    )

pub matrix_of_entries-requires-clause-shape : goal.matrix_of_entries-requires-clause-shape
matrix_of_entries-requires-clause-shape c =
    let q = quiver_of c.args.quiver.now in
    let columns = c.side_at-columns.result in
    let f : ℕ → ℕ = λ n. value_of_entry q c.args.shape.now c.args.values.now (entry_shown q c.args.letter.0 (n / columns) (n % columns)) in
    let all : c.loop-place.place ≡ c.side_at-rows.result * columns = omega (arith, c.loop-place.auto.place-end, c.loop-place-test.false) in
    record {
      rows_side = search rules;
      columns_side = search rules;
      size = ap length c.as_slice.ensures ∙ ap length c.loop-place.invariant.0 ∙ length-map-range_with_len f 0 c.loop-place.place ∙ all;
    }

pub returns : goal.returns
returns c =
    let q = quiver_of c.args.quiver.now in
    let s = c.args.shape.now in
    let a = c.args.letter.0 in
    let rows = c.side_at-rows.result in
    let columns = c.side_at-columns.result in
    let f : ℕ → ℕ → ℕ = λ row column. value_of_entry q s c.args.values.now (entry_shown q a row column) in
    let all : c.loop-place.place ≡ rows * columns = omega (arith, c.loop-place.auto.place-end, c.loop-place-test.false) in
    let rows_are : rows ≡ side_in s (target q a) = c.side_at-rows.ensures.value ∙ ap (side_in s) c.signature_of-ends.ensures.target in
    let columns_are : columns ≡ side_in s (source q a) = c.side_at-columns.ensures.value ∙ ap (side_in s) c.signature_of-ends.ensures.source in
    let entries_are = c.as_slice.ensures ∙ c.loop-place.invariant.0 ∙ ap (λ n. map (λ k. f (k / columns) (k % columns)) (range_with_len 0 n)) all
    ∙ ap₂ (λ r c. map (λ k. f (k / c) (k % c)) (range_with_len 0 (r * c))) rows_are columns_are in
    IfOk-weaker c.matrix_of_entries.result _ _
    (λ matrix made. made ∙ (λ i. record { modulus = s.modulus; rows = rows_are i; columns = columns_are i; entries = entries_are i }))
    c.matrix_of_entries.ensures
