use Rattle.model_candidates.proofs.Prelude.{rules, ◌≡◌, ◌+◌, ◌<◌, length, ℕ, ◌++◌, ◌∷◌, [], get_or, map, sym, ap, ◌∙◌, arith, range_with_len, append_assoc, length-append, length-map-range_with_len, map-range_with_len_more}
use Rattle.model_candidates.proofs.value_matrices.push_row.Goals as goal

pub push-requires : goal.push-requires
push-requires c =
    let start = c.args.entries.now.items in
    let column = c.loop-column.column in
    let g : ℕ → ℕ = λ k. get_or c.args.row.now k 0 in
    let size : length c.loop-column.entries.items ≡ length start + column =
    ap length c.loop-column.invariant ∙ length-append start (map g (range_with_len 0 column))
    ∙ ap (λ n. length start + n) (length-map-range_with_len g 0 column) in
    let room : length c.loop-column.entries.items < 36 = omega (arith, size, c.requires.room, c.loop-column-test.true) in
    (omega arith, room)

pub loop-column-preserved : goal.loop-column-preserved
loop-column-preserved c =
    let row = c.args.row.now in
    let start = c.args.entries.now.items in
    let column = c.loop-column.column in
    let g : ℕ → ℕ = λ k. get_or row k 0 in
    let pushed : c.push.new.self.items ≡ c.loop-column.entries.items ++ g column ∷ [] = search rules in
    pushed ∙ ap (λ xs. xs ++ g column ∷ []) c.loop-column.invariant
    ∙ append_assoc start (map g (range_with_len 0 column)) (g column ∷ [])
    ∙ ap (λ xs. start ++ xs) (sym (map-range_with_len_more g 0 column column (omega arith)))
