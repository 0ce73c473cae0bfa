use Rattle.model_candidates.proofs.Prelude.{◌≡◌, ◌+◌, ◌<◌, ℕ, drop, get_or, take, sym, subst, ◌∙◌, arith, entry_at, product_in}
use Rattle.model_candidates.proofs.GivenValues.{given_of, product_ends}
use Rattle.model_candidates.proofs.MatrixRows.{AreRows, one_row_more, rows_of_matrix}
use Rattle.model_candidates.proofs.WordRows.{entry_below}
use Rattle.model_candidates.proofs.value_matrices.product_of.Goals as goal

pub loop-row-preserved : goal.loop-row-preserved
loop-row-preserved c =
    let x = c.args.given.now in
    let m = x.shape.now.modulus in
    let columns = c.side_at-columns.result in
    let row = c.loop-row.row in
    let f : ℕ → ℕ → ℕ = entry_at (product_in x c.args.ends.source.0 (drop c.args.from (take c.args.to c.args.word.now))) in
    let g : ℕ → ℕ = λ k. get_or c.word_row-product.result k 0 in
    subst (AreRows m columns f (row + 1)) (sym c.push_row.ensures)
    (one_row_more m columns row f g c.loop-row.entries.items c.loop-row.invariant
    (λ k inside. entry_below x c.requires.given c.word_row-product.result k c.word_row-product.ensures.below)
    (λ k inside. c.word_row-product.ensures.row k (subst (λ n. k < n) c.side_at-columns.ensures.value inside)))

pub returns : goal.returns
returns c =
    let x = c.args.given.now in
    let m = x.shape.now.modulus in
    let u = c.args.ends.source.0 in
    let v = c.args.ends.target.0 in
    let w = drop c.args.from (take c.args.to c.args.word.now) in
    let rows = c.side_at-rows.result in
    let columns = c.side_at-columns.result in
    let ends = product_ends (given_of c.requires.given) v w c.requires.source c.requires.leads in
    let all : c.loop-row.row ≡ rows = omega (arith, c.loop-row-test.false, c.loop-row.auto.row-end) in
    let passed = subst (λ n. AreRows m columns (entry_at (product_in x u w)) n c.loop-row.entries.items) all c.loop-row.invariant in
    c.new.ensures ∙ rows_of_matrix ends.arrow (ends.target ∙ sym c.side_at-rows.ensures.value)
    (ends.source ∙ sym c.side_at-columns.ensures.value) passed
