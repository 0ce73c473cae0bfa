use Rattle.model_candidates.proofs.Prelude.{◌≡◌, ◌+◌, ◌%◌, ◌<◌, ℕ, get_or, sym, subst, ◌∙◌, arith, mod-lt, entry_at, value_in}
use Rattle.model_candidates.proofs.MatrixRows.{AreRows, one_row_more, rows_of_matrix}
use Rattle.model_candidates.proofs.GivenValues.{given_of, positive}
use Rattle.model_candidates.proofs.ValueRows.{value_ends}
use Rattle.model_candidates.proofs.constants.constant_of.Goals as goal

pub loop-row-preserved : goal.loop-row-preserved
loop-row-preserved c =
    let x = c.args.known.now.given in
    let m = x.shape.now.modulus in
    let u = c.args.ends.source.0 in
    let v = c.args.ends.target.0 in
    let columns = c.side_at-columns.result in
    let row = c.loop-row.row in
    let f : ℕ → ℕ → ℕ = entry_at (value_in x u v c.args.poly.now.terms) in
    let g : ℕ → ℕ = λ k. get_or c.constant_sums-sums.result k 0 % m in
    subst (AreRows m columns f (row + 1)) (sym c.push_residues.ensures)
    (one_row_more m columns row f g c.loop-row.entries.items c.loop-row.invariant
    (λ k inside. mod-lt (get_or c.constant_sums-sums.result k 0) (positive (given_of c.requires.known.given)))
    (λ k inside. c.constant_sums-sums.ensures k (subst (λ n. k < n) c.side_at-columns.ensures.value inside)))

pub returns : goal.returns
returns c =
    let x = c.args.known.now.given in
    let m = x.shape.now.modulus in
    let u = c.args.ends.source.0 in
    let v = c.args.ends.target.0 in
    let p = c.args.poly.now.terms in
    let rows = c.side_at-rows.result in
    let columns = c.side_at-columns.result in
    let ends = value_ends (given_of c.requires.known.given) u v c.requires.source c.requires.target p in
    let all : c.loop-row.row ≡ rows = omega (arith, c.loop-row-test.false, c.loop-row.auto.row-end) in
    let passed = subst (λ n. AreRows m columns (entry_at (value_in x u v p)) n c.loop-row.entries.items) all c.loop-row.invariant in
    c.new.ensures ∙ rows_of_matrix ends.arrow (ends.target ∙ sym c.side_at-rows.ensures.value)
    (ends.source ∙ sym c.side_at-columns.ensures.value) passed
