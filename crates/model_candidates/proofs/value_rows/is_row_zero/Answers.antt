use Rattle.model_candidates.proofs.Prelude.{◌≡◌, ◌%◌, ◌<◌, get_or, refl, sym, ap, subst, ◌∙◌, arith, true≢false, entry_at, side_in, value_in}
use borrow.Author.Count.{below_more}
use Rattle.model_candidates.proofs.value_rows.is_row_zero.Goals as goal

pub loop-column-preserved : goal.loop-column-preserved
loop-column-preserved c =
    let x = c.args.given.now in
    let column = c.loop-column.column in
    let inside : column < side_in x.shape.now c.args.ends.source.0 =
    subst (λ n. column < n) c.side_at-column-end.ensures.value c.loop-column-test.true in
    below_more (λ k. entry_at (value_in x c.args.ends.source.0 c.args.ends.target.0 c.args.poly.now.terms) c.args.row k ≡ 0) column
    c.loop-column.invariant
    (sym (c.row_sums-sums.ensures column inside) ∙ ap (λ m. get_or c.row_sums-sums.result column 0 % m) (sym c.from-modulus.ensures)
    ∙ c.if-sums-column-ne0.false)

pub returns-then-sums-column-ne0 : goal.returns-then-sums-column-ne0
returns-then-sums-column-ne0 c =
    let x = c.args.given.now in
    let column = c.loop-column.column in
    let inside : column < side_in x.shape.now c.args.ends.source.0 =
    subst (λ n. column < n) c.side_at-column-end.ensures.value c.loop-column-test.true in (
      λ same. absurd (true≢false (sym same)),
      λ zero. absurd (c.if-sums-column-ne0.true (ap (λ m. get_or c.row_sums-sums.result column 0 % m) c.from-modulus.ensures
          ∙ c.row_sums-sums.ensures column inside ∙ zero column inside)),
    )

pub returns : goal.returns
returns c = (
  λ same k inside. c.loop-column.invariant k (omega (arith, inside, c.loop-column-test.false, c.side_at-column-end.ensures.value)),
  λ zero. refl,
)
