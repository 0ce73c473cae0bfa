use Rattle.model_candidates.proofs.Prelude.{◌≡◌, ◌+◌, ◌<◌, ℕ, ◌⊎◌, inl, inr, refl, sym, subst, ◌∙◌, arith, true≢false, cases_eq, entry_at, side_in, value_in}
use Rattle.model_candidates.proofs.GivenValues.{given_of}
use Rattle.model_candidates.proofs.ValueRows.{entry_of_zero, zero_by_entries}
use Rattle.model_candidates.proofs.value_rows.is_zero.Goals as goal

pub returns-then-not-is_row_zero : goal.returns-then-not-is_row_zero
returns-then-not-is_row_zero c = (
  λ same. absurd (true≢false (sym same)),
  λ zero.
      let x = c.args.given.now in
      let within : c.loop-row.row < side_in x.shape.now c.args.ends.target.0 =
      subst (λ n. c.loop-row.row < n) c.side_at-row-end.ensures.value c.loop-row-test.true in
      absurd (true≢false (sym (c.is_row_zero.ensures.1 (λ k inside.
      entry_of_zero (given_of c.requires.given) c.args.ends.source.0 c.args.ends.target.0 c.requires.source c.requires.target
      c.args.poly.now.terms zero within inside)) ∙ c.if-not-is_row_zero.true)),
)

pub loop-row-preserved : goal.loop-row-preserved
loop-row-preserved c = λ i k in_rows in_columns. go i k in_rows in_columns (cases_eq i c.loop-row.row)
  where
    go : (i k : ℕ) → i < c.loop-row.row + 1 → k < side_in c.args.given.now.shape.now c.args.ends.source.0
        → (i ≡ c.loop-row.row) ⊎ (i ≡ c.loop-row.row → ⊥)
        → entry_at (value_in c.args.given.now c.args.ends.source.0 c.args.ends.target.0 c.args.poly.now.terms) i k ≡ 0
    go i k in_rows in_columns (inl same) =
        subst (λ n. entry_at (value_in c.args.given.now c.args.ends.source.0 c.args.ends.target.0 c.args.poly.now.terms) n k ≡ 0) (sym same)
        (c.is_row_zero.ensures.0 c.if-not-is_row_zero.false k in_columns)
    go i k in_rows in_columns (inr other) = c.loop-row.invariant i k (omega (arith, in_rows, other)) in_columns

pub returns : goal.returns
returns c = (
  λ same.
      let x = c.args.given.now in
      zero_by_entries (given_of c.requires.given) c.args.ends.source.0 c.args.ends.target.0 c.requires.source c.requires.target
      c.args.poly.now.terms
      (λ i k in_rows in_columns. c.loop-row.invariant i k (omega (arith, in_rows, c.loop-row-test.false, c.side_at-row-end.ensures.value)) in_columns),
  λ zero. refl,
)
