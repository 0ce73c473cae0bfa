use Rattle.cofactor_trace.proofs.Prelude.{rules, ◌≡◌, ◌+◌, ◌*ℤ◌, ◌∷◌, [], map, drop, None, MatchResult, sym, ap, subst, ◌∙◌, arith, drop_all, fold-append, drop_next, joined, joined_rows, joined_row, share, IsFirst, known_from, measured, measured_all}
use Rattle.cofactor_trace.specs.Sizes.{limit_of}
use Rattle.cofactor_trace.proofs.SizeLaws.{no_size, limit_of-measured}
use Rattle.cofactor_trace.proofs.record.check_limits.Goals as goal
use Rattle.cofactor_trace.proofs.record.check_limits.Goals.{in-Generator, in-Rule}

pub loop-row-preserved : goal.loop-row-preserved
loop-row-preserved c =
    let known = known_from c.args.expansions.now.entries in
    let common = c.args.common in
    let rows = c.args.rows.now in
    let i = c.loop-row.row-index in
    let row = c.row-item.result in
    let old = c.loop-row.size in
    let rest = joined known common (drop (i + 1) rows) in
    let jr = joined_row (row.coef *ℤ share known common row) row in
    let so_far : measured_all old (joined known common (drop i rows)) ≡ measured_all no_size (joined known common rows) = search rules in
    let size_is : c.match-row.size ≡ measured_all old (joined_rows known common row) =
    elim c.match-row.branch [
      | in-Generator w ↦
          w.size-is ∙ w.measure_joined-size.ensures (row.coef *ℤ share known common row)
          ∙ ap (λ r. measured_all old (map jr (r ∷ []))) w.itself.ensures
          ∙ ap (λ o. measured_all old (map jr (known o).rows)) (sym w.in-Generator.is)
      | in-Rule w ↦
          w.size-is ∙ w.measure_joined-size-in-Rule.ensures (row.coef *ℤ share known common row)
          ∙ ap (λ rs. measured_all old (map jr rs)) w.rows_of_rule.ensures.exact
          ∙ ap (λ o. measured_all old (map jr (known o).rows)) (sym w.in-Rule.is)
    ] in
    let same : measured_all c.match-row.size rest ≡ measured_all no_size (joined known common rows) =
    ap (λ s. measured_all s rest) size_is ∙ sym (fold-append measured old (joined_rows known common row) rest)
    ∙ ap (λ l. measured_all old (joined known common l)) (sym (drop_next rows i row c.loop-row-test.true c.row-item.is)) ∙ so_far in
    search (rules, same)

pub returns : goal.returns
returns c =
    let known = known_from c.args.expansions.now.entries in
    let common = c.args.common in
    let rows = c.args.rows.now in
    let i = c.loop-row.row-index in
    let so_far : measured_all c.loop-row.size (joined known common (drop i rows)) ≡ measured_all no_size (joined known common rows) = search rules in
    let size_is : c.loop-row.size ≡ measured_all no_size (joined known common rows) =
    ap (λ l. measured_all c.loop-row.size (joined known common l)) (sym (drop_all i rows (omega arith))) ∙ so_far in
    subst (λ f. MatchResult c.check_size.result (λ _. f ≡ None) (IsFirst f)) (ap limit_of size_is ∙ limit_of-measured (joined known common rows)) c.check_size.ensures
