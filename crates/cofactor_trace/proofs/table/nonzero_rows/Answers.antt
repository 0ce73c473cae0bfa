use Rattle.cofactor_trace.proofs.Prelude.{rules, ◌≡◌, ◌++◌, ◌∷◌, Ok, sym, ap, subst, ◌∙◌, All, values_of, All-head, All-tail, All-append, IsCoefficient, CertRow, kept_row, IsInRange, Sum, Entries, before, rows_in}
use Rattle.cofactor_trace.proofs.Gathering.{behind, behind-before, kept_row-in_range}
use Rattle.cofactor_trace.proofs.table.nonzero_rows.Goals as goal

pub loop-multiple-preserved : goal.loop-multiple-preserved
loop-multiple-preserved c =
    let m = c.in-Some.multiple in
    let s = c.in-Some.sum in
    let z = c.in_ok-sum.field-0 in
    let out = c.loop-multiple.rows in
    let old = c.loop-multiple.sums.entries in
    let new = c.pop_first.new.self.entries in
    let removed : old ≡ (m, s) ∷ new = search rules in
    let was : s ≡ Ok z = search rules in
    let pushed : c.push_nonzero.new.rows ≡ out ++ kept_row z m = search rules in
    let all_in : All IsInRange (s ∷ values_of new) = subst (λ (es : Entries). All IsInRange (values_of es)) removed c.loop-multiple.invariant.sums_in in
    let z_in : IsCoefficient z = subst IsInRange was (All-head IsInRange s (values_of new) all_in) in
    record {
      sums_in = All-tail IsInRange s (values_of new) all_in;
      rows_in_range = subst (All (λ (r : CertRow). IsCoefficient r.coef)) (sym pushed)
          (All-append (λ (r : CertRow). IsCoefficient r.coef) out (kept_row z m) c.loop-multiple.invariant.rows_in_range (kept_row-in_range z m z_in));
      same =
          ap (λ l. behind l (rows_in new)) pushed ∙ sym (behind-before out z m (rows_in new))
          ∙ ap (λ (t : Sum). behind out (before t m (rows_in new))) (sym was) ∙ ap (λ es. behind out (rows_in es)) (sym removed)
          ∙ c.loop-multiple.invariant.same;
    }
