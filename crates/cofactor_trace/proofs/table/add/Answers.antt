use Rattle.cofactor_trace.proofs.Prelude.{rules, ◌≡◌, sym, subst, insert_entry, All, values_of, All-values-insert_entry, multiple_cmp, IsInRange, Entries, added, sum_in}
use Rattle.cofactor_trace.proofs.TableLaws.{added-in_range}
use Rattle.cofactor_trace.proofs.table.add.Goals as goal

pub returns-clause-sums_in : goal.returns-clause-sums_in
returns-clause-sums_in c =
    let old = c.args.sums.now.entries in
    let m = c.args.multiple in
    let sum = added (sum_in old m) c.args.coef in
    let put : c.insert.new.self.entries ≡ insert_entry multiple_cmp old m sum = search rules in
    subst (λ (es : Entries). All IsInRange (values_of es)) (sym put) (All-values-insert_entry multiple_cmp m sum IsInRange old c.requires.sums_in (added-in_range (sum_in old m) c.args.coef))
