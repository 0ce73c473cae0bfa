use Rattle.expressions.proofs.Prelude.{◌≡◌, ◌≢◌, pos, ◌+ℤ◌, suc, ◌++◌, take, drop, set, Ok, Err, rules, sym, ap, ◌∙◌, set_split, remove, IsCoefficient, sum_of, keep, keep-nonzero}
use Rattle.nc_polynomial.specs.declared.fault.PolyFault.TheVariants as fault
use Rattle.expressions.proofs.SumsWithTerm.{sum-changed, sum-overflows}
use Rattle.expressions.proofs.added.add_at.Goals as goal
use Rattle.expressions.proofs.added.add_at.Goals.{then-total-eq0, else-total-eq0}

pub returns-in_err-total : goal.returns-in_err-total
returns-in_err-total c =
    let x = c.index.result.now in
    let fails : ¬ IsCoefficient (x.0 +ℤ c.args.term.0) = search rules in
    let given : c.from_residual.result ≡ Err (fault.Overflow (sum_of x.0 c.args.term.0)) = search rules in
    rw given (sum-overflows c.args.terms.items c.requires.shaped c.args.term.0 c.args.term.1 c.args.place c.requires.place c.requires.word x c.index.ensures fails)

pub returns : goal.returns
returns c =
    let p = c.args.terms.items in
    let i = c.args.place in
    let w = c.args.term.1 in
    let x = c.index.result.now in
    let total = c.in_ok-total.total in
    let is : total ≡ x.0 +ℤ c.args.term.0 = search rules in
    let fits : IsCoefficient (x.0 +ℤ c.args.term.0) = search rules in
    let changed : c.if-total-eq0.terms.items ≡ take i p ++ keep total w (drop (suc i) p) = elim c.if-total-eq0.branch [
      | then-total-eq0 b ↦
          let items : c.if-total-eq0.terms.items ≡ remove p i = search rules in
          let zero : total ≡ pos 0 = search rules in
          items ∙ ap (λ z. take i p ++ keep z w (drop (suc i) p)) (sym zero)
      | else-total-eq0 b ↦
          let items : c.if-total-eq0.terms.items ≡ set p i (total, w) = search rules in
          let nonzero : total ≢ pos 0 = search rules in
          items ∙ set_split p i (total, w) c.requires.place ∙ ap (λ l. take i p ++ l) (sym (keep-nonzero total w (drop (suc i) p) nonzero))
    ] in
    sum-changed p c.requires.shaped c.args.term.0 w i c.requires.place c.requires.word x c.index.ensures fits
    ∙ ap Ok (ap (λ z. take i p ++ keep z w (drop (suc i) p)) (sym is) ∙ sym (c.from_vec.ensures ∙ changed))
