use Rattle.certificate_text.proofs.Prelude.{sym, refl, ◌∙◌}
use Rattle.certificate_text.proofs.RowSteps.{flaw_told, memory_told, told_on}
use Rattle.certificate_text.proofs.step.push_lemma_row.Goals as goal

pub returns-in_err-row : goal.returns-in_err-row
returns-in_err-row c = told_on _ c.from_residual.result _ _ c.in_err-row.field-0.0 c.from_residual.ensures.1 c.in_err-row.ensures

pub returns-in_err-size : goal.returns-in_err-size
returns-in_err-size c =
    flaw_told _ c.from_residual-in_err-size.result _ c.in_err-size.field-0.0 c.from_residual-in_err-size.ensures.1 (rw (c.in_ok-row.ensures, sym c.grown.ensures ∙ c.in_err-size.was) refl)

pub returns-in_err-push : goal.returns-in_err-push
returns-in_err-push c = memory_told _ c.from_residual-in_err-push.result _ c.from_residual-in_err-push.ensures.1

pub returns : goal.returns
returns c = rw (c.in_ok-row.ensures, sym c.grown.ensures ∙ c.in_ok-size.was, c.in_ok-push.ensures.ok) refl
