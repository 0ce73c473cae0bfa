use Rattle.command_runs.proofs.Prelude.{◌≡◌, ◌∙◌, ◌≤◌, ℕ, List, [], length, sym, subst, rules, arith, Call, statement_limit, evidence_limit, memory_ends, written_by, Answers}
use Rattle.command_runs.proofs.Commands.{answered, are_contents, are_short, other_default, no_item}
use Rattle.command_runs.proofs.answers.answer.Goals as goal

-- a call without files
pub returns-in_err-statement-in-empty : goal.returns-in_err-statement-in-empty
returns-in_err-statement-in-empty g c =
    memory_ends (Answers c.args.call.now c.args.contents.now) c.from_residual.result c.from_residual.ensures.0 c.from_residual.ensures.1

pub answer_over-requires-clause-statement_fits : goal.answer_over-requires-clause-statement_fits
answer_over-requires-clause-statement_fits g c κs within =
    subst (λ (t : List ℕ). length t ≤ statement_limit) (sym c.deref.ensures.value) c.in_ok-statement-in-empty.ensures.fits

pub returns-in_ok-statement-in-empty : goal.returns-in_ok-statement-in-empty
returns-in_ok-statement-in-empty g c =
    let call : Call = c.args.call.now in
    let contents : List (List ℕ) = c.args.contents.now in
    let none = c.in-empty.len_below in
    answered call contents c.deref.result.now [] c.answer_over.result (are_contents call contents c.requires.contents_fit)
    (no_item contents 0 (written_by call) (omega (arith, none)) ∙ sym c.in_ok-statement-in-empty.ensures.written ∙ sym c.deref.ensures.value)
    (no_item contents 1 [] (omega (arith, none))) c.answer_over.ensures

-- a statement alone
pub answer_over-requires-in-len1-clause-statement_fits : goal.answer_over-requires-in-len1-clause-statement_fits
answer_over-requires-in-len1-clause-statement_fits g c κs within =
    let contents : List (List ℕ) = c.args.contents.now in
    let some = c.in-len1.len_at_least in
    let slice : c.as_slice.result.now ≡ c.statement-item.result = search rules in
    subst (λ (t : List ℕ). length t ≤ statement_limit) (other_default contents 0 [] c.statement-item.result (omega (arith, some)) ∙ sym c.statement-item.is ∙ sym slice)
    (are_short c.args.call.now contents c.requires.contents_fit).statement

pub returns-in-len1 : goal.returns-in-len1
returns-in-len1 g c =
    let call : Call = c.args.call.now in
    let contents : List (List ℕ) = c.args.contents.now in
    let some = c.in-len1.len_at_least in
    let few = c.in-len1.len_below in
    let slice : c.as_slice.result.now ≡ c.statement-item.result = search rules in
    answered call contents c.as_slice.result.now [] c.answer_over-in-len1.result (are_contents call contents c.requires.contents_fit)
    (other_default contents 0 (written_by call) c.statement-item.result (omega (arith, some)) ∙ sym c.statement-item.is ∙ sym slice)
    (no_item contents 1 [] (omega (arith, few))) c.answer_over-in-len1.ensures

-- a statement and a text of evidence
pub answer_over-requires-in-len2-up-clause-statement_fits : goal.answer_over-requires-in-len2-up-clause-statement_fits
answer_over-requires-in-len2-up-clause-statement_fits g c κs within =
    let contents : List (List ℕ) = c.args.contents.now in
    let some = c.in-len2-up.len_at_least in
    let slice : c.as_slice-in-len2-up.result.now ≡ c.statement-item-2.result = search rules in
    subst (λ (t : List ℕ). length t ≤ statement_limit) (other_default contents 0 [] c.statement-item-2.result (omega (arith, some)) ∙ sym c.statement-item-2.is ∙ sym slice)
    (are_short c.args.call.now contents c.requires.contents_fit).statement

pub answer_over-requires-in-len2-up-clause-evidence_fits : goal.answer_over-requires-in-len2-up-clause-evidence_fits
answer_over-requires-in-len2-up-clause-evidence_fits g c κs within =
    let contents : List (List ℕ) = c.args.contents.now in
    let some = c.in-len2-up.len_at_least in
    let slice : c.as_slice-evidence.result.now ≡ c.evidence-item.result = search rules in
    subst (λ (t : List ℕ). length t ≤ evidence_limit) (other_default contents 1 [] c.evidence-item.result (omega (arith, some)) ∙ sym c.evidence-item.is ∙ sym slice)
    (are_short c.args.call.now contents c.requires.contents_fit).evidence

pub returns-in-len2-up : goal.returns-in-len2-up
returns-in-len2-up g c =
    let call : Call = c.args.call.now in
    let contents : List (List ℕ) = c.args.contents.now in
    let some = c.in-len2-up.len_at_least in
    let statement : c.as_slice-in-len2-up.result.now ≡ c.statement-item-2.result = search rules in
    let evidence : c.as_slice-evidence.result.now ≡ c.evidence-item.result = search rules in
    answered call contents c.as_slice-in-len2-up.result.now c.as_slice-evidence.result.now c.answer_over-in-len2-up.result (are_contents call contents c.requires.contents_fit)
    (other_default contents 0 (written_by call) c.statement-item-2.result (omega (arith, some)) ∙ sym c.statement-item-2.is ∙ sym statement)
    (other_default contents 1 [] c.evidence-item.result (omega (arith, some)) ∙ sym c.evidence-item.is ∙ sym evidence) c.answer_over-in-len2-up.ensures
