use Rattle.model_candidates.proofs.Prelude.{rules, ◌≡◌, length, replicate, ap, ap₂, ◌∙◌, range_with_len, length-range_with_len, IfOk-weaker, filled, unknown_numbers}
use Rattle.model_candidates.proofs.unknowns.unknown_numbers.Goals as goal

pub filled-requires-clause-one_for_each : goal.filled-requires-clause-one_for_each
filled-requires-clause-one_for_each c =
    ap length (c.as_slice-2.ensures.value ∙ c.in_ok-own.ensures) ∙ length-range_with_len 0 c.args.unknowns ∙ c.requires

pub returns : goal.returns
returns c =
    let flags = c.args.solved.now in
    let others_is : c.in_ok-others.others.items ≡ replicate (length flags) c.args.unknowns = search rules in
    let same : filled flags c.as_slice.result.now c.as_slice-2.result.now ≡ unknown_numbers flags =
    ap₂ (filled flags) (c.as_slice.ensures.value ∙ others_is) (c.as_slice-2.ensures.value ∙ c.in_ok-own.ensures)
    ∙ ap (λ n. filled flags (replicate (length flags) n) (range_with_len 0 n)) c.requires in
    IfOk-weaker c.filled.result (λ numbers. numbers ≡ filled flags c.as_slice.result.now c.as_slice-2.result.now)
    (λ numbers. numbers ≡ unknown_numbers flags) (λ numbers is. is ∙ same) c.filled.ensures
