use Rattle.matrix_models.proofs.Prelude.{◌≡◌, ◌+◌, get_or, ap, ◌∙◌, arith}
use Rattle.std.proofs.Common.{eqb-true}
use Rattle.matrix_models.proofs.Stretches.{eight_places, or_none}
use Rattle.matrix_models.proofs.elimination.are_zero.Goals as goal

pub returns : goal.returns
returns c = λ is_zero.
    let row = c.args.row.now in
    let place = c.args.place in
    let here : place + 0 ≡ place = omega arith in
    let halves = or_none _ _ (eqb-true _ 0 is_zero) in
    let third = or_none _ _ halves.0 in
    let second = or_none _ _ third.0 in
    let first = or_none _ _ second.0 in
    let seventh = or_none _ _ halves.1 in
    let sixth = or_none _ _ seventh.0 in
    let fifth = or_none _ _ sixth.0 in
    eight_places (λ k. get_or row (place + k) 0 ≡ 0) (ap (λ n. get_or row n 0) here ∙ first.0) first.1 second.1 third.1
    fifth.0 fifth.1 sixth.1 seventh.1
