use Rattle.rule_reduce.proofs.Prelude.{rules, ◌≡◌, ◌+◌, ◌++◌, [], ◌∷◌, Ok, Err, sym, ap, ◌∙◌, subst, IsCoefficient, Row, all_push, checked, Explains, move_row, move_of, move_result, multiplied_state, state_operations, with_rows, Shows, IsBounded}
use Rattle.rule_reduce.proofs.Exits.{less, exit_multiplied, exit_subtracted, step_ends, memory-explains}
use Rattle.rule_reduce.proofs.stepping.take_away.Goals as goal

pub returns-in_err-next-clause-exact : goal.returns-in_err-next-clause-exact
returns-in_err-next-clause-exact g c = λ rows kept.
    let m = move_of c.args.choice.now c.args.rule.now in
    let s = with_rows c.args.state rows in
    let by : c.quotient-by.result ≡ m.by = search rules in
    let e = c.in_err-next.field-0.0 in
    let made : Explains (checked (state_operations c.quotient-by.result s) (multiplied_state c.quotient-by.result s)) e = search (rules, c.in_err-next.ensures.exact rows kept) in
    let why = subst (λ k. Explains (checked (state_operations k s) (multiplied_state k s)) e) by made in
    let back : c.from_residual-in_err-next.result ≡ Err e = search rules in
    rw back (exit_multiplied m s e why)

pub returns-in_err-next-2-clause-exact : goal.returns-in_err-next-2-clause-exact
returns-in_err-next-2-clause-exact g c = λ rows kept.
    let rule = c.args.rule.now in
    let m = move_of c.args.choice.now rule in
    let s = with_rows c.args.state rows in
    let by : c.quotient-by.result ≡ m.by = search rules in
    let made : Shows g.S.RowStore.of (checked (state_operations c.quotient-by.result s) (multiplied_state c.quotient-by.result s)) c.in_ok-next.next = search (rules, c.in_ok-next.ensures.exact rows kept) in
    let t = with_rows c.in_ok-next.next made.rows in
    let all = subst (λ k. checked (state_operations k s) (multiplied_state k s) ≡ Ok t) by made.is in
    let times : c.quotient-times.result ≡ m.times = search rules in
    let made_row : c.in_ok-row.row ≡ record (move_row m) { coef = c.quotient-times.result } = search rules in
    let left : c.in_ok-row.row.left ≡ m.left = ap (λ (r : Row). r.left) made_row in
    let right : c.in_ok-row.row.right ≡ m.right = ap (λ (r : Row). r.right) made_row in
    let e = c.in_err-next-2.field-0.0 in
    let taken : Explains (less c.quotient-times.result c.in_ok-row.row.left rule.poly.terms c.in_ok-row.row.right t.rest) e = search rules in
    let same : less c.quotient-times.result c.in_ok-row.row.left rule.poly.terms c.in_ok-row.row.right t.rest ≡ less m.times m.left m.rule m.right t.rest = λ i. less (times i) (left i) rule.poly.terms (right i) t.rest in
    let why = subst (λ r. Explains r e) same taken in
    let back : c.from_residual-in_err-next-2.result ≡ Err e = search rules in
    rw back (exit_subtracted m s t all e why)

pub returns-in_err-push-clause-exact : goal.returns-in_err-push-clause-exact
returns-in_err-push-clause-exact g c = λ rows kept.
    memory-explains c.from_residual-in_err-push.result c.from_residual-in_err-push.ensures _ (move_result (move_of c.args.choice.now c.args.rule.now) (with_rows c.args.state rows))

pub returns-clause-in_range : goal.returns-clause-in_range
returns-clause-in_range g c =
    let t = c.in_ok-next.next in
    let p = c.in_ok-next-2.field-0 in
    let row = c.in_ok-row.row in
    let numbers = g.S.RowStore.numbers in
    let coef : row.coef ≡ c.quotient-times.result = search rules in
    let pushed : numbers c.push.new.self ≡ numbers t.rows ++ row.coef ∷ [] = search rules in
    let whole : IsBounded numbers (record { multiplier = t.multiplier; rest = p.terms; rows = c.push.new.self; used = t.used + 1 }) =
    record { multiplier = c.in_ok-next.ensures.in_range.multiplier; rest = p.canonical; rows = all_push IsCoefficient (numbers t.rows) (numbers c.push.new.self) row.coef c.in_ok-next.ensures.in_range.rows (search rules) pushed } in
    search (rules, whole)

pub returns-clause-exact : goal.returns-clause-exact
returns-clause-exact g c = λ rows kept.
    let rule = c.args.rule.now in
    let m = move_of c.args.choice.now rule in
    let s = with_rows c.args.state rows in
    let of = g.S.RowStore.of in
    let by : c.quotient-by.result ≡ m.by = search rules in
    let made : Shows g.S.RowStore.of (checked (state_operations c.quotient-by.result s) (multiplied_state c.quotient-by.result s)) c.in_ok-next.next = search (rules, c.in_ok-next.ensures.exact rows kept) in
    let t = with_rows c.in_ok-next.next made.rows in
    let all = subst (λ k. checked (state_operations k s) (multiplied_state k s) ≡ Ok t) by made.is in
    let times : c.quotient-times.result ≡ m.times = search rules in
    let row = c.in_ok-row.row in
    let made_row : row ≡ record (move_row m) { coef = c.quotient-times.result } = search rules in
    let left : row.left ≡ m.left = ap (λ (r : Row). r.left) made_row in
    let right : row.right ≡ m.right = ap (λ (r : Row). r.right) made_row in
    let p = c.in_ok-next-2.field-0.terms in
    let taken : less c.quotient-times.result row.left rule.poly.terms row.right t.rest ≡ Ok p = search rules in
    let same : less c.quotient-times.result row.left rule.poly.terms row.right t.rest ≡ less m.times m.left m.rule m.right t.rest = λ i. less (times i) (left i) rule.poly.terms (right i) t.rest in
    let row_is : row ≡ move_row m = made_row ∙ (λ i. record (move_row m) { coef = times i }) in
    let pushed : c.push.new.self ≡ of (made.rows ++ row ∷ []) = c.in_ok-push.ensures.kept made.rows made.kept in
    let whole : Shows of (move_result m s) (record { multiplier = t.multiplier; rest = p; rows = c.push.new.self; used = t.used + 1 }) =
    record { rows = made.rows ++ move_row m ∷ []; kept = pushed ∙ ap (λ r. of (made.rows ++ r ∷ [])) row_is; is = step_ends m s t all p (sym same ∙ taken) } in
    search (rules, whole)
