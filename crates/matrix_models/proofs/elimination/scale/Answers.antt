use Rattle.matrix_models.proofs.Prelude.{◌≡◌, ℕ, ◌+◌, ◌-◌, ◌*◌, ◌%◌, ◌<◌, length, get_or, ap, ◌∙◌, arith}
use Rattle.matrix_models.proofs.Stretches.{nothing_scaled, done_before, done_right}
use Rattle.matrix_models.proofs.elimination.scale.Goals as goal

pub returns-clause-each : goal.returns-clause-each
returns-clause-each c k within =
    let m = c.args.modulus in
    let times = c.args.times in
    let old = c.args.row.now in
    let wide = c.args.wide.now in
    let n = length old - 1 in
    let last = c.args.stretch.last in
    let before = c.loop-place.invariant in
    let now = c.loop-place.row in
    let f : ℕ → ℕ = λ k. (get_or wide k 0 * times) % m in
    let size : length now ≡ n + 1 = omega (arith, before.size, c.requires.within) in
    let done : (k : ℕ) → k < n → get_or now k 0 ≡ f k =
    done_before f old now n c.loop-place.place before.done before.rest
    (λ k past l. c.requires.none k (omega (arith, l))
    ∙ nothing_scaled m times (get_or wide k 0) (c.requires.lies.behind k (omega (arith, past, c.loop-place-test.false)) l)) in
    let right_place : length now - 1 ≡ n = omega (arith, size) in
    let right_is : c.product-2.result ≡ f n =
    c.product-2.ensures ∙ ap (λ x. (get_or wide x 0 * times) % m) right_place in
    done_right f now n c.product-2.result size right_is done k (omega (arith, within, c.requires.within))
