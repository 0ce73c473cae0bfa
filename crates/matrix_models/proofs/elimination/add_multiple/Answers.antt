use Rattle.matrix_models.proofs.Prelude.{◌≡◌, ℕ, ◌+◌, ◌-◌, ◌*◌, ◌<◌, length, get_or, ap, ap₂, ◌∙◌, arith}
use Rattle.matrix_models.proofs.Stretches.{nothing_added, done_before, done_right}
use Rattle.matrix_models.proofs.elimination.add_multiple.Goals as goal

pub returns-clause-each : goal.returns-clause-each
returns-clause-each c k within =
    let times = c.args.times in
    let old = c.args.wide.now in
    let other = c.args.other.now in
    let n = length old - 1 in
    let last = c.args.stretch.last in
    let before = c.loop-place.invariant in
    let now = c.loop-place.wide in
    let f : ℕ → ℕ = λ k. get_or old k 0 + times * get_or other k 0 in
    let size : length now ≡ n + 1 = omega (arith, before.size, c.requires.within) in
    let done : (k : ℕ) → k < n → get_or now k 0 ≡ f k =
    done_before f old now n c.loop-place.place before.done before.rest
    (λ k past l. nothing_added times (get_or old k 0) (get_or other k 0) (c.requires.lies.behind k (omega (arith, past, c.loop-place-test.false)) l)) in
    let right_place : length now - 1 ≡ n = omega (arith, size) in
    let right_is : get_or now (length now - 1) 0 + c.from-2.result * c.from-3.result ≡ f n =
    ap₂ ◌+◌ (ap (λ x. get_or now x 0) right_place ∙ before.rest n (omega (arith, c.loop-place.auto.place-end, c.requires.within)))
    (ap₂ ◌*◌ c.from-2.ensures (c.from-3.ensures ∙ ap (λ x. get_or other x 0) right_place)) in
    done_right f now n _ size right_is done k (omega (arith, within, c.requires.within))
