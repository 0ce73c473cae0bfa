-- How many items each worker has.
use Rattle.in_order_parallel.proofs.Prelude.{◌≡◌, ℕ, ◌<◌, ◌≤◌, ◌+◌, ◌-◌, ◌*◌, ◌/◌, ◌%◌, min, arith, ap, ◌∙◌, div-add-mod', mul-add, mul_comm, le-mul_of_pos_right, le-div}

-- where there are as many items as workers, the workers after the first ones have one each at least
pub back_is_busy : (front workers items : ℕ) → front < workers → workers ≤ items → workers - front ≤ items - (items / workers * front + min (items % workers) front)
back_is_busy front workers items fewer enough =
    let each = items / workers in
    let behind = workers - front in
    let whole : each * workers + items % workers ≡ items = div-add-mod' items workers in
    let parts : workers ≡ front + behind = omega (arith, fewer) in
    let apart : each * workers ≡ each * front + behind * each = ap (λ n. each * n) parts ∙ mul-add each front behind ∙ ap (λ n. each * front + n) (mul_comm each behind) in
    let one_each : 1 ≤ each = le-div 1 items workers (omega (arith, fewer)) (omega (arith, enough)) in
    let busy : behind ≤ behind * each = le-mul_of_pos_right behind one_each in
    omega (arith, whole, apart, busy)
