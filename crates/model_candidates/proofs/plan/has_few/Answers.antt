use Rattle.model_candidates.proofs.Prelude.{◌≡◌, ◌<◌, ◌&&◌, ℤ, ℕ, List, true, false, nat_le, get_or, length, sym, ap, ap₂, ◌∙◌, arith, le-leb, lt-leb, list_all_at, list_all_more, get_or_from_slice_get, quiver_of, solved_count}
use Rattle.model_candidates.proofs.plan.has_few.Goals as goal

pub returns-then-solved_count-most : goal.returns-then-solved_count-most
returns-then-solved_count-most c =
    let terms = c.args.poly.now.terms in
    let place = c.loop-place.place in
    let most = c.args.most in
    let t : ℤ × List ℕ = (c.term.result.0, c.term.result.1.now) in
    let count : List ℕ → ℕ = solved_count (quiver_of c.args.quiver.now) c.args.solved.now in
    let there : get_or terms place t ≡ t = get_or_from_slice_get terms place t t c.term.ensures in
    let fails : nat_le (count t.1) most ≡ false = ap (λ n. nat_le n most) (sym c.solved_count.ensures)
    ∙ lt-leb c.solved_count.result most c.if-solved_count-most.true in
    let inside : place < length terms = omega (arith, c.loop-place-test.true, c.terms-place-end.ensures) in
    sym (list_all_at (λ x. nat_le (count x.1) most) terms place t inside (ap (λ x. nat_le (count x.1) most) there ∙ fails))

pub loop-place-preserved : goal.loop-place-preserved
loop-place-preserved c =
    let terms = c.args.poly.now.terms in
    let place = c.loop-place.place in
    let most = c.args.most in
    let t : ℤ × List ℕ = (c.term.result.0, c.term.result.1.now) in
    let count : List ℕ → ℕ = solved_count (quiver_of c.args.quiver.now) c.args.solved.now in
    let there : get_or terms place t ≡ t = get_or_from_slice_get terms place t t c.term.ensures in
    let passes : nat_le (count t.1) most ≡ true = ap (λ n. nat_le n most) (sym c.solved_count.ensures) ∙ le-leb c.solved_count.result most
    (omega (arith, c.if-solved_count-most.false)) in
    let inside : place < length terms = omega (arith, c.loop-place-test.true, c.terms-place-end.ensures) in
    list_all_more (λ x. nat_le (count x.1) most) terms place t inside ∙ ap₂ ◌&&◌ c.loop-place.invariant
    (ap (λ x. nat_le (count x.1) most) there ∙ passes)
