use Rattle.model_candidates.proofs.Prelude.{rules, ◌≡◌, ◌+◌, ◌<◌, ◌≤◌, ℕ, false, length, get_or, None, ◌⊎◌, inl, inr, sym, ap, subst, ◌∙◌, arith, cases_lt, All-get_or, length-map-range_with_len, letters, letter_count, quiver_of, letters-quiver_of, is_solved, letter_numbers}
use Rattle.model_candidates.proofs.SolvedPlaces.{first_place, no_place}
use Rattle.model_candidates.proofs.SolvedTerms.{solved_where_numbered, unsolved_where_none}
use Rattle.model_candidates.proofs.solved_terms.solved_place.Goals as goal

pub bounds-known-from : goal.bounds-known-from
bounds-known-from c =
    let k = c.args.known.now in
    let parts = k.given.problem.now.parts in
    let w = c.args.word.now in
    let place = c.loop-place.place in
    let inside : place < length w = omega (arith, c.loop-place-test.true, c.len-place-end.ensures.exact) in
    let letter_is : c.letter.result.0 ≡ get_or w place 0 = search rules in
    let below = All-get_or (λ a. a < letter_count parts.quiver) w place 0 inside c.requires.over in
    let size : length k.numbers.now ≡ letters (quiver_of parts.quiver) =
    ap length c.requires.known.numbers ∙ length-map-range_with_len (letter_numbers (quiver_of parts.quiver) k.given.shape.now parts.solved) 0 (letters (quiver_of parts.quiver)) in
    omega (arith, size, letters-quiver_of parts.quiver, letter_is, below, c.from.ensures)

pub returns-in-Some : goal.returns-in-Some
returns-in-Some c =
    let k = c.args.known.now in
    let parts = k.given.problem.now.parts in
    let q = quiver_of parts.quiver in
    let w = c.args.word.now in
    let place = c.loop-place.place in
    let inside : place < length w = omega (arith, c.loop-place-test.true, c.len-place-end.ensures.exact) in
    let letter_is : c.letter.result.0 ≡ get_or w place 0 = search rules in
    let below : get_or w place 0 < letters q =
    subst (λ n. get_or w place 0 < n) (sym (letters-quiver_of parts.quiver)) (All-get_or (λ a. a < letter_count parts.quiver) w place 0 inside c.requires.over) in
    let here = solved_where_numbered q k.given.shape.now parts.solved c.index-known-from.result
    c.requires.known.numbers (c.from.ensures ∙ letter_is) below c.in-Some.is in
    sym (first_place (is_solved q parts.solved) w 0 inside c.loop-place.invariant here)

pub loop-place-preserved : goal.loop-place-preserved
loop-place-preserved c = λ k below. go k below (cases_lt k c.loop-place.place)
  where
    go : (k : ℕ) → k < c.loop-place.place + 1 → (k < c.loop-place.place) ⊎ (c.loop-place.place ≤ k)
        → is_solved (quiver_of c.args.known.now.given.problem.now.parts.quiver) c.args.known.now.given.problem.now.parts.solved (get_or c.args.word.now k 0) ≡ false
    go k below (inl earlier) = c.loop-place.invariant k earlier
    go k below (inr late) =
        let known = c.args.known.now in
        let parts = known.given.problem.now.parts in
        let q = quiver_of parts.quiver in
        let w = c.args.word.now in
        let same : c.loop-place.place ≡ k = omega (arith, below, late) in
        let inside : c.loop-place.place < length w = omega (arith, c.loop-place-test.true, c.len-place-end.ensures.exact) in
        let letter_is : c.letter.result.0 ≡ get_or w c.loop-place.place 0 = search rules in
        let within : get_or w c.loop-place.place 0 < letters q =
        subst (λ n. get_or w c.loop-place.place 0 < n) (sym (letters-quiver_of parts.quiver))
        (All-get_or (λ a. a < letter_count parts.quiver) w c.loop-place.place 0 inside c.requires.over) in
        let none : get_or known.numbers.now c.from.result c.index-known-from.result ≡ None = search rules in
        let here = unsolved_where_none q known.given.shape.now parts.solved
        c.index-known-from.result c.requires.known.numbers (c.from.ensures ∙ letter_is) within none in
        subst (λ n. is_solved q parts.solved (get_or w n 0) ≡ false) same here

pub returns : goal.returns
returns c =
    let parts = c.args.known.now.given.problem.now.parts in
    sym (no_place (is_solved (quiver_of parts.quiver) parts.solved) c.args.word.now c.loop-place.place
    (omega (arith, c.loop-place-test.false, c.len-place-end.ensures.exact)) c.loop-place.invariant)
