use Rattle.model_candidates.proofs.Prelude.{◌≡◌, ◌<◌, ◌++◌, ◌∷◌, [], ℕ, ℤ, pos, List, length, get_or, take, sym, ap, ◌∙◌, arith, flat_map, append-nil, take_more, flat_map-append, slice_get-get_or, SolvedTerm, numbers_in, model_in, quiver_in, solved_term, listed}
use Rattle.model_candidates.proofs.solved_terms.solved_terms.Goals as goal

abbrev no_term : ℤ × List ℕ
no_term = (pos 0, [])

pub loop-place-preserved : goal.loop-place-preserved
loop-place-preserved c =
    let k = c.args.known.now in
    let place = c.loop-place.place in
    let p = c.args.poly.now.terms in
    let inside : place < length p = omega (arith, c.loop-place-test.true, c.terms-place-end.ensures) in
    let t = get_or p place no_term in
    let f : ℤ × List ℕ → List SolvedTerm =
    λ r. listed (solved_term (quiver_in k.given) k.given.shape.now k.given.problem.now.parts.solved (numbers_in k) (model_in k.given)
    c.args.ends.source.0 r) in
    let pushed : c.push_term.new.terms ≡ c.loop-place.terms ++ f t = c.in_ok-push_term.ensures t (slice_get-get_or p place no_term inside) in
    pushed ∙ ap (λ xs. xs ++ f t) c.loop-place.invariant
    ∙ ap (λ xs. flat_map f (take place p) ++ xs) (sym (append-nil (f t)))
    ∙ sym (flat_map-append f (take place p) (t ∷ []))
    ∙ ap (flat_map f) (sym (take_more p place no_term inside))
