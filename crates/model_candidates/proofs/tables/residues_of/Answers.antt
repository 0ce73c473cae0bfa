use Rattle.model_candidates.proofs.Prelude.{rules, ◌≡◌, ◌+◌, ◌<◌, ◌++◌, ◌∷◌, [], ℕ, ℤ, List, length, take, ap, ap₂, sym, ◌∙◌, arith, take_more, map_push, get_or_from_slice_get, residue, residues}
use Rattle.model_candidates.proofs.tables.residues_of.Goals as goal

pub loop-place-preserved : goal.loop-place-preserved
loop-place-preserved c =
    let m = c.args.modulus in
    let terms = c.args.poly.now.terms in
    let place = c.loop-place.place in
    let t : ℤ × List ℕ = (c.term.result.0, c.term.result.1.now) in
    let pushed : c.push.new.self ≡ c.loop-place.found ++ c.residue_of.result ∷ [] = search rules in
    let value : c.residue_of.result ≡ residue m c.term.result.0 = search rules in
    let inside : place < length terms = omega (arith, c.loop-place-test.true, c.terms-place-end.ensures) in
    let here : take (place + 1) terms ≡ take place terms ++ t ∷ [] =
    take_more terms place t inside ∙ ap (λ y. take place terms ++ y ∷ []) (get_or_from_slice_get terms place t t c.term.ensures) in
    pushed ∙ ap₂ (λ xs y. xs ++ y ∷ []) c.loop-place.invariant value
    ∙ sym (ap (residues m) here ∙ map_push (λ y. residue m y.0) (take place terms) t)
