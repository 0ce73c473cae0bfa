use Rattle.model_candidates.proofs.Prelude.{◌≡◌, ◌<◌, ◌∙◌, ap, sym, eq-eqb, true≢false, arith, Decides-eqb, letters, star, quiver_of, letters-quiver_of, side_in}
use Rattle.model_candidates.proofs.EntryPlaces.{few, few_self, self_map_count, other_map_count}
use Rattle.model_candidates.proofs.entries.map_entry_count.Goals as goal

pub overflow_mul-result : goal.overflow_mul-result
overflow_mul-result c = omega (arith, few_self c.side_at-rows.ensures.most)

pub overflow_mul-result-else-eq : goal.overflow_mul-result-else-eq
overflow_mul-result-else-eq c = omega (arith, few _ _ c.side_at-rows.ensures.most c.side_at-columns.ensures.most)

pub returns-then-eq-clause-count : goal.returns-then-eq-clause-count
returns-then-eq-clause-count c =
    let q = quiver_of c.args.quiver.now in
    let s = c.args.shape.now in
    let letter : c.args.letter.0 < letters q = omega (arith, c.requires.letter, letters-quiver_of c.args.quiver.now) in
    let self : star q c.args.letter.0 ≡ c.args.letter.0 = sym c.star_of.ensures.star ∙ (Decides-eqb c.star_of.result.0 c.args.letter.0).0 (sym c.if-eq.ensures) in
    self_map_count s c.requires.quiver letter self (c.side_at-rows.ensures.value ∙ ap (side_in s) c.signature_of-ends.ensures.target)

pub returns-then-eq-clause-few : goal.returns-then-eq-clause-few
returns-then-eq-clause-few c = omega (arith, few_self c.side_at-rows.ensures.most)

pub returns-else-eq-clause-count : goal.returns-else-eq-clause-count
returns-else-eq-clause-count c =
    let q = quiver_of c.args.quiver.now in
    let s = c.args.shape.now in
    let other : star q c.args.letter.0 ≡ c.args.letter.0 → ⊥ = λ same. true≢false (sym (eq-eqb _ _ (c.star_of.ensures.star ∙ same)) ∙ sym c.if-eq.ensures) in
    other_map_count q s c.args.letter.0 other (c.side_at-rows.ensures.value ∙ ap (side_in s) c.signature_of-ends.ensures.target)
    (c.side_at-columns.ensures.value ∙ ap (side_in s) c.signature_of-ends.ensures.source)

pub returns-else-eq-clause-few : goal.returns-else-eq-clause-few
returns-else-eq-clause-few c = few _ _ c.side_at-rows.ensures.most c.side_at-columns.ensures.most
