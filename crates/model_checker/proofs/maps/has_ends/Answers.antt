use Rattle.model_checker.proofs.Prelude.{◌≡◌, sym, subst, ◌∙◌, true≢false, eqb-true, eq-eqb, source, target, quiver_of, IsMatrix, side_of}
use Rattle.model_checker.proofs.Arrows.{side_read}
use Rattle.model_checker.proofs.maps.has_ends.Goals as goal
use Rattle.model_checker.proofs.maps.has_ends.Goals.{then-modulus-model, else-modulus-model}

pub returns-then-rows-at : goal.returns-then-rows-at
returns-then-rows-at c =
    let q = quiver_of c.args.quiver.now in
    let m = c.args.model.now in
    let a = c.args.letter.0 in
    let x = c.args.matrix.now in
    let column : c.at-then-rows-at.result.now ≡ side_of m (source q a) =
    side_read m c.from-then-rows-at.result (source q a) c.at-then-rows-at.result.now c.at-then-rows-at.ensures (c.from-then-rows-at.ensures ∙ c.signature_of-ends.ensures.source) in (
      λ same. elim c.if-modulus-model.branch [
        | then-modulus-model w ↦ record {
          matrix = subst (λ n. IsMatrix n x) (sym c.modulus.ensures.value ∙ w.if-modulus-model.true) c.modulus.ensures.is_matrix;
          rows = sym w.rows.ensures ∙ eqb-true w.rows.result w.at.result.now (sym w.value-is ∙ c.if-rows-at.true)
              ∙ side_read m w.from.result (target q a) w.at.result.now w.at.ensures (w.from.ensures ∙ c.signature_of-ends.ensures.target);
          columns = sym c.columns.ensures ∙ eqb-true c.columns.result c.at-then-rows-at.result.now same ∙ column;
        }
        | else-modulus-model w ↦ absurd (w.if-modulus-model.false (eqb-true c.modulus.result m.modulus (sym w.value-is ∙ c.if-rows-at.true)))
      ],
      λ ends. eq-eqb c.columns.result c.at-then-rows-at.result.now (c.columns.ensures ∙ ends.columns ∙ sym column),
    )

pub returns-else-rows-at : goal.returns-else-rows-at
returns-else-rows-at c =
    let q = quiver_of c.args.quiver.now in
    let m = c.args.model.now in
    let a = c.args.letter.0 in (
      λ holds. absurd (true≢false (sym holds ∙ c.if-rows-at.false)),
      λ ends. elim c.if-modulus-model.branch [
        | then-modulus-model w ↦
            w.value-is
            ∙ eq-eqb w.rows.result w.at.result.now
            (w.rows.ensures ∙ ends.rows ∙ sym (side_read m w.from.result (target q a) w.at.result.now w.at.ensures (w.from.ensures ∙ c.signature_of-ends.ensures.target)))
        | else-modulus-model w ↦ absurd (w.if-modulus-model.false (c.modulus.ensures.value ∙ ends.matrix.modulus_is))
      ],
    )
