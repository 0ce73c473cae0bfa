use Rattle.adjoint_rules.proofs.Prelude.{◌≡◌, ◌++◌, ◌∷◌, [], ◌-◌, ap, ap₂, ◌∙◌, arith, append_assoc, flat_map, range_with_len, map-append, letters, left_unit, letter_units, Poly, quiver_of, object_count, letters-quiver_of, polynomials}
use Rattle.adjoint_rules.proofs.Ranges.{flat_map-range_more}
use Rattle.adjoint_rules.proofs.units.push_units.Goals as goal

pub loop-number-preserved : goal.loop-number-preserved
loop-number-preserved c =
    let ds = c.args.quiver.now in
    let f = letter_units (quiver_of ds) c.args.starred c.args.object.0 in
    let start = polynomials c.push.new.self in
    record {
      done =
          c.in_ok-push_letter_units.ensures
          ∙ ap (λ ps. ps ++ f c.loop-number.number) c.loop-number.invariant.done
          ∙ flat_map-range_more f start (object_count ds) c.loop-number.number (omega (arith, c.objects-number.ensures.count));
    }

pub returns : goal.returns
returns c =
    let ds = c.args.quiver.now in
    let v = c.args.object.0 in
    let f = letter_units (quiver_of ds) c.args.starred v in
    let before = c.args.generators.now in
    let identity : c.identity_of-identity.result.0 ≡ v = c.identity_of-identity.ensures.objects_first c.requires.objects_first in
    let unit : c.in_ok-product_less_letter.field-0.terms ≡ left_unit v v = c.in_ok-product_less_letter.ensures ∙ ap (λ a. left_unit a a) identity in
    let first : polynomials c.push.new.self ≡ polynomials before ++ left_unit v v ∷ [] =
    ap polynomials c.in_ok-push.ensures.ok ∙ map-append (λ (p : Poly). p.terms) before (c.in_ok-product_less_letter.field-0 ∷ []) ∙ ap (λ t. polynomials before ++ t ∷ []) unit in
    let count : c.loop-number.number - object_count ds ≡ letters (quiver_of ds) - object_count ds = grind (arith, letters-quiver_of ds) in
    c.loop-number.invariant.done
    ∙ ap₂ (λ ps n. ps ++ flat_map f (range_with_len (object_count ds) n)) first count
    ∙ append_assoc (polynomials before) (left_unit v v ∷ []) (flat_map f (range_with_len (object_count ds) (letters (quiver_of ds) - object_count ds)))
