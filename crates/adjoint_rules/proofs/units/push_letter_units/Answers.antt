use Rattle.adjoint_rules.proofs.Prelude.{nat_eq, nat_le, ◌||◌, true, if◌then◌else◌, nat_cmp, is_gt, ◌≡◌, [], ◌∷◌, ◌++◌, ap, ◌∙◌, sym, refl, source, target, star, left_unit, right_unit, quiver_of, polynomials}
use Rattle.adjoint_rules.proofs.UnitLists.{in_play-of_not_gt, polynomials-pushed, polynomials-kept, two_parts}
use Rattle.adjoint_rules.proofs.units.push_letter_units.Goals as goal
use Rattle.adjoint_rules.proofs.units.push_letter_units.Goals.{else-not-starred-via-then-not-starred+else-gt, else-not-starred-via-else-not-starred, then-eq+in_ok-product_less_letter+in_ok-push, else-eq}

pub returns-in_ok-push-2 : goal.returns-in_ok-push-2
returns-in_ok-push-2 c =
    let q = quiver_of c.args.quiver.now in
    let v = c.args.object.0 in
    let a = c.args.letter.0 in
    let before = c.args.generators.now in
    let unit : c.identity_of-unit.result.0 ≡ v = c.identity_of-unit.ensures.objects_first c.requires.objects_first in
    let in_play : (c.args.starred || nat_le a (star q a)) ≡ true =
    elim c.else-not-starred.branch [
      | else-not-starred-via-then-not-starred+else-gt w ↦ in_play-of_not_gt c.args.starred _ _ (ap (λ s. is_gt (nat_cmp a s)) (sym w.star_of.ensures.star) ∙ sym w.gt.ensures ∙ w.if-gt.false)
      | else-not-starred-via-else-not-starred w ↦ ap (λ s. s || nat_le a (star q a)) w.if-not-starred.false
    ] in
    let left : polynomials c.if-eq.generators ≡ polynomials before ++ (if nat_eq (target q a) v then left_unit v a ∷ [] else []) =
    elim c.if-eq.branch [
      | then-eq+in_ok-product_less_letter+in_ok-push w ↦
          polynomials-pushed before c.if-eq.generators w.in_ok-product_less_letter.field-0 (left_unit v a) (nat_eq (target q a) v)
          (ap (λ u. nat_eq u v) (sym c.signature_of-ends.ensures.target) ∙ sym c.eq.ensures ∙ w.if-eq.true)
          (w.generators-is ∙ w.in_ok-push.ensures.ok)
          (w.in_ok-product_less_letter.ensures ∙ ap (λ u. left_unit u a) unit)
      | else-eq w ↦
          polynomials-kept before c.if-eq.generators (left_unit v a) (nat_eq (target q a) v)
          (ap (λ u. nat_eq u v) (sym c.signature_of-ends.ensures.target) ∙ sym c.eq.ensures ∙ w.if-eq.false)
          w.generators-is
    ] in
    two_parts (c.args.starred || nat_le a (star q a)) (polynomials before) (polynomials c.if-eq.generators) _ _ _ in_play left
    (polynomials-pushed c.if-eq.generators c.push-then-eq-2.new.self c.in_ok-product_less_letter-2.field-0 (right_unit v a) (nat_eq (source q a) v)
    (ap (λ u. nat_eq u v) (sym c.signature_of-ends.ensures.source) ∙ sym c.eq-2.ensures ∙ c.if-eq-2.true)
    c.in_ok-push-2.ensures.ok
    (c.in_ok-product_less_letter-2.ensures ∙ ap (λ u. right_unit u a) unit))

pub returns-else-eq-2 : goal.returns-else-eq-2
returns-else-eq-2 c =
    let q = quiver_of c.args.quiver.now in
    let v = c.args.object.0 in
    let a = c.args.letter.0 in
    let before = c.args.generators.now in
    let unit : c.identity_of-unit.result.0 ≡ v = c.identity_of-unit.ensures.objects_first c.requires.objects_first in
    let in_play : (c.args.starred || nat_le a (star q a)) ≡ true =
    elim c.else-not-starred.branch [
      | else-not-starred-via-then-not-starred+else-gt w ↦ in_play-of_not_gt c.args.starred _ _ (ap (λ s. is_gt (nat_cmp a s)) (sym w.star_of.ensures.star) ∙ sym w.gt.ensures ∙ w.if-gt.false)
      | else-not-starred-via-else-not-starred w ↦ ap (λ s. s || nat_le a (star q a)) w.if-not-starred.false
    ] in
    let left : polynomials c.if-eq.generators ≡ polynomials before ++ (if nat_eq (target q a) v then left_unit v a ∷ [] else []) =
    elim c.if-eq.branch [
      | then-eq+in_ok-product_less_letter+in_ok-push w ↦
          polynomials-pushed before c.if-eq.generators w.in_ok-product_less_letter.field-0 (left_unit v a) (nat_eq (target q a) v)
          (ap (λ u. nat_eq u v) (sym c.signature_of-ends.ensures.target) ∙ sym c.eq.ensures ∙ w.if-eq.true)
          (w.generators-is ∙ w.in_ok-push.ensures.ok)
          (w.in_ok-product_less_letter.ensures ∙ ap (λ u. left_unit u a) unit)
      | else-eq w ↦
          polynomials-kept before c.if-eq.generators (left_unit v a) (nat_eq (target q a) v)
          (ap (λ u. nat_eq u v) (sym c.signature_of-ends.ensures.target) ∙ sym c.eq.ensures ∙ w.if-eq.false)
          w.generators-is
    ] in
    two_parts (c.args.starred || nat_le a (star q a)) (polynomials before) (polynomials c.if-eq.generators) _ _ _ in_play left
    (polynomials-kept c.if-eq.generators c.if-eq.generators (right_unit v a) (nat_eq (source q a) v)
    (ap (λ u. nat_eq u v) (sym c.signature_of-ends.ensures.source) ∙ sym c.eq-2.ensures ∙ c.if-eq-2.false)
    refl)
