use Rattle.model_checker.proofs.Prelude.{◌≡◌, ◌<◌, ◌≤◌, Some, IfOk, sym, ap, subst, ◌∙◌, rules, star, quiver_of, letters-quiver_of, identity_matrix, IsMap, map_at, matrix_or_zero}
use Rattle.model_checker.proofs.Arrows.{side_read, arrow_of-identity, arrow_of-map, adjoint_is_map}
use Rattle.model_checker.proofs.representation.arrow_for.Goals as goal

pub map_of-requires-clause-in_range : goal.map_of-requires-clause-in_range
map_of-requires-clause-in_range c = subst (λ n. c.args.letter.0 < n) (sym (c.requires.model.place_of_each ∙ letters-quiver_of c.args.quiver.now)) c.requires.letter

pub map_of-requires-clause-there : goal.map_of-requires-clause-there
map_of-requires-clause-there c =
    let a = c.args.letter.0 in
    let letter = subst (λ n. a < n) (sym (letters-quiver_of c.args.quiver.now)) c.requires.letter in
    let is_map : IsMap (quiver_of c.args.quiver.now) c.args.letter.0 = record { map = search rules; letter = letter; declared = search rules } in
    let has = c.requires.maps.each a letter is_map in
    (has.matrix, has.there)

pub map_of-requires-2-clause-there : goal.map_of-requires-2-clause-there
map_of-requires-2-clause-there c =
    let q = quiver_of c.args.quiver.now in
    let m = c.args.model.now in
    let a = c.args.letter.0 in
    let letter = subst (λ n. a < n) (sym (letters-quiver_of c.args.quiver.now)) c.requires.letter in
    let map : q.objects ≤ a = search rules in
    let below = subst (λ n. n < a) c.star_of-star.ensures.star c.if-letter-star.false in
    let is_map = adjoint_is_map q c.requires.quiver m c.requires.model a map letter below in
    let has = c.requires.maps.each (star q a) is_map.letter is_map in
    (has.matrix, subst (λ n. map_at m n ≡ Some has.matrix) (sym c.star_of-star.ensures.star) has.there)

pub returns-then-from-objects : goal.returns-then-from-objects
returns-then-from-objects c =
    let q = quiver_of c.args.quiver.now in
    let m = c.args.model.now in
    let a = c.args.letter.0 in
    let object : a < q.objects = search rules in
    let side = side_read m c.from-then-from-objects.result a c.at.result.now c.at.ensures c.from-then-from-objects.ensures in
    subst (λ y. IfOk c.identity.result (λ x. x ≡ y)) (ap (identity_matrix m.modulus) side ∙ sym (arrow_of-identity q m a object)) c.identity.ensures

pub returns-then-letter-star : goal.returns-then-letter-star
returns-then-letter-star c =
    let q = quiver_of c.args.quiver.now in
    let m = c.args.model.now in
    let a = c.args.letter.0 in
    let map : q.objects ≤ a = search rules in
    let declared = subst (λ n. a ≤ n) c.star_of-star.ensures.star c.if-letter-star.true in
    subst (λ y. IfOk c.duplicate.result (λ x. x ≡ y)) (ap (matrix_or_zero m.modulus) (sym c.map_of.ensures) ∙ sym (arrow_of-map q m a map declared)) c.duplicate.ensures.same
