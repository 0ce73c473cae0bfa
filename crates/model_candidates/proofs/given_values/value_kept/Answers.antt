use Rattle.model_candidates.proofs.Prelude.{ℕ, Bool, true, List, ◌≡◌, ◌<◌, ◌+◌, nat_eq, length, get_or, ap, ap₂, sym, ◌∙◌, arith, letters, source, target, star, All-get_or, Shape, IsSide, Declaration, letter_count, quiver_of, letters-quiver_of, side_in, is_self, is_declared_map, entries_of, entries_before, is_kept, place_within}
use Rattle.model_candidates.proofs.EntryPlaces.{kept_value, kept_inside}
use Rattle.model_candidates.proofs.given_values.value_kept.Goals as goal

-- the place that is read is that of the entry among all of them
module _ (d : List Declaration) (s : Shape) (a row column : ℕ) where
  abbrev entry_place : ℕ
  entry_place = length (entries_before (quiver_of d) s a) + place_within a (is_self (quiver_of d) a) (side_in s (source (quiver_of d) a)) row column

  place_read : {first object columns other place : ℕ} {own : Bool} → first ≡ length (entries_before (quiver_of d) s a) → object ≡ source (quiver_of d) a → columns ≡ side_in s object
      → other ≡ star (quiver_of d) a → own ≡ nat_eq other a → ((b : ℕ) → place ≡ place_within b own columns row column) → first + place ≡ entry_place
  place_read first_is object_is columns_is other_is own_is place_is =
      ap₂ ◌+◌ first_is (place_is a ∙ ap₂ (λ b n. place_within a b n row column) (own_is ∙ ap (λ n. nat_eq n a) other_is) (columns_is ∙ ap (side_in s) object_is))

  place_inside : a < letter_count d → is_declared_map (quiver_of d) a ≡ true → row < side_in s (target (quiver_of d) a) → column < side_in s (source (quiver_of d) a)
      → is_kept (is_self (quiver_of d) a) row column ≡ true → entry_place < length (entries_of (quiver_of d) s)
  place_inside letter = kept_inside (quiver_of d) s (omega (arith, letter, letters-quiver_of d))

pub bounds-values-values : goal.bounds-values-values
bounds-values-values c =
    let place_is = place_read c.args.quiver.now c.args.shape.now c.args.letter.0 c.args.row c.args.column c.requires.first c.signature_of.ensures.source
    c.side_at-columns.ensures.value c.star_of.ensures.star c.eq-selfmade.ensures c.place_in_map.ensures in
    let inside = place_inside c.args.quiver.now c.args.shape.now c.args.letter.0 c.args.row c.args.column c.requires.letter c.requires.declared c.requires.row c.requires.column c.requires.kept in
    omega (arith, place_is, inside, c.requires.one_each)

pub overflow_add-result : goal.overflow_add-result
overflow_add-result c =
    let place_is = place_read c.args.quiver.now c.args.shape.now c.args.letter.0 c.args.row c.args.column c.requires.first c.signature_of.ensures.source
    c.side_at-columns.ensures.value c.star_of.ensures.star c.eq-selfmade.ensures c.place_in_map.ensures in
    let inside = place_inside c.args.quiver.now c.args.shape.now c.args.letter.0 c.args.row c.args.column c.requires.letter c.requires.declared c.requires.row c.requires.column c.requires.kept in
    omega (arith, place_is, inside, c.requires.one_each)

pub offset_bounds-values-values : goal.offset_bounds-values-values
offset_bounds-values-values c =
    let place_is = place_read c.args.quiver.now c.args.shape.now c.args.letter.0 c.args.row c.args.column c.requires.first c.signature_of.ensures.source
    c.side_at-columns.ensures.value c.star_of.ensures.star c.eq-selfmade.ensures c.place_in_map.ensures in
    let inside = place_inside c.args.quiver.now c.args.shape.now c.args.letter.0 c.args.row c.args.column c.requires.letter c.requires.declared c.requires.row c.requires.column c.requires.kept in
    omega (arith, place_is, inside, c.requires.one_each)

pub returns : goal.returns
returns c =
    let q = quiver_of c.args.quiver.now in
    let s = c.args.shape.now in
    let a = c.args.letter.0 in
    let letter : a < letters q = omega (arith, c.requires.letter, letters-quiver_of c.args.quiver.now) in
    let place_is = place_read c.args.quiver.now c.args.shape.now c.args.letter.0 c.args.row c.args.column c.requires.first c.signature_of.ensures.source
    c.side_at-columns.ensures.value c.star_of.ensures.star c.eq-selfmade.ensures c.place_in_map.ensures in
    ap (λ n. get_or c.args.values.all.now n 0) place_is
    ∙ sym (kept_value q s letter c.requires.declared c.requires.row c.requires.column c.requires.kept c.args.values.all.now)

pub place_in_map-requires-clause-row_in_range : goal.place_in_map-requires-clause-row_in_range
place_in_map-requires-clause-row_in_range c =
    let q = quiver_of c.args.quiver.now in
    let letter : c.args.letter.0 < letters q = omega (arith, c.requires.letter, letters-quiver_of c.args.quiver.now) in
    let object : target q c.args.letter.0 < length c.args.shape.now.sides = omega (arith, c.requires.quiver.target_is_object c.args.letter.0 letter, c.requires.shape.side_of_each) in
    let side : IsSide (side_in c.args.shape.now (target q c.args.letter.0)) = All-get_or IsSide c.args.shape.now.sides (target q c.args.letter.0) 1 object c.requires.shape.sides in
    omega (arith, side.most, c.requires.row)
