use Rattle.model_candidates.proofs.Prelude.{rules, true, false, ◌≡◌, ◌+◌, ◌++◌, ◌∷◌, [], Some, None, cond, map, length, ap, ap₂, sym, ◌∙◌, arith, range_with_len, length-append, map-range_with_len_more, letters, quiver_of, letters-quiver_of, is_declared_map, map_entries, matrix_by, place_by, entries_before}
use Rattle.model_candidates.proofs.EntryPlaces.{entries_with, entries_without}
use Rattle.model_candidates.proofs.given_values.model_with.Goals as goal
use Rattle.model_candidates.proofs.given_values.model_with.Goals.{then-is_declared+in_ok-matrix, else-is_declared}

pub loop-number-preserved : goal.loop-number-preserved
loop-number-preserved c =
    let q = quiver_of c.args.quiver.now in
    let s = c.args.shape.now in
    let values = c.args.values.now in
    let n = c.loop-number.number in
    let pushed : c.push.new.self ≡ c.loop-number.maps ++ c.if-is_declared.map ∷ [] = search rules in
    elim c.if-is_declared.branch [
      | then-is_declared+in_ok-matrix w ↦
          let declared : is_declared_map q n ≡ true = search rules in
          let made : c.if-is_declared.map ≡ Some (matrix_by q s values n) = search rules in
          let placed : place_by q s values n ≡ Some (matrix_by q s values n) = ap (λ b. cond b (Some (matrix_by q s values n)) None) declared in
          let more = ap length (entries_with q s n declared) ∙ length-append (entries_before q s n) (map_entries q s n) in
          let sum : c.if-is_declared.first ≡ c.loop-number.first + w.map_entry_count.result = search rules in (
            pushed ∙ ap₂ (λ xs x. xs ++ x ∷ []) c.loop-number.invariant.0 (made ∙ sym placed) ∙ sym (map-range_with_len_more (place_by q s values) 0 n n (omega arith)),
            sum ∙ ap₂ ◌+◌ c.loop-number.invariant.1 w.map_entry_count.ensures.count ∙ sym more,
            omega (arith, sum, c.loop-number.invariant.2, w.map_entry_count.ensures.few),
          )
      | else-is_declared w ↦
          let other : is_declared_map q n ≡ false = search rules in
          let made : c.if-is_declared.map ≡ None = search rules in
          let placed : place_by q s values n ≡ None = ap (λ b. cond b (Some (matrix_by q s values n)) None) other in
          let same : c.if-is_declared.first ≡ c.loop-number.first = search rules in (
            pushed ∙ ap₂ (λ xs x. xs ++ x ∷ []) c.loop-number.invariant.0 (made ∙ sym placed) ∙ sym (map-range_with_len_more (place_by q s values) 0 n n (omega arith)),
            same ∙ c.loop-number.invariant.1 ∙ sym (ap length (entries_without q s n other)),
            omega (arith, same, c.loop-number.invariant.2),
          )
    ]

pub returns : goal.returns
returns c =
    let q = quiver_of c.args.quiver.now in
    let s = c.args.shape.now in
    let all : c.loop-number.number ≡ letters q = omega (arith, c.loop-number.auto.number-end, c.loop-number-test.false, c.letters-number-end.ensures.count, letters-quiver_of c.args.quiver.now) in
    let maps_are = c.loop-number.invariant.0 ∙ ap (λ n. map (place_by q s c.args.values.now) (range_with_len 0 n)) all in
    let sides_are = c.in_ok-sides.ensures.same in
    λ i. record { claim = c.args.claim; modulus = s.modulus; sides = sides_are i; maps = maps_are i }
