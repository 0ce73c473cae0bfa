use Rattle.model_candidates.proofs.Prelude.{◌≡◌, ◌+◌, ◌-◌, ◌*◌, ◌<◌, ◌++◌, ◌∷◌, [], ℕ, List, length, map, sym, ap, ap₂, subst, ◌∙◌, arith, range_with_len, map-range_with_len_more, LinearRow, equation_of, Add, AreAgainst, add-both, against-behind, against-before, equation_of-row_of, length-row_of, row_of-below, row_with, rows_with, All}
use Rattle.model_candidates.proofs.FactorRows.{row_is_equation}
use Rattle.model_candidates.proofs.Ranges.{map_range_split}
use Rattle.model_candidates.proofs.factor_rows.add_rows.Goals as goal

pub add-requires-clause-size : goal.add-requires-clause-size
add-requires-clause-size c =
    let value = c.args.value.now in
    let n = c.args.unknowns in
    let least = c.requires.value.is_modulus.at_least in
    let is = row_is_equation n value c.args.terms.now c.loop-place.place (omega (arith, least)) in
    ap length c.in_ok-row.ensures ∙ length-row_of value.modulus n _ is
    ∙ ap (λ k. k + 1) (sym (c.loop-place.invariant.unknowns ∙ c.requires.unknowns))

pub add-requires-clause-below : goal.add-requires-clause-below
add-requires-clause-below c =
    let value = c.args.value.now in
    let n = c.args.unknowns in
    let least = c.requires.value.is_modulus.at_least in
    let is = row_is_equation n value c.args.terms.now c.loop-place.place (omega (arith, least)) in
    subst (λ m. All (λ entry. entry < m) c.in_ok-row.row.items) (sym (c.loop-place.invariant.modulus ∙ c.requires.modulus))
    (subst (All (λ entry. entry < value.modulus)) (sym c.in_ok-row.ensures) (row_of-below value.modulus n _ is))

pub returns-then-not-add-clause-against : goal.returns-then-not-add-clause-against
returns-then-not-add-clause-against c = λ _.
    let value = c.args.value.now in
    let place = c.loop-place.place in
    let count = value.rows * value.columns in
    let f : ℕ → LinearRow = row_with c.args.unknowns value c.args.terms.now in
    let passed : List LinearRow = map f (range_with_len 0 place) in
    let rest : List LinearRow = map (λ k. f (place + 1 + k)) (range_with_len 0 (count - (place + 1))) in
    let count_is : c.rows.result * c.columns.result ≡ count = ap₂ ◌*◌ c.rows.ensures c.columns.ensures in
    let inside : place < count = subst (λ k. place < k) count_is c.loop-place-test.true in
    let within : place + 1 + (count - (place + 1)) ≡ count = omega (arith, inside) in
    let equation_is = ap equation_of c.in_ok-row.ensures ∙ equation_of-row_of (f place) in
    let against = subst (λ e. AreAgainst (e ∷ []) c.loop-place.pivots) equation_is (c.add.ensures.against c.if-not-add.true) in
    let all_are : (passed ++ f place ∷ []) ++ rest ≡ rows_with c.args.unknowns value c.args.terms.now =
    ap (λ xs. xs ++ rest) (sym (map-range_with_len_more f 0 place place (omega arith)))
    ∙ sym (map_range_split f (place + 1) (count - (place + 1))) ∙ ap (λ k. map f (range_with_len 0 k)) within in
    subst (λ xs. AreAgainst xs c.args.pivots.now) all_are
    (against-before (passed ++ f place ∷ []) rest c.args.pivots.now
    (against-behind passed (f place ∷ []) c.args.pivots.now c.loop-place.pivots c.loop-place.invariant.added against))

pub loop-place-preserved : goal.loop-place-preserved
loop-place-preserved c =
    let now = c.loop-place.invariant in
    let place = c.loop-place.place in
    let f : ℕ → LinearRow = row_with c.args.unknowns c.args.value.now c.args.terms.now in
    let equation_is = ap equation_of c.in_ok-row.ensures ∙ equation_of-row_of (f place) in
    let added = subst (λ e. Add (e ∷ []) c.loop-place.pivots c.add.new.self) equation_is (c.add.ensures.added c.if-not-add.false) in
    record {
      unknowns = c.add.ensures.unknowns ∙ now.unknowns;
      modulus = c.add.ensures.modulus ∙ now.modulus;
      added = subst (λ xs. Add xs c.args.pivots.now c.add.new.self) (sym (map-range_with_len_more f 0 place place (omega arith)))
          (add-both (map f (range_with_len 0 place)) (f place ∷ []) c.args.pivots.now c.loop-place.pivots c.add.new.self now.added added);
    }
