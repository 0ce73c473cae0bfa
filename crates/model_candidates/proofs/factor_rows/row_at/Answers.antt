use Rattle.model_candidates.proofs.Prelude.{◌≡◌, ◌+◌, ◌-◌, ◌/◌, ◌%◌, ◌++◌, ◌∷◌, [], ℕ, List, length, map, set, sym, ap, ap₂, ◌∙◌, arith, range_with_len, set-append_seam, map-range_with_len_more, length-map-range_with_len, entry_at, terms_factor}
use Rattle.model_candidates.proofs.factor_rows.row_at.Goals as goal

pub index_mut-requires : goal.index_mut-requires
index_mut-requires c =
    let n = c.args.unknowns in
    let ts = c.args.terms.now in
    let i = c.args.place / c.columns.result in
    let j = c.args.place % c.columns-2.result in
    let size = ap length c.in_ok-equation.ensures ∙ length-map-range_with_len (λ k. terms_factor ts i j k % c.modulus-modulus.result) 0 (n + 1) in
    omega (arith, size, c.in_ok-equation.equation.ok.0)

pub returns : goal.returns
returns c =
    let n = c.args.unknowns in
    let value = c.args.value.now in
    let ts = c.args.terms.now in
    let place = c.args.place in
    let m = c.modulus-modulus.result in
    let right = (m - c.entry-constant.result) % m in
    let f : ℕ → ℕ = λ k. terms_factor ts (place / c.columns.result) (place % c.columns-2.result) k % m in
    let sums : List ℕ = map f (range_with_len 0 n) in
    let equation_is : c.in_ok-equation.equation.items ≡ sums ++ f n ∷ [] = c.in_ok-equation.ensures ∙ map-range_with_len_more f 0 n n (omega arith) in
    let written : set (sums ++ f n ∷ []) n right ≡ sums ++ right ∷ [] =
    ap (λ k. set (sums ++ f n ∷ []) k right) (sym (length-map-range_with_len f 0 n)) ∙ set-append_seam sums (f n) [] right in
    let i_is = ap (λ w. place / w) c.columns.ensures in
    let j_is = ap (λ w. place % w) c.columns-2.ensures in
    let factors_is = ap₂ (λ i j. map (λ k. terms_factor ts i j k % m) (range_with_len 0 n)) i_is j_is
    ∙ ap (λ x. map (λ k. terms_factor ts (place / value.columns) (place % value.columns) k % x) (range_with_len 0 n)) c.modulus-modulus.ensures in
    let right_is = ap₂ (λ x y. (x - y) % x) c.modulus-modulus.ensures (c.entry-constant.ensures.value ∙ ap₂ (entry_at value) i_is j_is) in
    ap (λ xs. set xs n right) equation_is ∙ written ∙ ap₂ (λ xs x. xs ++ x ∷ []) factors_is right_is
