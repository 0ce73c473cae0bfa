-- What a store keeps of the rows of a state tells of the state.
use Rattle.rule_reduce.proofs.Prelude.{◌≡◌, ℤ, ◌*ℤ◌, List, [], ◌∷◌, length, map, Some, None, Result, Ok, Err, IfOk, MatchResult, refl, sym, ap, subst, ◌∙◌, arith, All, All-map, get_or-map, length-map, Overflow, IsCoefficient, product_of, first_overflow, Row, State, Progress, row_operations, multiplied_row, IsInRange, coefficients, products_by, with_rows, Shows, IsBounded, without_rows}

pub products-coefficients : (rows : List Row) (by : ℤ) → products_by by (coefficients rows) ≡ row_operations rows by
products-coefficients [] by = refl
products-coefficients (row ∷ rows) by = ap (λ os. product_of row.coef by ∷ os) (products-coefficients rows by)

pub coefficients-multiplied : (rows : List Row) (by : ℤ) → map (λ z. z *ℤ by) (coefficients rows) ≡ coefficients (map (multiplied_row by) rows)
coefficients-multiplied [] by = refl
coefficients-multiplied (row ∷ rows) by = ap (λ zs. (row.coef *ℤ by) ∷ zs) (coefficients-multiplied rows by)

pub all-coefficients : (rows : List Row) → All IsCoefficient (coefficients rows) → All (λ row. IsCoefficient row.coef) rows
all-coefficients rows each i row k =
    let size : length (coefficients rows) ≡ length rows = length-map rows (λ (r : Row). r.coef) in
    subst IsCoefficient (get_or-map (λ (r : Row). r.coef) rows i row row.coef k) (each i row.coef (omega arith))

pub coefficients-all : (rows : List Row) → All (λ row. IsCoefficient row.coef) rows → All IsCoefficient (coefficients rows)
coefficients-all rows each = All-map IsCoefficient (λ (row : Row). row.coef) rows each

module _ {S : Type 0} (of : List Row → S) (numbers : S → List ℤ) (of_rows : (rows : List Row) → numbers (of rows) ≡ coefficients rows) (p : Progress S) (rows : List Row) (kept : p.rows ≡ of rows) where
  numbers_are : numbers p.rows ≡ coefficients rows
  numbers_are = ap numbers kept ∙ of_rows rows

  -- the state is in range
  pub shown_in_range : IsBounded numbers p → IsInRange (with_rows p rows)
  shown_in_range bounded = record { multiplier = bounded.multiplier; rest = bounded.rest; rows = all-coefficients rows (subst (All IsCoefficient) numbers_are bounded.rows) }

  -- the first overflow of the numbers is that of the rows
  pub overflow_is : (by : ℤ) → first_overflow (products_by by (numbers p.rows)) ≡ first_overflow (row_operations rows by)
  overflow_is by = ap (λ zs. first_overflow (products_by by zs)) numbers_are ∙ ap first_overflow (products-coefficients rows by)

-- the steps from the state on give the whole
pub record LeadsTo {S E : Type 0} (of : List Row → S) (runs : State → Result State E) (whole : Result State E) (p : Progress S) : Type 0 where
  pub rows : List Row
  pub kept : p.rows ≡ of rows
  pub same : runs (with_rows p rows) ≡ whole

-- all rows are kept
pub shown_whole : {E : Type 0} (r : Result State E) (p : Progress (List Row)) → Shows (λ rows. rows) r p → r ≡ Ok (with_rows p p.rows)
shown_whole r p shown = shown.is ∙ ap (λ rows. Ok (with_rows p rows)) (sym shown.kept)

pub shown_without : {S E : Type 0} (of : List Row → S) (r : Result State E) (p : Progress S) → Shows of r p → without_rows r ≡ Ok (p.multiplier, p.rest, p.used)
shown_without of r p shown = ap without_rows shown.is

-- the numbers of rows, times a number
pub stored_numbers : {E : Type 0} (r : Result (List ℤ) E) (numbers : List ℤ) (by : ℤ) → IfOk r (λ v. v ≡ map (λ z. z *ℤ by) numbers)
    → IfOk r (λ v. (rows : List Row) → numbers ≡ coefficients rows → v ≡ coefficients (map (multiplied_row by) rows))
stored_numbers (Ok v) numbers by is = λ rows kept. is ∙ ap (map (λ z. z *ℤ by)) kept ∙ coefficients-multiplied rows by
stored_numbers (Err e) numbers by is = tt

pub stored_in_range : {E : Type 0} (r : Result (List Row) E) → IfOk r (All (λ row. IsCoefficient row.coef)) → IfOk r (λ v. All IsCoefficient (coefficients v))
stored_in_range (Ok v) each = coefficients-all v each
stored_in_range (Err e) each = tt

pub stored_overflow : (r : Result (List Row) Overflow) (rows : List Row) (by : ℤ) → MatchResult r (λ v. first_overflow (row_operations rows by) ≡ None) (λ o. first_overflow (row_operations rows by) ≡ Some o)
    → MatchResult r (λ v. first_overflow (products_by by (coefficients rows)) ≡ None) (λ o. first_overflow (products_by by (coefficients rows)) ≡ Some o)
stored_overflow r rows by exact =
    subst (λ os. MatchResult r (λ v. first_overflow os ≡ None) (λ o. first_overflow os ≡ Some o)) (sym (products-coefficients rows by)) exact
