-- The expansion of one record, by those of its generators and rules.
use Rattle.std.specs.Prelude.{ℕ, ℤ, pos, ◌*ℤ◌, int_div, List, [], ◌∷◌, ◌++◌, map, length, ◌+◌, ◌||◌, Bool, true, false, nat_lt, Option}
use Rattle.std.specs.Prelude.{Some, None, Result, Ok, Err, if◌then◌else◌}
use Rattle.std.specs.List.{fold, flat_map, list_any, sum_by}
use Rattle.std.specs.Option.{option_map}
use Rattle.coef_int.specs.declared.Overflow.{Overflow}
use Rattle.coef_int.specs.Operations.{product_of, first_overflow}
use Rattle.traced_rows.specs.declared.Origin.{Origin}
use Rattle.traced_rows.specs.declared.Row.{Row}
use Rattle.traced_rows.specs.declared.Made.{Made}
use Rattle.traced_rows.specs.declared.certificate.CertRow.{CertRow}
use Rattle.traced_rows.specs.declared.certificate.Cofactors.{Cofactors}
use Rattle.cofactor_trace.specs.declared.fault.ExpandFault.{ExpandFault}
use Rattle.cofactor_trace.specs.declared.fault.ExpandFault.TheVariants as fault
use Rattle.coef_int.specs.Divisor.{gcd_of}
use Rattle.cofactor_trace.specs.Gathered.{gathered, sums_of_gathering}
use Rattle.nc_polynomial.specs.Limits.{word_limit}
use Rattle.cofactor_trace.specs.Limits.{row_limit, letter_limit}

-- the expansion of each generator and each rule
abbrev pub Known : Type 0
Known = Origin → Cofactors

-- the least common multiple of two integers: x times (y divided by the greatest common divisor)
abbrev pub lcm_of : ℤ → ℤ → ℤ
lcm_of x y = x *ℤ int_div y (gcd_of x y)

-- the least common multiple of an integer and others, taken in order, and its products
abbrev pub common_multiple : ℤ → List ℤ → ℤ
common_multiple = fold lcm_of

abbrev pub multiple_products : ℤ → List ℤ → List Overflow
multiple_products x [] = []
multiple_products x (y ∷ ys) = product_of x (int_div y (gcd_of x y)) ∷ multiple_products (lcm_of x y) ys

-- the denominators of the expansions of the rows' generators and rules, in order
abbrev pub denominators : Known → List Row → List ℤ
denominators known rows = map (λ r. (known r.from).denominator) rows

-- their least common multiple L
abbrev pub common_denominator : Known → List Row → ℤ
common_denominator known rows = common_multiple (pos 1) (denominators known rows)

-- the products of L, and that of the scale with L
abbrev pub denominator_products : Known → Made → List Overflow
denominator_products known m = multiple_products (pos 1) (denominators known m.rows) ++ product_of m.scale (common_denominator known m.rows) ∷ []

-- L divided by the denominator of the expansion of the row's generator or rule
abbrev pub share : Known → ℤ → Row → ℤ
share known common r = int_div common (known r.from).denominator

-- the row k (l (c l' G r') r), where l and r are the words of the outer row and c l' G r' is the inner one
abbrev pub joined_row : ℤ → Row → CertRow → CertRow
joined_row k outer inner = record { coef = k *ℤ inner.coef; left = outer.left ++ inner.left; generator = inner.generator; right = inner.right ++ outer.right }

-- the expansion of the row's generator or rule, times the row's coefficient and its share, between its words
abbrev pub joined_rows : Known → ℤ → Row → List CertRow
joined_rows known common r = map (joined_row (r.coef *ℤ share known common r) r) (known r.from).rows

-- its products: that of the coefficient and the share, then those of it with the coefficients of the expansion
abbrev pub row_products : Known → ℤ → Row → List Overflow
row_products known common r =
    product_of r.coef (share known common r) ∷ map (λ s. product_of (r.coef *ℤ share known common r) s.coef) (known r.from).rows

-- the same of all rows, in order
abbrev pub joined : Known → ℤ → List Row → List CertRow
joined known common rows = flat_map (joined_rows known common) rows

abbrev pub joined_products : Known → ℤ → List Row → List Overflow
joined_products known common rows = flat_map (row_products known common) rows

-- whether a word has more than 500 letters
abbrev pub has_long_word : List CertRow → Bool
has_long_word rows = list_any (λ r. nat_lt word_limit (length r.left) || nat_lt word_limit (length r.right)) rows

-- how many letters all words have
abbrev pub letter_count : List CertRow → ℕ
letter_count rows = sum_by (λ r. length r.left + length r.right) rows

-- the first limit that is exceeded: 500 letters of a word, 200,000 rows, 1,000,000 letters in all
abbrev pub limit_fault : List CertRow → Option ExpandFault
limit_fault rows = if has_long_word rows then Some fault.Size
    else (if nat_lt row_limit (length rows) then Some (fault.Rows false)
    else (if nat_lt letter_limit (letter_count rows) then Some (fault.Rows true) else None))

-- the greatest common divisor of the denominator and the coefficients
abbrev pub content_of : ℤ → List CertRow → ℤ
content_of denominator rows = fold gcd_of denominator (map (λ r. r.coef) rows)

-- a row with its coefficient divided
abbrev pub divided_row : ℤ → CertRow → CertRow
divided_row by r = record { coef = int_div r.coef by; left = r.left; generator = r.generator; right = r.right }

-- the denominator and all coefficients, divided by their greatest common divisor
abbrev pub primitive : ℤ → List CertRow → Cofactors
primitive denominator rows =
    let divisor = content_of denominator rows in
    record { denominator = int_div denominator divisor; rows = map (divided_row divisor) rows }

-- a result, unless there is a fault
abbrev pub unless : {A F : Type 0} → Option F → Result A F → Result A F
unless None r = r
unless (Some e) r = Err e

-- the first of the operations that overflows
abbrev pub overflow_in : List Overflow → Option ExpandFault
overflow_in os = option_map fault.Overflow (first_overflow os)

-- The record's expansion, unless a product of the denominator overflows, or else a limit is exceeded, or else a product of the
-- rows overflows, or else a sum of gathering.
abbrev pub record_expansion : Known → Made → Result Cofactors ExpandFault
record_expansion known m =
    let common = common_denominator known m.rows in
    let rows = joined known common m.rows in
    unless (overflow_in (denominator_products known m)) (unless (limit_fault rows)
    (unless (overflow_in (joined_products known common m.rows ++ sums_of_gathering rows)) (Ok (primitive (m.scale *ℤ common) (gathered rows)))))
