-- Rows with equal generator and words, added up.
use Rattle.std.specs.Prelude.{zero, suc, ℤ, pos, negsuc, ◌+ℤ◌, List, [], ◌∷◌, map, filter}
use Rattle.std.specs.List.{fold, flat_map}
use Rattle.std.specs.BTreeSet.{insert_key}
use Rattle.std.specs.Ordering.{is_eq}
use Rattle.coef_int.specs.declared.Overflow.{Overflow}
use Rattle.coef_int.specs.Operations.{sum_of}
use Rattle.traced_rows.specs.declared.certificate.CertRow.{CertRow}
use Rattle.cofactor_trace.specs.declared.table.Multiple.{Multiple}
use Rattle.cofactor_trace.specs.Multiples.{multiple_of, multiple_cmp}

-- the multiples l G r of the rows, ascending, each once
abbrev pub multiples_of : List CertRow → List Multiple
multiples_of rows = fold (insert_key multiple_cmp) [] (map multiple_of rows)

-- the coefficients of the rows with this multiple, in their order
abbrev pub coefficients_at : Multiple → List CertRow → List ℤ
coefficients_at m rows = map (λ r. r.coef) (filter (λ r. is_eq (multiple_cmp m (multiple_of r))) rows)

-- their sum
abbrev pub total_at : Multiple → List CertRow → ℤ
total_at m rows = fold ◌+ℤ◌ (pos 0) (coefficients_at m rows)

-- the row c l G r, unless c is zero
abbrev pub kept_row : ℤ → Multiple → List CertRow
kept_row (pos zero) m = []
kept_row (pos (suc n)) m = record { coef = pos (suc n); left = m.left; generator = m.generator; right = m.right } ∷ []
kept_row (negsuc n) m = record { coef = negsuc n; left = m.left; generator = m.generator; right = m.right } ∷ []

-- each multiple once, ascending, with the sum of its coefficients where that isn't zero
abbrev pub gathered : List CertRow → List CertRow
gathered rows = flat_map (λ m. kept_row (total_at m rows) m) (multiples_of rows)

-- numbers added one by one, each to the sum so far; the sum of 0 and the first is always a coefficient
abbrev pub running_sums : ℤ → List ℤ → List Overflow
running_sums so_far [] = []
running_sums so_far (c ∷ cs) = sum_of so_far c ∷ running_sums (so_far +ℤ c) cs

-- the sums of gathering, multiple by multiple
abbrev pub sums_of_gathering : List CertRow → List Overflow
sums_of_gathering rows = flat_map (λ m. running_sums (pos 0) (coefficients_at m rows)) (multiples_of rows)
