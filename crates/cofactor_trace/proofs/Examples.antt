-- the row 2 (5) 3 (7 8) of a certificate, and of a record with the rule 4 at the word 6
use Rattle.cofactor_trace.proofs.Prelude.{◌≡◌, pos, negsuc, [], ◌∷◌, refl, rows_of, traced_sum}
use Rattle.traced_rows.specs.declared.Origin.TheVariants as origin

one_row : rows_of (record { coef = pos 2; left = 5 ∷ []; generator = 3; right = 7 ∷ 8 ∷ [] } ∷ []) ≡ record { coefficient = pos 2; left = 5 ∷ []; generator = 3; right = 7 ∷ 8 ∷ [] } ∷ []
one_row = refl

one_trace : traced_sum [] (((negsuc 3, 6 ∷ []) ∷ []) ∷ []) (record { coef = pos 2; left = 5 ∷ []; from = origin.Rule 1; right = 7 ∷ 8 ∷ [] } ∷ []) ≡ (negsuc 7, 5 ∷ 6 ∷ 7 ∷ 8 ∷ []) ∷ []
one_trace = refl
