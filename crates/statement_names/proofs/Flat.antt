-- The names and exponents of a sum and of a term, by lists in place of rows.
use Rattle.statement_names.proofs.Prelude.{◌≡◌, ◌++◌, refl, ap, ◌∙◌, flat_map, Term, Term', out-Term, Row_of-Factor, end_of-Factor, more_of-Factor, items-the_row-Factor, Sum, Sum', out-Sum, Row_of-Term, end_of-Term, more_of-Term, items-the_row-Term, of_sum, of_term, mark_occurrences, primary_occurrences, factor_occurrences, factors_occurrences, term_occurrences, terms_occurrences, sum_occurrences}

flat-factors : (n : _) (k : Row_of-Factor n) → factors_occurrences k ≡ flat_map factor_occurrences (items-the_row-Factor n k)
flat-factors n end_of-Factor = refl
flat-factors n (more_of-Factor at primary marks rest) = ap (λ os. (primary_occurrences primary ++ flat_map mark_occurrences marks) ++ os) (flat-factors _ rest)

flat-terms : (n : _) (k : Row_of-Term n) → terms_occurrences k ≡ flat_map term_occurrences (items-the_row-Term n k)
flat-terms n end_of-Term = refl
flat-terms n (more_of-Term t rest) = ap (λ os. term_occurrences t ++ os) (flat-terms _ rest)

pub term_flat : (t : Term) → term_occurrences t ≡ flat_map factor_occurrences (out-Term t).factors
term_flat (Term' at negative literal shape factors) = flat-factors _ factors ∙ of_term (flat_map factor_occurrences) at negative literal shape factors

pub sum_flat : (s : Sum) → sum_occurrences s ≡ flat_map term_occurrences (out-Sum s).terms
sum_flat (Sum' at shape terms) = flat-terms _ terms ∙ of_sum (flat_map term_occurrences) at shape terms
