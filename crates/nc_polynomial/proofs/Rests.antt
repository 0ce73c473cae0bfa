-- The coefficients of a list whose first term is taken.
use Rattle.nc_polynomial.proofs.Prelude.{◌≡◌, List, ◌++◌, Option, Some, None, subst, All, option_to_list, All-tail, IsCoefficient, Term}

pub coefficients_rest : (xs ys : List Term) (o : Option Term) → xs ≡ option_to_list o ++ ys → All (λ t. IsCoefficient t.0) xs → All (λ t. IsCoefficient t.0) ys
coefficients_rest xs ys None e h = subst (All (λ t. IsCoefficient t.0)) e h
coefficients_rest xs ys (Some x) e h = All-tail (λ t. IsCoefficient t.0) x ys (subst (All (λ t. IsCoefficient t.0)) e h)
