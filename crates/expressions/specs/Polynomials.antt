-- The polynomial of an expression, or the first fault of its arithmetic.
use Rattle.std.specs.Prelude.{ℕ, zero, suc, ℤ, pos, negsuc, Bool, true, false, List, [], ◌∷◌, replicate, Option, Some, None, Result, Ok}
use Rattle.definitions.specs.Poly.{Poly}
use Rattle.definitions.specs.Quiver.{Quiver}
use Rattle.definitions.specs.Generators.{adjoint_poly}
use Rattle.nc_polynomial.specs.declared.fault.PolyFault.{PolyFault}
use Rattle.nc_polynomial.specs.Terms.{negated}
use Rattle.nc_polynomial.specs.Arithmetic.{sum_result, difference_result, multiple_result}
use Rattle.nc_polynomial.specs.Collected.{collection_result}
use Rattle.nc_polynomial.specs.Product.{product_result}
use Rattle.quiver.specs.Declarations.{Declaration, quiver_of, identity_in}
use Rattle.statement_syntax.specs.declared.tree.Mark.{Mark}
use Rattle.statement_syntax.specs.declared.tree.Mark.TheVariants.{Adjoint, Power}
use Rattle.statement_syntax.specs.declared.tree.Number.{Number}
use Rattle.statement_syntax.specs.declared.tree.Primary.{Primary, Letter, Identity, Bracket}
use Rattle.statement_syntax.specs.declared.tree.Factor.{Factor}
use Rattle.statement_syntax.specs.declared.tree.Term.{Term, Term', Row_of-Factor, end_of-Factor, more_of-Factor}
use Rattle.statement_syntax.specs.declared.tree.Sum.{Sum, Sum', Row_of-Term, end_of-Term, more_of-Term}
use Rattle.expressions.specs.Results.{◌>>=◌}
use Rattle.abbreviations.specs.Names.{letter_of, object_of}

abbrev pub letter_poly : ℕ → Poly
letter_poly a = (pos 1, a ∷ []) ∷ []

-- the product of this part and the factors, from the left
abbrev pub product_from : Poly → List Poly → Result Poly PolyFault
product_from so_far [] = Ok so_far
product_from so_far (p ∷ polys) = product_result so_far p >>= λ next. product_from next polys

-- a product of these factors; a term without factors is zero
abbrev pub product_poly : List Poly → Result Poly PolyFault
product_poly [] = Ok []
product_poly (p ∷ polys) = product_from p polys

-- the power of the polynomial; an exponent below 1, which no statement has, leaves it as it is
abbrev pub power_poly : ℤ → Poly → Result Poly PolyFault
power_poly (pos (suc n)) p = product_poly (replicate (suc n) p)
power_poly (pos zero) p = Ok p
power_poly (negsuc n) p = Ok p

-- a quote reverses the words and takes the adjoints of their letters, a caret takes the power of what is before it
abbrev pub mark_poly : Quiver → Mark → Poly → Result Poly PolyFault
mark_poly q Adjoint p = collection_result (adjoint_poly q p)
mark_poly q (Power at exponent) p = power_poly exponent.value p

-- the marks from the left
abbrev pub marked_poly : Quiver → List Mark → Poly → Result Poly PolyFault
marked_poly q [] p = Ok p
marked_poly q (m ∷ marks) p = mark_poly q m p >>= marked_poly q marks

abbrev pub scaled_by : Option Number → Poly → Result Poly PolyFault
scaled_by None p = Ok p
scaled_by (Some n) p = multiple_result n.value p

-- a term with whether it is subtracted
abbrev pub Summand : Type 0
Summand = Bool × Poly

-- the first term
abbrev pub signed : Summand → Poly
signed (false, p) = p
signed (true, p) = negated p

abbrev pub sum_step : Poly → Summand → Result Poly PolyFault
sum_step so_far (false, p) = sum_result so_far p
sum_step so_far (true, p) = difference_result so_far p

abbrev pub sum_from : Poly → List Summand → Result Poly PolyFault
sum_from so_far [] = Ok so_far
sum_from so_far (s ∷ summands) = sum_step so_far s >>= λ next. sum_from next summands

-- a sum of these terms from the left
abbrev pub total : List Summand → Result Poly PolyFault
total [] = Ok []
total (s ∷ summands) = sum_from (signed s) summands

abbrev pub is_negative : Term → Bool
is_negative (Term' at negative literal shape factors) = negative

-- A product and a sum are one node each: all parts from the left, and then the node.
abbrev mutual
  pub sum_poly : List Declaration → Sum → Result Poly PolyFault
  sum_poly ds (Sum' at shape terms) = summands ds terms >>= total

  pub summands : {m : _} → List Declaration → Row_of-Term m → Result (List Summand) PolyFault
  summands ds end_of-Term = Ok []
  summands ds (more_of-Term t rest) = do
    summand ← term_poly ds t >>= λ p. Ok (is_negative t, p)
    others ← summands ds rest
    Ok (summand ∷ others)

  pub term_poly : List Declaration → Term → Result Poly PolyFault
  term_poly ds (Term' at negative literal shape factors) = (factor_polys ds factors >>= product_poly) >>= scaled_by literal

  pub factor_polys : {m : _} → List Declaration → Row_of-Factor m → Result (List Poly) PolyFault
  factor_polys ds end_of-Factor = Ok []
  factor_polys ds (more_of-Factor at primary marks rest) = do
    p ← primary_poly ds primary >>= marked_poly (quiver_of ds) marks
    others ← factor_polys ds rest
    Ok (p ∷ others)

  pub primary_poly : List Declaration → Primary → Result Poly PolyFault
  primary_poly ds (Letter n) = Ok (letter_poly (letter_of ds n))
  primary_poly ds (Identity n) = Ok (letter_poly (identity_in ds (object_of ds n)))
  primary_poly ds (Bracket s) = sum_poly ds s

abbrev pub factor_poly : List Declaration → Factor → Result Poly PolyFault
factor_poly ds f = primary_poly ds f.primary >>= marked_poly (quiver_of ds) f.marks

-- left minus right
abbrev pub equation_poly : List Declaration → Sum → Sum → Result Poly PolyFault
equation_poly ds left right = do
  p ← sum_poly ds left
  r ← sum_poly ds right
  difference_result p r
