-- The polynomial of terms in any order, in which a word may occur more than once.
use Rattle.std.specs.Prelude.{List, [], ◌∷◌, ◌++◌, Result, ℕ, ℤ, pos, unwrap_or}
use Rattle.std.specs.BTreeMap.{BTreeMap, get}
use Rattle.coef_int.specs.declared.Overflow.{Overflow}
use Rattle.coef_int.specs.Operations.{sum_of}
use Rattle.definitions.specs.Poly.{Term, coefficient_of}
use Rattle.word_core.specs.Canonical.{word_cmp}
use Rattle.nc_polynomial.specs.declared.fault.PolyFault.{PolyFault}
use Rattle.nc_polynomial.specs.Terms.{added}
use Rattle.nc_polynomial.specs.Faults.{finished}

-- the sum of the terms as a descending list
abbrev pub collected : List Term → List Term
collected [] = []
collected (t ∷ terms) = added (t ∷ []) (collected terms)

-- the sums in order: each term is added to the coefficient that its word has in the terms before it
abbrev pub additions : List Term → List Term → List Overflow
additions done [] = []
additions done (t ∷ rest) = sum_of (coefficient_of done t.1) t.0 ∷ additions (done ++ t ∷ []) rest

-- the sum of the terms, or its first fault
abbrev pub collection_result : List Term → Result (List Term) PolyFault
collection_result terms = finished (additions [] terms) (collected terms)

-- the coefficient of the word in a table of words, or 0 where it is not listed
abbrev pub coefficient_in : BTreeMap (List ℕ) ℤ → List ℕ → ℤ
coefficient_in table w = unwrap_or (get word_cmp table w) (pos 0)
