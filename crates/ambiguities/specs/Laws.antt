-- The laws of S-polynomials: their rows, their words and their types.
use Rattle.std.specs.Prelude.{◌≡◌, ◌≢◌, ◌⊎◌, ℕ, pos, List, [], ◌++◌, Ok}
use Rattle.std.specs.List.{All}
use Rattle.definitions.specs.Poly.{Term, SamePolynomial, coefficient_of}
use Rattle.definitions.specs.Quiver.{Quiver, IsPath, IsTyped}
use Rattle.word_core.specs.Letters.{IsOver}
use Rattle.word_orders.specs.Admissible.{Compare, IsAdmissible}
use Rattle.word_orders.specs.Orders.{IsBelow}
use Rattle.traced_rows.specs.declared.Row.{Row}
use Rattle.traced_rows.specs.Traces.{origin_poly, traced_sum}
use Rattle.rule_reduce.specs.declared.rule.Rule.{Rule}
use Rattle.rule_reduce.specs.RuleLists.{IsRule, polynomials_of}
use Rattle.rule_reduce.specs.KeptWords.{IsTypedRule}
use Rattle.ambiguities.specs.declared.ambiguity.Ambiguity.{Ambiguity}
use Rattle.ambiguities.specs.Ambiguities.{IsAmbiguity, overlap_word_of}
use Rattle.ambiguities.specs.SPolynomials.{s_rows_of, s_polynomial_of}

-- The S-polynomial is the sum of its rows over the rules.
abbrev pub SPolynomialsBalance : Type 0
SPolynomialsBalance = (rules : List Rule) (a : Ambiguity) (p : List Term) → s_polynomial_of rules a ≡ Ok p
    → SamePolynomial p (traced_sum [] (polynomials_of rules) (s_rows_of rules a))

-- l w r has the property for each word w of g in the row c l g r
abbrev pub EachOfRow : (List ℕ → Type 0) → List Rule → Row → Type 0
EachOfRow P rules row = (w : List ℕ) → coefficient_of (origin_poly [] (polynomials_of rules) row.from) w ≢ pos 0 → P (row.left ++ (w ++ row.right))

-- The word is over the letters, each word of the polynomial is below it, and no word of the multiples of the rows is above it.
pub record IsBound (letters : ℕ) (compare : Compare) (rules : List Rule) (p : List Term) (rows : List Row) (bound : List ℕ) : Type 0 where
  pub over : IsOver letters bound
  pub polynomial : (w : List ℕ) → coefficient_of p w ≢ pos 0 → IsBelow letters compare w bound
  pub rows_at_most : All (EachOfRow (λ w. (w ≡ bound) ⊎ IsBelow letters compare w bound) rules) rows

-- The leading words cancel: the overlap word is such a bound.
abbrev pub LeadingWordsCancel : Type 0
LeadingWordsCancel = (letters : ℕ) (compare : Compare) (rank : List ℕ → List ℕ) (rules : List Rule) (a : Ambiguity) (p : List Term)
    → IsAdmissible letters compare rank → All (IsRule letters compare) rules → IsAmbiguity rules a → s_polynomial_of rules a ≡ Ok p
    → IsBound letters compare rules p (s_rows_of rules a) (overlap_word_of rules a)

-- All words of the polynomial, the word itself and all words of the multiples of the rows are paths of one signature.
pub record HasOneSignature (q : Quiver) (rules : List Rule) (p : List Term) (rows : List Row) (word : List ℕ) : Type 0 where
  pub source : ℕ
  pub target : ℕ
  pub word_is_path : IsPath q source target word
  pub typed : IsTyped q source target p
  pub rows_are_typed : All (EachOfRow (IsPath q source target) rules) rows

-- Where the rules are typed, the overlap word is a path, and the S-polynomial and its rows have its signature.
abbrev pub SPolynomialsAreTyped : Type 0
SPolynomialsAreTyped = (q : Quiver) (letters : ℕ) (compare : Compare) (rules : List Rule) (a : Ambiguity) (p : List Term)
    → All (IsRule letters compare) rules → All (IsTypedRule q) rules → IsAmbiguity rules a → s_polynomial_of rules a ≡ Ok p
    → HasOneSignature q rules p (s_rows_of rules a) (overlap_word_of rules a)
