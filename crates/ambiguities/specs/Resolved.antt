-- When ambiguities are resolved.
use Rattle.std.specs.Prelude.{ℕ, ℤ, Bool, List, [], ◌&&◌, nat_lt}
use Rattle.std.specs.List.{list_all}
use Rattle.std.specs.Ordering.{is_lt}
use Rattle.definitions.specs.Poly.{Poly}
use Rattle.definitions.specs.Combination.{Row, IsCombinationBelow}
use Rattle.word_orders.specs.Admissible.{Compare}
use Rattle.word_orders.specs.Orders.{IsBelow}
use Rattle.traced_rows.specs.Traces.{traced_sum}
use Rattle.rule_reduce.specs.declared.rule.Rule.{Rule}
use Rattle.rule_reduce.specs.RuleLists.{polynomials_of}
use Rattle.ambiguities.specs.declared.ambiguity.Ambiguity.{Ambiguity}
use Rattle.ambiguities.specs.Ambiguities.{IsAmbiguity, overlap_word_of}
use Rattle.ambiguities.specs.SPolynomials.{s_rows_of}

-- whether all letters of the word are below the number
abbrev pub is_over : ℕ → List ℕ → Bool
is_over letters word = list_all (λ letter. nat_lt letter letters) word

-- whether both words are over the letters below the number, and the first is below the second
abbrev pub is_below : ℕ → Compare → List ℕ → List ℕ → Bool
is_below letters compare u v = is_over letters u && (is_over letters v && is_lt (compare u v))

-- Some positive multiple of the polynomial is a combination of the others in which all words are below the bound.
pub record ComesBelow (letters : ℕ) (compare : Compare) (polys : List Poly) (bound : List ℕ) (p : Poly) : Type 0 where
  pub denominator : ℤ
  pub rows : List Row
  pub combination : IsCombinationBelow (is_below letters compare) polys bound rows denominator p

-- the sum of the two rows of the S-polynomial
abbrev pub s_sum : List Rule → Ambiguity → Poly
s_sum rules a = traced_sum [] (polynomials_of rules) (s_rows_of rules a)

-- It is an ambiguity of the rules, and its S-polynomial comes from the rules below the overlap word.
pub record IsResolved (letters : ℕ) (compare : Compare) (rules : List Rule) (a : Ambiguity) : Type 0 where
  pub ambiguity : IsAmbiguity rules a
  pub below : ComesBelow letters compare (polynomials_of rules) (overlap_word_of rules a) (s_sum rules a)

-- Each ambiguity of the rules whose overlap word is below the word is resolved.
pub record ResolvedBelow (letters : ℕ) (compare : Compare) (rules : List Rule) (word : List ℕ) : Type 0 where
  pub each : (a : Ambiguity) → IsAmbiguity rules a → IsBelow letters compare (overlap_word_of rules a) word → IsResolved letters compare rules a

-- Each ambiguity of the rules is resolved.
pub record Resolved (letters : ℕ) (compare : Compare) (rules : List Rule) : Type 0 where
  pub each : (a : Ambiguity) → IsAmbiguity rules a → IsResolved letters compare rules a
