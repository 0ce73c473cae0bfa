-- Two leading words in one word.
use Rattle.std.specs.Prelude.{◌≡◌, ◌⊎◌, ℕ, neg_ℤ, List, ◌++◌, Some}
use Rattle.std.specs.List.{All}
use Rattle.definitions.specs.Poly.{Term, poly_sum, poly_multiple, poly_between}
use Rattle.word_core.specs.Letters.{IsOver}
use Rattle.word_orders.specs.Admissible.{Compare, IsAdmissible}
use Rattle.rule_reduce.specs.declared.rule.Rule.{Rule}
use Rattle.rule_reduce.specs.RuleLists.{IsRule, rule_at, polynomials_of}
use Rattle.ambiguities.specs.declared.ambiguity.Ambiguity.{Ambiguity}
use Rattle.ambiguities.specs.Ambiguities.{IsAmbiguity, overlap_word_of}
use Rattle.ambiguities.specs.SPolynomials.{first_row, second_row}
use Rattle.ambiguities.specs.Resolved.{ComesBelow}

-- the rule with a number, and the letters before and after its leading word
pub record Place : Type 0 where
  pub number : ℕ
  pub rule : Rule
  pub left : List ℕ
  pub right : List ℕ

-- the leading word is at that place in the word
pub record IsPlace (rules : List Rule) (word : List ℕ) (p : Place) : Type 0 where
  pub numbered : rule_at rules p.number ≡ Some p.rule
  pub splits : word ≡ p.left ++ (p.rule.lead ++ p.right)

-- one rule at one place
pub record IsOnePlace (p q : Place) : Type 0 where
  pub number : p.number ≡ q.number
  pub left : p.left ≡ q.left
  pub right : p.right ≡ q.right

-- the first leading word ends before the second one begins, or where it begins
pub record IsApart (p q : Place) : Type 0 where
  pub between : List ℕ
  pub left : q.left ≡ p.left ++ (p.rule.lead ++ between)
  pub right : p.right ≡ between ++ (q.rule.lead ++ q.right)

-- the places are those of an ambiguity, whose overlap word has some letters on either side
pub record IsFromAmbiguity (rules : List Rule) (word : List ℕ) (p q : Place) : Type 0 where
  pub ambiguity : Ambiguity
  pub is_ambiguity : IsAmbiguity rules ambiguity
  pub first : ambiguity.i ≡ p.number
  pub second : ambiguity.j ≡ q.number
  pub before : List ℕ
  pub behind : List ℕ
  pub splits : word ≡ before ++ (overlap_word_of rules ambiguity ++ behind)
  pub first_left : p.left ≡ before ++ (first_row rules ambiguity).left
  pub first_right : p.right ≡ (first_row rules ambiguity).right ++ behind
  pub second_left : q.left ≡ before ++ (second_row rules ambiguity).left
  pub second_right : q.right ≡ (second_row rules ambiguity).right ++ behind

-- Two leading words in one word are of one rule at one place, or apart, or come from an ambiguity, in one order or the other.
abbrev pub PlacesOfOneWord : Type 0
PlacesOfOneWord = (rules : List Rule) (word : List ℕ) (p q : Place) → IsPlace rules word p → IsPlace rules word q
    → IsOnePlace p q ⊎ ((IsApart p q ⊎ IsApart q p) ⊎ (IsFromAmbiguity rules word p q ⊎ IsFromAmbiguity rules word q p))

-- l g r of a rule at a place
abbrev pub place_poly : Place → List Term
place_poly p = poly_between p.left p.rule.poly.terms p.right

-- Rows at places apart differ by lower rows: the leading coefficient of the second rule times the first row, less that of
-- the first rule times the second row, comes from the rules below the word.
abbrev pub RowsApartDiffer : Type 0
RowsApartDiffer = (letters : ℕ) (compare : Compare) (rank : List ℕ → List ℕ) (rules : List Rule) (word : List ℕ) (p q : Place)
    → IsAdmissible letters compare rank → All (IsRule letters compare) rules → IsOver letters word
    → IsPlace rules word p → IsPlace rules word q → IsApart p q
    → ComesBelow letters compare (polynomials_of rules) word (poly_sum (poly_multiple q.rule.leading (place_poly p))
    (poly_multiple (neg_ℤ p.rule.leading) (place_poly q)))
