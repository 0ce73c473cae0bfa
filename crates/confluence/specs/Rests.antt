-- The rest of a reduction, with rows that add up to it, and the rule that is made of it.
use Rattle.std.specs.Prelude.{◌≡◌, ◌≤◌, ◌<ℤ◌, ℕ, ℤ, pos, neg_ℤ, List, [], ◌∷◌, ◌++◌, map, length, Bool, if◌then◌else◌}
use Rattle.std.specs.List.{All}
use Rattle.definitions.specs.Poly.{Term, SamePolynomial, poly_multiple}
use Rattle.word_orders.specs.Admissible.{Compare}
use Rattle.traced_rows.specs.declared.Origin.{Origin}
use Rattle.traced_rows.specs.declared.Origin.TheVariants as origin
use Rattle.traced_rows.specs.declared.Row.{Row}
use Rattle.traced_rows.specs.declared.Made.{Made}
use Rattle.traced_rows.specs.Traces.{traced_sum}
use Rattle.rule_reduce.specs.declared.rule.Rule.{Rule}
use Rattle.rule_reduce.specs.declared.state.State.{State}
use Rattle.rule_reduce.specs.RuleLists.{IsRule, polynomials_of}
use Rattle.rule_reduce.specs.Steps.{multiplied_row}
use Rattle.confluence.specs.Reductions.{IsZero}

-- rows
abbrev pub negated_row : Row → Row
negated_row row = record row { coef = neg_ℤ row.coef }

abbrev pub negated_rows : List Row → List Row
negated_rows rows = map negated_row rows

-- the rows of a generator times the multiplier of its reduction, less the rows of that
abbrev pub generator_rows : ℕ → State → List Row
generator_rows number s = record { coef = s.multiplier; left = []; from = origin.Generator number; right = [] } ∷ negated_rows s.rows

-- rows times the multiplier of a reduction, less the rows of that
abbrev pub rows_less : List Row → State → List Row
rows_less rows s = map (multiplied_row s.multiplier) rows ++ negated_rows s.rows

-- one of the first generators, or of the first rules, by these counts
abbrev pub IsEarlier : ℕ → ℕ → Origin → Type 0
IsEarlier generators rules (origin.Generator n) = (1 ≤ n) × (n ≤ generators)
IsEarlier generators rules (origin.Rule n) = (1 ≤ n) × (n ≤ rules)

-- The rows are over generators and rules, and their sum is the polynomial.
pub record AddsUpTo (generators : List (List Term)) (rules : List Rule) (p : List Term) (rows : List Row) : Type 0 where
  pub over : All (λ row. IsEarlier (length generators) (length rules) row.from) rows
  pub sum : SamePolynomial (traced_sum generators (polynomials_of rules) rows) p

-- the integer, or its negative
abbrev pub signed : Bool → ℤ → ℤ
signed negated k = if negated then neg_ℤ k else k

abbrev pub signed_rows : Bool → List Row → List Row
signed_rows negated rows = if negated then negated_rows rows else rows

-- The rest is the scale, or its negative, times the rule. The rows of the record are those of the rest, or their negatives.
pub record IsMadeOf (letters : ℕ) (compare : Compare) (rest : List Term) (rows : List Row) (g : Rule) (m : Made) : Type 0 where
  pub is_rule : IsRule letters compare g
  pub positive : pos 0 <ℤ m.scale
  pub negated : Bool
  pub divided : SamePolynomial (poly_multiple (signed negated m.scale) g.poly.terms) rest
  pub rows_are : m.rows ≡ signed_rows negated rows

-- Where the rest is zero the rules and their records stay, and otherwise a rule that is made of it is appended.
pub data IsAppended (letters : ℕ) (compare : Compare) (rest : List Term) (rows : List Row) (rules : List Rule) (made : List Made)
    (rules_after : List Rule) (made_after : List Made) : Type 0 where
  nothing_left : IsZero rest → rules_after ≡ rules → made_after ≡ made → IsAppended letters compare rest rows rules made rules_after made_after
  rule_made : (g : Rule) (m : Made) → IsMadeOf letters compare rest rows g m → rules_after ≡ rules ++ (g ∷ []) → made_after ≡ made
      ++ (m ∷ []) → IsAppended letters compare rest rows rules made rules_after made_after
