-- The invariant of a completion, which holds after each generator and each ambiguity that it treats.
use Rattle.std.specs.Prelude.{◌≡◌, ◌≢◌, ◌<◌, ◌≤◌, ◌<ℤ◌, ℕ, ℤ, pos, List, [], ◌∷◌, ◌++◌, length, slice_get, Some}
use Rattle.std.specs.List.{All}
use Rattle.definitions.specs.Poly.{Term, SamePolynomial, coefficient_of}
use Rattle.definitions.specs.Combination.{Row as Multiple, generator_at, IsCombination}
use Rattle.word_core.specs.Occurrence.{OccursNowhere}
use Rattle.word_orders.specs.Admissible.{Compare, IsAdmissible}
use Rattle.traced_rows.specs.declared.Made.{Made}
use Rattle.cofactor_trace.specs.Laws.{AreTraces}
use Rattle.rule_reduce.specs.declared.rule.Rule.{Rule}
use Rattle.rule_reduce.specs.declared.state.State.{State}
use Rattle.rule_reduce.specs.RuleLists.{IsRule, rule_at, polynomials_of}
use Rattle.rule_reduce.specs.KeptWords.{IsAtMostOf}
use Rattle.ambiguities.specs.declared.ambiguity.Ambiguity.{Ambiguity}
use Rattle.ambiguities.specs.Ambiguities.{IsAmbiguity}
use Rattle.ambiguities.specs.SPolynomials.{s_rows_of}
use Rattle.ambiguities.specs.Resolved.{s_sum, IsResolved}
use Rattle.confluence.specs.Reductions.{IsZero, HasLettersBelow, IsReduced}
use Rattle.confluence.specs.Rests.{generator_rows, rows_less, IsEarlier, IsAppended}

-- the leading word of each rule occurs in that of no later one
pub record AreApart (rules : List Rule) : Type 0 where
  pub each : (i n : ℕ) (g h : Rule) → rule_at rules i ≡ Some g → rule_at rules n ≡ Some h → i < n → OccursNowhere h.lead g.lead

-- the scale is positive, and the rows are over generators and this many rules
pub record IsRecorded (generators rules : ℕ) (m : Made) : Type 0 where
  pub positive : pos 0 <ℤ m.scale
  pub earlier : All (λ row. IsEarlier generators rules row.from) m.rows

-- The record of each rule is over generators and the rules before it, and its rows add up to its scale times the rule.
pub record AreRecorded (generators : List (List Term)) (rules : List Rule) (made : List Made) : Type 0 where
  pub one_each : length made ≡ length rules
  pub each : (place : ℕ) (m : Made) → slice_get made place ≡ Some m → IsRecorded (length generators) place m
  pub traces : AreTraces generators (polynomials_of rules) made

-- Some positive multiple of the polynomial is a sum of rows over the rules in which each word is at most a word of it.
pub record IsReached (letters : ℕ) (compare : Compare) (rules : List Rule) (p : List Term) : Type 0 where
  pub denominator : ℤ
  pub rows : List Multiple
  pub combination : IsCombination (polynomials_of rules) rows denominator p
  pub at_most : All (λ r. (w : List ℕ) → coefficient_of (generator_at (polynomials_of rules) r.generator) w ≢ pos 0
      → IsAtMostOf letters compare p (r.left ++ (w ++ r.right))) rows

-- The invariant, where the generators with the listed numbers were reduced, and the listed ambiguities were treated.
pub record Kept (letters : ℕ) (compare : Compare) (generators : List (List Term)) (rules : List Rule) (made : List Made) (done : List ℕ)
    (treated : List Ambiguity) : Type 0 where
  pub are_rules : All (IsRule letters compare) rules
  pub apart : AreApart rules
  pub recorded : AreRecorded generators rules made
  pub reached : All (λ n. IsReached letters compare rules (generator_at generators n)) done
  pub resolved : All (IsResolved letters compare rules) treated

-- It holds where there are no rules.
abbrev pub StartIsKept : Type 0
StartIsKept = (letters : ℕ) (compare : Compare) (generators : List (List Term)) → Kept letters compare generators [] [] [] []

-- each generator has its letters below the number
abbrev pub HaveLettersBelow : ℕ → List (List Term) → Type 0
HaveLettersBelow letters generators = (n : ℕ) → HasLettersBelow letters (generator_at generators n)

-- A generator is reduced by the rules so far, and its rest is appended.
-- The order is admissible by `WordOrder`; the letters are those that `Rules::normal_form` requires of a polynomial; its clause and
-- the law `normal_forms_are_reduced` give the reduction, and the law `pushed_rules_are_made` the rule.
abbrev pub GeneratorsAreKept : Type 0
GeneratorsAreKept = (letters : ℕ) (compare : Compare) (rank : List ℕ → List ℕ) (generators : List (List Term)) (rules : List Rule)
    (made : List Made) (done : List ℕ) (treated : List Ambiguity) (n : ℕ) (s : State) (rules_after : List Rule) (made_after : List Made)
    → IsAdmissible letters compare rank → HaveLettersBelow letters generators → 1 ≤ n → n ≤ length generators
    → Kept letters compare generators rules made done treated
    → IsReduced letters compare rules (generator_at generators n) s
    → IsAppended letters compare s.rest (generator_rows n s) rules made rules_after made_after
    → Kept letters compare generators rules_after made_after (done ++ (n ∷ [])) treated

-- The S-polynomial is reduced by the rules from the start of a round, then its rest by these and those that the round has
-- appended, and what is left is appended. It is the sum of its rows by `s_poly` and the law `s_polynomials_balance`.
pub record IsTreated (letters : ℕ) (compare : Compare) (start more : List Rule) (made : List Made) (a : Ambiguity)
    (rules_after : List Rule) (made_after : List Made) : Type 0 where
  pub ambiguity : IsAmbiguity start a
  pub s_polynomial : List Term
  pub is_sum : SamePolynomial s_polynomial (s_sum start a)
  pub first : State
  pub is_first : IsReduced letters compare start s_polynomial first
  pub second : State
  pub is_second : IsReduced letters compare (start ++ more) first.rest second
  pub appended : IsAppended letters compare second.rest (rows_less (rows_less (s_rows_of start a) first) second) (start ++ more) made rules_after made_after

abbrev pub AmbiguitiesAreKept : Type 0
AmbiguitiesAreKept = (letters : ℕ) (compare : Compare) (rank : List ℕ → List ℕ) (generators : List (List Term)) (start more : List Rule)
    (made : List Made) (done : List ℕ) (treated : List Ambiguity) (a : Ambiguity) (rules_after : List Rule) (made_after : List Made)
    → IsAdmissible letters compare rank → HaveLettersBelow letters generators
    → Kept letters compare generators (start ++ more) made done treated
    → IsTreated letters compare start more made a rules_after made_after
    → Kept letters compare generators rules_after made_after done (treated ++ (a ∷ []))

-- Where the rest of the first reduction is zero, the rules stay.
abbrev pub ResolvedAtOnceIsKept : Type 0
ResolvedAtOnceIsKept = (letters : ℕ) (compare : Compare) (rank : List ℕ → List ℕ) (generators : List (List Term)) (start more : List Rule)
    (made : List Made) (done : List ℕ) (treated : List Ambiguity) (a : Ambiguity) (p : List Term) (s : State)
    → IsAdmissible letters compare rank
    → Kept letters compare generators (start ++ more) made done treated
    → IsAmbiguity start a → SamePolynomial p (s_sum start a) → IsReduced letters compare start p s → IsZero s.rest
    → Kept letters compare generators (start ++ more) made done (treated ++ (a ∷ []))
