-- What the cause of a halt says about the run of a problem.
use Rattle.std.specs.Prelude.{◌≡◌, ◌≢◌, ◌≤◌, ℕ, suc, ℤ, neg_ℤ, Bool, true, List, [], ◌∷◌, ◌++◌, if◌then◌else◌, map, length, Option, Some, Contains}
use Rattle.std.specs.List.{All, AllPairs}
use Rattle.coef_int.specs.declared.Overflow.{Overflow}
use Rattle.coef_int.specs.Operations.{product_of, exact_value}
use Rattle.coef_int.specs.Range.{IsCoefficient}
use Rattle.definitions.specs.Poly.{Term, SamePolynomial, poly_multiple}
use Rattle.definitions.specs.Combination.{InRationalIdeal, generator_at}
use Rattle.word_orders.specs.Specified.{asked_cmp}
use Rattle.nc_polynomial.specs.Content.{IsContent}
use Rattle.nc_polynomial.specs.Shape.{IsShaped}
use Rattle.quiver.specs.Declarations.{letter_count}
use Rattle.traced_rows.specs.declared.Origin.TheVariants as origin
use Rattle.traced_rows.specs.declared.Row.{Row}
use Rattle.traced_rows.specs.declared.Made.{Made}
use Rattle.cofactor_trace.specs.Laws.{Traces}
use Rattle.cofactor_trace.specs.declared.halt.Cause.{Cause}
use Rattle.cofactor_trace.specs.declared.halt.Cause.TheVariants as cause
use Rattle.cofactor_trace.specs.declared.halt.Place.{Place}
use Rattle.cofactor_trace.specs.declared.halt.Place.TheVariants as place
use Rattle.rule_reduce.specs.declared.rule.Rule.{Rule}
use Rattle.rule_reduce.specs.RuleLists.{IsRule, rule_at, polynomials_of}
use Rattle.ambiguities.specs.declared.ambiguity.Ambiguity.{Ambiguity}
use Rattle.ambiguities.specs.Ambiguities.{IsAmbiguity, overlap_word_of}
use Rattle.ambiguities.specs.SPolynomials.{first_row, second_row, s_rows_of}
use Rattle.ambiguities.specs.Resolved.{IsResolved, s_sum}
use Rattle.adjoint_rules.specs.declared.problem.Problem.{Problem}
use Rattle.adjoint_rules.specs.Problem.{polynomials}
use Rattle.adjoint_rules.specs.Claims.{claim_at}
use Rattle.confluence.specs.Kept.{AreApart, AreRecorded}
use Rattle.confluence.specs.Conclusions.{NothingPendingBelow}
use Rattle.traced_completion.specs.declared.budget.Budget.{Budget}
use Rattle.outcome_laws.specs.Certificates.{IsOfCertificate, HasLongRow, HasManyRows}
use Rattle.outcome_laws.specs.ReductionSteps.{Reduced, unreduced, row_times, HasOneMore, IsOfReduction, IsTooLarge, GetsTooLarge, Leaves, row_words, IsOfSum}

-- The polynomial has each word once, and is the sum of the two multiples in the S-polynomial of an ambiguity of the rules.
pub record IsSPolynomial (rules : List Rule) (p : List Term) : Type 0 where
  pub ambiguity : Ambiguity
  pub is : IsAmbiguity rules ambiguity
  pub shaped : IsShaped p
  pub is_sum : SamePolynomial p (s_sum rules ambiguity)

-- This is the rest of an S-polynomial of some first rules by these.
pub record IsFirstReduction (problem : Problem) (budget : Budget) (rules : List Rule) (now : Reduced) : Type 0 where
  pub first : List Rule
  pub more : List Rule
  pub begins : rules ≡ first ++ more
  pub polynomial : List Term
  pub is : IsSPolynomial first polynomial
  pub leaves : Leaves (asked_cmp problem.parts.order) first budget.steps (unreduced polynomial) now

-- times -1
abbrev pub negative : Row → Row
negative row = record row { coef = neg_ℤ row.coef }

abbrev pub negatives : List Row → List Row
negatives rows = map negative rows

-- rows times the multiplier of a reduction, less its rows
abbrev pub rows_less : List Row → Reduced → List Row
rows_less rows r = map (row_times r.multiplier) rows ++ negatives r.taken

-- the rows that add up to the rest of a generator
abbrev pub rows_of_generator : ℕ → Reduced → List Row
rows_of_generator n r = record { coef = r.multiplier; left = []; from = origin.Generator n; right = [] } ∷ negatives r.taken

-- The rest by the rules so far: of a generator, or of the rest of an S-polynomial of some first rules by these.
-- These are the rows that add up to it.
pub data IsLeftBy (problem : Problem) (budget : Budget) (rules : List Rule) (rest : List Term) (rows : List Row) : Type 0 where
  from_generator : (n : ℕ) (now : Reduced) → 1 ≤ n → n ≤ length problem.generators
      → Leaves (asked_cmp problem.parts.order) rules budget.steps (unreduced (generator_at (polynomials problem.generators) n)) now
      → rest ≡ now.rest → rows ≡ rows_of_generator n now → IsLeftBy problem budget rules rest rows
  from_ambiguity : (first now : Reduced) → (is : IsFirstReduction problem budget rules first)
      → Leaves (asked_cmp problem.parts.order) rules budget.steps (unreduced first.rest) now → rest ≡ now.rest
      → rows ≡ rows_less (rows_less (s_rows_of is.first is.is.ambiguity) first) now → IsLeftBy problem budget rules rest rows

-- The rest is the rule times the greatest common divisor of the rest's coefficients, or times the negative of that. The record of the rule
-- has this divisor, and the rows of the rest or their negatives.
pub record IsRuleOf (rest : List Term) (rows : List Row) (g : Rule) (m : Made) : Type 0 where
  pub content : ℤ
  pub is_content : IsContent rest content
  pub negated : Bool
  pub divided : poly_multiple (if negated then neg_ℤ content else content) g.poly.terms ≡ rest
  pub scale_is : m.scale ≡ content
  pub rows_are : m.rows ≡ (if negated then negatives rows else rows)

-- Rules that are made one after another, and their records.
pub data AreMade (problem : Problem) (budget : Budget) : List Rule → List Made → Type 0 where
  no_rule : AreMade problem budget [] []
  one_more : (rules : List Rule) (records : List Made) (rest : List Term) (rows : List Row) (g : Rule) (m : Made) → AreMade problem budget rules records
      → IsLeftBy problem budget rules rest rows → IsRuleOf rest rows g m → AreMade problem budget (rules ++ g ∷ []) (records ++ m ∷ [])

-- Rules in the order of the problem, made one after another. Some positive multiple of each is a combination of the generators,
-- and its leading word occurs in that of no later one.
pub record AreRulesOf (problem : Problem) (budget : Budget) (rules : List Rule) : Type 0 where
  pub are_rules : All (IsRule (letter_count problem.parts.quiver) (asked_cmp problem.parts.order)) rules
  pub records : List Made
  pub made : AreMade problem budget rules records
  pub apart : AreApart rules
  pub inside : (n : ℕ) (g : Rule) → rule_at rules n ≡ Some g → InRationalIdeal (polynomials problem.generators) g.poly.terms

-- Between two rounds as many ambiguities were treated as the budget has pairs, each once: they are ambiguities of the rules, and resolved.
-- One of the rules is pending, and the word is the least overlap word of the pending ones.
pub record PairsAreSpent (problem : Problem) (budget : Budget) (at : Place) (least : Option (List ℕ)) (spent : ℕ) : Type 0 where
  pub place_is : at ≡ place.Run
  pub budget_is : spent ≡ budget.pairs
  pub rules : List Rule
  pub are_rules : AreRulesOf problem budget rules
  pub treated : List Ambiguity
  pub many : length treated ≡ spent
  pub distinct : AllPairs (λ a b. a ≢ b) treated
  pub resolved : All (IsResolved (letter_count problem.parts.quiver) (asked_cmp problem.parts.order) rules) treated
  pub left : Ambiguity
  pub is_left : IsAmbiguity rules left
  pub untreated : Contains treated left → ⊥
  pub word_is : least ≡ Some (overlap_word_of rules left)
  pub none_below : NothingPendingBelow (letter_count problem.parts.quiver) (asked_cmp problem.parts.order) rules treated (overlap_word_of rules left)

-- there is a claim with the number
abbrev pub IsClaim : Problem → ℕ → Type 0
IsClaim problem number = (1 ≤ number) × (number ≤ length problem.parts.claims)

-- A polynomial that is reduced by the rules at the place, in the work on the claim with this number:
pub data IsReducedAt (problem : Problem) (budget : Budget) (number : ℕ) (at : Place) (rules : List Rule) (p : List Term) : Type 0 where
  -- in round 0 a generator
  of_generator : (n : ℕ) → 1 ≤ n → n ≤ length problem.generators → at ≡ place.Round 0 → p ≡ generator_at (polynomials problem.generators) n
      → IsReducedAt problem budget number at rules p
  -- in a later round an S-polynomial, and then its rest by the rules from before the round
  of_ambiguity : (round : ℕ) → at ≡ place.Round (suc round) → IsSPolynomial rules p → IsReducedAt problem budget number at rules p
  of_first_rest : (round : ℕ) (now : Reduced) → at ≡ place.Round (suc round) → IsFirstReduction problem budget rules now → p ≡ now.rest
      → IsReducedAt problem budget number at rules p
  -- after a round the claim
  of_claim : (round : ℕ) → at ≡ place.Claim round → IsClaim problem number → p ≡ claim_at problem number → IsReducedAt problem budget number at rules p

-- A reduction at the place.
pub record Reduction (problem : Problem) (budget : Budget) (number : ℕ) (at : Place) : Type 0 where
  pub rules : List Rule
  pub are_rules : AreRulesOf problem budget rules
  pub polynomial : List Term
  pub is : IsReducedAt problem budget number at rules polynomial

-- The budget has this many steps. A reduction at the place makes this many, and there is one more.
pub record StepsAreSpent (problem : Problem) (budget : Budget) (number : ℕ) (at : Place) (limit : ℕ) : Type 0 where
  pub budget_is : limit ≡ budget.steps
  pub reduction : Reduction problem budget number at
  pub one_more : HasOneMore (asked_cmp problem.parts.order) reduction.rules limit (unreduced reduction.polynomial)

-- It is one of the products and sums of an S-polynomial.
pub record IsOfSPolynomial (rules : List Rule) (o : Overflow) : Type 0 where
  pub ambiguity : Ambiguity
  pub is : IsAmbiguity rules ambiguity
  pub of_sum : IsOfSum (first_row rules ambiguity).coef (row_words rules (first_row rules ambiguity))
      (second_row rules ambiguity).coef (row_words rules (second_row rules ambiguity)) o

-- It is one of the products of the rows of a rule that is made by two reductions: of those of the S-polynomial by the first multiplier, and of
-- those of the first rest by the second one.
pub data IsOfRows (rows : List Row) (first second : Reduced) (o : Overflow) : Type 0 where
  of_first : (row : Row) → Contains rows row → o ≡ product_of row.coef first.multiplier → IsOfRows rows first second o
  of_second : (row : Row) → Contains (rows_less rows first) row → o ≡ product_of row.coef second.multiplier → IsOfRows rows first second o

-- The rest of the claim by the rules is zero. The record of the claim has the multiplier of this reduction and its rows, and
-- each rule has the record with which it was made. The rows of each record add up to its scale times the rule, or times the claim.
pub record ClaimRecord (problem : Problem) (budget : Budget) (number : ℕ) : Type 0 where
  pub is_claim : IsClaim problem number
  pub rules : List Rule
  pub are_rules : AreRulesOf problem budget rules
  pub recorded : AreRecorded (polynomials problem.generators) rules are_rules.records
  pub reduced : Reduced
  pub leaves : Leaves (asked_cmp problem.parts.order) rules budget.steps (unreduced (claim_at problem number)) reduced
  pub nothing : reduced.rest ≡ []
  pub claim : Made
  pub scale_is : claim.scale ≡ reduced.multiplier
  pub rows_are : claim.rows ≡ reduced.taken
  pub traces : Traces (polynomials problem.generators) (polynomials_of rules) claim (claim_at problem number)

-- One of the products and sums that are made at the place, in the work on the claim with this number.
pub data IsArithmeticAt (problem : Problem) (budget : Budget) (number : ℕ) (at : Place) (o : Overflow) : Type 0 where
  -- of a reduction
  in_reduction : (r : Reduction problem budget number at) → IsOfReduction (asked_cmp problem.parts.order) r.rules budget.steps (unreduced r.polynomial) o
      → IsArithmeticAt problem budget number at o
  -- in a later round of an S-polynomial
  in_sum : (round : ℕ) (rules : List Rule) → at ≡ place.Round (suc round) → AreRulesOf problem budget rules → IsOfSPolynomial rules o
      → IsArithmeticAt problem budget number at o
  -- and of the rows of a rule that is made of one, by two reductions
  in_rows : (round : ℕ) (rules : List Rule) (first second : Reduced) → at ≡ place.Round (suc round) → AreRulesOf problem budget rules
      → (is : IsFirstReduction problem budget rules first) → Leaves (asked_cmp problem.parts.order) rules budget.steps (unreduced first.rest) second
      → IsOfRows (s_rows_of is.first is.is.ambiguity) first second o → IsArithmeticAt problem budget number at o
  -- of a certificate
  in_making : (round : ℕ) → at ≡ place.Certificate round → (r : ClaimRecord problem budget number) → IsOfCertificate r.are_rules.records r.claim o
      → IsArithmeticAt problem budget number at o

-- The product or sum is out of the range of coefficients, and it is one of those that are made at the place.
pub record IsOverflowAt (problem : Problem) (budget : Budget) (number : ℕ) (at : Place) (o : Overflow) : Type 0 where
  pub out_of_range : IsCoefficient (exact_value o) → ⊥
  pub arithmetic : IsArithmeticAt problem budget number at o

-- A polynomial or a word that exceeds a limit at the place, in the work on the claim with this number:
pub data IsSizeAt (problem : Problem) (budget : Budget) (number : ℕ) (at : Place) (letters : Bool) : Type 0 where
  -- the rest after a step of a reduction
  after_step : (r : Reduction problem budget number at) → GetsTooLarge (asked_cmp problem.parts.order) r.rules budget.steps (unreduced r.polynomial) letters
      → IsSizeAt problem budget number at letters
  -- in a later round one of the two multiples of rules in an S-polynomial, or their sum
  in_multiple : (round : ℕ) (rules : List Rule) (a : Ambiguity) (row : Row) → at ≡ place.Round (suc round) → AreRulesOf problem budget rules
      → IsAmbiguity rules a → Contains (s_rows_of rules a) row → IsTooLarge letters (row_words rules row) → IsSizeAt problem budget number at letters
  in_s_polynomial : (round : ℕ) (rules : List Rule) (p : List Term) → at ≡ place.Round (suc round) → AreRulesOf problem budget rules → IsSPolynomial rules p
      → IsTooLarge letters p → IsSizeAt problem budget number at letters
  -- a word of a row of a certificate
  in_certificate : (round : ℕ) → at ≡ place.Certificate round → letters ≡ true → (r : ClaimRecord problem budget number) → HasLongRow r.are_rules.records r.claim
      → IsSizeAt problem budget number at letters

-- The rows of a certificate of the claim with this number exceed a limit.
pub record AreRowsAt (problem : Problem) (budget : Budget) (number : ℕ) (at : Place) (letters : Bool) : Type 0 where
  pub round : ℕ
  pub place_is : at ≡ place.Certificate round
  pub record_of : ClaimRecord problem budget number
  pub many : HasManyRows record_of.are_rules.records record_of.claim letters

-- What a cause says about the place, in the work on the claim with this number, and about the least overlap word that is named with it.
abbrev pub CauseMeans : Problem → Budget → ℕ → Place → Option (List ℕ) → Cause → Type 0
CauseMeans problem budget number at least (cause.Pairs spent) = PairsAreSpent problem budget at least spent
CauseMeans problem budget number at least (cause.Steps limit) = StepsAreSpent problem budget number at limit
CauseMeans problem budget number at least (cause.Size letters) = IsSizeAt problem budget number at letters
CauseMeans problem budget number at least (cause.Rows letters) = AreRowsAt problem budget number at letters
CauseMeans problem budget number at least (cause.Overflow o) = IsOverflowAt problem budget number at o
