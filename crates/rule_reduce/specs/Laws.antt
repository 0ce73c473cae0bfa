-- What a reduction that ends gives.
use Rattle.std.specs.Prelude.{◌≡◌, ◌<◌, ◌≤◌, ◌<ℤ◌, ℕ, pos, List, [], length, Ok}
use Rattle.std.specs.List.{All}
use Rattle.definitions.specs.Poly.{Term, SamePolynomial, poly_sum, poly_multiple}
use Rattle.word_core.specs.Occurrence.{OccursNowhere}
use Rattle.word_orders.specs.Admissible.{Compare}
use Rattle.traced_rows.specs.declared.Origin.{Origin}
use Rattle.traced_rows.specs.declared.Origin.TheVariants as origin
use Rattle.traced_rows.specs.Traces.{traced_sum}
use Rattle.rule_reduce.specs.declared.rule.Rule.{Rule}
use Rattle.rule_reduce.specs.declared.state.State.{State}
use Rattle.rule_reduce.specs.RuleLists.{IsRule, polynomials_of}
use Rattle.rule_reduce.specs.NormalForms.{normal_form_of}

-- The multiplier times the polynomial is the rest plus the sum of the rows over the rules.
abbrev pub Balances : List Rule → List Term → State → Type 0
Balances rules p s = SamePolynomial (poly_multiple s.multiplier p) (poly_sum s.rest (traced_sum [] (polynomials_of rules) s.rows))

abbrev pub ReductionsBalance : Type 0
ReductionsBalance = (compare : Compare) (rules : List Rule) (p : List Term) (steps : ℕ) (s : State)
    → normal_form_of compare rules p steps ≡ Ok s → Balances rules p s

-- The multiplier is positive.
abbrev pub MultipliersArePositive : Type 0
MultipliersArePositive = (letters : ℕ) (compare : Compare) (rules : List Rule) (p : List Term) (steps : ℕ) (s : State)
    → All (IsRule letters compare) rules → normal_form_of compare rules p steps ≡ Ok s → pos 0 <ℤ s.multiplier

-- a multiple of one of so many rules
abbrev pub IsByRule : ℕ → Origin → Type 0
IsByRule count (origin.Generator n) = ⊥
IsByRule count (origin.Rule n) = (0 < n) × (n ≤ count)

abbrev pub RowsAreByRules : Type 0
RowsAreByRules = (compare : Compare) (rules : List Rule) (p : List Term) (steps : ℕ) (s : State)
    → normal_form_of compare rules p steps ≡ Ok s → All (λ row. IsByRule (length rules) row.from) s.rows

-- No leading word occurs in a word of the polynomial.
abbrev pub IsIrreducible : List Rule → List Term → Type 0
IsIrreducible rules p = All (λ t. All (λ g. OccursNowhere t.1 g.lead) rules) p

abbrev pub RestsAreIrreducible : Type 0
RestsAreIrreducible = (compare : Compare) (rules : List Rule) (p : List Term) (steps : ℕ) (s : State)
    → normal_form_of compare rules p steps ≡ Ok s → IsIrreducible rules s.rest
