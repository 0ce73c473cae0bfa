-- Rules as the proofs about an order take them, and sums of rows over them.
use Rattle.std.proofs.Common.{◌≡◌, ◌≢◌, ◌⊎◌, inl, inr, ◌<◌, ℕ, zero, suc, ℤ, pos, List, [], ◌∷◌, ◌++◌, Option, Some, None, refl, ap}
use Rattle.std.specs.Int.RustNames.{unsigned_abs}
use Rattle.std.specs.List.{All}
use Rattle.definitions.specs.Combination.{generator_at, IsCombination}
use Rattle.definitions.specs.Poly.{coefficient_of}
use Rattle.word_orders.specs.Orders.{Order}
use Rattle.rule_reduce.specs.RuleLists.{rule_at, polynomials_of}
use Rattle.rule_reduce.specs.declared.rule.Rule.{Rule}
use Rattle.definitions.specs.Combination.{Row}

-- a polynomial, with its leading word and the coefficient there
pub record Led : Type 0 where
  pub leading : ℕ
  pub lead : List ℕ
  pub poly : List (ℤ × List ℕ)

-- The leading word has a positive coefficient, and each other word is below it.
pub record IsLed (o : Order) (r : Led) : Type 0 where
  pub positive : 0 < r.leading
  pub at_lead : coefficient_of r.poly r.lead ≡ pos r.leading
  pub words : (w : List ℕ) → coefficient_of r.poly w ≢ pos 0 → (w ≡ r.lead) ⊎ o.Less w r.lead
  pub range : o.Range r.lead

abbrev pub led_of : Rule → Led
led_of g = record { leading = unsigned_abs g.leading; lead = g.lead; poly = g.poly.terms }

abbrev pub no_led : Led
no_led = record { leading = 0; lead = []; poly = [] }

abbrev pub led_or : Option Rule → Led
led_or None = no_led
led_or (Some g) = led_of g

-- the rule with this number
abbrev pub led_at : List Rule → ℕ → Led
led_at rules n = led_or (rule_at rules n)

abbrev pub HasLed : List Rule → ℕ → Type 0
HasLed rules n = (g : Rule) × (rule_at rules n ≡ Some g)

pub led_at-is : (rules : List Rule) (n : ℕ) (g : Rule) → rule_at rules n ≡ Some g → led_at rules n ≡ led_of g
led_at-is rules n g is = ap led_or is

pub has_decided : (rules : List Rule) (n : ℕ) → HasLed rules n ⊎ (led_at rules n ≡ no_led)
has_decided rules n = (elim (rule_at rules n) as (λ o. rule_at rules n ≡ o → HasLed rules n ⊎ (led_at rules n ≡ no_led)) [
  | None ↦ λ e. inr (ap led_or e)
  | Some g ↦ λ e. inl (g, e)
]) refl

pub poly_at : (rules : List Rule) (n : ℕ) → generator_at (polynomials_of rules) n ≡ (led_at rules n).poly
poly_at rules zero = refl
poly_at [] (suc zero) = refl
poly_at [] (suc (suc n)) = refl
poly_at (g ∷ rules) (suc zero) = refl
poly_at (g ∷ rules) (suc (suc n)) = poly_at rules (suc n)

-- the word is at most a word of the polynomial
pub record IsAtMostOf (o : Order) (p : List (ℤ × List ℕ)) (w : List ℕ) : Type 0 where
  pub word : List ℕ
  pub occurs : coefficient_of p word ≢ pos 0
  pub at_most : (w ≡ word) ⊎ o.Less w word

-- each word to which the row multiplies its polynomial is as asked
abbrev pub IsAskedRow : List (List (ℤ × List ℕ)) → (List ℕ → Type 0) → Row → Type 0
IsAskedRow polys Asked r = (w : List ℕ) → coefficient_of (generator_at polys r.generator) w ≢ pos 0 → Asked (r.left ++ (w ++ r.right))

-- Some positive multiple of p is a sum of rows over the polynomials, and each word of each row is as asked.
pub record Comes (polys : List (List (ℤ × List ℕ))) (Asked : List ℕ → Type 0) (p : List (ℤ × List ℕ)) : Type 0 where
  pub multiplier : ℤ
  pub rows : List Row
  pub combination : IsCombination polys rows multiplier p
  pub within : All (IsAskedRow polys Asked) rows
