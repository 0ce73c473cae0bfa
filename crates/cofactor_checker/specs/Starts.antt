-- What is tested before the items of evidence, whatever these are: the claim, the positive scales, those that divide, and the multiple of the claim.
use Rattle.std.specs.Prelude.{◌≡◌, ◌⊎◌, ℕ, ◌+◌, ℤ, pos, ◌≤ℤ◌, List, length, Option, None, Some}
use Rattle.std.specs.List.{All}
use Rattle.coef_int.specs.declared.Overflow.{Overflow}
use Rattle.coef_int.specs.Operations.{first_overflow}
use Rattle.definitions.specs.Poly.{Poly}
use Rattle.definitions.specs.Combination.{generator_at}
use Rattle.nc_polynomial.specs.Terms.{products}
use Rattle.lists.specs.First.{FirstNot}
use Rattle.traced_rows.specs.declared.evidence.Lemma.{Lemma}
use Rattle.cofactor_checker.specs.Rows.{IsNumberUpTo}
use Rattle.cofactor_checker.specs.LemmaAcceptance.{HasScale, IsTight}
use Rattle.cofactor_checker.specs.declared.refusal.Refusal.{Refusal}
use Rattle.cofactor_checker.specs.declared.refusal.Refusal.TheVariants as refusal

-- the denominator and each scale are at least 1
abbrev pub ArePositive : {X : Type 0} → (X → Type 0) → ℤ → List X → Lemma → Type 0
ArePositive positive d items goal = (pos 1 ≤ℤ d) × (All positive items × HasScale goal)

-- the item with this number is the first whose scale doesn't divide
abbrev pub IsLooseItem : {X : Type 0} → (X → Type 0) → List X → ℕ → Type 0
IsLooseItem tight items n = (first : FirstNot tight items) × (n ≡ first.before + 1)

-- so it is, or the scale of the goal, which has number 0, doesn't divide
abbrev pub IsLoose : {X : Type 0} → (X → Type 0) → List X → Type 0 → ℕ → Type 0
IsLoose tight items goal n = IsLooseItem tight items n ⊎ (All tight items × ((n ≡ 0) × (goal → ⊥)))

-- the scales divide
abbrev pub AreTight : {X : Type 0} → (X → Type 0) → List X → Type 0 → Type 0
AreTight tight items goal = All tight items × goal

module _ {X : Type 0} (positive : X → Type 0) (tight : ℤ → X → Type 0) (claims : List Poly) (number : ℕ) (d : ℤ) (items : List X) (goal : Lemma) where
  -- the first product of the goal's scale with a coefficient of the claim that leaves the range
  abbrev pub multiple : Option Overflow
  multiple = first_overflow (products goal.scale (generator_at claims number))

  -- each test passes
  abbrev pub Starts : Type 0
  Starts = IsNumberUpTo (length claims) number × (ArePositive positive d items goal × (AreTight (tight d) items (IsTight d goal) × (multiple ≡ None)))

  -- the first test that fails
  abbrev pub TellsStart : Refusal → Type 0
  TellsStart e =
      ((e ≡ refusal.NoSuchClaim) × (IsNumberUpTo (length claims) number → ⊥))
      ⊎ (IsNumberUpTo (length claims) number × (((e ≡ refusal.ZeroDenominator) × (ArePositive positive d items goal → ⊥))
      ⊎ (ArePositive positive d items goal × (((n : ℕ) × (e ≡ refusal.LooseScale n) × IsLoose (tight d) items (IsTight d goal) n)
      ⊎ (AreTight (tight d) items (IsTight d goal) × ((o : Overflow) × (e ≡ refusal.Overflow 0 o) × (multiple ≡ Some o)))))))
