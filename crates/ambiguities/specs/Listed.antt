-- Lists of ambiguities.
use Rattle.std.specs.Prelude.{◌≡◌, ◌↔◌, ◌⊎◌, ◌<◌, ◌≤◌, ℕ, List, ◌++◌, Contains}
use Rattle.std.specs.List.{AllPairs}
use Rattle.rule_reduce.specs.declared.rule.Rule.{Rule}
use Rattle.ambiguities.specs.declared.ambiguity.Kind.{Kind}
use Rattle.ambiguities.specs.declared.ambiguity.Kind.TheVariants.{Overlap, Inclusion}
use Rattle.ambiguities.specs.declared.ambiguity.Ambiguity.{Ambiguity}
use Rattle.ambiguities.specs.Ambiguities.{IsAmbiguity}

-- overlaps come before inclusions
abbrev pub kind_number : Kind → ℕ
kind_number Overlap = 0
kind_number Inclusion = 1

-- the first one is before the second: by the first rule, then by the second rule, then by the kind, then by the place
abbrev pub IsBefore : Ambiguity → Ambiguity → Type 0
IsBefore a b = (a.i < b.i) ⊎ ((a.i ≡ b.i)
    × ((a.j < b.j) ⊎ ((a.j ≡ b.j) × ((kind_number a.kind < kind_number b.kind) ⊎ ((a.kind ≡ b.kind) × (a.place < b.place))))))

-- The list has exactly the items with the property, each before all later ones, and so each of them once.
pub record ListsExactly {X : Type 0} (Before : X → X → Type 0) (P : X → Type 0) (xs : List X) : Type 0 where
  pub members : (x : X) → Contains xs x ↔ P x
  pub ascending : AllPairs Before xs

-- what is appended has exactly the ambiguities with the property, in their order
pub record IsGrown (P : Ambiguity → Type 0) (old new : List Ambiguity) : Type 0 where
  pub more : List Ambiguity
  pub appended : new ≡ old ++ more
  pub exact : ListsExactly IsBefore P more

-- an ambiguity of the rules in which one of the two numbers is at least the given one
abbrev pub IsAmbiguityFrom : ℕ → List Rule → Ambiguity → Type 0
IsAmbiguityFrom from rules a = IsAmbiguity rules a × ((from ≤ a.i) ⊎ (from ≤ a.j))

-- and the first rule is the given one
abbrev pub IsOfFirst : ℕ → List Rule → ℕ → Ambiguity → Type 0
IsOfFirst from rules i a = IsAmbiguityFrom from rules a × (a.i ≡ i)

-- an ambiguity of the two given rules
abbrev pub IsOfPair : List Rule → ℕ → ℕ → Ambiguity → Type 0
IsOfPair rules i j a = IsAmbiguity rules a × (a.i ≡ i) × (a.j ≡ j)

abbrev pub ambiguity_at : ℕ → ℕ → Kind → ℕ → Ambiguity
ambiguity_at i j kind place = record { i = i; j = j; kind = kind; place = place }
