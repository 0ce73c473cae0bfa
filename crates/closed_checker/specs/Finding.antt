-- The ambiguities of the words of a table.
use Rattle.std.specs.Prelude.{◌≡◌, ◌≢◌, ℕ, List, ◌++◌, Contains}
use Rattle.ambiguities.specs.declared.ambiguity.Kind.{Kind}
use Rattle.ambiguities.specs.declared.ambiguity.Kind.TheVariants.{Overlap, Inclusion}
use Rattle.ambiguities.specs.declared.ambiguity.Ambiguity.{Ambiguity}
use Rattle.ambiguities.specs.Ambiguities.{MeetsAs}
use Rattle.ambiguities.specs.Listed.{ListsExactly, ambiguity_at}
use Rattle.closed_checker.specs.declared.table.Lead.{Lead}

-- the list has exactly the ambiguities with the property, each once, in whatever order
abbrev pub ListsEachOnce : (Ambiguity → Type 0) → List Ambiguity → Type 0
ListsEachOnce = ListsExactly (λ a b. a ≢ b)

-- what is appended has exactly those with the property, each once
pub record IsAdded (P : Ambiguity → Type 0) (old new : List Ambiguity) : Type 0 where
  pub more : List Ambiguity
  pub appended : new ≡ old ++ more
  pub exact : ListsEachOnce P more

-- a rule isn't included in itself
abbrev pub MayMeet : Kind → ℕ → ℕ → Type 0
MayMeet Overlap i j = Unit {0}
MayMeet Inclusion i j = i ≢ j

-- one of the words has to do with the ambiguity in this way
pub record IsOfOne (leads : List Lead) (P : Lead → Ambiguity → Type 0) (a : Ambiguity) : Type 0 where
  pub lead : Lead
  pub among : Contains leads lead
  pub meeting : P lead a

-- the ambiguity of this kind at this place of the first rule with the rule of one of these words
abbrev pub IsWith : List Lead → ℕ → Kind → ℕ → Ambiguity → Type 0
IsWith seconds i kind place = IsOfOne seconds (λ l a. MayMeet kind i l.number × (ambiguity_at i l.number kind place ≡ a))

-- the leading words of the first rule and of one of the table meet as the ambiguity says, at a place with the property
pub record IsOfFirst (table : List Lead) (first : Lead) (At : ℕ → Type 0) (a : Ambiguity) : Type 0 where
  pub second : Lead
  pub among : Contains table second
  pub first_numbered : first.number ≡ a.i
  pub second_numbered : second.number ≡ a.j
  pub meets : MeetsAs a.kind a.i a.j first.letters second.letters a.place
  pub at_place : At a.place

-- two words of the table meet as the ambiguity says, of which the first one is among these
abbrev pub IsOfFirsts : List Lead → List Lead → Ambiguity → Type 0
IsOfFirsts table firsts = IsOfOne firsts (λ l. IsOfFirst table l (λ place. Unit {0}))
