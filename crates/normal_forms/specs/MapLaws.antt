-- The maps of the category of normal forms: finite sums of words with fractions, as lists and as functions.
use Rattle.std.specs.Prelude.{◌≡◌, ◌↔◌, ℕ, pos, false, List, [], ◌∷◌, Contains, IsTrue, if◌then◌else◌}
use Rattle.std.specs.List.{All, AllByRecursion}
use Rattle.definitions.specs.Poly.{Word, word_eq}
use Rattle.definitions.specs.Category.{IsArrow}
use Rattle.definitions.specs.Quiver.{IsPath}
use Rattle.word_core.specs.Occurrence.{OccursNowhere}
use Rattle.quiver.specs.Declarations.{quiver_of}
use Rattle.rule_reduce.specs.declared.rule.Rule.{Rule}
use Rattle.adjoint_rules.specs.declared.parts.Parts.{Parts}
use Rattle.adjoint_rules.specs.Problem.{numbers, is_in_play}
use Rattle.normal_forms.specs.Fractions.{Fraction, IsLowest, is_zero, whole}
use Rattle.normal_forms.specs.Forms.{Form}
use Rattle.normal_forms.specs.Maps.{NormalMap, comes_before, IsAscending}
use Rattle.normal_forms.specs.NormalForms.{IsNonzero, is_marked_in, normal_forms}

-- the fraction beside a word, or zero where it isn't listed
abbrev pub fraction_at : Form Fraction → Word → Fraction
fraction_at [] w = whole (pos 0)
fraction_at (t ∷ p) w = if word_eq t.1 w then t.0 else fraction_at p w

module _ (p : Parts) (rules : List Rule) (u v : ℕ) where
  -- The words of a map from u to v: the paths from u to v in letters in play, in which no leading word occurs; and for an
  -- endomap of an object that isn't marked the empty word, for the identity of the object.
  abbrev pub IsNormalWord : Word → Type 0
  IsNormalWord [] = (u ≡ v) × (is_marked_in p u ≡ false)
  IsNormalWord (a ∷ w) = IsPath (quiver_of p.quiver) u v (a ∷ w)
      × AllByRecursion (λ b. IsTrue (is_in_play p.quiver p.starred (numbers p.marked) b)) (a ∷ w)
      × All (λ g. OccursNowhere (a ∷ w) g.lead) rules

  -- A map as a list: fractions in lowest terms, none of them zero, beside such words, which ascend in the canonical order, so each occurs once.
  pub record IsListedMap (m : NormalMap Fraction) : Type 0 where
    pub source : m.source ≡ u
    pub target : m.target ≡ v
    pub fractions : AllByRecursion (λ t. IsNonzero t.0) m.form
    pub ascending : IsAscending comes_before m.form
    pub words : AllByRecursion (λ t. IsNormalWord t.1) m.form

  -- A map as a function: for each word a fraction in lowest terms, which is zero where the word isn't such a word, and outside a finite list.
  pub record IsFiniteSum (f : Word → Fraction) : Type 0 where
    pub lowest : (w : Word) → IsLowest (f w).top (f w).bottom
    pub words : (w : Word) → is_zero (f w).top ≡ false → IsNormalWord w
    pub listed : List Word
    pub finite : (w : Word) → is_zero (f w).top ≡ false → Contains listed w

  -- the one map from u to v that has these fractions
  pub record HasOneMap (f : Word → Fraction) : Type 0 where
    pub map : NormalMap Fraction
    pub is_map : IsArrow (normal_forms p rules) u v map
    pub fractions : (w : Word) → fraction_at map.form w ≡ f w
    pub only : (m : NormalMap Fraction) → IsArrow (normal_forms p rules) u v m → ((w : Word) → fraction_at m.form w ≡ f w) → m ≡ map

  -- The maps from u to v are those lists; each has the fractions of a finite sum, and each finite sum is that of one map.
  pub record MapsAreSums : Type 0 where
    pub lists : (m : NormalMap Fraction) → IsArrow (normal_forms p rules) u v m ↔ IsListedMap m
    pub sums : (m : NormalMap Fraction) → IsArrow (normal_forms p rules) u v m → IsFiniteSum (fraction_at m.form)
    pub maps : (f : Word → Fraction) → IsFiniteSum f → HasOneMap f

-- A map between two objects is a finite sum of normal words with fractions, and each such sum is one map.
abbrev pub MapsAreFiniteSums : Type 0
MapsAreFiniteSums = (p : Parts) (rules : List Rule) (u v : ℕ)
    → (normal_forms p rules).is_object u → (normal_forms p rules).is_object v → MapsAreSums p rules u v
