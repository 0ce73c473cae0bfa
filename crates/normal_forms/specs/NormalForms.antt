-- The category of the normal forms of rules.
use Rattle.std.specs.Prelude.{◌≡◌, ℕ, ◌<◌, Bool, false, nat_eq, List}
use Rattle.std.specs.List.{All, AllByRecursion, list_any}
use Rattle.definitions.specs.Category.{Structure}
use Rattle.definitions.specs.Representation.{Representation}
use Rattle.definitions.specs.Combination.{InRationalIdeal}
use Rattle.word_core.specs.Occurrence.{OccursNowhere}
use Rattle.word_orders.specs.Specified.{asked_cmp}
use Rattle.quiver.specs.Declarations.{letter_count, quiver_of}
use Rattle.rule_reduce.specs.declared.rule.Rule.{Rule}
use Rattle.rule_reduce.specs.RuleLists.{IsRule, polynomials_of}
use Rattle.ambiguities.specs.Resolved.{is_below, Resolved}
use Rattle.adjoint_rules.specs.declared.parts.Parts.{Parts}
use Rattle.adjoint_rules.specs.Problem.{IsPosed, numbers, is_in_play, generators_in}
use Rattle.confluence.specs.Typed.{AreTypedInPlay}
use Rattle.normal_forms.specs.Fractions.{Fraction, IsLowest, is_zero, fractions}
use Rattle.normal_forms.specs.Forms.{Form}
use Rattle.normal_forms.specs.RationalForms.{rational_normal_form}
use Rattle.normal_forms.specs.Descents.{all_grounded}
use Rattle.normal_forms.specs.Maps.{NormalMap, comes_before, LeadsInPlay, IsAscending, structure_of, letter_map}

-- in lowest terms and not zero
pub record IsNonzero (x : Fraction) : Type 0 where
  pub lowest : IsLowest x.top x.bottom
  pub nonzero : is_zero x.top ≡ false

-- whether the object is marked
abbrev pub is_marked_in : Parts → ℕ → Bool
is_marked_in p v = list_any (nat_eq v) (numbers p.marked)

module _ (p : Parts) (rules : List Rule) where
  -- The rules are rules of the order, resolved, typed and in play, and the generators are in their rational ideal.
  pub record IsBasis : Type 0 where
    pub posed : IsPosed p
    pub are_rules : All (IsRule (letter_count p.quiver) (asked_cmp p.order)) rules
    pub resolved : Resolved (letter_count p.quiver) (asked_cmp p.order) rules
    pub typed : AreTypedInPlay (quiver_of p.quiver) (is_in_play p.quiver p.starred (numbers p.marked)) rules
    pub generated : All (InRationalIdeal (polynomials_of rules)) (generators_in p)

  -- A map: the numbers are fractions in lowest terms, none of them zero; the words ascend, no leading word occurs in one, and each is a path of the
  -- map's ends by letters in play, or the empty word of an object that isn't marked.
  pub record IsNormalMap (m : NormalMap Fraction) : Type 0 where
    pub source_is_object : m.source < (quiver_of p.quiver).objects
    pub target_is_object : m.target < (quiver_of p.quiver).objects
    pub nonzero : AllByRecursion (λ t. IsNonzero t.0) m.form
    pub ascending : IsAscending comes_before m.form
    pub words : AllByRecursion
        (λ t. LeadsInPlay (quiver_of p.quiver) (is_in_play p.quiver p.starred (numbers p.marked)) (is_marked_in p) m.source m.target t.1) m.form
    pub irreducible : AllByRecursion (λ t. All (λ g. OccursNowhere t.1 g.lead) rules) m.form

  -- the rational normal form of a sum of words
  abbrev pub normal_form : Form Fraction → Form Fraction
  normal_form = rational_normal_form fractions (is_below (letter_count p.quiver) (asked_cmp p.order)) rules (all_grounded (letter_count p.quiver) p.order)

  -- Objects are those of the quiver, and maps those above. Both are there only where the rules are a basis.
  abbrev pub normal_forms : Structure ℕ (NormalMap Fraction)
  normal_forms = structure_of fractions comes_before normal_form (is_marked_in p) (λ v. (v < (quiver_of p.quiver).objects) × IsBasis)
      (λ m. IsNormalMap m × IsBasis)

  abbrev pub forms_representation : Representation ℕ (NormalMap Fraction)
  forms_representation = record {
    object = λ v. v;
    arrow = letter_map fractions comes_before normal_form (is_marked_in p) (quiver_of p.quiver) (is_in_play p.quiver p.starred (numbers p.marked));
  }
