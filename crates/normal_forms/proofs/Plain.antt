-- The category of normal forms, written with plain fractions.
use Rattle.std.proofs.Common.{◌≡◌, ℕ, Bool, true, false, cond, List, [], ◌∷◌, ◌++◌, slice_get, Some, suc, refl, sym, ap, ap₂, ◌∙◌}
use Rattle.std.proofs.lemmas.List.Elements.{All-nil, All-cons}
use Rattle.std.specs.List.{All, AllByRecursion}
use Rattle.std.specs.Prelude.{nat_lt}
use Rattle.definitions.specs.Category.{Structure}
use Rattle.definitions.specs.Poly.{Word}
use Rattle.definitions.specs.Quiver.{Quiver, source, target}
use Rattle.word_core.specs.Occurrence.{OccursNowhere}
use Rattle.word_orders.proofs.AskedOrders.{asked_rank, asked_cmp-admissible}
use Rattle.word_orders.proofs.Orders.{order_from_laws}
use Rattle.word_orders.specs.Admissible.{IsAdmissible}
use Rattle.word_orders.specs.Orders.{Order}
use Rattle.word_orders.specs.Specified.{asked_cmp}
use Rattle.rule_reduce.specs.RuleLists.{IsRule}
use Rattle.rule_reduce.specs.declared.rule.Rule.{Rule}
use Rattle.ambiguities.specs.Resolved.{is_below}
use Rattle.quiver.specs.Declarations.{letter_count, quiver_of}
use Rattle.adjoint_rules.specs.Problem.{numbers, is_in_play}
use Rattle.adjoint_rules.specs.declared.parts.Parts.{Parts}
use Rattle.confluence.proofs.Led.{led_at-is}
use Rattle.confluence.proofs.LedRules.{ordered}
use Rattle.confluence.proofs.Meets.{Rules}
use Rattle.normal_forms.specs.Descents.{all_grounded}
use Rattle.normal_forms.specs.Forms.{Form, multiple_form, product_form, collected}
use Rattle.normal_forms.specs.Fractions.{Fraction, is_zero, fractions}
use Rattle.normal_forms.specs.Maps.{NormalMap, comes_before, LeadsInPlay, IsAscending, word_map, identity_map, zero_map}
use Rattle.normal_forms.specs.NormalForms.{IsNonzero, IsBasis, is_marked_in, IsNormalMap, normal_form, normal_forms, forms_representation}
use Rattle.normal_forms.specs.RationalForms.{rational_normal_form}
use Rattle.normal_forms.proofs.Field.{numbers_of}
use Rattle.normal_forms.proofs.Homomorphisms.{mapped, mapped-append, mapped-multiple, mapped-product, mapped-collected, mapped-normal}
use Rattle.normal_forms.proofs.Rationals.{Rational, rationals, none_test, raw, raw_is_homomorphism, read, read_raw, raw_read}
use Rattle.normal_forms.proofs.Forms.{Each, each-weaker}
use Rattle.normal_forms.proofs.Collect.{IsForm}
use Rattle.normal_forms.proofs.CanonicalOrder.{canonical}
use Rattle.normal_forms.proofs.Congruence.{Irreducible}
use Rattle.normal_forms.proofs.WordForms.{no_lead}
use Rattle.normal_forms.proofs.NormalCategory.{Ground, IsMap, normal_structure}
use Rattle.normal_forms.proofs.Sharp.{normal_representation}
use Rattle.normal_forms.proofs.Stated.{ground}
use Rattle.normal_forms.proofs.Images.{IsImage}

abbrev pub plain : NormalMap Rational → NormalMap Fraction
plain a = record { source = a.source; target = a.target; form = mapped raw a.form }

abbrev pub exact : NormalMap Fraction → NormalMap Rational
exact m = record { source = m.source; target = m.target; form = mapped read m.form }

mapped_back : (p : Form Rational) → mapped read (mapped raw p) ≡ p
mapped_back [] = refl
mapped_back (t ∷ p) = ap₂ (λ x z. (x, t.1) ∷ z) (read_raw t.0) (mapped_back p)

pub mapped_again : (p : Form Fraction) → AllByRecursion (λ t. IsNonzero t.0) p → mapped raw (mapped read p) ≡ p
mapped_again [] each = refl
mapped_again (t ∷ p) each = ap₂ (λ x z. (x, t.1) ∷ z) (raw_read t.0 each.0.lowest) (mapped_again p each.1)

-- what holds of words
each_read : (P : Word → Type 0) (p : Form Fraction) → AllByRecursion (λ t. P t.1) p → Each P (mapped read p)
each_read P [] each = tt
each_read P (t ∷ p) each = (each.0, each_read P p each.1)

pub each_raw : (P : Word → Type 0) (p : Form Rational) → Each P p → AllByRecursion (λ t. P t.1) (mapped raw p)
each_raw P [] each = tt
each_raw P (t ∷ p) each = (each.0, each_raw P p each.1)

pub form_read : (p : Form Fraction) → AllByRecursion (λ t. IsNonzero t.0) p → IsAscending comes_before p → IsForm rationals canonical (mapped read p)
form_read [] each ascending = tt
form_read (t ∷ p) each ascending = (
  none_test (read t.0) ∙ ap (λ x. is_zero x.top) (raw_read t.0 each.0.lowest) ∙ each.0.nonzero,
  each_read (λ w. comes_before t.1 w ≡ true) p ascending.0,
  form_read p each.1 ascending.1,
)

pub nonzero_raw : (p : Form Rational) → IsForm rationals canonical p → AllByRecursion (λ t. IsNonzero t.0) (mapped raw p)
nonzero_raw [] form = tt
nonzero_raw (t ∷ p) form = (record { lowest = t.0.lowest; nonzero = sym (none_test t.0) ∙ form.0 }, nonzero_raw p form.2)

pub ascending_raw : (p : Form Rational) → IsForm rationals canonical p → IsAscending comes_before (mapped raw p)
ascending_raw [] form = tt
ascending_raw (t ∷ p) form = (each_raw (λ w. comes_before t.1 w ≡ true) p form.1, ascending_raw p form.2)

-- what holds of the rule of each number holds of all
from_numbers : (P : Rule → Type 0) (rules : List Rule) → ((n : ℕ) (g : Rule) → slice_get rules n ≡ Some g → P g) → All P rules
from_numbers P [] each = All-nil P
from_numbers P (g ∷ rules) each = All-cons P g rules (each 0 g refl) (from_numbers P rules (λ n. each (suc n)))

module _ (p : Parts) (rules : List Rule) (are : All (IsRule (letter_count p.quiver) (asked_cmp p.order)) rules) where
  abbrev rank : List ℕ → List ℕ
  rank = asked_rank (letter_count p.quiver) p.order

  abbrev laws : IsAdmissible (letter_count p.quiver) (asked_cmp p.order) rank
  laws = asked_cmp-admissible (letter_count p.quiver) p.order

  abbrev pub word_order : Order
  word_order = order_from_laws (letter_count p.quiver) (asked_cmp p.order) rank laws

  abbrev pub word_rules : Rules word_order
  word_rules = ordered (letter_count p.quiver) (asked_cmp p.order) rank laws rules are

  -- the normal form with fractions that carry their proof
  abbrev pub exact_normal : Form Rational → Form Rational
  exact_normal = rational_normal_form (numbers_of rationals) (is_below (letter_count p.quiver) (asked_cmp p.order)) rules
      (all_grounded (letter_count p.quiver) p.order)

  abbrev pub exact_ground : Ground rationals
  exact_ground = ground rationals word_order word_rules exact_normal canonical (letter_count p.quiver) (quiver_of p.quiver) p.starred (numbers p.marked)

  abbrev pub exact_forms : Structure ℕ (NormalMap Rational)
  exact_forms = normal_structure rationals exact_ground

  nowhere : (w : Word) → Irreducible rationals word_order word_rules w → All (λ g. OccursNowhere w g.lead) rules
  nowhere w irreducible = from_numbers (λ g. OccursNowhere w g.lead) rules
      (λ n g numbered place at. irreducible.at (suc n) at.before at.after ((g, numbered))
      (at.splits ∙ ap (λ x. at.before ++ (x.lead ++ at.after)) (sym (led_at-is rules (suc n) g numbered))))

  irreducible_from : (w : Word) → All (λ g. OccursNowhere w g.lead) rules → Irreducible rationals word_order word_rules w
  irreducible_from w none = no_lead rationals (letter_count p.quiver) (asked_cmp p.order) rank laws rules are none

  map_read : {m : NormalMap Fraction} → IsNormalMap p rules m → IsMap rationals exact_ground (exact m) × (plain (exact m) ≡ m)
  map_read {m} is = (
    record {
      source_is_object = is.source_is_object;
      target_is_object = is.target_is_object;
      sorted = form_read m.form is.nonzero is.ascending;
      irreducible = each_read (Irreducible rationals word_order word_rules) m.form
          (each-weaker (λ w. All (λ g. OccursNowhere w g.lead) rules)
          (Irreducible rationals word_order word_rules) irreducible_from m.form is.irreducible);
      words = each_read
          (LeadsInPlay (quiver_of p.quiver) (is_in_play p.quiver p.starred (numbers p.marked)) (is_marked_in p) m.source m.target) m.form is.words;
    },
    ap (λ z. record { source = m.source; target = m.target; form = z }) (mapped_again m.form is.nonzero),
  )

  map_raw : {a : NormalMap Rational} → IsMap rationals exact_ground a → IsNormalMap p rules (plain a)
  map_raw {a} is = record {
    source_is_object = is.source_is_object;
    target_is_object = is.target_is_object;
    nonzero = nonzero_raw a.form is.sorted;
    ascending = ascending_raw a.form is.sorted;
    words = each_raw (LeadsInPlay (quiver_of p.quiver) (is_in_play p.quiver p.starred (numbers p.marked)) (is_marked_in p) a.source a.target) a.form is.words;
    irreducible =
        each-weaker (Irreducible rationals word_order word_rules) (λ w. All (λ g. OccursNowhere w g.lead) rules) nowhere (mapped raw a.form)
        (each_raw (Irreducible rationals word_order word_rules) a.form is.irreducible);
  }

  -- the normal form of what is written plainly is that of the exact, written plainly
  reduced_plain : (f : Form Rational) → mapped raw (collected (numbers_of rationals) comes_before (exact_normal f)) ≡ collected fractions comes_before
      (normal_form p rules (mapped raw f))
  reduced_plain f = mapped-collected (numbers_of rationals) fractions raw raw_is_homomorphism comes_before (exact_normal f)
      ∙ ap (collected fractions comes_before)
      (mapped-normal (numbers_of rationals) fractions raw raw_is_homomorphism (is_below (letter_count p.quiver) (asked_cmp p.order)) rules
      (all_grounded (letter_count p.quiver) p.order) f)

  word_plain : (u v : ℕ) (w : Word) → word_map fractions comes_before (normal_form p rules) (is_marked_in p) u v w ≡ plain
      (word_map (numbers_of rationals) comes_before exact_normal (is_marked_in p) u v w)
  word_plain u v w = ap (λ z. record { source = u; target = v; form = z })
      (ap (λ x. collected fractions comes_before (normal_form p rules ((x, w) ∷ []))) (sym raw_is_homomorphism.one)
      ∙ sym (reduced_plain ((rationals.one, w) ∷ [])))

  pub letter_plain : (a : ℕ) → (forms_representation p rules).arrow a ≡ plain ((normal_representation rationals exact_ground).arrow a)
  letter_plain a = go (is_in_play p.quiver p.starred (numbers p.marked) a) (nat_lt a (quiver_of p.quiver).objects)
    where
      q : Quiver
      q = quiver_of p.quiver

      identity : NormalMap Rational
      identity = identity_map (numbers_of rationals) comes_before exact_normal (is_marked_in p) a

      letter : NormalMap Rational
      letter = word_map (numbers_of rationals) comes_before exact_normal (is_marked_in p) (source q a) (target q a) (a ∷ [])

      none : NormalMap Rational
      none = zero_map (numbers_of rationals) comes_before exact_normal (is_marked_in p) (source q a) (target q a)

      go : (b c : Bool) → cond b (word_map fractions comes_before (normal_form p rules) (is_marked_in p) (source q a) (target q a) (a ∷ []))
          (cond c (identity_map fractions comes_before (normal_form p rules) (is_marked_in p) a)
          (zero_map fractions comes_before (normal_form p rules) (is_marked_in p) (source q a) (target q a)))
          ≡ plain (cond b letter (cond c identity none))
      go true c = word_plain (source q a) (target q a) (a ∷ [])
      go false true = word_plain a a (cond (is_marked_in p a) (a ∷ []) [])
      go false false = refl

  pub is_image : IsBasis p rules → IsImage exact_forms (normal_forms p rules) plain exact
  is_image basis = record {
    back = λ a. ap (λ z. record { source = a.source; target = a.target; form = z }) (mapped_back a.form);
    object = λ v h. h.0;
    image_object = λ v h. (h, basis);
    arrow = λ m h. map_read h.0;
    image_arrow = λ a h. (map_raw h, basis);
    source = λ a. refl;
    target = λ a. refl;
    identity = λ v. word_plain v v (cond (is_marked_in p v) (v ∷ []) []);
    zero = λ u v. refl;
    add = λ a b. ap (λ z. record { source = a.source; target = a.target; form = z })
        (ap (collected fractions comes_before) (sym (mapped-append raw a.form b.form))
        ∙ sym (mapped-collected (numbers_of rationals) fractions raw raw_is_homomorphism comes_before (a.form ++ b.form)));
    negate = λ a. ap (λ z. record { source = a.source; target = a.target; form = z })
        (ap (λ c. collected fractions comes_before (multiple_form fractions c (mapped raw a.form)))
        (sym (raw_is_homomorphism.minus rationals.one ∙ ap fractions.minus raw_is_homomorphism.one))
        ∙ sym
        (mapped-collected (numbers_of rationals) fractions raw raw_is_homomorphism comes_before
        (multiple_form (numbers_of rationals) (rationals.minus rationals.one) a.form)
        ∙ ap (collected fractions comes_before)
        (mapped-multiple (numbers_of rationals) fractions raw raw_is_homomorphism (rationals.minus rationals.one) a.form)));
    compose = λ a b. ap (λ z. record { source = b.source; target = a.target; form = z })
        (ap (λ z. collected fractions comes_before (normal_form p rules z))
        (sym (mapped-product (numbers_of rationals) fractions raw raw_is_homomorphism a.form b.form))
        ∙ sym (reduced_plain (product_form (numbers_of rationals) a.form b.form)));
  }
