-- The category of the normal forms of resolved rules, and what is zero in it.
use Rattle.std.proofs.Common.{◌≡◌, ◌≢◌, ℕ, ◌<◌, pos, Bool, true, not, List, [], ◌∷◌, ◌++◌, refl, sym, ap, ◌∙◌, subst, arith, true≢false, ltb, ltb-true}
use Rattle.std.proofs.lemmas.Bool.{and_parts}
use Rattle.std.proofs.lemmas.Bool.Decides.{Decides-int_eq}
use Rattle.std.proofs.lemmas.Int.{ints}
use Rattle.std.proofs.lemmas.List.Elements.{All-cons, All-nil, All-head, All-tail}
use Rattle.std.specs.List.{All, AllByRecursion, list_all}
use Rattle.std.specs.Ordering.{int_eq}
use Rattle.definitions.proofs.Paths.{step}
use Rattle.definitions.proofs.Typed.{generators_typed}
use Rattle.definitions.specs.Category.{PreadditiveLaws}
use Rattle.definitions.specs.Combination.{InRationalIdeal}
use Rattle.definitions.specs.Poly.{Word, Term, word_eq, coefficient_of}
use Rattle.definitions.specs.Quiver.{Quiver, IsQuiver, letters, leads, is_path, source}
use Rattle.definitions.specs.Soundness.{HasSignature, HasValueZero, HasValueZeroAt}
use Rattle.word_core.specs.Letters.{IsOver}
use Rattle.word_orders.proofs.AskedOrders.{asked_rank, asked_cmp-admissible}
use Rattle.word_orders.proofs.Orders.{over_range, range_over}
use Rattle.word_orders.proofs.Over.{IsOver-append}
use Rattle.word_orders.specs.Specified.{asked_cmp}
use Rattle.rule_reduce.proofs.Numbers.{rule_at-all}
use Rattle.rule_reduce.specs.RuleLists.{IsRule, polynomials_of}
use Rattle.rule_reduce.specs.declared.rule.Rule.{Rule}
use Rattle.quiver.proofs.Counts.{letters-quiver_of}
use Rattle.quiver.specs.Declarations.{letter_count, quiver_of}
use Rattle.adjoint_rules.proofs.Generators.{posed_quiver, marked_are_objects, assumptions_have_signatures}
use Rattle.adjoint_rules.specs.Problem.{numbers, is_in_play, polynomials, generators_in}
use Rattle.adjoint_rules.specs.declared.parts.Parts.{Parts}
use Rattle.confluence.proofs.FreeRows.{Free, ideal_span, free_span}
use Rattle.confluence.proofs.Led.{HasLed, led_at, led_of, led_at-is}
use Rattle.confluence.proofs.LedRules.{led_is, leds_are, parted, is_lower, all_words_filtered}
use Rattle.confluence.proofs.Resolve.{everything}
use Rattle.confluence.proofs.Resolved.{all_resolved}
use Rattle.confluence.proofs.Spans.{Span}
use Rattle.confluence.proofs.SumRows.{comes_from_span}
use Rattle.confluence.specs.Typed.{IsTypedInPlay}
use Rattle.normal_forms.specs.Descents.{all_grounded}
use Rattle.normal_forms.specs.NormalForms.{IsBasis, normal_forms, forms_representation}
use Rattle.normal_forms.specs.SharpMeans.{SharpMeans}
use Rattle.normal_forms.proofs.Rationals.{rationals}
use Rattle.normal_forms.proofs.Congruence.{AnyRow}
use Rattle.normal_forms.proofs.WordForms.{normal_form_is}
use Rattle.normal_forms.proofs.NormalCategory.{AllPlay, IsTypedRule, Facts, normal_laws}
use Rattle.normal_forms.proofs.Sharp.{normal_representation, normal_represents, normal_cancels, ideal_zero, zero_ideal}
use Rattle.normal_forms.proofs.Stated.{facts_of}
use Rattle.normal_forms.proofs.Images.{laws_from_premise, image_laws, image_cancels, image_represents, image_value_zero, zero_at_under}
use Rattle.normal_forms.proofs.Plain.{plain, exact, word_order, word_rules, exact_ground, exact_forms, letter_plain, is_image}

-- the letters of a path are letters of the quiver
leads_over : (q : Quiver) (u v : ℕ) (w : Word) → leads q u v w ≡ true → IsOver (letters q) w
leads_over q u v [] e = All-nil (λ a. a < letters q)
leads_over q u v (a ∷ w) e = let first = step q u v a w e in All-cons (λ b. b < letters q) a w first.letter (leads_over q u (source q a) w first.rest)

path_over : (q : Quiver) (u v : ℕ) (w : Word) → is_path q u v w ≡ true → IsOver (letters q) w
path_over q u v [] e = absurd (cc)
path_over q u v (a ∷ w) e = leads_over q u v (a ∷ w) e

pub plays_from_test : (play : ℕ → Bool) (w : Word) → list_all play w ≡ true → AllPlay play w
plays_from_test play [] e = tt
plays_from_test play (a ∷ w) e = let parts = and_parts (play a) (list_all play w) e in (parts.0, plays_from_test play w parts.1)

module _ (p : Parts) (rules : List Rule) (b : IsBasis p rules) where
  abbrev q : Quiver
  q = quiver_of p.quiver

  abbrev play : ℕ → Bool
  play = is_in_play p.quiver p.starred (numbers p.marked)

  abbrev order_rank : List ℕ → List ℕ
  order_rank = asked_rank (letter_count p.quiver) p.order

  in_range : (w : Word) → IsOver (letter_count p.quiver) w → (word_order p rules b.are_rules).Range w
  in_range = over_range (letter_count p.quiver) (asked_cmp p.order) order_rank (asked_cmp-admissible (letter_count p.quiver) p.order)

  over_from : (w : Word) → (word_order p rules b.are_rules).Range w → IsOver (letter_count p.quiver) w
  over_from = range_over (letter_count p.quiver) (asked_cmp p.order) order_rank (asked_cmp-admissible (letter_count p.quiver) p.order)

  quiver : IsQuiver q
  quiver = posed_quiver p b.posed

  path_range : (u v : ℕ) (w : Word) → is_path q u v w ≡ true → (word_order p rules b.are_rules).Range w
  path_range u v w e = in_range w (subst (λ n. IsOver n w) (letters-quiver_of p.quiver) (path_over q u v w e))

  play_over : (w : Word) → AllPlay play w → IsOver (letter_count p.quiver) w
  play_over [] each = All-nil (λ a. a < letter_count p.quiver)
  play_over (a ∷ w) each = All-cons (λ c. c < letter_count p.quiver) a w
      (ltb-true a (letter_count p.quiver) (and_parts (ltb a (letter_count p.quiver)) _ each.0).0) (play_over w each.1)

  -- the rules are typed and in play
  rule_typed : (i : ℕ) → HasLed rules i → IsTypedRule q play (parted (led_at rules i))
  rule_typed i (g, numbered) = subst (λ r. IsTypedRule q play (parted r)) (sym (led_at-is rules i g numbered)) (record {
    source = is.source;
    target = is.target;
    lead_path = is.typed.at g.lead lead_occurs;
    lead_plays = plays_from_test play g.lead (is.in_play.at g.lead lead_occurs);
    tail = all_words_filtered (λ w. (is_path q is.source is.target w ≡ true) × AllPlay play w) (is_lower (led_of g)) g.poly.terms
        (λ w lower. let some = occurs w lower in (is.typed.at w some, plays_from_test play w (is.in_play.at w some)));
  })
    where
      is : IsTypedInPlay q play g.poly.terms
      is = rule_at-all (λ f. IsTypedInPlay q play f.poly.terms) rules i g numbered b.typed

      lead_occurs : coefficient_of g.poly.terms g.lead ≢ pos 0
      lead_occurs zero =
          let led = led_is (letter_count p.quiver) (asked_cmp p.order) order_rank (asked_cmp-admissible (letter_count p.quiver) p.order) g
          (rule_at-all (IsRule (letter_count p.quiver) (asked_cmp p.order)) rules i g numbered b.are_rules) in
          let none : pos (led_of g).leading ≡ pos 0 = sym led.at_lead ∙ zero in
          absurd (omega (arith, ints, none, led.positive))

      occurs : (w : Word) → is_lower (led_of g) w ≡ true → coefficient_of g.poly.terms w ≢ pos 0
      occurs w lower zero =
          let parts = and_parts (not (word_eq g.lead w)) (not (int_eq (coefficient_of g.poly.terms w) (pos 0))) lower in
          true≢false (sym parts.1 ∙ ap not ((Decides-int_eq (coefficient_of g.poly.terms w) (pos 0)).1 zero))

  -- what is in the rational ideal is a sum of rows over the rules
  ideal_rows : {f : List Term} → HasSignature q f → InRationalIdeal (polynomials_of rules) f
      → Span (AnyRow (word_order p rules b.are_rules) (word_rules p rules b.are_rules)) (coefficient_of f)
  ideal_rows {f} typed inside = free_span (word_order p rules b.are_rules) rules
      (leds_are (letter_count p.quiver) (asked_cmp p.order) order_rank (asked_cmp-admissible (letter_count p.quiver) p.order) rules b.are_rules) f
      (λ w some. path_range typed.source typed.target w (typed.typed.at w some))
      (ideal_span (polynomials_of rules) f inside)

  -- and back
  rows_ideal : (f : List Term) → Span (AnyRow (word_order p rules b.are_rules) (word_rules p rules b.are_rules)) (coefficient_of f)
      → InRationalIdeal (polynomials_of rules) f
  rows_ideal f rows =
      let c = comes_from_span (word_order p rules b.are_rules) rules
      (leds_are (letter_count p.quiver) (asked_cmp p.order) order_rank (asked_cmp-admissible (letter_count p.quiver) p.order) rules b.are_rules)
      (everything (word_order p rules b.are_rules)) Free (λ u range any. tt) f rows in
      record { denominator = c.multiplier; rows = c.rows; combination = c.combination }

  abbrev Inside : List Term → Type 0
  Inside = InRationalIdeal (polynomials_of rules)

  generators_rows : (fs : List (List Term)) → AllByRecursion (HasSignature q) fs → All Inside fs
      → AllByRecursion (λ f. Span (AnyRow (word_order p rules b.are_rules) (word_rules p rules b.are_rules)) (coefficient_of f)) fs
  generators_rows [] typed inside = tt
  generators_rows (f ∷ fs) typed inside = (ideal_rows typed.0 (All-head Inside f fs inside), generators_rows fs typed.1 (All-tail Inside f fs inside))

  generators_have_signatures : AllByRecursion (HasSignature q) (generators_in p)
  generators_have_signatures = generators_typed q quiver p.starred (numbers p.marked) (polynomials p.assumptions) (marked_are_objects p b.posed)
      (assumptions_have_signatures p b.posed)

  generators_are_rows : AllByRecursion (λ f. Span (AnyRow (word_order p rules b.are_rules) (word_rules p rules b.are_rules)) (coefficient_of f))
      (generators_in p)
  generators_are_rows = generators_rows (generators_in p) generators_have_signatures b.generated

  facts : Facts rationals (exact_ground p rules b.are_rules)
  facts = facts_of rationals (word_order p rules b.are_rules) (word_rules p rules b.are_rules) _ _ (letter_count p.quiver) q p.starred (numbers p.marked)
      (polynomials p.assumptions) (record {
        count_is = sym (letters-quiver_of p.quiver);
        normal_is = normal_form_is rationals (letter_count p.quiver) (asked_cmp p.order) order_rank
            (asked_cmp-admissible (letter_count p.quiver) p.order) rules b.are_rules (all_grounded (letter_count p.quiver) p.order);
        resolved = all_resolved
            (letter_count p.quiver) (asked_cmp p.order) order_rank (asked_cmp-admissible (letter_count p.quiver) p.order) rules b.are_rules
            (everything (word_order p rules b.are_rules)) (λ a is any. b.resolved.each a is);
        join = λ u v one other. in_range (u ++ v) (IsOver-append (letter_count p.quiver) u v (over_from u one) (over_from v other));
        is_quiver = quiver;
        play_range = λ w each. in_range w (play_over w each);
        typed = rule_typed;
        generated = generators_are_rows;
      })

  pub basis_laws : PreadditiveLaws (normal_forms p rules)
  basis_laws = image_laws (exact_forms p rules b.are_rules) (normal_forms p rules) plain exact (is_image p rules b.are_rules b)
      (normal_laws rationals (exact_ground p rules b.are_rules) facts)

  -- each word of the polynomial has its letters in play
  abbrev pub Plays : List Term → Type 0
  Plays f = AllByRecursion (λ t. AllPlay play t.1) f

  -- what is in the rational ideal of the rules has the value zero
  pub inside_is_zero : {f : List Term} → Plays f → HasSignature q f → InRationalIdeal (polynomials_of rules) f
      → HasValueZero (normal_forms p rules) q (forms_representation p rules) f
  inside_is_zero {f} plays typed inside =
      image_value_zero (exact_forms p rules b.are_rules) (normal_forms p rules) plain exact (is_image p rules b.are_rules b)
      (normal_representation rationals (exact_ground p rules b.are_rules)) (forms_representation p rules)
      (λ v. refl) (letter_plain p rules b.are_rules)
      (ideal_zero rationals (exact_ground p rules b.are_rules) facts f plays (ideal_rows typed inside))

  zeros : (fs : List (List Term)) → AllByRecursion Plays fs → AllByRecursion (HasSignature q) fs → All Inside fs
      → AllByRecursion (HasValueZero (normal_forms p rules) q (forms_representation p rules)) fs
  zeros [] plays typed inside = tt
  zeros (f ∷ fs) plays typed inside = (inside_is_zero plays.0 typed.0 (All-head Inside f fs inside), zeros fs plays.1 typed.1 (All-tail Inside f fs inside))

  -- Where the letters of the generators and the claim are in play, the normal forms tell a claim outside the rational ideal of the rules from zero.
  pub sharp_means : AllByRecursion Plays (generators_in p) → (claim : List Term) → Plays claim → HasSignature q claim
      → (InRationalIdeal (polynomials_of rules) claim → ⊥) → SharpMeans p rules claim
  sharp_means generators claim plays typed outside = record {
    tells = record {
      laws = basis_laws;
      cancels = λ n above. image_cancels (exact_forms p rules b.are_rules) (normal_forms p rules) plain exact (is_image p rules b.are_rules b)
          (normal_cancels rationals (exact_ground p rules b.are_rules) facts above);
      represents = image_represents (exact_forms p rules b.are_rules) (normal_forms p rules) plain exact (is_image p rules b.are_rules b)
          (normal_representation rationals (exact_ground p rules b.are_rules)) (forms_representation p rules)
          (λ v. refl) (letter_plain p rules b.are_rules) (normal_represents rationals (exact_ground p rules b.are_rules) facts);
      zeros = zeros (generators_in p) generators generators_have_signatures b.generated;
      claim = record {
        source = typed.source;
        target = typed.target;
        source_is_object = typed.source_is_object;
        target_is_object = typed.target_is_object;
        typed = typed.typed;
        nonzero = λ none. outside
            (rows_ideal claim
            (zero_ideal rationals (exact_ground p rules b.are_rules) facts typed.source_is_object typed.target_is_object plays typed.typed
            (under none)));
      };
    };
  }
    where
      under : HasValueZeroAt (normal_forms p rules) q (forms_representation p rules) typed.source typed.target claim
          → HasValueZeroAt (exact_forms p rules b.are_rules) q
          (normal_representation rationals (exact_ground p rules b.are_rules)) typed.source typed.target claim
      under = zero_at_under (exact_forms p rules b.are_rules) (normal_forms p rules) plain exact (is_image p rules b.are_rules b)
          (normal_representation rationals (exact_ground p rules b.are_rules)) (forms_representation p rules)
          (λ v. refl) (letter_plain p rules b.are_rules) q typed.source typed.target claim

-- The laws hold whatever the rules are: bad ones make no objects.
pub normal_forms_laws : (p : Parts) (rules : List Rule) → PreadditiveLaws (normal_forms p rules)
normal_forms_laws p rules = laws_from_premise (IsBasis p rules) (λ v h. h.1) (λ m h. h.1) (basis_laws p rules)
