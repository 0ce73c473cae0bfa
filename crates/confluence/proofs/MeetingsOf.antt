-- Ambiguities of rules with the words around their leading words, and the two rows of their S-polynomials.
use Rattle.std.proofs.Common.{◌≡◌, ◌≢◌, ℕ, pos, ◌+ℤ◌, ◌*ℤ◌, ◌<ℤ◌, List, [], ◌∷◌, ◌++◌, length, take, Some, refl, sym, ap, ap₂, ◌∙◌, subst, append_assoc, append-nil}
use Rattle.std.proofs.Math.IntN.{+ℤ_idr}
use Rattle.std.proofs.lemmas.List.{take_at, append_cancel_left}
use Rattle.std.specs.List.{All}
use Rattle.definitions.specs.Combination.{generator_at}
use Rattle.definitions.specs.Poly.{Word, Term, coefficient_of, poly_between}
use Rattle.word_core.specs.Letters.{IsOver}
use Rattle.word_orders.specs.Admissible.{Compare, IsAdmissible}
use Rattle.word_orders.specs.Orders.{IsBelow}
use Rattle.rule_reduce.proofs.Numbers.{rule_at-all, rule_at-polynomial}
use Rattle.rule_reduce.specs.RuleLists.{IsRule, rule_at, polynomials_of}
use Rattle.rule_reduce.specs.declared.rule.Rule.{Rule}
use Rattle.ambiguities.proofs.Bounds.{over_overlap_word, multiple_at_most, coefficient_at_bound, cancelled}
use Rattle.ambiguities.proofs.Cancelling.{factors_cancel}
use Rattle.ambiguities.proofs.Joined.{overlap_word-is, first_splits, second_splits, leading_at-is}
use Rattle.ambiguities.specs.Ambiguities.{IsAmbiguity, overlap_word_of}
use Rattle.ambiguities.specs.Resolved.{s_sum}
use Rattle.ambiguities.specs.SPolynomials.{leading_at, first_row, second_row}
use Rattle.ambiguities.specs.declared.ambiguity.Ambiguity.{Ambiguity}
use Rattle.ambiguities.specs.declared.ambiguity.Kind.TheVariants.{Overlap, Inclusion}
use Rattle.confluence.proofs.Factors.{Factors, factors}
use Rattle.confluence.proofs.Places.{SomeLetters, some_length}
use Rattle.confluence.proofs.RowSums.{traced-cons}

-- an ambiguity, its overlap word, what follows the first leading word there, and the letters before and after the second
pub record IsMeeting (rules : List Rule) (a : Ambiguity) (word after before behind : Word) : Type 0 where
  pub ambiguity : IsAmbiguity rules a
  pub word_is : overlap_word_of rules a ≡ word
  pub after_is : (first_row rules a).right ≡ after
  pub before_is : (second_row rules a).left ≡ before
  pub behind_is : (second_row rules a).right ≡ behind

module _ (rules : List Rule) where
  meeting : (a : Ambiguity) (is : IsAmbiguity rules a) (word after before behind : Word)
      → overlap_word_of rules a ≡ word → word ≡ is.first.lead ++ after
      → word ≡ before ++ (is.second.lead ++ behind) → length before ≡ a.place → IsMeeting rules a word after before behind
  meeting a is word after before behind same first second place =
      let front : (second_row rules a).left ≡ before = ap (take a.place) (same ∙ second)
      ∙ take_at before (is.second.lead ++ behind) a.place place in
      record {
        ambiguity = is;
        word_is = same;
        after_is = append_cancel_left is.first.lead (first_row rules a).right after (sym (first_splits rules a is) ∙ same ∙ first);
        before_is = front;
        behind_is = append_cancel_left is.second.lead (second_row rules a).right behind (append_cancel_left before _ _
            (ap (λ w. w ++ (is.second.lead ++ (second_row rules a).right)) (sym front) ∙ sym (second_splits rules a is) ∙ same ∙ second));
      }

  module _ (i j : ℕ) (g h : Rule) (g_numbered : rule_at rules i ≡ Some g) (h_numbered : rule_at rules j ≡ Some h) where
    pub overlap_meeting : (s o t : Word) → SomeLetters s → SomeLetters o → SomeLetters t → g.lead ≡ s ++ o → h.lead ≡ o ++ t
        → IsMeeting rules (record { i = i; j = j; kind = Overlap; place = length s }) (s ++ h.lead) t s []
    overlap_meeting s o t some_s some_o some_t left right = meeting a is (s ++ h.lead) t s []
        (overlap_word-is rules a is ∙ ap (λ w. take (length s) w ++ h.lead) left ∙ ap (λ w. w ++ h.lead) (take_at s o (length s) refl))
        (ap (λ w. s ++ w) right ∙ sym (append_assoc s o t) ∙ ap (λ w. w ++ t) (sym left)) (ap (λ w. s ++ w) (sym (append-nil h.lead))) refl
      where
        a : Ambiguity
        a = record { i = i; j = j; kind = Overlap; place = length s }

        is : IsAmbiguity rules a
        is = record {
          first = g;
          second = h;
          first_numbered = g_numbered;
          second_numbered = h_numbered;
          meets = record {
            before = s;
            shared = o;
            after = t;
            left_splits = left;
            right_splits = right;
            at_place = refl;
            before_letters = some_length s some_s;
            shared_letters = some_length o some_o;
            after_letters = some_length t some_t;
          };
        }

    pub inclusion_meeting : (s t : Word) → i ≢ j → g.lead ≡ s ++ (h.lead ++ t)
        → IsMeeting rules (record { i = i; j = j; kind = Inclusion; place = length s }) g.lead [] s t
    inclusion_meeting s t differ splits = meeting a is g.lead [] s t (overlap_word-is rules a is) (sym (append-nil g.lead)) splits refl
      where
        a : Ambiguity
        a = record { i = i; j = j; kind = Inclusion; place = length s }

        is : IsAmbiguity rules a
        is = record {
          first = g;
          second = h;
          first_numbered = g_numbered;
          second_numbered = h_numbered;
          meets = (differ, record { before = s; after = t; splits = splits; at_place = refl });
        }

-- the S-polynomial
module _ (rules : List Rule) (a : Ambiguity) (is : IsAmbiguity rules a) where
  abbrev first_poly : List Term
  first_poly = poly_between (first_row rules a).left is.first.poly.terms (first_row rules a).right

  abbrev second_poly : List Term
  second_poly = poly_between (second_row rules a).left is.second.poly.terms (second_row rules a).right

  pub coefficient_of-s_sum : (w : Word) → coefficient_of (s_sum rules a) w
      ≡ (first_row rules a).coef *ℤ coefficient_of first_poly w +ℤ (second_row rules a).coef *ℤ coefficient_of second_poly w
  coefficient_of-s_sum w =
      let one = first_row rules a in
      let two = second_row rules a in
      traced-cons [] (polynomials_of rules) one (two ∷ []) w
      ∙ ap₂ (λ p rest. one.coef *ℤ coefficient_of (poly_between one.left p one.right) w +ℤ rest)
      (rule_at-polynomial rules a.i is.first is.first_numbered)
      (traced-cons [] (polynomials_of rules) two [] w
      ∙ +ℤ_idr (two.coef *ℤ coefficient_of (poly_between two.left (generator_at (polynomials_of rules) a.j) two.right) w)
      ∙ ap (λ p. two.coef *ℤ coefficient_of (poly_between two.left p two.right) w)
      (rule_at-polynomial rules a.j is.second is.second_numbered))

  module _ (letters : ℕ) (compare : Compare) (are : All (IsRule letters compare) rules) where
    first_is : IsRule letters compare is.first
    first_is = rule_at-all (IsRule letters compare) rules a.i is.first is.first_numbered are

    second_is : IsRule letters compare is.second
    second_is = rule_at-all (IsRule letters compare) rules a.j is.second is.second_numbered are

    first_positive : pos 0 <ℤ leading_at rules a.i
    first_positive = subst (λ k. pos 0 <ℤ k) (sym (leading_at-is rules a.i is.first is.first_numbered)) first_is.positive

    second_positive : pos 0 <ℤ leading_at rules a.j
    second_positive = subst (λ k. pos 0 <ℤ k) (sym (leading_at-is rules a.j is.second is.second_numbered)) second_is.positive

    pub factors_of : Factors (leading_at rules a.i) (leading_at rules a.j)
    factors_of = factors (leading_at rules a.i) (leading_at rules a.j) first_positive second_positive

    -- its words are below the overlap word
    pub s_words_below : (rank : List ℕ → List ℕ) → IsAdmissible letters compare rank → (w : Word) → coefficient_of (s_sum rules a) w ≢ pos 0
        → IsBelow letters compare w (overlap_word_of rules a)
    s_words_below rank laws =
        cancelled (first_row rules a).coef (second_row rules a).coef first_poly second_poly (s_sum rules a) coefficient_of-s_sum
        (λ w. IsBelow letters compare w bound) bound
        (ap₂ (λ x y. (first_row rules a).coef *ℤ x +ℤ (second_row rules a).coef *ℤ y)
        (coefficient_at_bound letters compare rank laws bound over is.first first_is (first_row rules a).left
        (first_row rules a).right (first_splits rules a is) ∙ sym (leading_at-is rules a.i is.first is.first_numbered))
        (coefficient_at_bound letters compare rank laws bound over is.second second_is (second_row rules a).left
        (second_row rules a).right (second_splits rules a is) ∙ sym (leading_at-is rules a.j is.second is.second_numbered))
        ∙ factors_cancel (leading_at rules a.i) (leading_at rules a.j) first_positive second_positive)
        (multiple_at_most letters compare rank laws bound over is.first first_is
        (first_row rules a).left (first_row rules a).right (first_splits rules a is))
        (multiple_at_most letters compare rank laws bound over is.second second_is
        (second_row rules a).left (second_row rules a).right (second_splits rules a is))
      where
        bound : Word
        bound = overlap_word_of rules a

        over : IsOver letters (overlap_word_of rules a)
        over = over_overlap_word letters compare rules a are is
