-- The leading words of the two multiples cancel, and all other words are below them.
use Rattle.std.proofs.Common.{◌≡◌, ◌≢◌, ◌⊎◌, inl, inr, ◌<◌, ℕ, zero, suc, ℤ, pos, negsuc, ◌+ℤ◌, ◌*ℤ◌, ◌<ℤ◌, List, ◌++◌, take, Ok, refl, sym, ap, ap₂, ◌∙◌, subst, get_or}
use Rattle.std.proofs.Math.IntN.{*ℤ-zero}
use Rattle.std.proofs.lemmas.List.Elements.{All-take, All-map}
use Rattle.std.specs.List.{All}
use Rattle.std.specs.declared.cmp.Ordering.TheVariants.{Less}
use Rattle.definitions.proofs.Coefficients.{coefficient_of-append, coefficient_of-multiple}
use Rattle.definitions.specs.Poly.{Term, coefficient_of, poly_multiple, poly_between}
use Rattle.word_core.specs.Letters.{IsOver}
use Rattle.traced_rows.proofs.Lists.{all_two}
use Rattle.nc_polynomial.proofs.Distinct.{distinct-descending, words_listed}
use Rattle.nc_polynomial.proofs.Shapes.{recursion_from_IsDescending}
use Rattle.nc_polynomial.specs.Shape.{IsShaped}
use Rattle.word_orders.proofs.Over.{IsOver-append, IsOver-front, IsOver-back}
use Rattle.word_orders.specs.Admissible.{Compare, IsAdmissible}
use Rattle.word_orders.specs.Orders.{IsBelow}
use Rattle.rule_reduce.proofs.AtMost.{IsAtMost, leading-greatest, leading-all}
use Rattle.rule_reduce.proofs.Numbers.{rule_at-all, rule_at-polynomial}
use Rattle.rule_reduce.proofs.WordsKept.{words_with_coefficients}
use Rattle.rule_reduce.specs.RuleLists.{IsRule}
use Rattle.rule_reduce.specs.declared.rule.Rule.{Rule}
use Rattle.ambiguities.specs.Ambiguities.{IsAmbiguity, joined_word, overlap_word_of}
use Rattle.ambiguities.specs.Laws.{EachOfRow, LeadingWordsCancel}
use Rattle.ambiguities.specs.SPolynomials.{first_row, second_row, s_polynomial_of}
use Rattle.ambiguities.specs.declared.ambiguity.Ambiguity.{Ambiguity}
use Rattle.ambiguities.specs.declared.ambiguity.Kind.{Kind}
use Rattle.ambiguities.specs.declared.ambiguity.Kind.TheVariants.{Overlap, Inclusion}
use Rattle.ambiguities.proofs.Joined.{overlap_word-is, first_splits, second_splits, leading_at-is}
use Rattle.ambiguities.proofs.Cancelling.{factors_cancel}
use Rattle.ambiguities.proofs.Multiples.{coefficient_of-around, leading_coefficient}
use Rattle.ambiguities.proofs.Balance.{between_of, sum_of_multiples}

-- the letters of the overlap word
over_joined : (letters : ℕ) (kind : Kind) (p q : List ℕ) (place : ℕ) → IsOver letters p → IsOver letters q → IsOver letters (joined_word kind p q place)
over_joined letters Overlap p q place p_over q_over = IsOver-append letters (take place p) q (All-take (λ a. a < letters) place p p_over) q_over
over_joined letters Inclusion p q place p_over q_over = p_over

-- the letters of a leading word
over_lead : (letters : ℕ) (compare : Compare) (g : Rule) → IsRule letters compare g → IsOver letters g.lead
over_lead letters compare g is_rule = leading-all (λ t. IsOver letters t.1) compare g.poly.terms (g.leading, g.lead) is_rule.leading is_rule.over

pub over_overlap_word : (letters : ℕ) (compare : Compare) (rules : List Rule) (a : Ambiguity) → All (IsRule letters compare) rules → IsAmbiguity rules a → IsOver letters (overlap_word_of rules a)
over_overlap_word letters compare rules a each is =
    subst (IsOver letters) (sym (overlap_word-is rules a is))
    (over_joined letters a.kind is.first.lead is.second.lead a.place
    (over_lead letters compare is.first (rule_at-all (IsRule letters compare) rules a.i is.first is.first_numbered each))
    (over_lead letters compare is.second (rule_at-all (IsRule letters compare) rules a.j is.second is.second_numbered each)))

-- an integer is zero or not
is_zero_or_not : (z : ℤ) → (z ≡ pos 0) ⊎ (z ≢ pos 0)
is_zero_or_not (pos zero) = inl refl
is_zero_or_not (pos (suc n)) = inr (λ e. cc)
is_zero_or_not (negsuc n) = inr (λ e. cc)

module _ (letters : ℕ) (compare : Compare) (rank : List ℕ → List ℕ) (laws : IsAdmissible letters compare rank) (bound : List ℕ) (bound_over : IsOver letters bound) where
  abbrev pub AtMostBound : List ℕ → Type 0
  AtMostBound w = (w ≡ bound) ⊎ IsBelow letters compare w bound

  module _ (g : Rule) (is_rule : IsRule letters compare g) (l r : List ℕ) (splits : bound ≡ l ++ (g.lead ++ r)) where
    -- a word of the rule between the two words is at most the leading one there
    around : (u : List ℕ) → IsOver letters u → IsAtMost compare u g.lead → AtMostBound (l ++ (u ++ r))
    around u u_over (inl same) = inl (ap (λ w. l ++ (w ++ r)) same ∙ sym splits)
    around u u_over (inr less) =
        let whole = subst (IsOver letters) splits bound_over in
        let left = IsOver-front letters l (g.lead ++ r) whole in
        let right = IsOver-back letters g.lead r (IsOver-back letters l (g.lead ++ r) whole) in
        inr (record {
          left = IsOver-append letters l (u ++ r) left (IsOver-append letters u r u_over right);
          right = bound_over;
          less = subst (λ w. compare (l ++ (u ++ r)) w ≡ Less) (sym splits) (laws.around l u g.lead r less);
        })

    each_around : All (λ t. AtMostBound (l ++ (t.1 ++ r))) g.poly.terms
    each_around i t k = around (get_or g.poly.terms i t).1 (is_rule.over i t k) (leading-greatest letters compare rank laws g.poly.terms (g.leading, g.lead) is_rule.leading i t k)

    pub row_at_most : (w : List ℕ) → coefficient_of g.poly.terms w ≢ pos 0 → AtMostBound (l ++ (w ++ r))
    row_at_most = words_with_coefficients (λ w. AtMostBound (l ++ (w ++ r))) g.poly.terms each_around

    pub multiple_at_most : (w : List ℕ) → coefficient_of (poly_between l g.poly.terms r) w ≢ pos 0 → AtMostBound w
    multiple_at_most = words_with_coefficients AtMostBound (poly_between l g.poly.terms r) (All-map (λ (t : Term). AtMostBound t.1) (λ (t : Term). (t.0, l ++ (t.1 ++ r))) g.poly.terms each_around)

    -- its coefficient there is the leading one
    pub coefficient_at_bound : coefficient_of (poly_between l g.poly.terms r) bound ≡ g.leading
    coefficient_at_bound =
        ap (coefficient_of (poly_between l g.poly.terms r)) splits
        ∙ coefficient_of-around l r g.lead g.poly.terms
        ∙ leading_coefficient compare g.poly.terms (g.leading, g.lead) g.poly.canonical.shaped is_rule.leading

-- the sum of two multiples of polynomials
module _ (a b : ℤ) (m n p : List Term) (sum : (w : List ℕ) → coefficient_of p w ≡ a *ℤ coefficient_of m w +ℤ b *ℤ coefficient_of n w) where
  no_word : (w : List ℕ) → coefficient_of m w ≡ pos 0 → coefficient_of n w ≡ pos 0 → coefficient_of p w ≡ pos 0
  no_word w m_none n_none = sum w ∙ ap₂ (λ x y. a *ℤ x +ℤ b *ℤ y) m_none n_none ∙ ap₂ ◌+ℤ◌ (*ℤ-zero a) (*ℤ-zero b)

  -- its words are words of one of them
  pub of_either : (P : List ℕ → Type 0) → ((w : List ℕ) → coefficient_of m w ≢ pos 0 → P w) → ((w : List ℕ) → coefficient_of n w ≢ pos 0 → P w) → (w : List ℕ) → coefficient_of p w ≢ pos 0 → P w
  of_either P of_m of_n w some = go (is_zero_or_not (coefficient_of m w)) (is_zero_or_not (coefficient_of n w))
    where
      go : (coefficient_of m w ≡ pos 0) ⊎ (coefficient_of m w ≢ pos 0) → (coefficient_of n w ≡ pos 0) ⊎ (coefficient_of n w ≢ pos 0) → P w
      go (inr m_some) n_case = of_m w m_some
      go (inl m_none) (inr n_some) = of_n w n_some
      go (inl m_none) (inl n_none) = absurd (some (no_word w m_none n_none))

  -- the bound is none of them where the coefficients there cancel
  pub cancelled : (P : List ℕ → Type 0) (bound : List ℕ) → a *ℤ coefficient_of m bound +ℤ b *ℤ coefficient_of n bound ≡ pos 0 → ((w : List ℕ) → coefficient_of m w ≢ pos 0 → (w ≡ bound) ⊎ P w) → ((w : List ℕ) → coefficient_of n w ≢ pos 0 → (w ≡ bound) ⊎ P w)
      → (w : List ℕ) → coefficient_of p w ≢ pos 0 → P w
  cancelled P bound at_bound of_m of_n w some = below (of_either (λ v. (v ≡ bound) ⊎ P v) of_m of_n w some)
    where
      below : (w ≡ bound) ⊎ P w → P w
      below (inl same) = absurd (some (ap (coefficient_of p) same ∙ sum bound ∙ at_bound))
      below (inr held) = held

-- the coefficients of the S-polynomial, by the polynomials of the two rules
pub coefficient_of-s_polynomial : (rules : List Rule) (a : Ambiguity) (is : IsAmbiguity rules a) (p : List Term) → s_polynomial_of rules a ≡ Ok p → (w : List ℕ)
    → coefficient_of p w ≡ (first_row rules a).coef *ℤ coefficient_of (poly_between (first_row rules a).left is.first.poly.terms (first_row rules a).right) w
    +ℤ (second_row rules a).coef *ℤ coefficient_of (poly_between (second_row rules a).left is.second.poly.terms (second_row rules a).right) w
coefficient_of-s_polynomial rules a is p ends w =
    let one = first_row rules a in
    let two = second_row rules a in
    (sum_of_multiples rules a p ends).at w
    ∙ coefficient_of-append (poly_multiple one.coef (between_of rules a one)) (poly_multiple two.coef (between_of rules a two)) w
    ∙ ap₂ ◌+ℤ◌ (coefficient_of-multiple one.coef (between_of rules a one) w) (coefficient_of-multiple two.coef (between_of rules a two) w)
    ∙ ap₂ (λ x y. one.coef *ℤ coefficient_of (poly_between one.left x one.right) w +ℤ two.coef *ℤ coefficient_of (poly_between two.left y two.right) w)
    (rule_at-polynomial rules a.i is.first is.first_numbered) (rule_at-polynomial rules a.j is.second is.second_numbered)

-- the law
pub leading_words_cancel : LeadingWordsCancel
leading_words_cancel letters compare rank rules a p laws each is ends =
    let bound = overlap_word_of rules a in
    let over = over_overlap_word letters compare rules a each is in
    let one = first_row rules a in
    let two = second_row rules a in
    let first_rule = rule_at-all (IsRule letters compare) rules a.i is.first is.first_numbered each in
    let second_rule = rule_at-all (IsRule letters compare) rules a.j is.second is.second_numbered each in
    let first_poly = rule_at-polynomial rules a.i is.first is.first_numbered in
    let second_poly = rule_at-polynomial rules a.j is.second is.second_numbered in
    let m = poly_between one.left is.first.poly.terms one.right in
    let n = poly_between two.left is.second.poly.terms two.right in
    let sum = coefficient_of-s_polynomial rules a is p ends in
    let at_first = coefficient_at_bound letters compare rank laws bound over is.first first_rule one.left one.right (first_splits rules a is) in
    let at_second = coefficient_at_bound letters compare rank laws bound over is.second second_rule two.left two.right (second_splits rules a is) in
    let at_bound : one.coef *ℤ coefficient_of m bound +ℤ two.coef *ℤ coefficient_of n bound ≡ pos 0 =
    ap₂ (λ x y. one.coef *ℤ x +ℤ two.coef *ℤ y) (at_first ∙ sym (leading_at-is rules a.i is.first is.first_numbered)) (at_second ∙ sym (leading_at-is rules a.j is.second is.second_numbered))
    ∙ factors_cancel _ _ (subst (λ k. pos 0 <ℤ k) (sym (leading_at-is rules a.i is.first is.first_numbered)) first_rule.positive) (subst (λ k. pos 0 <ℤ k) (sym (leading_at-is rules a.j is.second is.second_numbered)) second_rule.positive) in
    record {
      over = over;
      polynomial = cancelled one.coef two.coef m n p sum (λ w. IsBelow letters compare w bound) bound at_bound
          (multiple_at_most letters compare rank laws bound over is.first first_rule one.left one.right (first_splits rules a is))
          (multiple_at_most letters compare rank laws bound over is.second second_rule two.left two.right (second_splits rules a is));
      rows_at_most = all_two (EachOfRow (AtMostBound letters compare rank laws bound over) rules) one two
          (subst (λ (f : List Term). (w : List ℕ) → coefficient_of f w ≢ pos 0 → AtMostBound letters compare rank laws bound over (one.left ++ (w ++ one.right))) (sym first_poly)
          (row_at_most letters compare rank laws bound over is.first first_rule one.left one.right (first_splits rules a is)))
          (subst (λ (f : List Term). (w : List ℕ) → coefficient_of f w ≢ pos 0 → AtMostBound letters compare rank laws bound over (two.left ++ (w ++ two.right))) (sym second_poly)
          (row_at_most letters compare rank laws bound over is.second second_rule two.left two.right (second_splits rules a is)));
    }

-- all letters of the S-polynomial are below the number
pub over_terms : (letters : ℕ) (compare : Compare) (rank : List ℕ → List ℕ) (rules : List Rule) (a : Ambiguity) (p : List Term)
    → IsAdmissible letters compare rank → All (IsRule letters compare) rules → IsAmbiguity rules a → s_polynomial_of rules a ≡ Ok p → IsShaped p → All (λ t. IsOver letters t.1) p
over_terms letters compare rank rules a p laws each is ends shaped =
    let bound = leading_words_cancel letters compare rank rules a p laws each is ends in
    words_listed (IsOver letters) p (distinct-descending p (recursion_from_IsDescending p shaped.descending)) shaped.nonzero (λ w some. (bound.polynomial w some).left)
