-- Two leading words in one word are one, apart, or come from an ambiguity; rows apart differ by lower rows.
use Rattle.confluence.proofs.Prelude.{◌≡◌, ◌≢◌, ◌⊎◌, inl, inr, ℕ, pos, negsuc, ◌+ℤ◌, ◌*ℤ◌, ◌<ℤ◌, neg_ℤ, List, [], ◌++◌, length, refl, sym, ap, ap₂, ◌∙◌, arith, append_assoc, append-nil, All, unsigned_abs, ints, length-append, nil_from_length, Word, Term, coefficient_of, poly_multiple, poly_between, coefficient_of-append, coefficient_of-multiple, IsOver, Compare, IsAdmissible, Order, order_from_laws, over_range, Rule, IsRule, polynomials_of, rule_at-all, Overlap, Inclusion, Ambiguity, ComesBelow, Place, IsPlace, IsOnePlace, IsApart, IsFromAmbiguity, PlacesOfOneWord, place_poly, RowsApartDiffer}
use Rattle.confluence.proofs.Integers.{neg_ℤ-*ℤ}
use Rattle.confluence.proofs.Led.{led_at, Comes, led_at-is}
use Rattle.confluence.proofs.LedRules.{leds_are, row_poly, same_nat, rules_of}
use Rattle.confluence.proofs.MeetingsOf.{IsMeeting, overlap_meeting, inclusion_meeting}
use Rattle.confluence.proofs.Places.{SomeLetters, some_length, Placed, apart, overlap, inside, outside, EitherWay, first, second, two_places}
use Rattle.confluence.proofs.Resolve.{everything, below}
use Rattle.confluence.proofs.Spans.{Coefs, Span, span_same, single}
use Rattle.confluence.proofs.Shifts.{span_bind}
use Rattle.confluence.proofs.Meets.{Rules, Row, Under, poly, apart_span, row_bound}
use Rattle.confluence.proofs.Outside.{AnyRow}
use Rattle.confluence.proofs.SumRows.{comes_from_span}
use Rattle.confluence.proofs.BelowSpans.{below_from_comes}

module _ (rules : List Rule) (word : Word) where
  -- a meeting between two words makes the places come from its ambiguity
  from_meeting : (p q : Place) (a : Ambiguity) (inner after before behind x y : Word) → IsMeeting rules a inner after before behind → a.i ≡ p.number → a.j ≡ q.number
      → word ≡ x ++ (inner ++ y) → p.left ≡ x → p.right ≡ after ++ y → q.left ≡ x ++ before → q.right ≡ behind ++ y → IsFromAmbiguity rules word p q
  from_meeting p q a inner after before behind x y m i_is j_is splits p_left p_right q_left q_right = record {
    ambiguity = a;
    is_ambiguity = m.ambiguity;
    first = i_is;
    second = j_is;
    before = x;
    behind = y;
    splits = splits ∙ ap (λ w. x ++ (w ++ y)) (sym m.word_is);
    first_left = p_left ∙ sym (append-nil x);
    first_right = p_right ∙ ap (λ w. w ++ y) (sym m.after_is);
    second_left = q_left ∙ ap (λ w. x ++ w) (sym m.before_is);
    second_right = q_right ∙ ap (λ w. w ++ y) (sym m.behind_is);
  }

  module _ (p q : Place) (is_p : IsPlace rules word p) (is_q : IsPlace rules word q) where
    p_lead : (led_at rules p.number).lead ≡ p.rule.lead
    p_lead = ap (λ r. r.lead) (led_at-is rules p.number p.rule is_p.numbered)

    q_lead : (led_at rules q.number).lead ≡ q.rule.lead
    q_lead = ap (λ r. r.lead) (led_at-is rules q.number q.rule is_q.numbered)

    -- rules with one number have one leading word
    one_lead : p.number ≡ q.number → p.rule.lead ≡ q.rule.lead
    one_lead same = sym p_lead ∙ ap (λ n. (led_at rules n).lead) same ∙ q_lead

    abbrev OneWay : Type 0
    OneWay = IsOnePlace p q ⊎ (IsApart p q ⊎ (IsFromAmbiguity rules word p q ⊎ IsFromAmbiguity rules word q p))

    -- the second leading word is in the first
    included : (s t : Word) → p.rule.lead ≡ s ++ (q.rule.lead ++ t) → q.left ≡ p.left ++ s → q.right ≡ t ++ p.right → OneWay
    included s t splits left right = by_number (same_nat p.number q.number)
      where
        by_number : (p.number ≡ q.number) ⊎ (p.number ≢ q.number) → OneWay
        by_number (inl same) =
            let whole : q.rule.lead ≡ s ++ (q.rule.lead ++ t) = sym (one_lead same) ∙ splits in
            let front : s ≡ [] = nil_from_length s (omega (arith, ap length whole, length-append s (q.rule.lead ++ t), length-append q.rule.lead t)) in
            let back : t ≡ [] = nil_from_length t (omega (arith, ap length whole, length-append s (q.rule.lead ++ t), length-append q.rule.lead t)) in
            inl (record { number = same; left = sym (left ∙ ap (λ w. p.left ++ w) front ∙ append-nil p.left); right = sym (right ∙ ap (λ w. w ++ p.right) back) })
        by_number (inr differ) = inr (inr (inl (from_meeting p q (record { i = p.number; j = q.number; kind = Inclusion; place = length s }) p.rule.lead [] s t p.left p.right
            (inclusion_meeting rules p.number q.number p.rule q.rule is_p.numbered is_q.numbered s t differ splits)
            refl refl is_p.splits refl refl left right)))

    -- the second leading word begins where the first does, and is longer
    longer : (t : Word) → SomeLetters t → q.rule.lead ≡ p.rule.lead ++ t → q.left ≡ p.left → p.right ≡ t ++ q.right → OneWay
    longer t some splits left right = elim (same_nat p.number q.number) [
      | inl same ↦ absurd (omega (arith, ap length (one_lead same), ap length splits, length-append p.rule.lead t, some_length t some))
      | inr differ ↦ inr (inr (inr (from_meeting q p (record { i = q.number; j = p.number; kind = Inclusion; place = 0 }) q.rule.lead [] [] t q.left q.right
          (inclusion_meeting rules q.number p.number q.rule p.rule is_q.numbered is_p.numbered [] t (λ e. differ (sym e)) splits)
          refl refl is_q.splits refl refl (sym left ∙ sym (append-nil q.left)) right)))
    ]

    one_way : Placed p.rule.lead q.rule.lead p.left p.right q.left q.right → OneWay
    one_way (apart m left right) = inr (inl (record { between = m; left = left; right = right }))
    one_way (overlap s o t some_s some_o some_t p_splits q_splits left right) = inr (inr (inl (from_meeting p q (record { i = p.number; j = q.number; kind = Overlap; place = length s }) (s ++ q.rule.lead) t s [] p.left q.right
        (overlap_meeting rules p.number q.number p.rule q.rule is_p.numbered is_q.numbered s o t some_s some_o some_t p_splits q_splits)
        refl refl
        (is_q.splits ∙ ap (λ w. w ++ (q.rule.lead ++ q.right)) left ∙ append_assoc p.left s (q.rule.lead ++ q.right) ∙ ap (λ w. p.left ++ w) (sym (append_assoc s q.rule.lead q.right)))
        refl right left refl)))
    one_way (inside s t splits left right) = included s t splits left right
    one_way (outside t some splits left right) = longer t some splits left right

pub places_of_one_word : PlacesOfOneWord
places_of_one_word rules word p q is_p is_q = go (two_places p.rule.lead q.rule.lead p.left p.right q.left q.right (sym is_p.splits ∙ is_q.splits))
  where
    Goal : Type 0
    Goal = IsOnePlace p q ⊎ ((IsApart p q ⊎ IsApart q p) ⊎ (IsFromAmbiguity rules word p q ⊎ IsFromAmbiguity rules word q p))

    go : EitherWay p.rule.lead q.rule.lead p.left p.right q.left q.right → Goal
    go (first placed) = elim (one_way rules word p q is_p is_q placed) [
      | inl one ↦ inl one
      | inr (inl far) ↦ inr (inl (inl far))
      | inr (inr (inl from)) ↦ inr (inr (inl from))
      | inr (inr (inr from)) ↦ inr (inr (inr from))
    ]
    go (second placed) = elim (one_way rules word q p is_q is_p placed) [
      | inl one ↦ inl (record { number = sym one.number; left = sym one.left; right = sym one.right })
      | inr (inl far) ↦ inr (inl (inr far))
      | inr (inr (inl from)) ↦ inr (inr (inr from))
      | inr (inr (inr from)) ↦ inr (inr (inl from))
    ]

module _ (letters : ℕ) (compare : Compare) (rank : List ℕ → List ℕ) (rules : List Rule) (word : Word) (p q : Place) (laws : IsAdmissible letters compare rank) (are : All (IsRule letters compare) rules) (over : IsOver letters word) (is_p : IsPlace rules word p) (is_q : IsPlace rules word q) (far : IsApart p q) where
  abbrev o : Order
  o = order_from_laws letters compare rank laws

  abbrev g : Rules (order_from_laws letters compare rank laws)
  g = rules_of (order_from_laws letters compare rank laws) rules (leds_are letters compare rank laws rules are)

  abbrev one_poly : List Term
  one_poly = poly_between p.left (poly (g.rule p.number)) (far.between ++ ((g.rule q.number).lead ++ q.right))

  abbrev other_poly : List Term
  other_poly = poly_between (p.left ++ ((g.rule p.number).lead ++ far.between)) (poly (g.rule q.number)) q.right

  span : Span (Under o g (everything o) word) (λ w. pos (g.rule q.number).leading *ℤ coefficient_of one_poly w +ℤ neg_ℤ (pos (g.rule p.number).leading *ℤ coefficient_of other_poly w))
  span = apart_span o g (everything o) p.number q.number p.left far.between q.right word ((p.rule, is_p.numbered)) ((q.rule, is_q.numbered))
      (is_p.splits ∙ ap (λ w. p.left ++ (p.rule.lead ++ w)) far.right ∙ ap₂ (λ u v. p.left ++ (u ++ (far.between ++ (v ++ q.right)))) (sym (p_lead rules word p q is_p is_q)) (sym (q_lead rules word p q is_p is_q)))
      (over_range letters compare rank laws word over) tt

  lower : (b : Coefs) → Under o g (everything o) word b → Span (AnyRow o g (below o word)) b
  lower b (L, less, row) = single (AnyRow o g (below o word)) b (L, less_row)
    where
      less_row : Row o g (below o word) L b
      less_row = row_bound o g (everything o) (below o word) L b row less

  -- the polynomial of the rule at a place
  part_is : (r : Place) (is : IsPlace rules word r) (l back : Word) → l ≡ r.left → back ≡ r.right → (w : Word) → coefficient_of (poly_between l (poly (g.rule r.number)) back) w ≡ coefficient_of (place_poly r) w
  part_is r is l back l_is back_is w = row_poly letters compare rank laws rules are r.number r.rule is.numbered l back w
      ∙ ap₂ (λ u v. coefficient_of (poly_between u r.rule.poly.terms v) w) l_is back_is

  leading_is : (r : Place) (is : IsPlace rules word r) → pos (g.rule r.number).leading ≡ r.rule.leading
  leading_is r is = ap (λ f. pos f.leading) (led_at-is rules r.number r.rule is.numbered) ∙ ((elim r.rule.leading as (λ k. pos 0 <ℤ k → pos (unsigned_abs k) ≡ k) [
    | pos n ↦ λ h. refl
    | negsuc n ↦ λ h. absurd (omega (arith, ints, h))
  ]) (rule_at-all (IsRule letters compare) rules r.number r.rule is.numbered are).positive)

  abbrev difference : List Term
  difference = poly_multiple q.rule.leading (place_poly p) ++ poly_multiple (neg_ℤ p.rule.leading) (place_poly q)

  value : (w : Word) → coefficient_of difference w ≡ pos (g.rule q.number).leading *ℤ coefficient_of one_poly w +ℤ neg_ℤ (pos (g.rule p.number).leading *ℤ coefficient_of other_poly w)
  value w =
      coefficient_of-append (poly_multiple q.rule.leading (place_poly p)) (poly_multiple (neg_ℤ p.rule.leading) (place_poly q)) w
      ∙ ap₂ ◌+ℤ◌ (coefficient_of-multiple q.rule.leading (place_poly p) w) (coefficient_of-multiple (neg_ℤ p.rule.leading) (place_poly q) w ∙ neg_ℤ-*ℤ p.rule.leading (coefficient_of (place_poly q) w))
      ∙ ap₂ (λ x y. x +ℤ neg_ℤ y)
      (ap₂ ◌*ℤ◌ (sym (leading_is q is_q)) (sym (part_is p is_p p.left (far.between ++ ((g.rule q.number).lead ++ q.right)) refl (ap (λ u. far.between ++ (u ++ q.right)) (q_lead rules word p q is_p is_q) ∙ sym far.right) w)))
      (ap₂ ◌*ℤ◌ (sym (leading_is p is_p)) (sym (part_is q is_q (p.left ++ ((g.rule p.number).lead ++ far.between)) q.right (ap (λ u. p.left ++ (u ++ far.between)) (p_lead rules word p q is_p is_q) ∙ sym far.left) refl w)))

  comes : Comes (polynomials_of rules) (λ w. o.Less w word) difference
  comes = comes_from_span o rules (leds_are letters compare rank laws rules are) (below o word) (λ w. o.Less w word) (λ u range less. less) difference
      (span_same (AnyRow o g (below o word)) (λ w. pos (g.rule q.number).leading *ℤ coefficient_of one_poly w +ℤ neg_ℤ (pos (g.rule p.number).leading *ℤ coefficient_of other_poly w)) (coefficient_of difference)
      (span_bind (Under o g (everything o) word) (AnyRow o g (below o word)) lower (λ w. pos (g.rule q.number).leading *ℤ coefficient_of one_poly w +ℤ neg_ℤ (pos (g.rule p.number).leading *ℤ coefficient_of other_poly w)) span) value)

  pub apart_comes : ComesBelow letters compare (polynomials_of rules) word difference
  apart_comes = below_from_comes letters compare rank laws (polynomials_of rules) word difference comes

pub rows_apart_differ : RowsApartDiffer
rows_apart_differ letters compare rank rules word p q laws are over is_p is_q far = apart_comes letters compare rank rules word p q laws are over is_p is_q far
