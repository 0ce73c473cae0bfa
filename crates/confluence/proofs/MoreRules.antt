-- What comes from rules comes from more rules, and so does what was reduced, with a rule that is made of its rest.
use Rattle.confluence.proofs.Prelude.{◌≡◌, ◌⊎◌, inl, inr, ℕ, zero, suc, ℤ, List, [], ◌∷◌, ◌++◌, slice_get, Some, sym, ap, ◌∙◌, get_or, ◌≢◌, pos, ◌*ℤ◌, refl, subst, append-nil, All, Word, Term, coefficient_of, SamePolynomial, poly_multiple, poly_between, Compare, IsAdmissible, Order, IsBelow, order_from_laws, over_range, less_below, Rule, IsRule, rule_at, polynomials_of, IsAtMostOf, ComesBelow, HasLettersBelow, IsReduced, IsReached, +ℤ_idr, coefficient_of-multiple, product_nonzero, State}
use Rattle.confluence.proofs.Led.{Comes, IsAtMostOf as IsAtMostIn, led_at-is, led_at}
use Rattle.confluence.proofs.LedRules.{leds_are, ordered, parted, Extends, any_more, at_most_bounded, Bounded, row_at, coefficient_of-bare, leading_nonzero, from_rest}
use Rattle.confluence.proofs.Meets.{Allowed}
use Rattle.confluence.proofs.Outside.{AnyRow, at_most_of}
use Rattle.confluence.proofs.Resolve.{below, bounded_self, InRange}
use Rattle.confluence.proofs.ReducedSpans.{at_most_in, reduced_part, reduced_span}
use Rattle.confluence.proofs.BelowSpans.{below_span, below_from_span}
use Rattle.confluence.proofs.Spans.{Span, nothing, more}
use Rattle.confluence.proofs.SumRows.{comes_from_span, span_from_comes}
use Rattle.confluence.proofs.Integers.{nonzero_or}

-- by number
slice_get-more : (rules later : List Rule) (n : ℕ) (g : Rule) → slice_get rules n ≡ Some g → slice_get (rules ++ later) n ≡ Some g
slice_get-more [] later n g is = absurd (cc)
slice_get-more (f ∷ rules) later zero g is = is
slice_get-more (f ∷ rules) later (suc n) g is = slice_get-more rules later n g is

pub rule_at-more : (rules later : List Rule) (n : ℕ) (g : Rule) → rule_at rules n ≡ Some g → rule_at (rules ++ later) n ≡ Some g
rule_at-more rules later zero g is = absurd (cc)
rule_at-more rules later (suc n) g is = slice_get-more rules later n g is

-- a rule is what is left of the rest by some integer
pub record IsAccounted (rules : List Rule) (rest : List Term) : Type 0 where
  pub number : ℕ
  pub rule : Rule
  pub scale : ℤ
  pub numbered : rule_at rules number ≡ Some rule
  pub nonzero : scale ≢ pos 0
  pub divided : SamePolynomial (poly_multiple scale rule.poly.terms) rest

-- an integer that isn't zero can be cancelled
pub cancel_nonzero : (c x : ℤ) → c ≢ pos 0 → c *ℤ x ≡ pos 0 → x ≡ pos 0
cancel_nonzero c x some e = elim (nonzero_or x) [ inl none ↦ none | inr n ↦ absurd (product_nonzero c x some n e) ]

module _ (letters : ℕ) (compare : Compare) (rank : List ℕ → List ℕ) (laws : IsAdmissible letters compare rank) where
  abbrev order : Order
  order = order_from_laws letters compare rank laws

  -- words that are at most a word of a polynomial
  pub at_most_from : (p : List Term) (w : Word) → IsAtMostIn order p w → IsAtMostOf letters compare p w
  at_most_from p w most = record { word = most.word; occurs = most.occurs; at_most = go most.at_most }
    where
      go : (w ≡ most.word) ⊎ order.Less w most.word → (w ≡ most.word) ⊎ IsBelow letters compare w most.word
      go (inl same) = inl same
      go (inr less) = inr (less_below letters compare rank laws w most.word less)

  pub in_range : (p : List Term) → HasLettersBelow letters p → InRange order p
  in_range p over = λ w some. over_range letters compare rank laws w (over.at w some)

  -- spans of rows over rules, and what comes from them
  module _ (rules : List Rule) (are : All (IsRule letters compare) rules) where
    pub comes_reached : (p : List Term) → IsReached letters compare rules p → Comes (polynomials_of rules) (IsAtMostIn order p) p
    comes_reached p reached = record {
      multiplier = reached.denominator;
      rows = reached.rows;
      combination = reached.combination;
      within = λ i r below w some. at_most_in letters compare rank laws p ((get_or reached.rows i r).left ++ (w ++ (get_or reached.rows i r).right)) (reached.at_most i r below w some);
    }

    pub reached_span : (p : List Term) → HasLettersBelow letters p → IsReached letters compare rules p → Span (AnyRow order (ordered letters compare rank laws rules are) (at_most_of order p)) (coefficient_of p)
    reached_span p over reached =
        span_from_comes order rules (leds_are letters compare rank laws rules are) (at_most_of order p) (IsAtMostIn order p)
        (λ u most. at_most_bounded order (at_most_of order p) p (bounded_self order p (in_range p over)) u most) p
        (comes_reached p reached)

    pub reached_from_span : (p : List Term) → Span (AnyRow order (ordered letters compare rank laws rules are) (at_most_of order p)) (coefficient_of p) → IsReached letters compare rules p
    reached_from_span p sp =
        let c = comes_from_span order rules (leds_are letters compare rank laws rules are) (at_most_of order p) (IsAtMostIn order p)
        (λ u range most. most) p sp in
        record {
          denominator = c.multiplier;
          rows = c.rows;
          combination = c.combination;
          at_most = λ i r below w some. at_most_from p ((get_or c.rows i r).left ++ (w ++ (get_or c.rows i r).right)) (c.within i r below w some);
        }

  -- with more rules
  module _ (rules later : List Rule) (are : All (IsRule letters compare) rules) (all_are : All (IsRule letters compare) (rules ++ later)) where
    pub extends : Extends order (ordered letters compare rank laws rules are) (ordered letters compare rank laws (rules ++ later) all_are)
    extends = record {
      has = λ n (g, numbered). (g, rule_at-more rules later n g numbered);
      same = λ n (g, numbered). ap parted (led_at-is (rules ++ later) n g (rule_at-more rules later n g numbered) ∙ sym (led_at-is rules n g numbered));
    }

    pub span_more : (q : Allowed order) (f : Word → ℤ) → Span (AnyRow order (ordered letters compare rank laws rules are) q) f → Span (AnyRow order (ordered letters compare rank laws (rules ++ later) all_are) q) f
    span_more q f sp = any_more order (ordered letters compare rank laws rules are) (ordered letters compare rank laws (rules ++ later) all_are) extends q f sp

    pub below_more : (bound : Word) (p : List Term) → ComesBelow letters compare (polynomials_of rules) bound p → ComesBelow letters compare (polynomials_of (rules ++ later)) bound p
    below_more bound p comes = below_from_span letters compare rank laws (rules ++ later) all_are bound p (span_more (below order bound) (coefficient_of p) (below_span letters compare rank laws rules are bound p comes))

    pub reached_more : (p : List Term) → HasLettersBelow letters p → IsReached letters compare rules p → IsReached letters compare (rules ++ later) p
    reached_more p over reached = reached_from_span (rules ++ later) all_are p (span_more (at_most_of order p) (coefficient_of p) (reached_span rules are p over reached))

  module _ (rules : List Rule) (are : All (IsRule letters compare) rules) (q : Allowed order) where
    -- each word of the rest is bounded as those of the polynomial are
    pub rest_bounded : (p : List Term) (s : State) → IsReduced letters compare rules p s → Bounded order q p → Bounded order q s.rest
    rest_bounded p s reduced bounded w = elim (nonzero_or (coefficient_of s.rest w)) [
      | inl none ↦ inl none
      | inr some ↦ inr (at_most_bounded order q p bounded w (at_most_in letters compare rank laws p w (reduced.words.rest w some)))
    ]

    -- the rest is one row of the rule that is made of it
    pub accounted_span : (rest : List Term) → IsAccounted rules rest → Bounded order q rest → Span (AnyRow order (ordered letters compare rank laws rules are) q) (coefficient_of rest)
    accounted_span rest is bounded =
        more (coefficient_of rest) (λ _. pos 0) (coefficient_of (poly_between [] (led_at rules is.number).poly [])) is.scale
        (_, row_at order rules (leds_are letters compare rank laws rules are) q is.number [] [] ((is.rule, is.numbered)) (subst order.Range (sym (append-nil (led_at rules is.number).lead)) top.0) (subst q.May (sym (append-nil (led_at rules is.number).lead)) top.1))
        (nothing _ (λ _. refl)) (λ w. at w ∙ ap (λ z. is.scale *ℤ z) (sym (coefficient_of-bare (led_at rules is.number).poly w))
        ∙ sym (+ℤ_idr _))
      where
        at : (w : Word) → coefficient_of rest w ≡ is.scale *ℤ coefficient_of (led_at rules is.number).poly w
        at w = sym (is.divided.at w) ∙ coefficient_of-multiple is.scale is.rule.poly.terms w ∙ ap (λ r. is.scale *ℤ coefficient_of r.poly w) (sym (led_at-is rules is.number is.rule is.numbered))

        occurs : coefficient_of rest (led_at rules is.number).lead ≢ pos 0
        occurs none = leading_nonzero order (led_at rules is.number) (leds_are letters compare rank laws rules are is.number ((is.rule, is.numbered))) (cancel_nonzero is.scale (coefficient_of (led_at rules is.number).poly (led_at rules is.number).lead) is.nonzero (sym (at (led_at rules is.number).lead) ∙ none))

        top : order.Range (led_at rules is.number).lead × q.May (led_at rules is.number).lead
        top = elim (bounded (led_at rules is.number).lead) [ inl none ↦ absurd (occurs none) | inr held ↦ held ]

  -- what was reduced by fewer rules to a rest that comes from the rules
  pub reduced_in : (rules later : List Rule) (are : All (IsRule letters compare) rules) (all_are : All (IsRule letters compare) (rules ++ later)) (q : Allowed order) (p : List Term) (s : State)
      → IsReduced letters compare rules p s → Bounded order q p → Span (AnyRow order (ordered letters compare rank laws (rules ++ later) all_are) q) (coefficient_of s.rest) → Span (AnyRow order (ordered letters compare rank laws (rules ++ later) all_are) q) (coefficient_of p)
  reduced_in rules later are all_are q p s reduced bounded sp =
      from_rest (AnyRow order (ordered letters compare rank laws (rules ++ later) all_are) q) p s.rest s.multiplier reduced.positive
      (span_more rules later are all_are q (reduced_part p s) (reduced_span letters compare rank laws rules are q p s reduced bounded)) sp
