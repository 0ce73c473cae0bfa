-- Rows with any words, and the rows over rules among them whose words are in range.
use Rattle.std.proofs.Common.{◌≡◌, ◌≢◌, ℕ, ◌⊎◌, inl, inr, refl, subst, sym, ap, ◌∙◌, List, ◌++◌, ℤ, pos, ◌+ℤ◌, ◌*ℤ◌}
use Rattle.std.proofs.Math.IntN.{*ℤ-zero}
use Rattle.definitions.specs.Combination.{generator_at, InRationalIdeal}
use Rattle.definitions.specs.Poly.{coefficient_of, poly_between, Word, Term}
use Rattle.traced_rows.proofs.Between.{between-between}
use Rattle.word_orders.specs.Orders.{Order}
use Rattle.rule_reduce.specs.RuleLists.{polynomials_of}
use Rattle.rule_reduce.specs.declared.rule.Rule.{Rule}
use Rattle.confluence.proofs.Led.{led_at, HasLed, IsLed, has_decided, poly_at}
use Rattle.confluence.proofs.Integers.{nonzero_or}
use Rattle.confluence.proofs.Spans.{Coefs, Span, single, span_same, nothing}
use Rattle.confluence.proofs.Shifts.{IsLinear, span_map, shift, shift_linear, coefficient_of-between, between_word}
use Rattle.confluence.proofs.Outside.{AnyRow}
use Rattle.confluence.proofs.LedRules.{rules_of}
use Rattle.confluence.proofs.SumRows.{Numbered, listed, combination_span, combination_from, span_from_numbered}
use Rattle.confluence.proofs.Resolve.{everything, InRange}

-- any words
abbrev pub Free : Word → Type 0
Free _ = Unit {0}

pub numbered_shift : (gs : List (List Term)) (x y : Word) (b : Coefs) → Numbered gs Free b → Numbered gs Free (shift x y b)
numbered_shift gs x y b h = record {
  number = h.number;
  left = x ++ h.left;
  right = h.right ++ y;
  asked = λ w n. tt;
  is = λ w. (shift_linear x y).same b (coefficient_of (poly_between h.left (generator_at gs h.number) h.right)) h.is w ∙ sym (coefficient_of-between x y (poly_between h.left (generator_at gs h.number) h.right) w) ∙ ap (λ p. coefficient_of p w) (between-between x h.left h.right y (generator_at gs h.number));
}

pub in_ideal : (gs : List (List Term)) (p : List Term) → Span (Numbered gs Free) (coefficient_of p) → InRationalIdeal gs p
in_ideal gs p sp = let c = combination_from gs Free p (listed gs Free (coefficient_of p) sp) in
    record { denominator = c.multiplier; rows = c.rows; combination = c.combination }

pub ideal_span : (gs : List (List Term)) (p : List Term) → InRationalIdeal gs p → Span (Numbered gs Free) (coefficient_of p)
ideal_span gs p inside = combination_span gs Free inside.rows inside.denominator p inside.combination (λ i r below w some. tt)

-- cutting to words in range
abbrev keep_if : {A B : Type 0} → A ⊎ B → ℤ → ℤ
keep_if (inl _) x = x
keep_if (inr _) x = pos 0

module _ (o : Order) where
  abbrev cut : Coefs → Coefs
  cut f w = keep_if (o.range_decided w) (f w)

  cut_linear : IsLinear cut
  cut_linear = record {
    same = λ f g h w. ap (keep_if (o.range_decided w)) (h w);
    sum = λ c f g w. elim (o.range_decided w) as (λ d. keep_if d (c *ℤ f w +ℤ g w) ≡ c *ℤ keep_if d (f w) +ℤ keep_if d (g w)) [
      | inl r ↦ refl
      | inr n ↦ sym (ap (λ z. z +ℤ pos 0) (*ℤ-zero c))
    ];
  }

  cut-outside : (f : Coefs) (w : Word) → (o.Range w → f w ≡ pos 0) → cut f w ≡ pos 0
  cut-outside f w h = elim (o.range_decided w) as (λ d. keep_if d (f w) ≡ pos 0) [ inl r ↦ h r | inr n ↦ refl ]

  cut-inside : (f : Coefs) (w : Word) → (f w ≡ pos 0) ⊎ o.Range w → cut f w ≡ f w
  cut-inside f w h = elim (o.range_decided w) as (λ d. keep_if d (f w) ≡ f w) [
    | inl r ↦ refl
    | inr n ↦ elim h [ inl z ↦ sym z | inr r ↦ absurd (n r) ]
  ]

  module _ (rules : List Rule) (ok : (n : ℕ) → HasLed rules n → IsLed o (led_at rules n)) where
    pub rules_in_range : (n : ℕ) → InRange o (generator_at (polynomials_of rules) n)
    rules_in_range n w k = elim (has_decided rules n) [
      | inl h ↦ range h ((ok n h).words w k')
      | inr e ↦ absurd (k' (ap (λ r. coefficient_of r.poly w) e))
    ]
      where
        k' : coefficient_of (led_at rules n).poly w ≢ pos 0
        k' z = k (ap (λ p. coefficient_of p w) (poly_at rules n) ∙ z)

        range : HasLed rules n → (w ≡ (led_at rules n).lead) ⊎ o.Less w (led_at rules n).lead → o.Range w
        range h (inl e) = subst o.Range (sym e) (ok n h).range
        range h (inr l) = o.less_range w (led_at rules n).lead l

    -- rows over the rules with any words, for a polynomial in range
    pub free_span : (p : List Term) → InRange o p → Span (Numbered (polynomials_of rules) Free) (coefficient_of p) → Span (AnyRow o (rules_of o rules ok) (everything o)) (coefficient_of p)
    free_span p r sp = span_same (AnyRow o (rules_of o rules ok) (everything o)) (cut (coefficient_of p)) (coefficient_of p) (span_map cut cut_linear (Numbered (polynomials_of rules) Free) (AnyRow o (rules_of o rules ok) (everything o)) each (coefficient_of p) sp) (λ w. sym (cut-inside (coefficient_of p) w (of_word w (nonzero_or (coefficient_of p w)))))
      where
        of_word : (w : Word) → (coefficient_of p w ≡ pos 0) ⊎ (coefficient_of p w ≢ pos 0) → (coefficient_of p w ≡ pos 0) ⊎ o.Range w
        of_word w (inl z) = inl z
        of_word w (inr n) = inr (r w n)

        each : (b : Coefs) → Numbered (polynomials_of rules) Free b → Span (AnyRow o (rules_of o rules ok) (everything o)) (cut b)
        each b x = by_ends (o.range_decided x.left) (o.range_decided x.right)
          where
            gone : ((w : Word) → o.Range w → b w ≡ pos 0) → Span (AnyRow o (rules_of o rules ok) (everything o)) (cut b)
            gone h = nothing (cut b) (λ w. cut-outside b w (h w))

            outside : ((v : Word) → o.Range (x.left ++ (v ++ x.right)) → ⊥) → (w : Word) → o.Range w → b w ≡ pos 0
            outside n w rw = elim (between_word x.left x.right (generator_at (polynomials_of rules) x.number) w) [
              | inl z ↦ x.is w ∙ z
              | inr (v, e, some) ↦ absurd (n v (subst o.Range e rw))
            ]

            by_ends : o.Range x.left ⊎ (o.Range x.left → ⊥) → o.Range x.right ⊎ (o.Range x.right → ⊥) → Span (AnyRow o (rules_of o rules ok) (everything o)) (cut b)
            by_ends (inr n) _ = gone (outside (λ v rv. n (o.range_left x.left v x.right rv)))
            by_ends (inl a) (inr n) = gone (outside (λ v rv. n (o.range_right x.left v x.right rv)))
            by_ends (inl a) (inl c) = span_same (AnyRow o (rules_of o rules ok) (everything o)) b (cut b) (span_from_numbered o rules ok (everything o) o.Range (λ u ru. (ru, tt)) b (single (Numbered (polynomials_of rules) o.Range) b (record { number = x.number; left = x.left; right = x.right; is = x.is; asked = λ v n. o.range_join x.left v x.right a (rules_in_range x.number v n) c }))) (λ w. cut-inside b w (b_range w))
              where
                b_range : (w : Word) → (b w ≡ pos 0) ⊎ o.Range w
                b_range w = elim (between_word x.left x.right (generator_at (polynomials_of rules) x.number) w) [
                  | inl z ↦ inl (x.is w ∙ z)
                  | inr (v, e, some) ↦ inr (subst o.Range (sym e) (o.range_join x.left v x.right a (rules_in_range x.number v some) c))
                ]
