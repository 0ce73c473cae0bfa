-- Rules of an order with the leading term apart, and rows over them.
use Rattle.std.proofs.Common.{◌≡◌, ◌≢◌, ℕ, zero, suc, ◌⊎◌, inl, inr, refl, arith, sym, ap, ◌∙◌, List, [], ◌∷◌, ◌++◌, Bool, true, false, cond, not, ◌&&◌, true≢false, ℤ, pos, ◌+ℤ◌, subst, ◌*ℤ◌, ◌<ℤ◌, neg_ℤ, ◌<◌, negsuc, get_or, Some}
use Rattle.std.proofs.Math.IntN.{+ℤ_idl, +ℤ_idr}
use Rattle.std.proofs.lemmas.Bool.{and_parts}
use Rattle.std.proofs.lemmas.Bool.Decides.{Decides-int_eq}
use Rattle.std.proofs.lemmas.Int.{ints}
use Rattle.std.specs.Int.RustNames.{unsigned_abs}
use Rattle.std.specs.List.{All}
use Rattle.std.specs.Ordering.{int_eq}
use Rattle.definitions.proofs.Linear.{word_eq-true, word_eq-same}
use Rattle.definitions.specs.Poly.{coefficient_of, Word, Term, word_eq, poly_between}
use Rattle.word_core.specs.Letters.{IsOver}
use Rattle.traced_rows.proofs.Between.{between-same, between-nothing}
use Rattle.word_orders.proofs.Orders.{order_from_laws, over_range, below_less}
use Rattle.word_orders.specs.Admissible.{Compare, IsAdmissible}
use Rattle.word_orders.specs.Orders.{Order}
use Rattle.rule_reduce.proofs.AtMost.{IsAtMost, leading-greatest, leading-all}
use Rattle.rule_reduce.proofs.Numbers.{rule_at-all}
use Rattle.rule_reduce.proofs.WordsKept.{words_with_coefficients}
use Rattle.rule_reduce.specs.RuleLists.{IsRule, rule_at}
use Rattle.rule_reduce.specs.declared.rule.Rule.{Rule}
use Rattle.ambiguities.proofs.Multiples.{leading_coefficient}
use Rattle.confluence.proofs.Led.{Led, led_at, HasLed, IsLed, IsAtMostOf, led_of, led_at-is}
use Rattle.confluence.proofs.TermWords.{AllWords}
use Rattle.confluence.proofs.Spans.{Coefs, Span, single, span_add, part}
use Rattle.confluence.proofs.Shifts.{span_bind}
use Rattle.confluence.proofs.Meets.{Parted, poly, Rules, Allowed, Row}
use Rattle.confluence.proofs.Outside.{AnyRow}
use Rattle.confluence.proofs.Integers.{nonzero_or, positive_nat}

-- the terms whose word passes the test
abbrev pub filtered : (Word → Bool) → List Term → List Term
filtered keep [] = []
filtered keep (t ∷ p) = cond (keep t.1) (t ∷ filtered keep p) (filtered keep p)

pub coefficient_of-filtered : (keep : Word → Bool) (p : List Term) (w : Word) → coefficient_of (filtered keep p) w ≡ cond (keep w) (coefficient_of p w) (pos 0)
coefficient_of-filtered keep [] w = elim (keep w) as (λ b. pos 0 ≡ cond b (pos 0) (pos 0)) [ true ↦ refl | false ↦ refl ]
coefficient_of-filtered keep (t ∷ p) w = front (keep t.1)
    ∙ step (keep t.1) (keep w) (word_eq t.1 w) (λ e. ap keep (word_eq-true t.1 w e)) t.0 _ _ (coefficient_of-filtered keep p w)
  where
    front : (b : Bool) → coefficient_of (cond b (t ∷ filtered keep p) (filtered keep p)) w ≡ cond b (cond (word_eq t.1 w) t.0 (pos 0)) (pos 0) +ℤ coefficient_of (filtered keep p) w
    front true = refl
    front false = sym (+ℤ_idl _)

    step : (b d s : Bool) → (s ≡ true → b ≡ d) → (x f y : ℤ) → f ≡ cond d y (pos 0)
        → cond b (cond s x (pos 0)) (pos 0) +ℤ f ≡ cond d (cond s x (pos 0) +ℤ y) (pos 0)
    step true true s same x f y e = ap (λ z. cond s x (pos 0) +ℤ z) e
    step false false s same x f y e = +ℤ_idl f ∙ e
    step true false true same x f y e = absurd (true≢false (same refl))
    step false true true same x f y e = absurd (true≢false (sym (same refl)))
    step true false false same x f y e = +ℤ_idl f ∙ e
    step false true false same x f y e = ap (λ z. pos 0 +ℤ z) e

pub all_words_filtered : (P : Word → Type 0) (keep : Word → Bool) (p : List Term) → ((w : Word) → keep w ≡ true → P w) → AllWords P (filtered keep p)
all_words_filtered P keep [] h = tt
all_words_filtered P keep (t ∷ p) h = by_keep (all_words_filtered P keep p h) (keep t.1) refl
  where
    by_keep : AllWords P (filtered keep p) → (b : Bool) → keep t.1 ≡ b → AllWords P (filtered keep (t ∷ p))
    by_keep ih true k = rw k (h t.1 k, ih)
    by_keep ih false k = rw k ih

-- the words of the rule below the leading one
abbrev pub is_lower : Led → Word → Bool
is_lower r w = not (word_eq r.lead w) && not (int_eq (coefficient_of r.poly w) (pos 0))

abbrev pub parted : Led → Parted
parted r = record { leading = r.leading; lead = r.lead; tail = filtered (is_lower r) r.poly }

pub coefficient_of-parted : (o : Order) (r : Led) → IsLed o r → (w : Word) → coefficient_of (poly (parted r)) w ≡ coefficient_of r.poly w
coefficient_of-parted o r h w = ap (λ z. cond (word_eq r.lead w) (pos r.leading) (pos 0) +ℤ z) (coefficient_of-filtered (is_lower r) r.poly w)
    ∙ by_tests (word_eq r.lead w) (int_eq c (pos 0)) (λ e. ap (coefficient_of r.poly) (sym (word_eq-true r.lead w e)) ∙ h.at_lead) (Decides-int_eq c (pos 0)).0
  where
    c : ℤ
    c = coefficient_of r.poly w

    by_tests : (s z : Bool) → (s ≡ true → c ≡ pos r.leading) → (z ≡ true → c ≡ pos 0) → cond s (pos r.leading) (pos 0) +ℤ cond (not s && not z) c (pos 0) ≡ c
    by_tests true z at none = +ℤ_idr _ ∙ sym (at refl)
    by_tests false true at none = sym (none refl)
    by_tests false false at none = +ℤ_idl c

pub parted_below : (o : Order) (r : Led) → IsLed o r → AllWords (λ u. o.Less u r.lead) (parted r).tail
parted_below o r h = all_words_filtered (λ u. o.Less u r.lead) (is_lower r) r.poly each
  where
    not_true : (b : Bool) → not b ≡ true → b ≡ false
    not_true false e = refl
    not_true true e = cc

    each : (w : Word) → is_lower r w ≡ true → o.Less w r.lead
    each w k = elim (h.words w nonzero) [
      | inl e ↦ absurd (cc (sym (word_eq-same r.lead) ∙ ap (λ z. word_eq r.lead z) (sym e) ∙ not_true _ parts.0))
      | inr l ↦ l
    ]
      where
        parts : (not (word_eq r.lead w) ≡ true) × (not (int_eq (coefficient_of r.poly w) (pos 0)) ≡ true)
        parts = and_parts _ _ k

        nonzero : coefficient_of r.poly w ≢ pos 0
        nonzero z = cc (sym ((Decides-int_eq (coefficient_of r.poly w) (pos 0)).1 z) ∙ not_true _ parts.1)

pub same_nat : (i j : ℕ) → (i ≡ j) ⊎ (i ≢ j)
same_nat zero zero = inl refl
same_nat zero (suc j) = inr (λ e. absurd (omega arith))
same_nat (suc i) zero = inr (λ e. absurd (omega arith))
same_nat (suc i) (suc j) = elim (same_nat i j) [ inl e ↦ inl (ap suc e) | inr n ↦ inr (λ e. n (omega (arith, e))) ]

abbrev pub rules_of : (o : Order) (rules : List Rule) → ((n : ℕ) → HasLed rules n → IsLed o (led_at rules n)) → Rules o
rules_of o rules ok = record {
  Has = HasLed rules;
  rule = λ n. parted (led_at rules n);
  same_number = same_nat;
  positive = λ n h. (ok n h).positive;
  below = λ n h. parted_below o (led_at rules n) (ok n h);
}

-- what has all the rules of another, with the same numbers
pub record Extends (o : Order) (g h : Rules o) : Type 0 where
  pub has : (n : ℕ) → g.Has n → h.Has n
  pub same : (n : ℕ) → g.Has n → h.rule n ≡ g.rule n

module _ (o : Order) (g h : Rules o) (x : Extends o g h) where
  pub row_more : (q : Allowed o) (M : Word) (b : Coefs) → Row o g q M b → Row o h q M b
  row_more q M b r = record {
    number = r.number;
    has = x.has r.number r.has;
    left = r.left;
    right = r.right;
    top = r.top ∙ ap (λ z. r.left ++ (z.lead ++ r.right)) (sym (x.same r.number r.has));
    range = r.range;
    may = r.may;
    is = λ w. r.is w ∙ ap (λ z. coefficient_of (poly_between r.left (poly z) r.right) w) (sym (x.same r.number r.has));
  }

  pub any_more : (q : Allowed o) (f : Coefs) → Span (AnyRow o g q) f → Span (AnyRow o h q) f
  any_more q = span_bind (AnyRow o g q) (AnyRow o h q) (λ b r. single (AnyRow o h q) b (r.0, row_more q r.0 b r.1))

-- a row over a rule, by the polynomial of the rule
pub same_between : (l r : Word) (p q : List Term) → ((w : Word) → coefficient_of p w ≡ coefficient_of q w) → (w : Word) → coefficient_of (poly_between l p r) w ≡ coefficient_of (poly_between l q r) w
same_between l r p q h = (between-same l r p q (record { at = h })).at

pub coefficient_of-bare : (p : List Term) (w : Word) → coefficient_of (poly_between [] p []) w ≡ coefficient_of p w
coefficient_of-bare p w = ap (λ q. coefficient_of q w) (between-nothing p)

module _ (o : Order) where
  -- each word is in range and may be a top
  abbrev pub Bounded : Allowed o → List Term → Type 0
  Bounded q p = (w : Word) → (coefficient_of p w ≡ pos 0) ⊎ (o.Range w × q.May w)

  pub bounded_from : (q : Allowed o) (p : List Term) → ((w : Word) → coefficient_of p w ≢ pos 0 → o.Range w × q.May w) → Bounded q p
  bounded_from q p h w = elim (nonzero_or (coefficient_of p w)) [ inl z ↦ inl z | inr n ↦ inr (h w n) ]

  pub at_most_bounded : (q : Allowed o) (p : List Term) → Bounded q p → (u : Word) → IsAtMostOf o p u → o.Range u × q.May u
  at_most_bounded q p b u h = go (b h.word) h.at_most
    where
      go : (coefficient_of p h.word ≡ pos 0) ⊎ (o.Range h.word × q.May h.word) → (u ≡ h.word) ⊎ o.Less u h.word → o.Range u × q.May u
      go (inl z) _ = absurd (h.occurs z)
      go (inr k) (inl e) = (subst o.Range (sym e) k.0, subst q.May (sym e) k.1)
      go (inr k) (inr l) = (o.less_range u h.word l, q.closed u h.word l k.1)

  pub leading_nonzero : (r : Led) → IsLed o r → coefficient_of r.poly r.lead ≢ pos 0
  leading_nonzero r h z = omega (arith, ints, h.positive, (sym h.at_lead ∙ z))

  module _ (rules : List Rule) (ok : (n : ℕ) → HasLed rules n → IsLed o (led_at rules n)) where
    -- a row over the rule with this number
    pub row_at : (q : Allowed o) (n : ℕ) (l r : Word) → HasLed rules n → o.Range (l ++ ((led_at rules n).lead ++ r)) → q.May (l ++ ((led_at rules n).lead ++ r)) → Row o (rules_of o rules ok) q (l ++ ((led_at rules n).lead ++ r)) (coefficient_of (poly_between l (led_at rules n).poly r))
    row_at q n l r h ran may = record {
      number = n;
      has = h;
      left = l;
      right = r;
      top = refl;
      range = ran;
      may = may;
      is = same_between l r (led_at rules n).poly (poly (parted (led_at rules n))) (λ w. sym (coefficient_of-parted o (led_at rules n) (ok n h) w));
    }

-- what is reduced to a rest in the span is in the span
pub from_rest : (Base : Coefs → Type 0) (p rest : List Term) (m : ℤ) → pos 0 <ℤ m → Span Base (λ w. m *ℤ coefficient_of p w +ℤ neg_ℤ (coefficient_of rest w)) → Span Base (coefficient_of rest) → Span Base (coefficient_of p)
from_rest Base p rest m h a b = let (n, pn, e) = positive_nat m h in
    part (coefficient_of p) _ n pn (span_add Base _ _ a b) (λ w. (omega (arith, ints)) ∙ ap (λ z. z *ℤ coefficient_of p w) e)

-- with their orders
module _ (letters : ℕ) (compare : Compare) (rank : List ℕ → List ℕ) (laws : IsAdmissible letters compare rank) where
  abbrev order : Order
  order = order_from_laws letters compare rank laws

  pub led_is : (g : Rule) → IsRule letters compare g → IsLed order (led_of g)
  led_is g is_rule = record {
    positive = above g.leading is_rule.positive;
    at_lead = leading_coefficient compare g.poly.terms (g.leading, g.lead) g.poly.canonical.shaped is_rule.leading ∙ as_nat g.leading is_rule.positive;
    words = words_with_coefficients (λ w. (w ≡ g.lead) ⊎ order.Less w g.lead) g.poly.terms (λ i t below. one (get_or g.poly.terms i t).1 (leading-greatest letters compare rank laws g.poly.terms (g.leading, g.lead) is_rule.leading i t below) (is_rule.over i t below));
    range = over_range letters compare rank laws g.lead lead_over;
  }
    where
      above : (k : ℤ) → pos 0 <ℤ k → 0 < unsigned_abs k
      above (pos n) h = omega (arith, ints, h)
      above (negsuc n) h = absurd (omega (arith, ints, h))

      as_nat : (k : ℤ) → pos 0 <ℤ k → k ≡ pos (unsigned_abs k)
      as_nat (pos n) h = refl
      as_nat (negsuc n) h = absurd (omega (arith, ints, h))

      lead_over : IsOver letters g.lead
      lead_over = leading-all (λ t. IsOver letters t.1) compare g.poly.terms (g.leading, g.lead) is_rule.leading is_rule.over

      one : (w : Word) → IsAtMost compare w g.lead → IsOver letters w → (w ≡ g.lead) ⊎ order.Less w g.lead
      one w (inl same) over = inl same
      one w (inr less) over = inr (below_less letters compare rank laws w g.lead (record { left = over; right = lead_over; less = less }))

  pub leds_are : (rules : List Rule) → All (IsRule letters compare) rules → (n : ℕ) → HasLed rules n → IsLed order (led_at rules n)
  leds_are rules are n (g, numbered) = subst (IsLed order) (sym (led_at-is rules n g numbered)) (led_is g (rule_at-all (IsRule letters compare) rules n g numbered are))

  -- the rules with their order
  module _ (rules : List Rule) (are : All (IsRule letters compare) rules) where
    abbrev pub ordered : Rules order
    ordered = rules_of order rules (leds_are rules are)

    pub row_poly : (n : ℕ) (f : Rule) → rule_at rules n ≡ Some f → (l r w : Word) → coefficient_of (poly_between l (poly (ordered.rule n)) r) w ≡ coefficient_of (poly_between l f.poly.terms r) w
    row_poly n f numbered l r w =
        same_between l r (poly (ordered.rule n)) (led_at rules n).poly (coefficient_of-parted order (led_at rules n) (leds_are rules are n ((f, numbered)))) w
        ∙ ap (λ x. coefficient_of (poly_between l x.poly r) w) (led_at-is rules n f numbered)
