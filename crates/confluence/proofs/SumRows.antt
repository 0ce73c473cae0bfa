-- Between rows with a multiplier and spans.
use Rattle.std.proofs.Common.{◌≡◌, ◌≢◌, ℕ, ◌*◌, ◌<◌, ◌⊎◌, inl, inr, refl, arith, sym, ap, ◌∙◌, List, [], ◌∷◌, ◌++◌, ℤ, pos, ◌+ℤ◌, ◌*ℤ◌, ◌<ℤ◌}
use Rattle.std.proofs.Math.Nat.{mul-pos}
use Rattle.std.proofs.lemmas.Int.{ints}
use Rattle.std.proofs.lemmas.List.Elements.{All-nil, All-cons, All-tail}
use Rattle.std.specs.List.{All}
use Rattle.definitions.proofs.Coefficients.{coefficient_of-append, coefficient_of-multiple}
use Rattle.definitions.proofs.Integers.{*ℤ_assoc, *ℤ-+ℤ}
use Rattle.definitions.specs.Combination.{Row as SumRow, generator_at, row_poly, row_sum, IsCombination}
use Rattle.definitions.specs.Poly.{coefficient_of, poly_between, poly_multiple, Word, Term}
use Rattle.word_orders.specs.Orders.{Order}
use Rattle.rule_reduce.specs.RuleLists.{polynomials_of}
use Rattle.rule_reduce.specs.declared.rule.Rule.{Rule}
use Rattle.ambiguities.proofs.Multiples.{coefficient_of-around}
use Rattle.confluence.proofs.Led.{no_led, led_at, HasLed, IsLed, IsAskedRow, Comes, has_decided, poly_at}
use Rattle.confluence.proofs.Spans.{Coefs, Span, nothing, more, part, single}
use Rattle.confluence.proofs.Shifts.{span_bind}
use Rattle.confluence.proofs.Meets.{poly, Allowed}
use Rattle.confluence.proofs.Outside.{AnyRow, row_word}
use Rattle.confluence.proofs.LedRules.{parted, coefficient_of-parted, rules_of, same_between, row_at, leading_nonzero}
use Rattle.confluence.proofs.Integers.{positive_nat}

-- rows over polynomials of any kind whose sum is a multiple
pub record Listed (polys : List (List Term)) (Asked : Word → Type 0) (f : Coefs) : Type 0 where
  pub multiplier : ℕ
  pub positive : 0 < multiplier
  pub rows : List SumRow
  pub sum : (w : Word) → coefficient_of (row_sum polys rows) w ≡ pos multiplier *ℤ f w
  pub within : All (IsAskedRow polys Asked) rows

-- a span of rows over the polynomials is a list of rows
pub record Numbered (polys : List (List Term)) (Asked : Word → Type 0) (b : Coefs) : Type 0 where
  pub number : ℕ
  pub left : Word
  pub right : Word
  pub is : (w : Word) → b w ≡ coefficient_of (poly_between left (generator_at polys number) right) w
  pub asked : (w : Word) → coefficient_of (generator_at polys number) w ≢ pos 0 → Asked (left ++ (w ++ right))

pub listed : (polys : List (List Term)) (Asked : Word → Type 0) (f : Coefs) → Span (Numbered polys Asked) f → Listed polys Asked f
listed polys Asked _ (nothing f h) = record { multiplier = 1; positive = omega arith; rows = []; sum = λ w. sym (ap (λ z. pos 1 *ℤ z) (h w)); within = All-nil (IsAskedRow polys Asked) }
listed polys Asked _ (more f g b c hb hg h) = let k = listed polys Asked g hg in
    record {
      multiplier = k.multiplier;
      positive = k.positive;
      rows = record { coefficient = pos k.multiplier *ℤ c; left = hb.left; generator = hb.number; right = hb.right } ∷ k.rows;
      sum = λ w. coefficient_of-append (poly_multiple (pos k.multiplier *ℤ c) (poly_between hb.left (generator_at polys hb.number) hb.right)) (row_sum polys k.rows) w
          ∙ ap (λ z. z +ℤ coefficient_of (row_sum polys k.rows) w) (coefficient_of-multiple (pos k.multiplier *ℤ c) (poly_between hb.left (generator_at polys hb.number) hb.right) w ∙ ap (λ z. (pos k.multiplier *ℤ c) *ℤ z) (sym (hb.is w)) ∙ *ℤ_assoc (pos k.multiplier) c (b w))
          ∙ ap (λ z. pos k.multiplier *ℤ (c *ℤ b w) +ℤ z) (k.sum w) ∙ sym (*ℤ-+ℤ (pos k.multiplier) (c *ℤ b w) (g w)) ∙ ap (λ z. pos k.multiplier *ℤ z) (sym (h w));
      within = All-cons (IsAskedRow polys Asked) (record { coefficient = pos k.multiplier *ℤ c; left = hb.left; generator = hb.number; right = hb.right }) k.rows hb.asked k.within;
    }
listed polys Asked _ (part f g e pe hg h) = let k = listed polys Asked g hg in
    record {
      multiplier = k.multiplier * e;
      positive = mul-pos k.positive pe;
      rows = k.rows;
      sum = λ w. k.sum w ∙ ap (λ z. pos k.multiplier *ℤ z) (h w) ∙ sym (*ℤ_assoc (pos k.multiplier) (pos e) (f w));
      within = k.within;
    }

pub numbered : (polys : List (List Term)) (Asked : Word → Type 0) (rows : List SumRow) → All (IsAskedRow polys Asked) rows → Span (Numbered polys Asked) (coefficient_of (row_sum polys rows))
numbered polys Asked [] a = nothing _ (λ w. refl)
numbered polys Asked (r ∷ rows) a = more _ (coefficient_of (row_sum polys rows)) (coefficient_of (poly_between r.left (generator_at polys r.generator) r.right)) r.coefficient
    (record { number = r.generator; left = r.left; right = r.right; is = λ w. refl; asked = a 0 r (omega arith) }) (numbered polys Asked rows (All-tail (IsAskedRow polys Asked) r rows a))
    (λ w. coefficient_of-append (row_poly polys r) (row_sum polys rows) w ∙ ap (λ z. z +ℤ coefficient_of (row_sum polys rows) w) (coefficient_of-multiple r.coefficient (poly_between r.left (generator_at polys r.generator) r.right) w))

pub combination_span : (polys : List (List Term)) (Asked : Word → Type 0) (rows : List SumRow) (d : ℤ) (p : List Term) → IsCombination polys rows d p → All (IsAskedRow polys Asked) rows → Span (Numbered polys Asked) (coefficient_of p)
combination_span polys Asked rows d p c a = let (n, pn, e) = positive_nat d c.positive in
    part (coefficient_of p) (coefficient_of (row_sum polys rows)) n pn (numbered polys Asked rows a) (λ w. c.sum.at w ∙ coefficient_of-multiple d p w ∙ ap (λ z. z *ℤ coefficient_of p w) e)

pub combination_from : (polys : List (List Term)) (Asked : Word → Type 0) (p : List Term) → Listed polys Asked (coefficient_of p) → Comes polys Asked p
combination_from polys Asked p k = record {
  multiplier = pos k.multiplier;
  rows = k.rows;
  combination = record { positive = above k.multiplier k.positive; sum = record { at = λ w. k.sum w ∙ sym (coefficient_of-multiple (pos k.multiplier) p w) } };
  within = k.within;
}
  where
    above : (n : ℕ) → 0 < n → pos 0 <ℤ pos n
    above n h = omega (arith, ints, h)

module _ (o : Order) (rules : List Rule) (ok : (n : ℕ) → HasLed rules n → IsLed o (led_at rules n)) (q : Allowed o) (Asked : Word → Type 0) where
  -- a clause's rows over the rules, from a span
  pub comes_from_span : ((u : Word) → o.Range u → q.May u → Asked u) → (p : List Term) → Span (AnyRow o (rules_of o rules ok) q) (coefficient_of p) → Comes (polynomials_of rules) Asked p
  comes_from_span ask p sp = combination_from (polynomials_of rules) Asked p (listed (polynomials_of rules) Asked (coefficient_of p) (span_bind _ _ each (coefficient_of p) sp))
    where
      each : (b : Coefs) → AnyRow o (rules_of o rules ok) q b → Span (Numbered (polynomials_of rules) Asked) b
      each b (M, row) = single (Numbered (polynomials_of rules) Asked) b (record {
        number = row.number;
        left = row.left;
        right = row.right;
        is = by_poly;
        asked = λ w n. from_word w n (row_word o (rules_of o rules ok) q M (row.left ++ (w ++ row.right)) b row);
      })
        where
          by_poly : (w : Word) → b w ≡ coefficient_of (poly_between row.left (generator_at (polynomials_of rules) row.number) row.right) w
          by_poly w = row.is w ∙ same_between row.left row.right (poly (parted (led_at rules row.number))) (led_at rules row.number).poly (coefficient_of-parted o (led_at rules row.number) (ok row.number row.has)) w ∙ ap (λ z. coefficient_of (poly_between row.left z row.right) w) (sym (poly_at rules row.number))

          from_word : (w : Word) → coefficient_of (generator_at (polynomials_of rules) row.number) w ≢ pos 0 → (b (row.left ++ (w ++ row.right)) ≡ pos 0) ⊎ (o.Range (row.left ++ (w ++ row.right)) × q.May (row.left ++ (w ++ row.right))) → Asked (row.left ++ (w ++ row.right))
          from_word w n (inl z) = absurd (n (sym (coefficient_of-around row.left row.right w (generator_at (polynomials_of rules) row.number)) ∙ sym (by_poly (row.left ++ (w ++ row.right))) ∙ z))
          from_word w n (inr k) = ask _ k.0 k.1

  -- and back, where what is asked is to be in range and a possible top
  pub span_from_numbered : ((u : Word) → Asked u → o.Range u × q.May u) → (f : Coefs) → Span (Numbered (polynomials_of rules) Asked) f → Span (AnyRow o (rules_of o rules ok) q) f
  span_from_numbered ask f sp = span_bind _ _ each f sp
    where
      each : (b : Coefs) → Numbered (polynomials_of rules) Asked b → Span (AnyRow o (rules_of o rules ok) q) b
      each b k = go (has_decided rules k.number)
        where
          by_rule : (w : Word) → b w ≡ coefficient_of (poly_between k.left (led_at rules k.number).poly k.right) w
          by_rule w = k.is w ∙ ap (λ z. coefficient_of (poly_between k.left z k.right) w) (poly_at rules k.number)

          go : HasLed rules k.number ⊎ (led_at rules k.number ≡ no_led) → Span (AnyRow o (rules_of o rules ok) q) b
          go (inr e) = nothing b (λ w. by_rule w ∙ ap (λ z. coefficient_of (poly_between k.left z.poly k.right) w) e)
          go (inl h) = more b (λ _. pos 0) (coefficient_of (poly_between k.left (led_at rules k.number).poly k.right)) (pos 1) (_, row_at o rules ok q k.number k.left k.right h top.0 top.1) (nothing _ (λ _. refl)) (λ w. by_rule w ∙ (omega (arith, ints)))
            where
              top : o.Range (k.left ++ ((led_at rules k.number).lead ++ k.right)) × q.May (k.left ++ ((led_at rules k.number).lead ++ k.right))
              top = ask _ (k.asked (led_at rules k.number).lead (λ z. leading_nonzero o (led_at rules k.number) (ok k.number h) (ap (λ y. coefficient_of y (led_at rules k.number).lead) (sym (poly_at rules k.number)) ∙ z)))

  pub span_from_comes : ((u : Word) → Asked u → o.Range u × q.May u) → (p : List Term) → Comes (polynomials_of rules) Asked p → Span (AnyRow o (rules_of o rules ok) q) (coefficient_of p)
  span_from_comes ask p c = span_from_numbered ask (coefficient_of p) (combination_span (polynomials_of rules) Asked c.rows c.multiplier p c.combination c.within)
