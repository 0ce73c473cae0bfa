-- Sums of rows over generators and rules.
use Rattle.std.proofs.Common.{◌≡◌, ◌≤◌, ℕ, zero, suc, ℤ, ◌+ℤ◌, ◌*ℤ◌, neg_ℤ, List, [], ◌∷◌, ◌++◌, map, length, get_or, refl, sym, ap, ap₂, ◌∙◌, arith}
use Rattle.std.proofs.Math.IntN.{*ℤ_comm, *ℤ-zero, +ℤ_idl, +ℤ_assoc}
use Rattle.std.proofs.lemmas.Int.{ints}
use Rattle.std.proofs.lemmas.List.{length-append, get_or_append_left}
use Rattle.std.proofs.lemmas.List.Elements.{All-append, All-weaker, All-cons, All-tail, All-map}
use Rattle.std.specs.List.{All}
use Rattle.definitions.proofs.Coefficients.{coefficient_of-append, coefficient_of-multiple}
use Rattle.definitions.proofs.Integers.{*ℤ_assoc, *ℤ-+ℤ}
use Rattle.definitions.specs.Combination.{generator_at}
use Rattle.definitions.specs.Poly.{Word, Term, coefficient_of, poly_multiple, poly_between}
use Rattle.traced_rows.specs.Traces.{origin_poly, traced_poly, traced_sum}
use Rattle.traced_rows.specs.declared.Origin.{Origin}
use Rattle.traced_rows.specs.declared.Row.{Row}
use Rattle.word_orders.specs.Admissible.{Compare}
use Rattle.rule_reduce.specs.Laws.{IsByRule}
use Rattle.rule_reduce.specs.RuleLists.{polynomials_of}
use Rattle.rule_reduce.specs.Steps.{multiplied_row}
use Rattle.rule_reduce.specs.declared.rule.Rule.{Rule}
use Rattle.rule_reduce.specs.declared.state.State.{State}
use Rattle.confluence.specs.Reductions.{IsReduced}
use Rattle.confluence.specs.Rests.{negated_row, negated_rows, generator_rows, rows_less, IsEarlier, AddsUpTo}
use Rattle.traced_rows.specs.declared.Origin.TheVariants as origin
use Rattle.confluence.proofs.Integers.{neg_ℤ-*ℤ, first_part}
use Rattle.confluence.proofs.LedRules.{coefficient_of-bare}

-- the same rows over more rules
pub polynomials-append : (rules more : List Rule) → polynomials_of (rules ++ more) ≡ polynomials_of rules ++ polynomials_of more
polynomials-append [] more = refl
polynomials-append (g ∷ rules) more = ap (λ ps. g.poly.terms ∷ ps) (polynomials-append rules more)

pub length-polynomials : (rules : List Rule) → length (polynomials_of rules) ≡ length rules
length-polynomials [] = refl
length-polynomials (g ∷ rules) = ap suc (length-polynomials rules)

pub polynomial-more : (rules more : List Rule) (n : ℕ) → n ≤ length rules → generator_at (polynomials_of (rules ++ more)) n ≡ generator_at (polynomials_of rules) n
polynomial-more rules more zero within = refl
polynomial-more rules more (suc n) within = ap (λ ps. get_or ps n []) (polynomials-append rules more) ∙ get_or_append_left (polynomials_of rules) (polynomials_of more) [] n (omega (arith, length-polynomials rules))

module _ (generators : List (List Term)) (rules more : List Rule) where
  origin-more : (x : Origin) → IsEarlier (length generators) (length rules) x → origin_poly generators (polynomials_of (rules ++ more)) x ≡ origin_poly generators (polynomials_of rules) x
  origin-more (origin.Generator n) earlier = refl
  origin-more (origin.Rule n) earlier = polynomial-more rules more n earlier.1

  pub traced_sum-more : (rows : List Row) → All (λ row. IsEarlier (length generators) (length rules) row.from) rows → traced_sum generators (polynomials_of (rules ++ more)) rows ≡ traced_sum generators (polynomials_of rules) rows
  traced_sum-more [] earlier = refl
  traced_sum-more (row ∷ rows) earlier =
      ap₂ (λ p q. poly_multiple row.coef (poly_between row.left p row.right) ++ q) (origin-more row.from (earlier 0 row (omega arith)))
      (traced_sum-more rows (All-tail (λ (r : Row). IsEarlier (length generators) (length rules) r.from) row rows earlier))

  -- rows by rules need no generators
  origin-by_rule : (x : Origin) → IsByRule (length rules) x → origin_poly generators (polynomials_of (rules ++ more)) x ≡ origin_poly [] (polynomials_of rules) x
  origin-by_rule (origin.Generator n) by_rule = absurd by_rule
  origin-by_rule (origin.Rule n) by_rule = polynomial-more rules more n by_rule.1

  pub traced_sum-by_rules : (rows : List Row) → All (λ row. IsByRule (length rules) row.from) rows → traced_sum generators (polynomials_of (rules ++ more)) rows ≡ traced_sum [] (polynomials_of rules) rows
  traced_sum-by_rules [] by_rules = refl
  traced_sum-by_rules (row ∷ rows) by_rules =
      ap₂ (λ p q. poly_multiple row.coef (poly_between row.left p row.right) ++ q) (origin-by_rule row.from (by_rules 0 row (omega arith)))
      (traced_sum-by_rules rows (All-tail (λ (r : Row). IsByRule (length rules) r.from) row rows by_rules))

  pub earlier_by_rule : (row : Row) → IsByRule (length rules) row.from → IsEarlier (length generators) (length (rules ++ more)) row.from
  earlier_by_rule row by_rule = go row.from by_rule
    where
      go : (x : Origin) → IsByRule (length rules) x → IsEarlier (length generators) (length (rules ++ more)) x
      go (origin.Generator n) none = absurd none
      go (origin.Rule n) named = (named.0, omega (arith, named.1, length-append rules more))

-- sums, multiples and negatives
module _ (generators polys : List (List Term)) where
  abbrev sum_at : List Row → Word → ℤ
  sum_at rows w = coefficient_of (traced_sum generators polys rows) w

  abbrev row_at : Row → Word → ℤ
  row_at row w = coefficient_of (poly_between row.left (origin_poly generators polys row.from) row.right) w

  pub traced-cons : (row : Row) (rows : List Row) (w : Word) → sum_at (row ∷ rows) w ≡ row.coef *ℤ row_at row w +ℤ sum_at rows w
  traced-cons row rows w =
      coefficient_of-append (traced_poly generators polys row) (traced_sum generators polys rows) w
      ∙ ap (λ z. z +ℤ sum_at rows w) (coefficient_of-multiple row.coef (poly_between row.left (origin_poly generators polys row.from) row.right) w)

  pub traced-append : (rows others : List Row) (w : Word) → sum_at (rows ++ others) w ≡ sum_at rows w +ℤ sum_at others w
  traced-append [] others w = sym (+ℤ_idl (sum_at others w))
  traced-append (row ∷ rows) others w =
      traced-cons row (rows ++ others) w ∙ ap (λ z. row.coef *ℤ row_at row w +ℤ z) (traced-append rows others w)
      ∙ sym (+ℤ_assoc (row.coef *ℤ row_at row w) (sum_at rows w) (sum_at others w)) ∙ ap (λ z. z +ℤ sum_at others w) (sym (traced-cons row rows w))

  pub traced-multiplied : (by : ℤ) (rows : List Row) (w : Word) → sum_at (map (multiplied_row by) rows) w ≡ by *ℤ sum_at rows w
  traced-multiplied by [] w = sym (*ℤ-zero by)
  traced-multiplied by (row ∷ rows) w =
      traced-cons (multiplied_row by row) (map (multiplied_row by) rows) w
      ∙ ap₂ ◌+ℤ◌ (ap (λ z. z *ℤ row_at row w) (*ℤ_comm row.coef by) ∙ *ℤ_assoc by row.coef (row_at row w)) (traced-multiplied by rows w)
      ∙ sym (*ℤ-+ℤ by (row.coef *ℤ row_at row w) (sum_at rows w)) ∙ ap (λ z. by *ℤ z) (sym (traced-cons row rows w))

  pub traced-negated : (rows : List Row) (w : Word) → sum_at (negated_rows rows) w ≡ neg_ℤ (sum_at rows w)
  traced-negated [] w = refl
  traced-negated (row ∷ rows) w =
      traced-cons (negated_row row) (negated_rows rows) w
      ∙ ap₂ ◌+ℤ◌ (neg_ℤ-*ℤ row.coef (row_at row w)) (traced-negated rows w)
      ∙ (omega (arith, ints)) ∙ ap neg_ℤ (sym (traced-cons row rows w))

-- which rows they are over
module _ (P : Origin → Type 0) where
  pub all_multiplied : (by : ℤ) (rows : List Row) → All (λ row. P row.from) rows → All (λ row. P row.from) (map (multiplied_row by) rows)
  all_multiplied by rows over = All-map (λ (row : Row). P row.from) (multiplied_row by) rows over

  pub all_negated : (rows : List Row) → All (λ row. P row.from) rows → All (λ row. P row.from) (negated_rows rows)
  all_negated rows over = All-map (λ (row : Row). P row.from) negated_row rows over

-- rows that add up to a polynomial are made rows that add up to what a reduction leaves of it
pub less_adds_up : (letters : ℕ) (compare : Compare) (generators : List (List Term)) (start more : List Rule) (p : List Term) (rows : List Row) (s : State)
    → AddsUpTo generators (start ++ more) p rows → IsReduced letters compare start p s → AddsUpTo generators (start ++ more) s.rest (rows_less rows s)
less_adds_up letters compare generators start more p rows s adds reduced = record {
  over = All-append (λ row. P row.from) (map (multiplied_row s.multiplier) rows) (negated_rows s.rows) (all_multiplied P s.multiplier rows adds.over)
      (all_negated P s.rows (All-weaker (λ (row : Row). IsByRule (length start) row.from) (λ (row : Row). P row.from) (earlier_by_rule generators start more) s.rows reduced.by_rules));
  sum = record { at = value };
}
  where
    P : Origin → Type 0
    P = IsEarlier (length generators) (length (start ++ more))

    value : (w : Word) → coefficient_of (traced_sum generators (polynomials_of (start ++ more)) (rows_less rows s)) w ≡ coefficient_of s.rest w
    value w =
        traced-append generators (polynomials_of (start ++ more)) (map (multiplied_row s.multiplier) rows) (negated_rows s.rows) w
        ∙ ap₂ ◌+ℤ◌ (traced-multiplied generators (polynomials_of (start ++ more)) s.multiplier rows w ∙ ap (λ z. s.multiplier *ℤ z) (adds.sum.at w))
        (traced-negated generators (polynomials_of (start ++ more)) s.rows w ∙ ap (λ q. neg_ℤ (coefficient_of q w)) (traced_sum-by_rules generators start more s.rows reduced.by_rules))
        ∙ first_part (s.multiplier *ℤ coefficient_of p w) (coefficient_of s.rest w) (coefficient_of (traced_sum [] (polynomials_of start) s.rows) w)
        (sym (coefficient_of-multiple s.multiplier p w) ∙ reduced.balances.at w ∙ coefficient_of-append s.rest (traced_sum [] (polynomials_of start) s.rows) w)

-- and so the rows of a generator
pub generator_adds_up : (letters : ℕ) (compare : Compare) (generators : List (List Term)) (rules more : List Rule) (n : ℕ) (s : State)
    → 1 ≤ n → n ≤ length generators → IsReduced letters compare rules (generator_at generators n) s → AddsUpTo generators (rules ++ more) s.rest (generator_rows n s)
generator_adds_up letters compare generators rules more n s first last reduced = record {
  over = All-cons (λ (row : Row). P row.from) first_row (negated_rows s.rows) (first, last)
      (all_negated P s.rows (All-weaker (λ (row : Row). IsByRule (length rules) row.from) (λ (row : Row). P row.from) (earlier_by_rule generators rules more) s.rows reduced.by_rules));
  sum = record { at = value };
}
  where
    P : Origin → Type 0
    P = IsEarlier (length generators) (length (rules ++ more))

    first_row : Row
    first_row = record { coef = s.multiplier; left = []; from = origin.Generator n; right = [] }

    value : (w : Word) → coefficient_of (traced_sum generators (polynomials_of (rules ++ more)) (generator_rows n s)) w ≡ coefficient_of s.rest w
    value w =
        traced-cons generators (polynomials_of (rules ++ more)) (record { coef = s.multiplier; left = []; from = origin.Generator n; right = [] }) (negated_rows s.rows) w
        ∙ ap₂ ◌+ℤ◌ (ap (λ z. s.multiplier *ℤ z) (coefficient_of-bare (generator_at generators n) w))
        (traced-negated generators (polynomials_of (rules ++ more)) s.rows w ∙ ap (λ q. neg_ℤ (coefficient_of q w)) (traced_sum-by_rules generators rules more s.rows reduced.by_rules))
        ∙ first_part (s.multiplier *ℤ coefficient_of (generator_at generators n) w) (coefficient_of s.rest w) (coefficient_of (traced_sum [] (polynomials_of rules) s.rows) w)
        (sym (coefficient_of-multiple s.multiplier (generator_at generators n) w) ∙ reduced.balances.at w ∙ coefficient_of-append s.rest (traced_sum [] (polynomials_of rules) s.rows) w)
