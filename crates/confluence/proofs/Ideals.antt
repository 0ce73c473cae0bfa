-- What is in the rational ideal of polynomials that are in a rational ideal themselves.
use Rattle.std.proofs.Common.{◌≡◌, ◌⊎◌, inl, inr, ◌≤◌, ℕ, zero, suc, List, [], length, refl, ap, ◌∙◌, arith}
use Rattle.std.proofs.lemmas.Bool.{cases_lt}
use Rattle.std.proofs.lemmas.List.{get_or_past}
use Rattle.std.proofs.lemmas.List.Elements.{All-get_or, All-from_get_or}
use Rattle.std.specs.List.{All}
use Rattle.definitions.specs.Combination.{generator_at, InRationalIdeal}
use Rattle.definitions.specs.Poly.{Word, Term, coefficient_of, poly_between}
use Rattle.confluence.specs.ZeroRests.{IdealsStayInside}
use Rattle.confluence.proofs.Spans.{Coefs, Span, nothing, span_same}
use Rattle.confluence.proofs.Shifts.{shift, span_bind, span_shift, coefficient_of-between}
use Rattle.confluence.proofs.SumRows.{Numbered}
use Rattle.confluence.proofs.FreeRows.{Free, numbered_shift, in_ideal, ideal_span}

-- what is between words comes from what it is of
pub between_span : (polys : List (List Term)) (l r : Word) (p : List Term) → Span (Numbered polys Free) (coefficient_of p) → Span (Numbered polys Free) (coefficient_of (poly_between l p r))
between_span polys l r p sp =
    span_same (Numbered polys Free) (shift l r (coefficient_of p)) (coefficient_of (poly_between l p r))
    (span_shift (Numbered polys Free) (Numbered polys Free) l r (λ b row. numbered_shift polys l r b row) (coefficient_of p) sp) (λ w. coefficient_of-between l r p w)

-- a number is that of a generator, or names the polynomial zero
pub generator_decided : (generators : List (List Term)) (n : ℕ) → ((1 ≤ n) × (n ≤ length generators)) ⊎ (generator_at generators n ≡ [])
generator_decided gs zero = inr refl
generator_decided gs (suc n) = elim (cases_lt n (length gs)) [
  | inl inside ↦ inl (omega arith, omega (arith, inside))
  | inr past ↦ inr (get_or_past gs n [] past)
]

-- what holds of each generator, by number
module _ (P : List Term → Type 0) (generators : List (List Term)) where
  by_number : All P generators → (n : ℕ) → 1 ≤ n → n ≤ length generators → P (generator_at generators n)
  by_number each zero first last = absurd (omega (arith, first))
  by_number each (suc n) first last = All-get_or P generators n [] (omega (arith, last)) each

  pub all_from_numbers : ((n : ℕ) → 1 ≤ n → n ≤ length generators → P (generator_at generators n)) → All P generators
  all_from_numbers each = All-from_get_or P generators [] (λ n inside. each (suc n) (omega arith) (omega (arith, inside)))

pub ideals_stay_inside : IdealsStayInside
ideals_stay_inside polys generators p each inside = in_ideal polys p (span_bind (Numbered generators Free) (Numbered polys Free) of_row (coefficient_of p) (ideal_span generators p inside))
  where
    of_row : (b : Coefs) → Numbered generators Free b → Span (Numbered polys Free) b
    of_row b row = go (generator_decided generators row.number)
      where
        go : ((1 ≤ row.number) × (row.number ≤ length generators)) ⊎ (generator_at generators row.number ≡ []) → Span (Numbered polys Free) b
        go (inl named) =
            let g = generator_at generators row.number in
            span_same (Numbered polys Free) (coefficient_of (poly_between row.left g row.right)) b
            (between_span polys row.left row.right g (ideal_span polys g (by_number (InRationalIdeal polys) generators each row.number named.0 named.1))) row.is
        go (inr none) = nothing b (λ w. row.is w ∙ ap (λ z. coefficient_of (poly_between row.left z row.right) w) none)
