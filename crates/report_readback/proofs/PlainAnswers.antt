-- A certificate that names the claim, is within the limits and adds up is refused for a limit alone, or for want of memory.
use Rattle.report_readback.proofs.Prelude.{◌≡◌, ◌⊎◌, inl, inr, ℕ, ℤ, List, arith, sym, ◌∙◌, subst, length, slice_get, Some, All, ints, All-map, slice_get_within, get_or_from_slice_get, coefficient_of, SamePolynomial, Row, IsCombination, Certificate, row_of, rows_of, Refusal, IsNumberUpTo, LacksGenerator, IsLeastDifference, claim_of, Refuses, IsMemory, IsCertificateWithin, PassesLimit}
use Rattle.cofactor_checker.specs.declared.refusal.Refusal.TheVariants as refusal

abbrev pub Polys : Type 0
Polys = List (List (ℤ × List ℕ))

-- what holds of each item holds of one
pub item : {X : Type 0} (P : X → Type 0) (xs : List X) (i : ℕ) (x : X) → All P xs → slice_get xs i ≡ Some x → P x
item P xs i x each there = subst P (get_or_from_slice_get xs i x x there) (each i x (slice_get_within xs i x there))

-- where each row is over a generator, no row lacks one
pub none_lacks : (gs : Polys) (rows : List Row) (number : ℕ) → All (λ r. IsNumberUpTo (length gs) r.generator) rows → LacksGenerator gs rows number → ⊥
none_lacks gs rows number each lacks = lacks.generator (item (λ r. IsNumberUpTo (length gs) r.generator) rows lacks.before lacks.row each lacks.reached.row)

-- polynomials that are the same do not differ
pub none_differs : (wanted found : List (ℤ × List ℕ)) (word : List ℕ) (want got : ℤ) → SamePolynomial found wanted → IsLeastDifference (coefficient_of wanted) (coefficient_of found) word want got → ⊥
none_differs wanted found word want got same differs = differs.differ (sym differs.wanted_there ∙ sym (same.at word) ∙ differs.found_there)

module _ (claims gs : Polys) (c : Certificate) (claim : IsNumberUpTo (length claims) c.claim) (within : IsCertificateWithin (length gs) c.claim c)
    (sum : IsCombination gs (rows_of c.rows) c.denominator (claim_of claims c)) where
  generators_there : All (λ r. IsNumberUpTo (length gs) r.generator) (rows_of c.rows)
  generators_there =
      All-map (λ (r : Row). IsNumberUpTo (length gs) r.generator) row_of c.rows (λ k row below. let is = within.rows k row below in record { least = is.first; most = is.last })

  pub plain_answer : (r : Refusal) → Refuses claims gs c r → PassesLimit r ⊎ IsMemory r
  plain_answer refusal.NoSuchClaim refused = absurd (refused claim)
  plain_answer refusal.ZeroDenominator refused = absurd (omega (arith, ints, within.positive, refused.denominator))
  plain_answer (refusal.Overflow row overflow) refused = inl tt
  plain_answer (refusal.NoSuchGenerator row) refused = absurd (none_lacks gs (rows_of c.rows) row generators_there refused.1)
  plain_answer (refusal.Size row) refused = inl tt
  plain_answer (refusal.Differs word want got) refused = absurd (none_differs _ _ word want got sum.sum refused.difference)
  plain_answer (refusal.Memory failed) refused = inr tt
  plain_answer other refused = absurd refused
