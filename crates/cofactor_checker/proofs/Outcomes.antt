-- what the steps of a check mean for its outcome
use Rattle.cofactor_checker.proofs.Prelude.{◌≡◌, ℕ, ℤ, pos, ◌*ℤ◌, ◌≤ℤ◌, List, None, inr, sym, subst, ap, ◌∙◌, arith, ints, first_overflow, coefficient_of, poly_multiple, SamePolynomial, IsCombination, coefficient_of-multiple, BTreeMap, coefficient_in, products, Poly, polynomials, Certificate, row_of, rows_of, claim_of, IsPosed, Begins, Accepts, Refuses, IsLeastDifference, StopsAt, lacks, overflows, outgrows, memory, tell_generator, IsSumOf, Refusal}
use Rattle.cofactor_checker.proofs.RowSums.{Names}
use Rattle.cofactor_checker.specs.declared.refusal.Refusal.TheVariants as refusal

-- the certificate names the claim, and its denominator is at least 1
module _ {claims : List Poly} {c : Certificate} {p : Poly} (names : Names claims c.claim p) (least : pos 1 ≤ℤ c.denominator) where
  pub posed : IsPosed (polynomials claims) c
  posed = record { claim = names.number; denominator = least }

  pub begins : first_overflow (products c.denominator p.terms) ≡ None → Begins (polynomials claims) c
  begins none = record { posed = posed; products = rw names.terms at none }

-- a refusal of a row, where the rows are reached
module _ {claims generators : List (List (ℤ × List ℕ))} {c : Certificate} (begins : Begins claims c) where
  pub refuses_from_row : (e : Refusal) → StopsAt generators row_of tell_generator (λ n. n) c.rows e → Refuses claims generators c e
  refuses_from_row e (lacks n x is h there) = subst (Refuses claims generators c) (sym is) (begins, h)
  refuses_from_row e (overflows n o is h) = subst (Refuses claims generators c) (sym is) (inr (begins, h))
  refuses_from_row e (outgrows n is h) = subst (Refuses claims generators c) (sym is) (begins, h)
  refuses_from_row (refusal.Memory failed) (memory free) = tt
  refuses_from_row other (memory free) = absurd free

-- the map is a sum, and the terms are the claim: what holds of the map and a multiple of the terms holds of the sum and that of the claim
module _ {m : BTreeMap (List ℕ) ℤ} {p terms claim : List (ℤ × List ℕ)} (d : ℤ) (sum : IsSumOf m p) (is : terms ≡ claim) where
  multiple_is : (w : List ℕ) → d *ℤ coefficient_of terms w ≡ coefficient_of (poly_multiple d claim) w
  multiple_is w = ap (λ q. d *ℤ coefficient_of q w) is ∙ sym (coefficient_of-multiple d claim w)

  pub sums_agree : ((w : List ℕ) → coefficient_in m w ≡ d *ℤ coefficient_of terms w) → SamePolynomial p (poly_multiple d claim)
  sums_agree same = record { at = λ w. sym (sum.at w) ∙ same w ∙ multiple_is w }

  pub sums_differ : {word : List ℕ} {want got : ℤ} → IsLeastDifference (λ w. d *ℤ coefficient_of terms w) (coefficient_in m) word want got
      → IsLeastDifference (coefficient_of (poly_multiple d claim)) (coefficient_of p) word want got
  sums_differ {word = word} h = record {
    wanted_there = sym (multiple_is word) ∙ h.wanted_there;
    found_there = sym (sum.at word) ∙ h.found_there;
    differ = h.differ;
    least = λ w less. sym (multiple_is w) ∙ h.least w less ∙ sum.at w;
  }

-- an accepted certificate shows that the denominator times the claim is a sum of its rows
pub combination_from_accepts : {claims generators : List (List (ℤ × List ℕ))} {c : Certificate} → Accepts claims generators c → IsCombination generators (rows_of c.rows) c.denominator (claim_of claims c)
combination_from_accepts accepted = record { positive = omega (arith, ints, accepted.adds_up.begins.posed.denominator); sum = accepted.sum }
