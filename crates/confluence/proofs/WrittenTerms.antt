-- A polynomial that is written out term by term is canonical, and the limits of its terms are shown one after another.
use Rattle.confluence.proofs.Prelude.{◌≡◌, ◌≤◌, ◌≢◌, List, [], ◌∷◌, length, pos, AllByRecursion, All-from_recursion, IsCoefficient, Term, IsShaped, IsCanonical, word_cmp, Greater, Descends, IsDescending-from_recursion}
use Rattle.nc_polynomial.proofs.Shapes.{IsBelow}

-- each word is above all later words, with one comparison after another
abbrev pub AreWrittenDown : List Term → Type 0
AreWrittenDown [] = Unit {0}
AreWrittenDown (t ∷ p) = AllByRecursion (λ u. word_cmp t.1 u.1 ≡ Greater) p × AreWrittenDown p

descends_written : (p : List Term) → AreWrittenDown p → Descends p
descends_written [] d = tt
descends_written (t ∷ p) d = (All-from_recursion (IsBelow t.1) p d.0, descends_written p d.1)

pub shaped_as_written : (p : List Term) → AreWrittenDown p → AllByRecursion (λ t. t.0 ≢ pos 0) p → AllByRecursion (λ t. IsCoefficient t.0) p → IsShaped p
shaped_as_written p descending nonzero in_range = record {
  descending = IsDescending-from_recursion p (descends_written p descending);
  nonzero = All-from_recursion (λ (t : Term). t.0 ≢ pos 0) p nonzero;
  in_range = All-from_recursion (λ (t : Term). IsCoefficient t.0) p in_range;
}

pub canonical_as_written : (p : List Term) → IsShaped p → AllByRecursion (λ t. length t.1 ≤ 500) p → length p ≤ 20000 → IsCanonical p
canonical_as_written p shaped short few = record { shaped = shaped; short = All-from_recursion (λ (t : Term). length t.1 ≤ 500) p short; few = few }
