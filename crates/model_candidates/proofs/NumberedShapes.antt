-- The shape with a number, and the draws of its entries.
use Rattle.model_candidates.proofs.Prelude.{◌≡◌, ℕ, ◌+◌, ◌-◌, ◌*◌, ◌/◌, ◌%◌, ◌^◌, ◌<◌, ◌≤◌, length, get_or, Some, None, slice_get, ◌⊎◌, inl, inr, sym, ap, ◌∙◌, arith, mod-lt, length-map-range_with_len, get_or_from_slice_get, slice_get_cases, object_count, quiver_of, Shape, Problem, IsShape, IsShapeOf, digit, digits, entries_of, draws, word_of_stream, AreEntryValues, FitsShape, IsPlan, Plan, all_at}
use Rattle.model_candidates.proofs.Ranges.{all_of_range}

pub shape_numbered : (problem : Problem) {number : ℕ} {s : Shape} → 1 ≤ number → slice_get problem.parts.shapes (number - 1) ≡ Some s
    → IsShapeOf problem number s
shape_numbered problem {number} least there = record { before = number - 1; numbered = omega (arith, least); there = there }

-- a number has one shape
pub one_shape : {problem : Problem} {number : ℕ} {s t : Shape} → slice_get problem.parts.shapes (number - 1) ≡ Some s
    → IsShapeOf problem number t → s ≡ t
one_shape {problem} {number} {s} {t} there is =
    let before : is.before ≡ number - 1 = omega (arith, is.numbered) in
    sym (get_or_from_slice_get problem.parts.shapes (number - 1) s s there)
    ∙ get_or_from_slice_get problem.parts.shapes (number - 1) t s (ap (slice_get problem.parts.shapes) (sym before) ∙ is.there)

pub draws_are_values : (problem : Problem) (s : Shape) (number seed k : ℕ) → 1 ≤ s.modulus → AreEntryValues problem s
    (draws (quiver_of problem.parts.quiver) s number seed k)
draws_are_values problem s number seed k positive =
    let count = length (entries_of (quiver_of problem.parts.quiver) s) in
    let draw : ℕ → ℕ = λ j. word_of_stream seed number (k * count + j) % s.modulus in
    record {
      one_each = length-map-range_with_len draw 0 count;
      below = all_of_range (λ value. value < s.modulus) draw count
          (λ j inside. mod-lt (word_of_stream seed number (k * count + j)) positive);
    }

-- the shape of a plan, by its number
pub plan_fits : {problem : Problem} {plan : Plan} {s : Shape} → IsPlan problem plan
    → slice_get problem.parts.shapes (plan.number - 1) ≡ Some s
    → FitsShape problem s plan
plan_fits {problem} {plan} {s} is there = is.fits s (shape_numbered problem is.least there)

-- the digits of a candidate's number
pub digits_are_values : (problem : Problem) (s : Shape) (k : ℕ) → 1 ≤ s.modulus → AreEntryValues problem s (digits (quiver_of problem.parts.quiver) s k)
digits_are_values problem s k positive =
    let m = s.modulus in
    let count = length (entries_of (quiver_of problem.parts.quiver) s) in
    record {
      one_each = length-map-range_with_len (digit m k) 0 count;
      below = all_of_range (λ value. value < m) (digit m k) count (λ j inside. mod-lt (k / m ^ j) positive);
    }

-- and no other
pub shape_is_one : (problem : Problem) (number : ℕ) (s t : Shape) → IsShapeOf problem number s → IsShapeOf problem number t → s ≡ t
shape_is_one problem number s t first second =
    let before : number - 1 ≡ first.before = omega (arith, first.numbered) in
    one_shape (ap (slice_get problem.parts.shapes) before ∙ first.there) second

-- which is one for the objects of the problem
pub posed_shape : (problem : Problem) (k : ℕ) {s : Shape} → slice_get problem.parts.shapes k ≡ Some s → IsShape (object_count problem.parts.quiver) s
posed_shape problem k {s} there = all_at (IsShape (object_count problem.parts.quiver)) problem.parts.shapes k s problem.posed.shapes there

pub shape_is : (problem : Problem) (number : ℕ) (s : Shape) → IsShapeOf problem number s → IsShape (object_count problem.parts.quiver) s
shape_is problem number s numbered = posed_shape problem numbered.before numbered.there

-- a number in range has one
pub record HasShapeOf (problem : Problem) (number : ℕ) : Type 0 where
  pub shape : Shape
  pub is : IsShapeOf problem number shape

pub shape_of_number : (problem : Problem) (number : ℕ) → 1 ≤ number → number ≤ length problem.parts.shapes → HasShapeOf problem number
shape_of_number problem number least most = go (slice_get_cases problem.parts.shapes (number - 1)).1
  where
    go : ((s : Shape) × (number - 1 < length problem.parts.shapes) × (slice_get problem.parts.shapes (number - 1) ≡ Some s)
        × (get_or problem.parts.shapes (number - 1) s ≡ s))
        ⊎ ((length problem.parts.shapes ≤ number - 1) × (slice_get problem.parts.shapes (number - 1) ≡ None)) → HasShapeOf problem number
    go (inl s) = record { shape = s.0; is = shape_numbered problem least s.2 }
    go (inr past) = absurd (omega (arith, least, most, past.0))
