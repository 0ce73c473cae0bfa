-- The records of a run are within the limits: their numbers are coefficients, their words are short, and they name what is there.
use Rattle.outcome_laws.proofs.Prelude.{◌≡◌, ◌≢◌, ◌≤◌, ◌<ℤ◌, ℕ, ℤ, pos, List, [], ◌∷◌, length, get_or, slice_get, Some, refl, subst, arith, All, unsigned_abs, ints, length-map, All-head, ◌∣◌, le_of_dvd, get_or_from_slice_get, slice_get_within, slice_get-get_or, IsCoefficient, Term, generator_at, asked_cmp, letter_count, Poly, IsContent, IsShaped, abs_positive, content-zero, Origin, Made, IsUpTo, NamesUpTo, IsAmongFirst, AreRecords, Problem, polynomials, IsRecorded, IsEarlier, normal_forms_are_shaped, s_polynomials_are_shaped, Budget, RunState, IsRunState, setting_of}
use Rattle.traced_rows.specs.declared.Origin.TheVariants as origin
use Rattle.outcome_laws.proofs.AmbiguitiesWithin.{s_polynomial_fits, s_rows_short}
use Rattle.outcome_laws.proofs.EvidenceRanges.{negative_in_range}
use Rattle.outcome_laws.proofs.ProblemPolynomials.{canonical_at, generator_is}
use Rattle.outcome_laws.proofs.ProblemStates.{state_kept}
use Rattle.outcome_laws.proofs.ReducedWithin.{Fits, IsShortRow, reduced_within}
use Rattle.outcome_laws.proofs.RowsOfRuns.{KeepsRows, records_made}

-- polynomials of the program
pub numbered_fits : (ps : List Poly) (number : ℕ) → Fits (generator_at (polynomials ps) number)
numbered_fits ps number = let is = canonical_at ps number in record { short = is.short; in_range = is.shaped.in_range }

-- the content of a polynomial divides its first coefficient
scale_in_range : (p : List Term) (k : ℤ) → IsShaped p → IsContent p k → pos 0 <ℤ k → IsCoefficient k
scale_in_range [] k shaped content positive =
    let none : k ≡ pos 0 = (content-zero [] k shaped.nonzero content).1 refl in
    absurd (omega (arith, ints, none, positive))
scale_in_range (t ∷ p) k shaped content positive =
    let divides = All-head (λ (u : Term). unsigned_abs k ∣ unsigned_abs u.0) t p content.divides in
    let nonzero = All-head (λ (u : Term). u.0 ≢ pos 0) t p shaped.nonzero in
    let in_range = All-head (λ (u : Term). IsCoefficient u.0) t p shaped.in_range in
    let less = le_of_dvd (abs_positive t.0 nonzero) divides in
    omega (arith, less, in_range)

-- origins
among_first : (generators count : ℕ) (from : Origin) → IsEarlier generators count from → IsAmongFirst count from
among_first generators count (origin.Generator n) is = tt
among_first generators count (origin.Rule n) is = is

up_to : (generators count : ℕ) (from : Origin) → IsEarlier generators count from → IsUpTo generators from
up_to generators count (origin.Generator n) is = is
up_to generators count (origin.Rule n) is = tt

-- a record of numbers that are coefficients, with a row, and short words
record IsLimited (m : Made) : Type 0 where
  scale : IsCoefficient m.scale
  short : All IsShortRow m.rows
  some : 1 ≤ length m.rows

module _ (problem : Problem) (budget : Budget) where
  abbrev letters : ℕ
  letters = letter_count problem.parts.quiver

  abbrev FitsShaped : List Term → Type 0
  FitsShaped p = IsShaped p × Fits p

  limits_kept : KeepsRows problem budget FitsShaped IsShortRow IsLimited
  limits_kept = record {
    negative = λ r held. record { coefficient = negative_in_range r.coef held.coefficient; left = held.left; right = held.right };
    multiple = λ by r held fits. record { coefficient = fits; left = held.left; right = held.right };
    reduced = λ rules p s are held ends.
        let within = reduced_within letters (asked_cmp problem.parts.order) rules are p budget.steps s held.1 ends in
        ((normal_forms_are_shaped (asked_cmp problem.parts.order) rules p budget.steps s held.0 ends, within.rest), within.rows);
    ambiguous = λ rules a p are is ends.
        ((s_polynomials_are_shaped rules a p ends, s_polynomial_fits rules a p ends), s_rows_short letters (asked_cmp problem.parts.order) rules are a is);
    polynomial = λ n. ((generator_is problem n).shaped, numbered_fits problem.generators n);
    row = λ n rules s are ends.
        let within = reduced_within letters (asked_cmp problem.parts.order) rules are (generator_at (polynomials problem.generators) n) budget.steps s (numbered_fits problem.generators n) ends in
        record { coefficient = within.multiplier; left = omega arith; right = omega arith };
    makes = λ rest g m made is rows some. record { scale = scale_in_range rest.polynomial m.scale is.0 made.content made.positive; short = rows; some = some };
  }

  -- The records of a state.
  pub record LimitedRecords (s : RunState) : Type 0 where
    pub are_records : AreRecords s.made
    pub positive : All (λ m. pos 0 <ℤ m.scale) s.made
    pub short : All (λ m. All IsShortRow m.rows) s.made
    pub named : All (NamesUpTo (length problem.generators)) s.made
    pub some : All (λ m. 1 ≤ length m.rows) s.made

  pub records_limited : (rounds : ℕ) (s : RunState) → IsRunState (setting_of problem budget) rounds s → LimitedRecords s
  records_limited rounds s run = record {
    are_records = record {
      at = λ place m is.
          let one = subst IsLimited (get_or_from_slice_get s.made place m m is) (limited place m (slice_get_within s.made place m is)) in
          let has = recorded place m is in
          record {
            positive = has.positive;
            scale_in = one.scale;
            coefficients_in = λ k r inside. (one.short k r inside).coefficient;
            earlier = λ k r inside. among_first count place (get_or m.rows k r).from (has.earlier k r inside);
          };
    };
    positive = λ k m inside. (recorded k (get_or s.made k m) (slice_get-get_or s.made k m inside)).positive;
    short = λ k m inside. (limited k m inside).short;
    named = λ k m inside i r within.
        subst (λ n. IsUpTo n (get_or (get_or s.made k m).rows i r).from) (length-map problem.generators (λ (p : Poly). p.terms))
        (up_to count k (get_or (get_or s.made k m).rows i r).from ((recorded k (get_or s.made k m) (slice_get-get_or s.made k m inside)).earlier i r within));
    some = λ k m inside. (limited k m inside).some;
  }
    where
      count : ℕ
      count = length (polynomials problem.generators)

      limited : All IsLimited s.made
      limited = records_made problem budget FitsShaped IsShortRow IsLimited limits_kept rounds s run

      recorded : (place : ℕ) (m : Made) → slice_get s.made place ≡ Some m → IsRecorded count place m
      recorded = (state_kept problem budget rounds s run).kept.recorded.each
