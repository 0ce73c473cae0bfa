-- The generators and the claims of a problem are sorted and typed, and their letters are its letters.
use Rattle.outcome_laws.proofs.Prelude.{◌≡◌, ◌≢◌, ◌≤◌, ◌<◌, ℕ, pos, Bool, true, IsTrue, List, [], ◌∷◌, length, refl, sym, subst, arith, get_or, All, AllByRecursion, list_all, length-map, All-nil, All-cons, All-map, IsCoefficient, Term, generator_at, Quiver, letters, source, leads, is_path, HasSignature, step, IsOver, Poly, distinct-descending, words_listed, IsDescending-from_recursion, recursion_from_IsDescending, letter_count, quiver_of, letters-quiver_of, Problem, polynomials, units_in, claims_have_signatures, generators_have_signatures, HasLettersBelow, AreAllDone, units_first, few_units_closed, claim_at, words_with_coefficients, IsGenerator, word_limit, IsCanonical}
use Rattle.outcome_laws.proofs.Results.{generator_all}
use Rattle.outcome_laws.proofs.Turns.{each_generator_has_its_turn}

-- polynomials by their numbers
zero_is_canonical : IsCanonical []
zero_is_canonical = record {
  shaped = record {
    descending = IsDescending-from_recursion [] tt;
    nonzero = All-nil (λ (t : Term). t.0 ≢ pos 0);
    in_range = All-nil (λ (t : Term). IsCoefficient t.0);
  };
  short = All-nil (λ (t : Term). length t.1 ≤ word_limit);
  few = omega arith;
}

pub canonical_at : (ps : List Poly) (n : ℕ) → IsCanonical (generator_at (polynomials ps) n)
canonical_at ps = generator_all IsCanonical (polynomials ps) (All-map IsCanonical (λ (p : Poly). p.terms) ps (λ k p inside. (get_or ps k p).canonical)) zero_is_canonical

-- paths
leads_over : (q : Quiver) (u v : ℕ) (w : List ℕ) → leads q u v w ≡ true → IsOver (letters q) w
leads_over q u v [] path = All-nil (λ a. a < letters q)
leads_over q u v (a ∷ w) path = let first = step q u v a w path in All-cons (λ b. b < letters q) a w first.letter (leads_over q u (source q a) w first.rest)

path_over : (q : Quiver) (u v : ℕ) (w : List ℕ) → is_path q u v w ≡ true → IsOver (letters q) w
path_over q u v [] path = All-nil (λ a. a < letters q)
path_over q u v (a ∷ w) path = leads_over q u v (a ∷ w) path

-- each letter counts as one in play
abbrev pub any_letter : ℕ → Bool
any_letter a = true

all_letters : (w : List ℕ) → IsTrue (list_all any_letter w)
all_letters [] = refl
all_letters (a ∷ w) = all_letters w

-- polynomials with a signature
module _ (q : Quiver) (n : ℕ) (same : letters q ≡ n) where
  typed_is : (p : Poly) → HasSignature q p.terms → IsGenerator q any_letter n p.terms
  typed_is p has = record {
    shaped = p.canonical.shaped;
    over = words_listed (IsOver n) p.terms (distinct-descending p.terms (recursion_from_IsDescending p.terms p.canonical.shaped.descending)) p.canonical.shaped.nonzero
        (λ w some. subst (λ k. IsOver k w) same (path_over q has.source has.target w (has.typed.at w some)));
    typed = record { source = has.source; target = has.target; typed = has.typed; in_play = record { at = λ w some. all_letters w } };
  }

  all_typed : (ps : List Poly) → AllByRecursion (HasSignature q) (polynomials ps) → All (IsGenerator q any_letter n) (polynomials ps)
  all_typed [] has = All-nil (IsGenerator q any_letter n)
  all_typed (p ∷ ps) has = All-cons (IsGenerator q any_letter n) p.terms (polynomials ps) (typed_is p has.0) (all_typed ps has.1)

  zero_is : IsGenerator q any_letter n []
  zero_is = record {
    shaped = zero_is_canonical.shaped;
    over = All-nil (λ (t : Term). IsOver n t.1);
    typed = record { source = 0; target = 0; typed = record { at = λ w some. absurd (some refl) }; in_play = record { at = λ w some. absurd (some refl) } };
  }

  -- one of them, and zero where there is none with the number
  one_typed : (ps : List (List Term)) → All (IsGenerator q any_letter n) ps → (number : ℕ) → IsGenerator q any_letter n (generator_at ps number)
  one_typed ps each = generator_all (IsGenerator q any_letter n) ps each zero_is

-- of a problem
module _ (problem : Problem) where
  pub generators_are : All (IsGenerator (quiver_of problem.parts.quiver) any_letter (letter_count problem.parts.quiver)) (polynomials problem.generators)
  generators_are =
      all_typed (quiver_of problem.parts.quiver) (letter_count problem.parts.quiver) (letters-quiver_of problem.parts.quiver) problem.generators
      (generators_have_signatures problem.parts problem.posed problem.generators problem.closed)

  pub generator_is : (n : ℕ) → IsGenerator (quiver_of problem.parts.quiver) any_letter (letter_count problem.parts.quiver) (generator_at (polynomials problem.generators) n)
  generator_is =
      one_typed (quiver_of problem.parts.quiver) (letter_count problem.parts.quiver) (letters-quiver_of problem.parts.quiver) (polynomials problem.generators) generators_are

  pub claim_is : (number : ℕ) → IsGenerator (quiver_of problem.parts.quiver) any_letter (letter_count problem.parts.quiver) (claim_at problem number)
  claim_is number =
      one_typed (quiver_of problem.parts.quiver) (letter_count problem.parts.quiver) (letters-quiver_of problem.parts.quiver) (polynomials problem.parts.claims)
      (all_typed (quiver_of problem.parts.quiver) (letter_count problem.parts.quiver) (letters-quiver_of problem.parts.quiver) problem.parts.claims (claims_have_signatures problem.parts problem.posed)) number

  pub claim_letters : (number : ℕ) → HasLettersBelow (letter_count problem.parts.quiver) (claim_at problem number)
  claim_letters number = record {
    at = words_with_coefficients (IsOver (letter_count problem.parts.quiver)) (claim_at problem number) (claim_is number).over;
  }

  -- their turns
  counted : length (polynomials problem.generators) ≡ length problem.generators
  counted = length-map problem.generators (λ f. f.terms)

  pub turns_in_range : All (λ k. (1 ≤ k) × (k ≤ length (polynomials problem.generators))) (units_first (length (units_in problem.parts)) (length problem.generators))
  turns_in_range =
      subst (λ c. All (λ k. (1 ≤ k) × (k ≤ c)) (units_first (length (units_in problem.parts)) (length problem.generators))) (sym counted)
      (each_generator_has_its_turn (length (units_in problem.parts)) (length problem.generators) (few_units_closed problem.parts problem.generators problem.closed)).0

  pub all_have_turns : AreAllDone (polynomials problem.generators) (units_first (length (units_in problem.parts)) (length problem.generators))
  all_have_turns n first last = (each_generator_has_its_turn (length (units_in problem.parts)) (length problem.generators) (few_units_closed problem.parts problem.generators problem.closed)).1 n first (omega (arith, last, counted))
