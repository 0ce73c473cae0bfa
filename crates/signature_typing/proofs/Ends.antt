-- The signature of an equation is between objects, and so is each that its fault has.
use Rattle.signature_typing.proofs.Prelude.{◌≡◌, ℕ, true, nat_eq, List, [], ◌∷◌, Option, Some, None, Result, Ok, Err, refl, subst, MatchResult, IfSome, and_parts, cond_both, Named, named, Sig, Spot, Mark, Adjoint, Power, Primary, Identity, Bracket, Term, Term', Row_of-Factor, end_of-Factor, more_of-Factor, Sum, Sum', Row_of-Term, end_of-Term, more_of-Term, SignatureFault, Declaration, IsDeclared, named_in, quiver_of, is_named, letter_is, source-quiver_of, target-quiver_of, ◌>>=◌, AreNames, is_map, is_object, letter_number, object_number, are_names_of_terms, are_names_of_term, are_names_of_factors, are_names_of_primary, Part, from_to, letter_signature, same_ends, is_repeated, repeated, mark_signature, marked_signature, product_from, product_signature, sum_step, sum_from, term_at, sum_at, sum_signature, terms_parts, term_signature, factors_parts, primary_signature, sides_signature, equation_signature, HasObjects, HasFaultObjects}
use Rattle.expressions.specs.Signatures.{product_step}

module _ (ds : List Declaration) (declared : IsDeclared ds) where
  -- a value that is good, or a fault whose signatures are between objects
  abbrev IsFine : {A : Type 0} → (A → Type 0) → Result A SignatureFault → Type 0
  IsFine good r = MatchResult r good (HasFaultObjects ds)

  and_then : {A B : Type 0} (P : A → Type 0) (Q : B → Type 0) (r : Result A SignatureFault) (k : A → Result B SignatureFault) → IsFine P r → ((x : A) → P x → IsFine Q (k x)) → IsFine Q (r >>= k)
  and_then P Q (Ok x) k fine next = next x fine
  and_then P Q (Err fault) k fine next = fine

  -- an expression is open or has a signature between objects
  abbrev IsBetween : Option Sig → Type 0
  IsBetween s = IfSome s (HasObjects ds)

  abbrev AreBetween : List Part → Type 0
  AreBetween [] = Unit {0}
  AreBetween (p ∷ parts) = IsBetween p.1 × AreBetween parts

  -- marks
  repeated_fine : (first caret : Spot) (s : Option Sig) → IsBetween s → IsFine IsBetween (repeated first caret s)
  repeated_fine first caret None between = tt
  repeated_fine first caret (Some s) between = cond_both (nat_eq s.source.0 s.target.0) _ _ (IsFine IsBetween) (λ _. between) (λ _. (between, between))

  mark_fine : (first : Spot) (m : Mark) (s : Option Sig) → IsBetween s → IsFine IsBetween (mark_signature first m s)
  mark_fine first Adjoint None between = tt
  mark_fine first Adjoint (Some s) between = record { source = between.target; target = between.source }
  mark_fine first (Power caret exponent) s between =
      cond_both (is_repeated exponent.value) _ _ (IsFine IsBetween) (λ _. repeated_fine first caret s between) (λ _. between)

  marked_fine : (first : Spot) (marks : List Mark) (s : Option Sig) → IsBetween s → IsFine IsBetween (marked_signature first marks s)
  marked_fine first [] s between = between
  marked_fine first (m ∷ marks) s between =
      and_then IsBetween IsBetween (mark_signature first m s) (marked_signature first marks) (mark_fine first m s between) (marked_fine first marks)

  -- products
  product_step_fine : (so_far : Result (Option Sig) SignatureFault) (at : Spot) (next : Option Sig) → IsFine IsBetween so_far → IsBetween next → IsFine IsBetween (product_step so_far at next)
  product_step_fine (Err fault) at next fine between = fine
  product_step_fine (Ok so_far) at None fine between = tt
  product_step_fine (Ok None) at (Some s) fine between = between
  product_step_fine (Ok (Some left)) at (Some right) fine between =
      cond_both (nat_eq left.source.0 right.target.0) _ _ (IsFine IsBetween)
      (λ _. record { source = between.source; target = fine.target }) (λ _. (fine, between))

  product_from_fine : (so_far : Result (Option Sig) SignatureFault) (parts : List Part) → IsFine IsBetween so_far → AreBetween parts → IsFine IsBetween (product_from so_far parts)
  product_from_fine so_far [] fine between = fine
  product_from_fine so_far (p ∷ parts) fine between = product_from_fine (product_step so_far p.0 p.1) parts (product_step_fine so_far p.0 p.1 fine between.0) between.1

  product_fine : (parts : List Part) → AreBetween parts → IsFine IsBetween (product_signature parts)
  product_fine [] between = tt
  product_fine (p ∷ []) between = between.0
  product_fine (p ∷ r ∷ parts) between = product_from_fine (Ok None) (p ∷ r ∷ parts) tt between

  -- sums
  sum_step_fine : (so_far : Result (Option Sig) SignatureFault) (at : Spot) (next : Option Sig) → IsFine IsBetween so_far → IsBetween next → IsFine IsBetween (sum_step so_far at next)
  sum_step_fine (Err fault) at next fine between = fine
  sum_step_fine (Ok so_far) at None fine between = fine
  sum_step_fine (Ok None) at (Some s) fine between = between
  sum_step_fine (Ok (Some before)) at (Some s) fine between = cond_both (same_ends before s) _ _ (IsFine IsBetween) (λ _. fine) (λ _. (fine, between))

  sum_from_fine : (so_far : Result (Option Sig) SignatureFault) (parts : List Part) → IsFine IsBetween so_far → AreBetween parts → IsFine IsBetween (sum_from so_far parts)
  sum_from_fine so_far [] fine between = fine
  sum_from_fine so_far (p ∷ parts) fine between = sum_from_fine (sum_step so_far p.0 p.1) parts (sum_step_fine so_far p.0 p.1 fine between.0) between.1

  sides_fine : (at_left at_right : Spot) (s t : Option Sig) → IsBetween s → IsBetween t → IsFine (HasObjects ds) (sides_signature at_left at_right s t)
  sides_fine at_left at_right None None left right = tt
  sides_fine at_left at_right None (Some t) left right = right
  sides_fine at_left at_right (Some s) None left right = left
  sides_fine at_left at_right (Some s) (Some t) left right = cond_both (same_ends s t) _ _ (IsFine (HasObjects ds)) (λ _. left) (λ _. (left, right))

  -- names
  letter_between : (name : List ℕ) (found : Option Named) → named_in ds name ≡ found → is_map found ≡ true → HasObjects ds (letter_signature (quiver_of ds) (letter_number found))
  letter_between name None is kind = absurd cc
  letter_between name (Some (named.Object v)) is kind = absurd cc
  letter_between name (Some (named.Map a)) is kind =
      let letter = letter_is ds declared a.0 (is_named ds name (named.Map a) is).0 in
      record { source = rw (source-quiver_of ds a.0) letter.source_is_object; target = rw (target-quiver_of ds a.0) letter.target_is_object }

  object_between : (name : List ℕ) (found : Option Named) → named_in ds name ≡ found → is_object found ≡ true → HasObjects ds (from_to (object_number found) (object_number found))
  object_between name None is kind = absurd cc
  object_between name (Some (named.Object v)) is kind = let in_range = (is_named ds name (named.Object v) is).0 in record { source = in_range; target = in_range }
  object_between name (Some (named.Map a)) is kind = absurd cc

  -- expressions
  mutual
    sum_fine : (s : Sum) → AreNames ds s → IsFine IsBetween (sum_signature ds s)
    sum_fine (Sum' at shape terms) names = and_then AreBetween IsBetween (terms_parts ds terms) (sum_from (Ok None)) (terms_fine _ terms names) (λ parts between. sum_from_fine (Ok None) parts tt between)

    terms_fine : (m : _) (terms : Row_of-Term m) → are_names_of_terms ds terms ≡ true → IsFine AreBetween (terms_parts ds terms)
    terms_fine m end_of-Term names = tt
    terms_fine m (more_of-Term t rest) names =
        let both = and_parts (are_names_of_term ds t) (are_names_of_terms ds rest) names in
        and_then (λ p. IsBetween p.1) AreBetween (term_signature ds t >>= λ s. Ok (term_at t, s)) _
        (and_then IsBetween (λ p. IsBetween p.1) (term_signature ds t) _ (term_fine t both.0) (λ s between. between))
        (λ p between. and_then AreBetween AreBetween (terms_parts ds rest) _ (terms_fine _ rest both.1) (λ parts others. (between, others)))

    term_fine : (t : Term) → are_names_of_term ds t ≡ true → IsFine IsBetween (term_signature ds t)
    term_fine (Term' at negative literal shape factors) names = and_then AreBetween IsBetween (factors_parts ds factors) product_signature (factors_fine _ factors names) product_fine

    factors_fine : (m : _) (factors : Row_of-Factor m) → are_names_of_factors ds factors ≡ true → IsFine AreBetween (factors_parts ds factors)
    factors_fine m end_of-Factor names = tt
    factors_fine m (more_of-Factor at primary marks rest) names =
        let both = and_parts (are_names_of_primary ds primary) (are_names_of_factors ds rest) names in
        let factor = primary_signature ds primary >>= marked_signature at marks in
        and_then (λ p. IsBetween p.1) AreBetween (factor >>= λ s. Ok (at, s)) _
        (and_then IsBetween (λ p. IsBetween p.1) factor _
        (and_then IsBetween IsBetween (primary_signature ds primary) (marked_signature at marks) (primary_fine primary both.0) (marked_fine at marks)) (λ s between. between))
        (λ p between. and_then AreBetween AreBetween (factors_parts ds rest) _ (factors_fine _ rest both.1) (λ parts others. (between, others)))

    primary_fine : (p : Primary) → are_names_of_primary ds p ≡ true → IsFine IsBetween (primary_signature ds p)
    primary_fine (Primary.Letter n) names = letter_between n.text (named_in ds n.text) refl names
    primary_fine (Identity n) names = object_between n.text (named_in ds n.text) refl names
    primary_fine (Bracket s) names = sum_fine s names

  equation_fine : (left right : Sum) → AreNames ds left → AreNames ds right → IsFine (HasObjects ds) (equation_signature ds left right)
  equation_fine left right named_left named_right =
      and_then IsBetween (HasObjects ds) (sum_signature ds left) _ (sum_fine left named_left)
      (λ s at_left. and_then IsBetween (HasObjects ds) (sum_signature ds right) _ (sum_fine right named_right)
      (λ t at_right. sides_fine (sum_at left) (sum_at right) s t at_left at_right))

  pub signature_has_objects : (left right : Sum) (s : Sig) → AreNames ds left → AreNames ds right → equation_signature ds left right ≡ Ok s → HasObjects ds s
  signature_has_objects left right s named_left named_right is = subst (IsFine (HasObjects ds)) is (equation_fine left right named_left named_right)

  pub fault_has_objects : (left right : Sum) (f : SignatureFault) → AreNames ds left → AreNames ds right → equation_signature ds left right ≡ Err f → HasFaultObjects ds f
  fault_has_objects left right f named_left named_right is = subst (IsFine (HasObjects ds)) is (equation_fine left right named_left named_right)
