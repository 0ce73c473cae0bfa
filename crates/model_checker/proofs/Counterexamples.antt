-- A model that refutes its claim is a star representation in which all generators are zero and the claim isn't.
use Rattle.model_checker.proofs.Prelude.{◌≡◌, ℕ, ◌-◌, ◌<◌, ◌≤◌, List, length, get_or, Some, None, slice_get, ◌⊎◌, inl, inr, sym, subst, arith, slice_get_cases, AllZip-long, Quiver, IsTyped, StarRepresents, HasValueZeroAt, sound, star_sound, Poly, Sig, quiver_of, matrices, transpose, matrices_laws, transpose_laws, Model, Problem, polynomials, IsTypedOf, HasObjects, posed_quiver, generators_have_signatures, generators_are_zero, IsZeroIn, IsClaimNumber, claim_polynomial, representation_of, HasOtherValue, RefutingModelsAreCounterexamples, RefutedClaimsDoNotFollow}
use Rattle.model_checker.proofs.Arrows.{star_represents}
use Rattle.model_checker.proofs.Places.{all_at, zip_at, generator_at-number}
use Rattle.model_checker.proofs.Values.{zero_from_value}

-- the items of two lists at one place
pub record Both {X Y : Type 0} (xs : List X) (ys : List Y) (k : ℕ) : Type 0 where
  pub x : X
  pub y : Y
  pub x_there : slice_get xs k ≡ Some x
  pub y_there : slice_get ys k ≡ Some y

abbrev Found : {X : Type 0} → List X → ℕ → Type 0
Found {X = X} xs k = ((x : X) × (k < length xs) × (slice_get xs k ≡ Some x) × (get_or xs k x ≡ x)) ⊎ ((length xs ≤ k) × (slice_get xs k ≡ None))

pub both_at : {X Y : Type 0} (xs : List X) (ys : List Y) (k : ℕ) → length ys ≡ length xs → k < length xs → Both xs ys k
both_at xs ys k long below = go (slice_get_cases xs k).1 (slice_get_cases ys k).1
  where
    go : Found xs k → Found ys k → Both xs ys k
    go (inl x) (inl y) = record { x = x.0; y = y.0; x_there = x.2; y_there = y.2 }
    go (inr past) y = absurd (omega (arith, past.0))
    go (inl x) (inr past) = absurd (omega (arith, past.0, long))

-- a polynomial of the problem with a signature of its own
pub record IsPosedOf (problem : Problem) (p : Poly) (s : Sig) : Type 0 where
  pub typed : IsTypedOf problem.parts.quiver p s
  pub ends : HasObjects problem.parts.quiver s

module _ (problem : Problem) (m : Model) where
  abbrev q : Quiver
  q = quiver_of problem.parts.quiver

  pub claims_are_posed : (k : ℕ) (at : Both problem.parts.claims problem.parts.claim_sigs k) → IsPosedOf problem at.x at.y
  claims_are_posed k at = record {
    typed = zip_at (IsTypedOf problem.parts.quiver) problem.parts.claims problem.parts.claim_sigs k at.x at.y problem.posed.claims_typed at.x_there at.y_there;
    ends = all_at (HasObjects problem.parts.quiver) problem.parts.claim_sigs k at.y problem.posed.claim_ends at.y_there;
  }

  pub claim_at : (n : ℕ) → IsClaimNumber problem n → Both problem.parts.claims problem.parts.claim_sigs (n - 1)
  claim_at n number =
      both_at problem.parts.claims problem.parts.claim_sigs (n - 1)
      (AllZip-long (IsTypedOf problem.parts.quiver) problem.parts.claims problem.parts.claim_sigs problem.posed.claims_typed) (omega (arith, number.least, number.most))

  pub zero_from_posed : (p : Poly) (s : Sig) → IsPosedOf problem p s → HasValueZeroAt (matrices m.modulus) q (representation_of q m) s.source.0 s.target.0 p.terms → IsZeroIn problem m p.terms
  zero_from_posed p s posed zero = zero_from_value (matrices m.modulus) q (representation_of q m) p.terms p.canonical s.source.0 s.target.0 posed.typed zero

  pub claim_is : (n : ℕ) (number : IsClaimNumber problem n) → claim_polynomial problem n ≡ (claim_at n number).x.terms
  claim_is n number = let at = claim_at n number in generator_at-number problem.parts.claims n at.x number.least at.x_there

  has_other_value : (n : ℕ) → IsClaimNumber problem n → (IsZeroIn problem m (claim_polynomial problem n) → ⊥) → HasOtherValue problem m (claim_polynomial problem n)
  has_other_value n number other =
      let at = claim_at n number in
      let posed = claims_are_posed (n - 1) at in
      let u = at.y.source.0 in
      let v = at.y.target.0 in
      let is = claim_is n number in
      record {
        source = u;
        target = v;
        source_is_object = posed.ends.source;
        target_is_object = posed.ends.target;
        typed = subst (IsTyped q u v) (sym is) posed.typed;
        other = λ zero. other (subst (IsZeroIn problem m) (sym is) (zero_from_posed at.x at.y posed (subst (HasValueZeroAt (matrices m.modulus) q (representation_of q m) u v) is zero)));
      }

pub refuting_models_are_counterexamples : RefutingModelsAreCounterexamples
refuting_models_are_counterexamples problem m model refutes = record {
  represents = rep;
  assumptions = refutes.assumptions.zero;
  generators = generators_are_zero (matrices_laws m.modulus) problem.parts problem.generators problem.closed (transpose m.modulus) (star_sound (matrices_laws m.modulus) (transpose_laws m.modulus))
      problem.posed (representation_of q' m) rep refutes.assumptions.zero;
  claim = has_other_value problem m m.claim refutes.assumptions.fitting.claim refutes.claim;
}
  where
    q' : Quiver
    q' = quiver_of problem.parts.quiver

    rep : StarRepresents (matrices m.modulus) (transpose m.modulus) (quiver_of problem.parts.quiver) (representation_of (quiver_of problem.parts.quiver) m)
    rep = star_represents (quiver_of problem.parts.quiver) (posed_quiver problem.parts problem.posed) m model refutes.assumptions.fitting.maps

pub refuted_claims_do_not_follow : RefutedClaimsDoNotFollow
refuted_claims_do_not_follow problem m rows d model refutes cancels combination =
    let q' = quiver_of problem.parts.quiver in
    let shown = refuting_models_are_counterexamples problem m model refutes in
    let typed = generators_have_signatures problem.parts problem.posed problem.generators problem.closed in
    let makes = (sound (matrices_laws m.modulus)).certificate q' (polynomials problem.generators) rows d (claim_polynomial problem m.claim) (posed_quiver problem.parts problem.posed) typed combination in
    refutes.claim (makes.zero (representation_of q' m) shown.represents.represents cancels shown.generators)
