-- Evidence of a claim that adds up means what is said of it.
use Rattle.cofactor_checker.proofs.Prelude.{◌≡◌, ℕ, zero, suc, ◌<◌, ◌≤◌, ℤ, Bool, false, List, [], ◌∷◌, length, get_or, sym, subst, arith, AllByRecursion, Structure, PreadditiveLaws, generator_at, Quiver, Representation, Represents, HasSignature, HasValueZero, IsSound, MakesZero, generators_of, star_sound, unit_sound, quiver_of, Evidence, Plain, Lemmas, rows_of, denominator_of, Problem, polynomials, numbers, generators_in, posed_quiver, claims_have_signatures, marked_are_objects, generators_have_signatures, generators_are_zero, makes_zero, claim_at, IsEvidenceSound, EvidenceAddsUp, MakesZeroByStar, MeansZero, ProvedMeans}

-- the polynomial with a number from 1 to the count has what each of them has
get_one : (q : Quiver) (ps : List (List (ℤ × List ℕ))) (n : ℕ) → n < length ps → AllByRecursion (HasSignature q) ps → HasSignature q (get_or ps n [])
get_one q [] n inside all = absurd (omega arith)
get_one q (p ∷ ps) zero inside all = all.0
get_one q (p ∷ ps) (suc n) inside all = get_one q ps n (omega arith) all.1

numbered : (q : Quiver) (ps : List (List (ℤ × List ℕ))) (n : ℕ) → 1 ≤ n → n ≤ length ps → AllByRecursion (HasSignature q) ps → HasSignature q (generator_at ps n)
numbered q ps zero least most all = absurd (omega arith)
numbered q ps (suc n) least most all = get_one q ps n (omega arith) all

-- a claim of the problem is typed of its signature
pub claim_typed : (problem : Problem) (number : ℕ) → 1 ≤ number → number ≤ length (polynomials problem.parts.claims) → HasSignature (quiver_of problem.parts.quiver) (claim_at problem number)
claim_typed problem number least most = numbered (quiver_of problem.parts.quiver) (polynomials problem.parts.claims) number least most (claims_have_signatures problem.parts problem.posed)

-- in a statement that isn't starred the assumptions make the generators zero
pub plain_generators : {Object Arrow : Type 0} {s : Structure Object Arrow} → PreadditiveLaws s → (problem : Problem) → problem.parts.starred ≡ false → (f : Representation Object Arrow) → Represents s (quiver_of problem.parts.quiver) f
    → AllByRecursion (HasValueZero s (quiver_of problem.parts.quiver) f) (polynomials problem.parts.assumptions) → AllByRecursion (HasValueZero s (quiver_of problem.parts.quiver) f) (generators_in problem.parts)
plain_generators {s} laws problem not_starred f rep vanish =
    let q = quiver_of problem.parts.quiver in
    let P : Bool → Type 0 = λ b. AllByRecursion (HasValueZero s q f) (generators_of q b (numbers problem.parts.marked) (polynomials problem.parts.assumptions)) in
    subst P (sym not_starred)
    ((unit_sound laws).generators q (numbers problem.parts.marked) (polynomials problem.parts.assumptions) (posed_quiver problem.parts problem.posed) (marked_are_objects problem.parts problem.posed) f rep vanish)

-- what makes a claim zero over the generators makes it zero over what the statement says
module _ {Object Arrow : Type 0} {s : Structure Object Arrow} (laws : PreadditiveLaws s) (problem : Problem) (d : ℤ) (claim : List (ℤ × List ℕ))
    (makes : MakesZero s (quiver_of problem.parts.quiver) (polynomials problem.generators) d claim) where
  zero_made : MakesZero s (quiver_of problem.parts.quiver) (generators_in problem.parts) d claim
  zero_made = makes_zero laws problem.parts problem.generators problem.closed d claim makes

  by_star_made : MakesZeroByStar s (quiver_of problem.parts.quiver) (polynomials problem.parts.assumptions) d claim
  by_star_made = record {
    zero = λ adjoint involution f rep cancels vanish. makes.zero f rep.represents cancels
        (generators_are_zero laws problem.parts problem.generators problem.closed adjoint (star_sound laws involution) problem.posed f rep vanish);
  }

  pub means_zero : HasSignature (quiver_of problem.parts.quiver) claim → MeansZero s problem d claim
  means_zero typed = record {
    typed = typed;
    zero = zero_made;
    by_star = by_star_made;
    plain = λ not_starred. record { zero = λ f rep cancels vanish. zero_made.zero f rep cancels (plain_generators laws problem not_starred f rep vanish) };
  }

-- evidence
module _ {Object Arrow : Type 0} {s : Structure Object Arrow} (laws : PreadditiveLaws s) (sound : IsSound s) (with_lemmas : IsEvidenceSound s) (problem : Problem) where
  -- evidence that adds up makes the claim zero
  evidence_makes : (number : ℕ) (e : Evidence) → EvidenceAddsUp problem number e → MakesZero s (quiver_of problem.parts.quiver) (polynomials problem.generators) (denominator_of e) (claim_at problem number)
  evidence_makes number (Plain c) adds = sound.certificate (quiver_of problem.parts.quiver) (polynomials problem.generators) (rows_of c.rows) c.denominator (claim_at problem number)
      (posed_quiver problem.parts problem.posed) (generators_have_signatures problem.parts problem.posed problem.generators problem.closed) adds.combination
  evidence_makes number (Lemmas c) adds = with_lemmas.evidence (quiver_of problem.parts.quiver) (polynomials problem.generators) adds.lemmas c (claim_at problem number)
      (posed_quiver problem.parts problem.posed) (generators_have_signatures problem.parts problem.posed problem.generators problem.closed) adds.evidence

  -- a claim of the problem with evidence that adds up is proved
  pub proved_means : (number : ℕ) (e : Evidence) → 1 ≤ number → number ≤ length (polynomials problem.parts.claims) → EvidenceAddsUp problem number e → ProvedMeans s problem number e
  proved_means number e least most adds = record {
    sum = adds;
    means = means_zero laws problem (denominator_of e) (claim_at problem number) (evidence_makes number e adds)
        (claim_typed problem number least most);
  }
