-- A model that refutes the claim that it names has the meaning of `refuted`.
use Rattle.model_checker.proofs.Prelude.{◌≡◌, ℕ, subst, star_sound, quiver_of, matrices_laws, transpose_laws, Model, Problem, polynomials, numbers, posed_quiver, marked_are_objects, claim_polynomial, IsModel, Refutes, representation_of, HasOtherValue, RefutedMeans}
use Rattle.model_checker.proofs.Counterexamples.{refuting_models_are_counterexamples}

-- it is a counterexample to the claim, in which all generators of the statement are zero
pub refuted_means : (problem : Problem) (number : ℕ) (m : Model) → IsModel (quiver_of problem.parts.quiver) m → m.claim ≡ number → Refutes problem m
    → RefutedMeans problem number m
refuted_means problem number m is names refutes =
    let q = quiver_of problem.parts.quiver in
    let shown = refuting_models_are_counterexamples problem m is refutes in
    record {
      names = names;
      represents = shown.represents;
      assumptions = shown.assumptions;
      generators = (star_sound (matrices_laws m.modulus) (transpose_laws m.modulus)).generators q problem.parts.starred (numbers problem.parts.marked) (polynomials problem.parts.assumptions)
          (posed_quiver problem.parts problem.posed) (marked_are_objects problem.parts problem.posed) (representation_of q m) shown.represents shown.assumptions;
      claim = subst (λ (n : ℕ). HasOtherValue problem m (claim_polynomial problem n)) names shown.claim;
    }
