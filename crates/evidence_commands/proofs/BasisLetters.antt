-- Refusals of bases name letters of the quiver alone.
use Rattle.evidence_commands.proofs.Prelude.{◌≡◌, ℕ, List, Result, Ok, Err, refl, subst, All, Term, generator_at, IsOver, PolyFault, letter_count, State, ReduceFault, IsRule, normal_form_of, halt_of, Ambiguity, IsAmbiguity, s_polynomial_of, words_over, s_words, reduced_over, Problem, polynomials, Basis, ClosedRefusal, step_limit, order_of, rules_of, rest_in, rest_by, rest_of, claim_of, IsReadableBasis, HasRules, rules_from-are, generator_over, claim_over, no_rest, HasRefusalLetters}
use Rattle.closed_checker.specs.declared.part.Part.TheVariants as part
use Rattle.closed_checker.specs.declared.refusal.ClosedRefusal.TheVariants as refusal
use Rattle.closed_checker.specs.Closed.{Refuses}

same_rest : (p q : List Term) → ◌≡◌ {A = Result (List Term) ReduceFault} (Ok p) (Ok q) → p ≡ q
same_rest p q is = cc

module _ (problem : Problem) (b : Basis) (readable : IsReadableBasis problem.parts.quiver b) (has : HasRules problem b) where
  abbrev letters : ℕ
  letters = letter_count problem.parts.quiver

  abbrev AreBelow : List Term → Type 0
  AreBelow p = All (λ t. IsOver letters t.1) p

  are_rules : All (IsRule letters (order_of problem)) (rules_of problem b)
  are_rules = rules_from-are (order_of problem) letters b.rules has.rules readable.over.rules

  -- what is left of a polynomial
  rest_below : (p rest : List Term) → AreBelow p → rest_by (order_of problem) (rules_of problem b) (Ok p) ≡ Ok rest → AreBelow rest
  rest_below p rest below is = go (normal_form_of (order_of problem) (rules_of problem b) p step_limit) refl is
    where
      go : (r : Result State ReduceFault) → normal_form_of (order_of problem) (rules_of problem b) p step_limit ≡ r → rest_in r ≡ Ok rest → AreBelow rest
      go (Ok s) ends k =
          subst AreBelow (same_rest s.rest rest k) (reduced_over letters (order_of problem) (rules_of problem b) are_rules p step_limit s below ends).0
      go (Err e) ends k = absurd (no_rest e rest k)

  -- what is left of an S-polynomial
  ambiguity_below : (a : Ambiguity) (rest : List Term) → IsAmbiguity (rules_of problem b) a → rest_of problem b (part.Ambiguity a) ≡ Ok rest → AreBelow rest
  ambiguity_below a rest is = go (s_polynomial_of (rules_of problem b) a) refl
    where
      go : (r : Result (List Term) PolyFault) → s_polynomial_of (rules_of problem b) a ≡ r → rest_by (order_of problem) (rules_of problem b) r ≡ Ok rest → AreBelow rest
      go (Ok p) ends k =
          rest_below p rest (words_over letters p (s_words letters (order_of problem) (rules_of problem b) are_rules a is p ends)) k
      go (Err e) ends k = absurd (no_rest (halt_of e) rest k)

  generator_below : (number : ℕ) (rest : List Term) → rest_of problem b (part.Generator number) ≡ Ok rest → AreBelow rest
  generator_below number rest k = rest_below (generator_at (polynomials problem.generators) number) rest (generator_over problem number) k

  claim_below : (rest : List Term) → rest_of problem b part.Claim ≡ Ok rest → AreBelow rest
  claim_below rest k = rest_below (claim_of problem b) rest (claim_over problem b.claim) k

pub refusal_letters : (problem : Problem) (b : Basis) → IsReadableBasis problem.parts.quiver b → (r : ClosedRefusal) → Refuses problem b r → HasRefusalLetters problem.parts.quiver r
refusal_letters problem b readable (refusal.GeneratorLeft number rest) because = generator_below problem b readable because.reached.has_rules number rest.terms because.left
refusal_letters problem b readable (refusal.AmbiguityLeft a rest) because =
    ambiguity_below problem b readable because.reached.has_rules a rest.terms because.reached.part because.left
refusal_letters problem b readable (refusal.OtherRest rest) because = claim_below problem b readable because.reached.has_rules rest.terms because.left
refusal_letters problem b readable other because = tt
