-- Meanings that are refused.
use Rattle.outcome_laws.proofs.Prelude.{pos, [], refl, arith, ints, Poly, Problem, Budget, EvidenceAddsUp, OutcomeMeans, Follows}
use Rattle.traced_rows.specs.declared.evidence.Evidence.TheVariants as evidence
use Rattle.claim_decider.specs.declared.outcome.Outcome.TheVariants as outcome

-- evidence that names another claim does not add up
another_claim : (problem : Problem) → EvidenceAddsUp problem 2 (evidence.Plain (record { claim = 1; denominator = pos 1; rows = [] })) → ⊥
another_claim problem adds_up = absurd (omega (arith, adds_up.claim))

-- a denominator of zero proves nothing
no_denominator : (problem : Problem) → EvidenceAddsUp problem 1 (evidence.Plain (record { claim = 1; denominator = pos 0; rows = [] })) → ⊥
no_denominator problem adds_up = absurd (omega (arith, ints, adds_up.combination.positive))

-- the claim zero follows, so it is never closed
zero_follows : (problem : Problem) → Follows problem 0
zero_follows problem = record { denominator = pos 1; rows = []; combination = record { positive = omega (arith, ints); sum = record { at = λ w. refl } } }

never_closed : (problem : Problem) (budget : Budget) (rest : Poly) → OutcomeMeans problem budget 0 (outcome.Closed rest) → ⊥
never_closed problem budget rest means = means (zero_follows problem)
