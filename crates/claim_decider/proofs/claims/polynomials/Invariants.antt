use Rattle.claim_decider.proofs.Prelude.{◌≡◌, take, polynomials_in}
use Rattle.claim_decider.proofs.claims.polynomials.Given as goal

-- those of the first rules
abbrev pub invariant-loop-rule : goal.invariant-loop-rule
invariant-loop-rule l = l.polys ≡ polynomials_in (take l.rule-index l.rules)
