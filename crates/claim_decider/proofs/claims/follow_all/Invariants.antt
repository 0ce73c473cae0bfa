use Rattle.claim_decider.proofs.Prelude.{◌≡◌, take, drop, length, AllZip, Follows}
use Rattle.claim_decider.proofs.claims.follow_all.Given as goal

-- the first claims have taken the step, and the others are as they were
abbrev pub invariant-loop-case : goal.invariant-loop-case
invariant-loop-case l = record {
  followed : AllZip (Follows l.format l.problem l.completion l.step) (take l.case-index l.fn.cases.items) (take l.case-index l.case-items);
  others : drop l.case-index l.case-items ≡ drop l.case-index l.fn.cases.items;
  one_each : length l.case-items ≡ length l.fn.cases.items;
}
