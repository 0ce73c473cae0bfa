use Rattle.claim_decider.proofs.Prelude.{◌≡◌, ◌++◌, List, length, All, AllZip, into_iter_items, into_iter_len, Outcome, IsSettled, Gives}
use Rattle.claim_decider.proofs.claims.outcomes.Given as goal

-- the outcomes so far are those of the first claims
abbrev pub invariant-loop-case : goal.invariant-loop-case
invariant-loop-case l = record {
  left : into_iter_len l.case-iterator ≡ length (into_iter_items l.case-iterator);
  settled : All IsSettled (into_iter_items l.case-iterator);
  gives : (later : List Outcome) → AllZip Gives (into_iter_items l.case-iterator) later → AllZip Gives l.fn.cases.items (l.outcomes ++ later);
}
