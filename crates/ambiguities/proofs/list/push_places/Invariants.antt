use Rattle.ambiguities.proofs.Prelude.{◌≡◌, ◌<◌, IsAgreement, IsGrown}
use Rattle.ambiguities.proofs.list.push_places.Given as goal

-- those at the places that were passed
abbrev pub invariant-loop-place : goal.invariant-loop-place
invariant-loop-place l = record {
  nothing : l.high < l.low → l.place ≡ l.low;
  grown : IsGrown (IsAgreement l.pair.i l.pair.j l.kind l.pair.word.now l.pair.other.now l.low l.place) l.fn.found l.found;
}
