use Rattle.report_readback.proofs.Declared.{declared_names_are_names}
use Rattle.report_readback.proofs.WritableCandidates.{breaking_candidates_are_writable}
use Rattle.report_readback.proofs.laws.breaking_candidates_are_writable.Goals as goal

pub returns : goal.returns
returns c = λ bytes statements problem claim seed number k m tree is breaks.
    breaking_candidates_are_writable problem claim seed number k m (declared_names_are_names bytes statements problem tree is) breaks
