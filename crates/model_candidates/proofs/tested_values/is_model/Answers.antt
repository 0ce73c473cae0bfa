use Rattle.model_candidates.proofs.Prelude.{not, ap, ◌∙◌, sym}
use Rattle.model_candidates.proofs.tested_values.is_model.Goals as goal

pub are_zero-requires-clause-linear : goal.are_zero-requires-clause-linear
are_zero-requires-clause-linear c s numbered drawn =
    c.requires.linear s numbered (ap not (sym (c.requires.plan.fits s numbered).exhaustive) ∙ drawn)
