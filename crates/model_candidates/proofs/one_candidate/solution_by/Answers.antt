use Rattle.model_candidates.proofs.Prelude.{◌<◌, length, sym, ap, subst, ◌∙◌, IfOk-weaker, AreGreedyFor, All}
use Rattle.model_candidates.proofs.one_candidate.solution_by.Goals as goal

pub values-requires-clause-size : goal.values-requires-clause-size
values-requires-clause-size c = ap length (c.as_slice.ensures ∙ c.in-Ok.ensures) ∙ c.requires.size

pub values-requires-clause-below : goal.values-requires-clause-below
values-requires-clause-below c =
    subst (All (λ value. value < c.args.pivots.modulus)) (sym (c.as_slice.ensures ∙ c.in-Ok.ensures)) c.requires.below

pub returns-in-Ok : goal.returns-in-Ok
returns-in-Ok c =
    IfOk-weaker c.values.result _ _ (λ found. subst (λ prefer. AreGreedyFor c.args.pivots prefer found) (c.as_slice.ensures ∙ c.in-Ok.ensures))
    c.values.ensures
