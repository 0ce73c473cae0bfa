use Rattle.command_shape.proofs.Prelude.{◌≡◌, ◌∙◌, List, IfOk, ap, sym, subst, take, get_or, take_more, fold_push, App, app_of, EvidenceCommand, Check, with_evidence, fold}
use Rattle.command_shape.proofs.set.with_evidence.Goals as goal

-- one command more
pub loop-other-preserved : goal.loop-other-preserved
loop-other-preserved c = record {
  app = λ a is.
      let below : List EvidenceCommand = c.args.below.now in
      let i = c.loop-other.other-index in
      let step = ap (fold with_evidence a) (take_more below i Check c.loop-other-test.true) ∙ fold_push with_evidence a (take i below) (get_or below i Check) in
      subst (λ (b : App). IfOk c.with_pair-set.result (λ r. app_of r ≡ b)) (sym step) (c.with_pair-set.ensures.app _ (c.loop-other.invariant.app a is));
  local = c.with_pair-set.ensures.local;
}
