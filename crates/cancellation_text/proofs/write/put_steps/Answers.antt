use Rattle.cancellation_text.proofs.Prelude.{rules, ◌≡◌, ◌++◌, OnOk, ap, sym, subst, ◌∙◌, append_assoc, take_all, goal_text, next_put, holds_there, IsItemOver, item_text, items_text, steps_text, All}
use Rattle.cancellation_text.proofs.write.put_steps.Goals as goal
use Rattle.cancellation_text.proofs.write.put_steps.Goals.{in-Lemma+in_ok-put_lemma-in-Lemma, in-Cancel+in_ok-put_cancel-in-Cancel}

pub put_lemma-requires : goal.put_lemma-requires
put_lemma-requires c =
    subst (IsItemOver c.args.quiver.now) c.in-Lemma.is
    (holds_there (IsItemOver c.args.quiver.now) c.as_slice-item-items.result.now c.loop-item.item-index c.item-item.result c.item-item.result
    (subst (λ items. All (IsItemOver c.args.quiver.now) items) (sym c.as_slice-item-items.ensures) c.requires.items) c.loop-item-test.true c.item-item.is)

pub loop-item-preserved : goal.loop-item-preserved
loop-item-preserved c =
    let put : c.match-item.out.items ≡ c.loop-item.out.items ++ item_text c.args.quiver.now c.loop-item.number c.item-item.result =
    elim c.match-item.branch [
      | in-Lemma+in_ok-put_lemma-in-Lemma w ↦ search rules
      | in-Cancel+in_ok-put_cancel-in-Cancel w ↦ search rules
    ] in
    next_put (item_text c.args.quiver.now) c.as_slice-item-items.result.now c.args.out.now.items c.loop-item.item-index c.loop-item.number c.item-item.result c.item-item.result c.loop-item.out.items c.match-item.out.items
    c.loop-item.invariant c.loop-item-test.true c.item-item.is put

pub returns : goal.returns
returns c =
    let texts = items_text c.args.quiver.now 1 in
    let whole : c.loop-item.out.items ++ goal_text c.args.quiver.now c.args.proof.now.goal ≡ c.args.out.now.items ++ steps_text c.args.quiver.now c.args.proof.now =
    ap (λ front. front ++ goal_text c.args.quiver.now c.args.proof.now.goal)
    (c.loop-item.invariant.0 ∙ ap (λ items. c.args.out.now.items ++ texts items) (take_all c.loop-item.item-index c.as_slice-item-items.result.now c.loop-item-test.false ∙ c.as_slice-item-items.ensures))
    ∙ append_assoc c.args.out.now.items (texts c.args.proof.now.items) (goal_text c.args.quiver.now c.args.proof.now.goal) in
    subst (λ text. OnOk c.put_goal.result (c.put_goal.new.out.items ≡ text)) whole c.put_goal.ensures
