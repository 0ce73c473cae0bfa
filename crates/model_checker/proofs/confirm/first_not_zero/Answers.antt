use Rattle.model_checker.proofs.Prelude.{◌<◌, length, ap, sym, refl, subst, ◌∙◌, true≢false, AllZip-long, IsTypedOf, HasObjects, posed_quiver, IsZeroIn}
use Rattle.model_checker.proofs.Places.{item_at, all_at, zip_at, generator_at-suc, inside, one_more}
use Rattle.model_checker.proofs.confirm.first_not_zero.Goals as goal

pub at-sig-requires : goal.at-sig-requires
at-sig-requires c =
    let parts = c.args.problem.now.parts in
    let posed = c.args.problem.now.posed in
    subst (λ n. c.loop-place.place < n) (ap length c.as_slice-assumption-items.ensures ∙ sym (AllZip-long (IsTypedOf parts.quiver) parts.assumptions parts.sigs posed.assumptions_typed)) c.loop-place-test.true

pub is_zero-requires-clause-quiver : goal.is_zero-requires-clause-quiver
is_zero-requires-clause-quiver c = posed_quiver c.args.problem.now.parts c.args.problem.now.posed

pub is_zero-requires-clause-typed : goal.is_zero-requires-clause-typed
is_zero-requires-clause-typed c =
    let parts = c.args.problem.now.parts in
    let here = item_at c.as_slice-assumption-items.result.now parts.assumptions c.loop-place.place c.assumption-item.result c.as_slice-assumption-items.ensures c.loop-place-test.true c.assumption-item.is in
    zip_at (IsTypedOf parts.quiver) parts.assumptions parts.sigs c.loop-place.place c.assumption-item.result c.at-sig.result.now c.args.problem.now.posed.assumptions_typed here c.at-sig.ensures

pub is_zero-requires-clause-source_in_range : goal.is_zero-requires-clause-source_in_range
is_zero-requires-clause-source_in_range c =
    let parts = c.args.problem.now.parts in
    (all_at (HasObjects parts.quiver) parts.sigs c.loop-place.place c.at-sig.result.now c.args.problem.now.posed.assumption_ends c.at-sig.ensures).source

pub is_zero-requires-clause-target_in_range : goal.is_zero-requires-clause-target_in_range
is_zero-requires-clause-target_in_range c =
    let parts = c.args.problem.now.parts in
    (all_at (HasObjects parts.quiver) parts.sigs c.loop-place.place c.at-sig.result.now c.args.problem.now.posed.assumption_ends c.at-sig.ensures).target

pub returns-then-not-branch-clause-not_zero : goal.returns-then-not-branch-clause-not_zero
returns-then-not-branch-clause-not_zero c =
    let problem = c.args.problem.now in
    let ps = problem.parts.assumptions in
    let k = c.loop-place.place in
    let p = c.assumption-item.result in
    let here = item_at c.as_slice-assumption-items.result.now ps k p c.as_slice-assumption-items.ensures c.loop-place-test.true c.assumption-item.is in
    record {
      before = k;
      numbered = refl;
      inside = inside ps k p here;
      earlier = c.loop-place.invariant;
      other = λ zero. true≢false (sym (c.in_ok-is_zero.ensures.1 (subst (IsZeroIn problem c.args.model.now) (generator_at-suc ps k p here) zero)) ∙ c.if-not-branch.true);
    }

pub loop-place-preserved : goal.loop-place-preserved
loop-place-preserved c =
    let problem = c.args.problem.now in
    let ps = problem.parts.assumptions in
    let k = c.loop-place.place in
    let p = c.assumption-item.result in
    let here = item_at c.as_slice-assumption-items.result.now ps k p c.as_slice-assumption-items.ensures c.loop-place-test.true c.assumption-item.is in
    one_more (IsZeroIn problem c.args.model.now) ps k p here c.loop-place.invariant (c.in_ok-is_zero.ensures.0 c.if-not-branch.false)
