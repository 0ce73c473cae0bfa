use Rattle.model_checker.proofs.Prelude.{◌-◌, sym, subst, arith, AllZip-long, IfOk-weaker, IsTypedOf, HasObjects, posed_quiver, IsZeroIn}
use Rattle.model_checker.proofs.Places.{all_at, zip_at, generator_at-number}
use Rattle.model_checker.proofs.confirm.is_claim_zero.Goals as goal

pub at-requires : goal.at-requires
at-requires c =
    let parts = c.args.problem.now.parts in
    let long = AllZip-long (IsTypedOf parts.quiver) parts.claims parts.claim_sigs c.args.problem.now.posed.claims_typed in
    omega (arith, long, c.requires.claim.least, c.requires.claim.most)

pub is_zero-requires-clause-quiver : goal.is_zero-requires-clause-quiver
is_zero-requires-clause-quiver c = posed_quiver c.args.problem.now.parts c.args.problem.now.posed

pub is_zero-requires-clause-typed : goal.is_zero-requires-clause-typed
is_zero-requires-clause-typed c =
    let parts = c.args.problem.now.parts in
    zip_at (IsTypedOf parts.quiver) parts.claims parts.claim_sigs (c.args.model.now.claim - 1) c.at-claim.result.now c.at.result.now
    c.args.problem.now.posed.claims_typed c.at-claim.ensures c.at.ensures

pub is_zero-requires-clause-source_in_range : goal.is_zero-requires-clause-source_in_range
is_zero-requires-clause-source_in_range c =
    let parts = c.args.problem.now.parts in
    (all_at (HasObjects parts.quiver) parts.claim_sigs (c.args.model.now.claim - 1) c.at.result.now c.args.problem.now.posed.claim_ends
    c.at.ensures).source

pub is_zero-requires-clause-target_in_range : goal.is_zero-requires-clause-target_in_range
is_zero-requires-clause-target_in_range c =
    let parts = c.args.problem.now.parts in
    (all_at (HasObjects parts.quiver) parts.claim_sigs (c.args.model.now.claim - 1) c.at.result.now c.args.problem.now.posed.claim_ends
    c.at.ensures).target

pub returns : goal.returns
returns c =
    let problem = c.args.problem.now in
    let m = c.args.model.now in
    let is = generator_at-number problem.parts.claims m.claim c.at-claim.result.now c.requires.claim.least c.at-claim.ensures in
    IfOk-weaker c.is_zero.result _ _ (λ zero tells.
    (λ true. subst (IsZeroIn problem m) (sym is) (tells.0 true), λ none. tells.1 (subst (IsZeroIn problem m) is none)))
    c.is_zero.ensures
