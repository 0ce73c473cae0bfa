use Rattle.adjoint_rules.proofs.Prelude.{rules, ◌≡◌, length, sym, ap, subst, ◌∙◌, arith, take, length-map, take_all, Letter, numbers_of, IsInvolution, quiver_of}
use Rattle.adjoint_rules.proofs.Stars.{length-stars, stars_are_involution, numbers_more}
use Rattle.adjoint_rules.proofs.adjoint.stars_of.Goals as goal

pub loop-number-preserved : goal.loop-number-preserved
loop-number-preserved c =
    let ds = c.args.quiver.now in
    record {
      done = ap numbers_of (search rules) ∙ numbers_more c.loop-number.stars c.star_of.result c.loop-number.number (quiver_of ds).stars (omega (arith, length-stars ds)) c.loop-number.invariant.done (search rules);
    }

pub returns-clause-listed : goal.returns-clause-listed
returns-clause-listed c =
    let ds = c.args.quiver.now in
    c.loop-number.invariant.done ∙ take_all c.loop-number.number (quiver_of ds).stars (omega (arith, length-stars ds))

pub returns-clause-count : goal.returns-clause-count
returns-clause-count c =
    let ds = c.args.quiver.now in
    let whole : take c.loop-number.number (quiver_of ds).stars ≡ (quiver_of ds).stars = take_all c.loop-number.number (quiver_of ds).stars (omega (arith, length-stars ds)) in
    sym (length-map c.loop-number.stars (λ (l : Letter). l.0)) ∙ ap length (c.loop-number.invariant.done ∙ whole) ∙ length-stars ds

pub returns-clause-involution : goal.returns-clause-involution
returns-clause-involution c =
    let ds = c.args.quiver.now in
    let whole : take c.loop-number.number (quiver_of ds).stars ≡ (quiver_of ds).stars = take_all c.loop-number.number (quiver_of ds).stars (omega (arith, length-stars ds)) in
    subst IsInvolution (sym (c.loop-number.invariant.done ∙ whole)) (stars_are_involution ds c.objects.ensures.declared)
