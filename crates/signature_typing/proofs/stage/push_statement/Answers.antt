use Rattle.signature_typing.proofs.Prelude.{map, ap, sym, subst, ◌∙◌, ◌++◌, append-nil, refl, All, HasNames, made_of}
use Rattle.signature_typing.proofs.Posed.{named_equation, other_equations, other_named}
use Rattle.signature_typing.proofs.Progress.{said_more}
use Rattle.signature_typing.proofs.stage.push_statement.Goals as goal
use Rattle.signature_typing.proofs.stage.push_statement.Goals.{in-Assume+in_ok-value-in-Assume+in_ok-push-in-Assume}
use Rattle.signature_typing.proofs.stage.push_statement.Goals.{in-Claim+in_ok-value-in-Claim+in_ok-push-in-Claim}
use Rattle.signature_typing.proofs.stage.push_statement.Goals.{in_default+in_ok-equations-in_default+in_ok-push_equations-in_default}

pub value_of-requires : goal.value_of-requires
value_of-requires g c = named_equation c.args.quiver.now c.args.statement.now _ _ c.in-Assume.is refl c.requires

pub value_of-requires-in-Claim : goal.value_of-requires-in-Claim
value_of-requires-in-Claim g c = named_equation c.args.quiver.now c.args.statement.now _ _ c.in-Claim.is refl c.requires

pub push_equations-requires : goal.push_equations-requires
push_equations-requires g c =
    subst (All (HasNames c.args.quiver.now))
    (other_named c.args.quiver.now c.args.statement.now c.in_default.not-Assume c.in_default.not-Claim
    ∙ sym c.in_ok-equations-in_default.ensures ∙ sym c.as_slice.ensures)
    c.requires

pub returns-clause-assumptions : goal.returns-clause-assumptions
returns-clause-assumptions g c =
    let made = g.S.Stage.made c.args.stage.now in
    let said = g.S.Stage.said c.args.stage.now in
    let ds = c.args.quiver.now in
    let s = c.args.statement.now in
    elim c.match-statement.branch [
      | in-Assume+in_ok-value-in-Assume+in_ok-push-in-Assume w ↦ rw (w.stated-is, w.in-Assume.is)
          (said_more said _ _ _ _ w.in_ok-push-in-Assume.ensures.ok (w.in_ok-value-in-Assume.ensures.ok ∙ sym (append-nil _)))
      | in-Claim+in_ok-value-in-Claim+in_ok-push-in-Claim w ↦ rw (w.stated-is, w.in-Claim.is) (sym (append-nil _))
      | in_default+in_ok-equations-in_default+in_ok-push_equations-in_default w ↦ rw (w.stated-is)
          (w.in_ok-push_equations-in_default.ensures.ok
          ∙ ap (λ es. map said c.args.stated.now.assumptions ++ made_of made ds es) (w.as_slice.ensures ∙ w.in_ok-equations-in_default.ensures
          ∙ sym (other_equations ds s.at s.kind w.in_default.not-Assume w.in_default.not-Claim).0))
    ]

pub returns-clause-claims : goal.returns-clause-claims
returns-clause-claims g c =
    let made = g.S.Stage.made c.args.stage.now in
    let said = g.S.Stage.said c.args.stage.now in
    let ds = c.args.quiver.now in
    let s = c.args.statement.now in
    elim c.match-statement.branch [
      | in-Assume+in_ok-value-in-Assume+in_ok-push-in-Assume w ↦ rw (w.stated-is, w.in-Assume.is) (sym (append-nil _))
      | in-Claim+in_ok-value-in-Claim+in_ok-push-in-Claim w ↦ rw (w.stated-is, w.in-Claim.is)
          (said_more said _ _ _ _ w.in_ok-push-in-Claim.ensures.ok (w.in_ok-value-in-Claim.ensures.ok ∙ sym (append-nil _)))
      | in_default+in_ok-equations-in_default+in_ok-push_equations-in_default w ↦ rw (w.stated-is)
          (sym (append-nil _) ∙ ap (λ es. map said c.args.stated.now.claims ++ made_of made ds es)
          (sym (other_equations ds s.at s.kind w.in_default.not-Assume w.in_default.not-Claim).1))
    ]
