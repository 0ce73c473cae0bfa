use Rattle.statement_tokens.proofs.Prelude.{◌∷◌, [], Ok, Err, ap, subst, ◌∙◌, append-nil, refl, arith, length, ◌≤◌, nil_from_length, more_of, below}
use Rattle.statement_tokens.proofs.Reading.{tokens_from}
use Rattle.statement_tokens.proofs.TokenLaws.{hands, token_hands, leaves}
use Rattle.statement_tokens.proofs.Pieces.{front_none}
use Rattle.statement_tokens.proofs.Scanning.{cut, cut_length, scans_fault, scans_new_line, scans_gap, scans_token, turn_end}
use Rattle.statement_tokens.proofs.scanner.Scanner.next.Goals as goal

pub returns-in-Err-Fault-clause-hands : goal.returns-in-Err-Fault-clause-hands
returns-in-Err-Fault-clause-hands c before same =
    let fails = rw c.in-Err-Fault.field-0-is at c.in-Err-Fault.ensures.exact in
    leaves before c.args.self.now (Err _) (c.loop-self.invariant.same before same
    ∙ rw c.in-Err-Fault.fault-is
    (scans_fault before c.loop-self.self c.first-item.result c.args.language (omega arith) c.first-item.is same c.in-Err-Fault.fault fails))

pub returns-in-Some-clause-hands : goal.returns-in-Some-clause-hands
returns-in-Some-clause-hands c before same =
    token_hands before c.args.self.now c.in-Some.token _ _ _
    (c.loop-self.invariant.same before same
    ∙ scans_new_line before c.loop-self.self c.first-item.result c.args.language (omega arith) c.first-item.is same (c.in-Some.token ∷ []) c.in-Some.ensures
    (c.in-Ok.ensures.exact ∙ ap Ok c.in-NewLine.is))

pub loop-self-preserved-in_default-end : goal.loop-self-preserved-in_default-end
loop-self-preserved-in_default-end c = record {
  same = λ before same.
      let rest = cut 1 c.loop-self.self.text.now in
      c.loop-self.invariant.same before same
      ∙ scans_new_line before c.loop-self.self c.first-item.result c.args.language (omega arith) c.first-item.is same [] c.in_default-end.ensures
      (c.in-Ok.ensures.exact ∙ ap Ok c.in-NewLine.is)
      ∙ front_none _
      ∙ ap (λ front. tokens_from front rest 0 (below c.loop-self.self.at) 0) (append-nil before);
  fewer = omega (arith, cut_length 1 c.loop-self.self.text.now, c.loop-self.invariant.fewer);
}

pub loop-self-preserved : goal.loop-self-preserved
loop-self-preserved c = record {
  same = λ before same.
      c.loop-self.invariant.same before same
      ∙ scans_gap before c.loop-self.self c.first-item.result c.args.language (omega arith) c.first-item.is same c.in-Gap.more
      (subst (λ x. more_of x ≤ length (cut 1 c.loop-self.self.text.now)) c.in-Gap.is c.in-Ok.ensures.within) (c.in-Ok.ensures.exact ∙ ap Ok c.in-Gap.is);
  fewer = omega (arith, cut_length 1 c.loop-self.self.text.now, cut_length c.in-Gap.more (cut 1 c.loop-self.self.text.now), c.loop-self.invariant.fewer);
}

pub returns-in-Token-clause-hands : goal.returns-in-Token-clause-hands
returns-in-Token-clause-hands c before same =
    token_hands before c.args.self.now (record { at = c.loop-self.self.at; kind = c.in-Token.kind }) _ _ _
    (c.loop-self.invariant.same before same
    ∙ scans_token before c.loop-self.self c.first-item.result c.args.language (omega arith) c.first-item.is same c.in-Token.more
    (subst (λ x. more_of x ≤ length (cut 1 c.loop-self.self.text.now)) c.in-Token.is c.in-Ok.ensures.within) c.in-Token.kind
    (c.in-Ok.ensures.exact ∙ ap Ok c.in-Token.is))

pub returns-clause-hands : goal.returns-clause-hands
returns-clause-hands c before same =
    let none = nil_from_length c.loop-self.self.text.now (omega arith) in
    hands before c.args.self.now (Ok c.line_end-end-2.result) _
    (turn_end before c.args.self.now c.loop-self.self _ c.line_end-end-2.result (c.loop-self.invariant.same before same) none none refl c.line_end-end-2.ensures)
