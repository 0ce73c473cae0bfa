use Rattle.model_checker.proofs.Prelude.{IfSome, IfNone, sym, subst, ◌∙◌, true≢false, AllByRecursion, IsZeroIn, assumptions_of, IsFirstNotZero}
use Rattle.model_checker.proofs.Judged.{not_all_zero}
use Rattle.model_checker.proofs.confirm.check_values.Goals as goal

pub returns-in-Some-clause-refused : goal.returns-in-Some-clause-refused
returns-in-Some-clause-refused c =
    (c.requires.fitting, subst (λ o. IfSome o (IsFirstNotZero c.args.problem.now c.args.model.now)) c.in-Some.is c.in_ok-assumption.ensures.not_zero)

pub returns-in-Some-clause-complete : goal.returns-in-Some-clause-complete
returns-in-Some-clause-complete c =
    let problem = c.args.problem.now in
    let m = c.args.model.now in
    let first = subst (λ o. IfSome o (IsFirstNotZero problem m)) c.in-Some.is c.in_ok-assumption.ensures.not_zero in
    λ refutes. not_all_zero problem m c.in-Some.assumption first refutes.assumptions.zero

pub returns-then-branch-clause-refused : goal.returns-then-branch-clause-refused
returns-then-branch-clause-refused c =
    let problem = c.args.problem.now in
    let m = c.args.model.now in
    record {
      assumptions = record {
        fitting = c.requires.fitting;
        zero = subst (λ o. IfNone o (AllByRecursion (IsZeroIn problem m) (assumptions_of problem))) c.in_default.is c.in_ok-assumption.ensures.zero;
      };
      claim = c.in_ok-is_claim_zero.ensures.0 c.if-branch.true;
    }

pub returns-then-branch-clause-complete : goal.returns-then-branch-clause-complete
returns-then-branch-clause-complete c = λ refutes. refutes.claim (c.in_ok-is_claim_zero.ensures.0 c.if-branch.true)

pub returns-clause-confirmed : goal.returns-clause-confirmed
returns-clause-confirmed c =
    let problem = c.args.problem.now in
    let m = c.args.model.now in
    record {
      assumptions = record {
        fitting = c.requires.fitting;
        zero = subst (λ o. IfNone o (AllByRecursion (IsZeroIn problem m) (assumptions_of problem))) c.in_default.is c.in_ok-assumption.ensures.zero;
      };
      claim = λ zero. true≢false (sym (c.in_ok-is_claim_zero.ensures.1 zero) ∙ c.if-branch.false);
    }
