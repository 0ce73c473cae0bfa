use Rattle.equation_chain.proofs.Prelude.{rules, arith, ◌≡◌, ◌≤◌, length, refl, ap, ◌∙◌, to_z, of_z, polynomials}
use mir.Syntax.{w128}
use Rattle.equation_chain.proofs.Making.{making_begins, fewer, made_steps, made_lines}
use Rattle.equation_chain.proofs.chain.made_chain.Goals as goal

pub loop-place-init : goal.loop-place-init
loop-place-init c = record {
  making = making_begins c.args.problem.now c.args.certificate.now _ c.in_ok-line.ensures.line c.new-steps.ensures c.new-lines.ensures;
  passed = record { at = λ i row below got step. absurd (omega (arith, below)) };
}

pub returns-clause-chain : goal.returns-clause-chain
returns-clause-chain c =
    let past : length c.args.certificate.now.rows ≤ c.loop-place.place = search rules in
    let made = c.loop-place.invariant.making in
    let is : to_z w128 (of_z w128 c.args.certificate.now.denominator) ≡ c.args.certificate.now.denominator = search rules in
    record {
      claim = refl;
      denominator = is;
      steps = made_steps c.args.problem.now c.args.certificate.now c.loop-place.place past c.loop-place.making made;
      lines = ap polynomials c.in_ok-push.ensures.ok ∙ made_lines c.args.problem.now c.args.certificate.now c.loop-place.place past c.loop-place.making made;
    }

pub returns-clause-passed : goal.returns-clause-passed
returns-clause-passed c =
    let past : length c.args.certificate.now.rows ≤ c.loop-place.place = search rules in
    fewer c.args.problem.now c.args.certificate.now (length c.args.certificate.now.rows) c.loop-place.place past c.loop-place.invariant.passed
