use Rattle.equation_chain.proofs.Prelude.{arith, ◌≤◌, ◌+◌, length, take, sym, subst, ap, ◌∙◌, take_all, All-get_or, All, Term, letters_in}
use Rattle.equation_chain.proofs.Going.{letters_step}
use Rattle.equation_chain.proofs.line.letters_in.Goals as goal
use Rattle.equation_chain.proofs.line.letters_in.Goals.{After-term-item}

short : (c : After-term-item) → length c.term-item.result.1 ≤ 500
short c =
    let all : All (λ (t : Term). length t.1 ≤ 500) c.as_slice-terms.result.now = subst (All (λ (t : Term). length t.1 ≤ 500)) (sym c.as_slice-terms.ensures) c.args.poly.now.canonical.short in
    subst (λ (t : Term). length t.1 ≤ 500) (sym c.term-item.is) (All-get_or (λ (t : Term). length t.1 ≤ 500) c.as_slice-terms.result.now c.loop-term.term-index c.term-item.result c.loop-term-test.true all)

pub overflow_add-letters : goal.overflow_add-letters
overflow_add-letters c =
    let few = c.args.poly.now.canonical.few in
    let long : length c.as_slice-terms.result.now ≤ 20000 = subst (λ (p : _). length p ≤ 20000) (sym c.as_slice-terms.ensures) few in
    let within = c.loop-term-test.true in
    let so_far = c.loop-term.invariant.few in
    let here = short (goal.at.overflow_add-letters c).After-term-item in
    let is = c.len-letters.ensures.exact in
    omega (arith, long, within, so_far, here, is)

pub loop-term-preserved : goal.loop-term-preserved
loop-term-preserved c =
    let here = short (goal.at.loop-term-preserved c).After-term-item in
    let is = c.len-letters.ensures.exact in
    let so_far = c.loop-term.invariant.few in
    record {
      so_far =
          ap (λ n. n + c.len-letters.result) c.loop-term.invariant.so_far ∙ ap (λ n. letters_in (take c.loop-term.term-index c.as_slice-terms.result.now) + n) is
          ∙ sym (letters_step c.as_slice-terms.result.now c.loop-term.term-index c.term-item.result c.loop-term-test.true c.term-item.is);
      few = omega (arith, here, is, so_far);
    }

pub returns : goal.returns
returns c = c.loop-term.invariant.so_far ∙ ap letters_in (take_all c.loop-term.term-index c.as_slice-terms.result.now (omega arith) ∙ c.as_slice-terms.ensures)
