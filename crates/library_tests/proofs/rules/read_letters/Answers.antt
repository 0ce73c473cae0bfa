use Rattle.library_tests.proofs.Prelude.{rules, ◌≡◌, ◌<◌, ◌≤◌, get_or, length, arith, sym, subst, All, take_all, All-push, All-weaker, Term, IsOver, take_next}
use Rattle.library_tests.proofs.rules.read_letters.Goals as goal

pub loop-term-preserved : goal.loop-term-preserved
loop-term-preserved g c =
    let terms = c.args.terms.now in
    let letters = g.O.WordOrder.letters c.args.order.now in
    let i = c.loop-term.term-index in
    let t = c.term-item.result in
    let inside : i < length terms = omega arith in
    let item : t ≡ get_or terms i t = search rules in
    let below_2_16 : IsOver 65536 t.1 = search rules in
    let over = All-weaker (λ a. a < 65536) (λ a. a < letters) (λ a below. omega (arith, c.requires)) t.1 below_2_16 in
    subst (All (λ (u : Term). IsOver letters u.1)) (sym (take_next terms i t inside item)) (All-push (λ (u : Term). IsOver letters u.1) _ t c.loop-term.invariant over)

pub returns : goal.returns
returns g c =
    let terms = c.args.terms.now in
    let letters = g.O.WordOrder.letters c.args.order.now in
    let ends : length terms ≤ c.loop-term.term-index = omega arith in
    subst (All (λ (u : Term). IsOver letters u.1)) (take_all c.loop-term.term-index terms ends) c.loop-term.invariant
