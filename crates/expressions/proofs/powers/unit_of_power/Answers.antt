use Rattle.expressions.proofs.Prelude.{rules, ◌≡◌, ◌≤◌, ◌<◌, ◌*◌, length, to_z, of_z, pos, sym, ◌∙◌, arith, w128}
use Rattle.expressions.proofs.UnitPowers.{unit-power, canonical-unit, unit-too_long, unit-even, unit-odd}
use Rattle.expressions.proofs.powers.unit_of_power.Goals as goal

pub returns-then-letters-clause-exact : goal.returns-then-letters-clause-exact
returns-then-letters-clause-exact c =
    let count : c.len.result ≡ length c.args.term.now.1 = c.len.ensures.exact in
    let product : c.len.result * c.args.factors ≡ c.args.factors * length c.args.term.now.1 = rw count (omega arith) in
    let long : 500 < c.args.factors * length c.args.term.now.1 = omega (arith, product, c.saturating_mul-letters.ensures, c.if-letters.true) in
    unit-too_long c.args.term.now c.requires.canonical c.requires.unit c.args.factors c.requires.begun long

pub returns-then-factors-eq0-clause-exact : goal.returns-then-factors-eq0-clause-exact
returns-then-factors-eq0-clause-exact c =
    let t = c.args.term.now in
    let count : c.len.result ≡ length t.1 = c.len.ensures.exact in
    let product : c.len.result * c.args.factors ≡ c.args.factors * length t.1 = rw count (omega arith) in
    let short : c.args.factors * length t.1 ≤ 500 = omega (arith, product, c.saturating_mul-letters.ensures, c.if-letters.false) in
    unit-power t c.requires.canonical c.requires.unit c.args.factors c.requires.begun short (pos 1) (unit-even t.0 c.requires.unit c.args.factors c.if-factors-eq0.true)

pub returns-then-factors-eq0-clause-canonical : goal.returns-then-factors-eq0-clause-canonical
returns-then-factors-eq0-clause-canonical c =
    let t = c.args.term.now in
    let count : c.len.result ≡ length t.1 = c.len.ensures.exact in
    let product : c.len.result * c.args.factors ≡ c.args.factors * length t.1 = rw count (omega arith) in
    let short : c.args.factors * length t.1 ≤ 500 = omega (arith, product, c.saturating_mul-letters.ensures, c.if-letters.false) in
    canonical-unit t c.requires.canonical c.requires.unit c.args.factors c.requires.begun short (pos 1) (unit-even t.0 c.requires.unit c.args.factors c.if-factors-eq0.true)

pub returns-else-factors-eq0-clause-exact : goal.returns-else-factors-eq0-clause-exact
returns-else-factors-eq0-clause-exact c =
    let t = c.args.term.now in
    let count : c.len.result ≡ length t.1 = c.len.ensures.exact in
    let product : c.len.result * c.args.factors ≡ c.args.factors * length t.1 = rw count (omega arith) in
    let short : c.args.factors * length t.1 ≤ 500 = omega (arith, product, c.saturating_mul-letters.ensures, c.if-letters.false) in
    let same : to_z w128 (of_z w128 t.0) ≡ t.0 = search rules in
    let is = unit-odd t.0 c.requires.unit c.args.factors c.if-factors-eq0.false ∙ sym same in
    unit-power t c.requires.canonical c.requires.unit c.args.factors c.requires.begun short (to_z w128 (of_z w128 t.0)) is

pub returns-else-factors-eq0-clause-canonical : goal.returns-else-factors-eq0-clause-canonical
returns-else-factors-eq0-clause-canonical c =
    let t = c.args.term.now in
    let count : c.len.result ≡ length t.1 = c.len.ensures.exact in
    let product : c.len.result * c.args.factors ≡ c.args.factors * length t.1 = rw count (omega arith) in
    let short : c.args.factors * length t.1 ≤ 500 = omega (arith, product, c.saturating_mul-letters.ensures, c.if-letters.false) in
    let same : to_z w128 (of_z w128 t.0) ≡ t.0 = search rules in
    let is = unit-odd t.0 c.requires.unit c.args.factors c.if-factors-eq0.false ∙ sym same in
    canonical-unit t c.requires.canonical c.requires.unit c.args.factors c.requires.begun short (to_z w128 (of_z w128 t.0)) is
