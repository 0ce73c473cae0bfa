use Rattle.matrix_models.proofs.Prelude.{◌≡◌, ◌+◌, ◌<◌, ◌≤◌, ◌∷◌, [], All, length, get_or, take, sym, ap, subst, ◌∙◌, take_all, IsEquation, HasNoSolution, equation_of, StandFor, Add, AreAgainst}
use Rattle.matrix_models.proofs.Reduction.{front, front_more, no_solution-front, length-row_of, row_of-below, equation_of-row_of}
use Rattle.matrix_models.proofs.greedy.pivots_of.Goals as goal

pub loop-equation-init : goal.loop-equation-init
loop-equation-init c = c.in_ok-pivots.ensures

pub add-requires-clause-size : goal.add-requires-clause-size
add-requires-clause-size c =
    let s = c.args.system.now in
    let i = c.loop-equation.equation-index in
    let equation = c.equation-item.result in
    let rows_are = c.as_slice-equation-items.ensures in
    let within = subst (λ xs. i < length xs) rows_are c.loop-equation-test.true in
    let item = subst (λ xs. equation ≡ get_or xs i equation) rows_are c.equation-item.is in
    let is_equation = subst (IsEquation s.modulus s.unknowns) (sym item) (c.requires.rows i equation within) in
    ap length c.in_ok-row.ensures ∙ length-row_of s.modulus s.unknowns equation is_equation ∙ ap (λ n. n + 1) (sym c.loop-equation.invariant.size)

pub add-requires-clause-below : goal.add-requires-clause-below
add-requires-clause-below c =
    let s = c.args.system.now in
    let i = c.loop-equation.equation-index in
    let equation = c.equation-item.result in
    let rows_are = c.as_slice-equation-items.ensures in
    let within = subst (λ xs. i < length xs) rows_are c.loop-equation-test.true in
    let item = subst (λ xs. equation ≡ get_or xs i equation) rows_are c.equation-item.is in
    let is_equation = subst (IsEquation s.modulus s.unknowns) (sym item) (c.requires.rows i equation within) in
    subst (λ m. All (λ entry. entry < m) c.in_ok-row.row.items) (sym c.loop-equation.invariant.modulus)
    (subst (All (λ entry. entry < s.modulus)) (sym c.in_ok-row.ensures) (row_of-below s.modulus s.unknowns equation is_equation))

pub returns-then-not-add-clause-none : goal.returns-then-not-add-clause-none
returns-then-not-add-clause-none c =
    let s = c.args.system.now in
    let i = c.loop-equation.equation-index in
    let equation = c.equation-item.result in
    let rows_are = c.as_slice-equation-items.ensures in
    let within = subst (λ xs. i < length xs) rows_are c.loop-equation-test.true in
    let item = subst (λ xs. equation ≡ get_or xs i equation) rows_are c.equation-item.is in
    let equation_is = ap equation_of c.in_ok-row.ensures ∙ equation_of-row_of equation in
    let against = subst (λ e. AreAgainst (e ∷ []) c.loop-equation.pivots) equation_is (c.add.ensures.against c.if-not-add.true) in
    no_solution-front s (i + 1) (subst HasNoSolution (front_more s i equation within item) (against (front i s) c.loop-equation.invariant))

pub loop-equation-preserved : goal.loop-equation-preserved
loop-equation-preserved c =
    let s = c.args.system.now in
    let i = c.loop-equation.equation-index in
    let equation = c.equation-item.result in
    let rows_are = c.as_slice-equation-items.ensures in
    let within = subst (λ xs. i < length xs) rows_are c.loop-equation-test.true in
    let item = subst (λ xs. equation ≡ get_or xs i equation) rows_are c.equation-item.is in
    let equation_is = ap equation_of c.in_ok-row.ensures ∙ equation_of-row_of equation in
    let added = subst (λ e. Add (e ∷ []) c.loop-equation.pivots c.add.new.self) equation_is (c.add.ensures.added c.if-not-add.false) in
    subst (StandFor c.add.new.self) (front_more s i equation within item) (added (front i s) c.loop-equation.invariant)

pub returns-clause-pivots : goal.returns-clause-pivots
returns-clause-pivots c =
    let s = c.args.system.now in
    let i = c.loop-equation.equation-index in
    let all : take i s.rows ≡ s.rows = take_all i s.rows (subst (λ xs. length xs ≤ i) c.as_slice-equation-items.ensures c.loop-equation-test.false) in
    subst (λ xs. StandFor c.loop-equation.pivots (record { modulus = s.modulus; unknowns = s.unknowns; rows = xs })) all c.loop-equation.invariant
