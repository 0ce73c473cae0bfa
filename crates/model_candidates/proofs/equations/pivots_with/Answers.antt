use Rattle.model_candidates.proofs.Prelude.{◌≡◌, ◌+◌, ◌++◌, ◌∷◌, [], ◌<◌, ℕ, List, drop, get_or, length, take, sym, ap, subst, ◌∙◌, flat_map, append-nil, append_assoc, take-append-drop, take_more, flat_map-append, LinearRow, HasNoSolution, Add, AreAgainst, StandFor, against-before, LinearAssumption, equations_of, system_in, model_in}
use Rattle.model_candidates.proofs.equations.pivots_with.Goals as goal

abbrev no_assumption : LinearAssumption
no_assumption = record { place = 0; sig = record { source = record { 0 = 0 }; target = record { 0 = 0 } } }

-- the equations of one assumption more
one_more : (f : LinearAssumption → List LinearRow) (gs : List LinearAssumption) {k : ℕ} → k < length gs
    → flat_map f (take k gs) ++ f (get_or gs k no_assumption) ≡ flat_map f (take (k + 1) gs)
one_more f gs {k} within =
    let g = get_or gs k no_assumption in
    ap (λ xs. flat_map f (take k gs) ++ xs) (sym (append-nil (f g)))
    ∙ sym (flat_map-append f (take k gs) (g ∷ []))
    ∙ ap (flat_map f) (sym (take_more gs k no_assumption within))

-- and those of all that come behind it
all_more : (f : LinearAssumption → List LinearRow) (gs : List LinearAssumption) {k : ℕ} → k < length gs
    → flat_map f (take k gs) ++ (f (get_or gs k no_assumption) ++ flat_map f (drop (k + 1) gs)) ≡ flat_map f gs
all_more f gs {k} within = sym (append_assoc (flat_map f (take k gs)) (f (get_or gs k no_assumption)) (flat_map f (drop (k + 1) gs)))
    ∙ ap (λ xs. xs ++ flat_map f (drop (k + 1) gs)) (one_more f gs within) ∙ sym (flat_map-append f (take (k + 1) gs) (drop (k + 1) gs))
    ∙ ap (flat_map f) (take-append-drop (k + 1) gs)

pub returns-then-not-branch-clause-none : goal.returns-then-not-branch-clause-none
returns-then-not-branch-clause-none c =
    let known = c.args.known.now in
    let m = model_in known.given in
    let n = c.args.plan.now.unknowns in
    let gs = c.args.plan.now.assumptions.equations in
    let same : c.as_slice-assumption-items.result.now ≡ gs = c.as_slice-assumption-items.ensures in
    let k = c.loop-assumption.assumption-index in
    let within : k < length gs = subst (λ xs. k < length xs) same c.loop-assumption-test.true in
    let f : LinearAssumption → List LinearRow = equations_of known.given.problem.now known.given.shape.now m in
    let rest : List LinearRow = flat_map f (drop (k + 1) gs) in
    let against : AreAgainst (f (get_or gs k no_assumption)) c.loop-assumption.pivots =
    subst (λ xs. AreAgainst (f (get_or xs k no_assumption)) c.loop-assumption.pivots) same
    (c.in_ok-add_equations.ensures.against c.if-not-branch.true) in
    subst (λ xs. HasNoSolution (record { modulus = m.modulus; unknowns = n; rows = xs })) (all_more f gs within)
    (against-before (f (get_or gs k no_assumption)) rest c.loop-assumption.pivots against
    (system_in known.given.problem.now known.given.shape.now m n (take k gs)) c.loop-assumption.invariant)

pub loop-assumption-preserved : goal.loop-assumption-preserved
loop-assumption-preserved c =
    let known = c.args.known.now in
    let m = model_in known.given in
    let n = c.args.plan.now.unknowns in
    let gs = c.args.plan.now.assumptions.equations in
    let same : c.as_slice-assumption-items.result.now ≡ gs = c.as_slice-assumption-items.ensures in
    let k = c.loop-assumption.assumption-index in
    let within : k < length gs = subst (λ xs. k < length xs) same c.loop-assumption-test.true in
    let f : LinearAssumption → List LinearRow = equations_of known.given.problem.now known.given.shape.now m in
    let added : Add (f (get_or gs k no_assumption)) c.loop-assumption.pivots c.add_equations.new.pivots =
    subst (λ xs. Add (f (get_or xs k no_assumption)) c.loop-assumption.pivots c.add_equations.new.pivots) same
    (c.in_ok-add_equations.ensures.added c.if-not-branch.false) in
    subst (λ xs. StandFor c.add_equations.new.pivots (record { modulus = m.modulus; unknowns = n; rows = xs })) (one_more f gs within)
    (added (system_in known.given.problem.now known.given.shape.now m n (take k gs)) c.loop-assumption.invariant)
