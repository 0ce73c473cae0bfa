use Rattle.cancel_rules.proofs.Prelude.{rules, ◌≡◌, ◌<◌, List, None, Err, sym, subst, to_z, of_z, first_overflow, products, letters, Declaration, letter_count, quiver_of, letters-quiver_of, polynomials, ReachesClaim, RefusesGoal, Side, Cancellation, Common, declared_for, row_total, claim_named, all_items, CancelBegins, HasItems, AcceptsCancellation, RefusesCancellation, IsReadableCancellation, All}
use mir.Syntax.{w128}
use Rattle.cancel_rules.specs.declared.cancellation.Side.TheVariants as side
use Rattle.cancel_rules.proofs.Outcomes.{refuses_from_beginning, refuses_from_items, refuses_from_goal, err_told, memory_told}
use Rattle.cancel_rules.proofs.Shown.{accepted_cancellation_leads}
use Rattle.cancel_rules.proofs.Judged.{begun, told_start, complete}
use Rattle.cancel_rules.proofs.check.check_cancellation.Goals as goal
use Rattle.cancel_rules.proofs.check.check_cancellation.Goals.{In_err-claim, In_ok-claim, In_err-made, In_ok-made, In_err-check_goal, In_ok-check_goal}

-- the declared letters are letters of the quiver
each : {ds : List Declaration} {proof : Cancellation} → IsReadableCancellation ds proof → (end : Side) → All (λ a. a.0 < letter_count ds) (declared_for proof end)
each readable side.Left = readable.monic
each readable side.Right = readable.epic

-- the tests before the items
starts : (c : In_ok-claim) → CancelBegins (polynomials c.args.problem.now.parts.claims) c.args.proof.now
starts c =
    let is : to_z w128 (of_z w128 c.args.proof.now.denominator) ≡ c.args.proof.now.denominator = search rules in
    begun (quiver_of c.args.problem.now.parts.quiver) (polynomials c.args.problem.now.parts.claims) (polynomials c.args.problem.now.generators) c.args.proof.now (rw (is, c.as_slice-claims.ensures, c.as_slice-parts.ensures) at c.in_ok-claim.ensures.starts)

begun_wrong : (c : In_err-claim) → RefusesCancellation (quiver_of c.args.problem.now.parts.quiver) (polynomials c.args.problem.now.parts.claims) (polynomials c.args.problem.now.generators) c.args.proof.now (Common c.in_err-claim.field-0.0)
begun_wrong c =
    let is : to_z w128 (of_z w128 c.args.proof.now.denominator) ≡ c.args.proof.now.denominator = search rules in
    let q = quiver_of c.args.problem.now.parts.quiver in
    let claims = polynomials c.args.problem.now.parts.claims in
    let gs = polynomials c.args.problem.now.generators in
    refuses_from_beginning q claims gs c.args.proof.now c.in_err-claim.field-0.0 (told_start q claims gs c.args.proof.now c.in_err-claim.field-0.0 (rw (is, c.as_slice-claims.ensures, c.as_slice-parts.ensures) at c.in_err-claim.ensures.refused))

pub returns-in_err-claim-clause-refuses : goal.returns-in_err-claim-clause-refuses
returns-in_err-claim-clause-refuses c =
    let passed = goal.at.returns-in_err-claim-clause-refuses c in
    err_told _ c.from_residual.result c.in_err-claim.field-0.0 c.from_residual.ensures.1 (begun_wrong passed.In_err-claim)

pub returns-in_err-claim-clause-complete : goal.returns-in_err-claim-clause-complete
returns-in_err-claim-clause-complete c = complete (quiver_of c.args.problem.now.parts.quiver) (polynomials c.args.problem.now.parts.claims) (polynomials c.args.problem.now.generators) c.args.proof.now c.from_residual.result (returns-in_err-claim-clause-refuses c)

-- the tables of letters
pub returns-in_err-marks-clause-refuses : goal.returns-in_err-marks-clause-refuses
returns-in_err-marks-clause-refuses c =
    memory_told (quiver_of c.args.problem.now.parts.quiver) (polynomials c.args.problem.now.parts.claims) (polynomials c.args.problem.now.generators) c.args.proof.now c.from_residual-in_err-marks.result c.from_residual-in_err-marks.ensures.1

pub returns-in_err-marks-clause-complete : goal.returns-in_err-marks-clause-complete
returns-in_err-marks-clause-complete c = complete (quiver_of c.args.problem.now.parts.quiver) (polynomials c.args.problem.now.parts.claims) (polynomials c.args.problem.now.generators) c.args.proof.now c.from_residual-in_err-marks.result (returns-in_err-marks-clause-refuses c)

pub declared_marks-requires-clause-monic : goal.declared_marks-requires-clause-monic
declared_marks-requires-clause-monic c = rw c.letters.ensures.count c.requires.monic

pub declared_marks-requires-clause-epic : goal.declared_marks-requires-clause-epic
declared_marks-requires-clause-epic c = rw c.letters.ensures.count c.requires.epic

-- an item
item_wrong : (c : In_err-made) → CancelBegins (polynomials c.args.problem.now.parts.claims) c.args.proof.now → RefusesCancellation (quiver_of c.args.problem.now.parts.quiver) (polynomials c.args.problem.now.parts.claims) (polynomials c.args.problem.now.generators) c.args.proof.now c.in_err-made.field-0.0
item_wrong c begins =
    refuses_from_items (quiver_of c.args.problem.now.parts.quiver) (polynomials c.args.problem.now.parts.claims) (polynomials c.args.problem.now.generators) c.args.proof.now begins c.in_err-made.field-0.0
    c.in_err-made.ensures.refused

pub returns-in_err-made-clause-refuses : goal.returns-in_err-made-clause-refuses
returns-in_err-made-clause-refuses c =
    let passed = goal.at.returns-in_err-made-clause-refuses c in
    let back : c.from_residual-in_err-made.result ≡ Err c.in_err-made.field-0.0 = search rules in
    rw back (item_wrong passed.In_err-made (starts passed.In_ok-claim))

pub returns-in_err-made-clause-complete : goal.returns-in_err-made-clause-complete
returns-in_err-made-clause-complete c = complete (quiver_of c.args.problem.now.parts.quiver) (polynomials c.args.problem.now.parts.claims) (polynomials c.args.problem.now.generators) c.args.proof.now c.from_residual-in_err-made.result (returns-in_err-made-clause-refuses c)

-- the goal
items : (c : In_ok-made) → CancelBegins (polynomials c.args.problem.now.parts.claims) c.args.proof.now → HasItems (quiver_of c.args.problem.now.parts.quiver) (polynomials c.args.problem.now.parts.claims) (polynomials c.args.problem.now.generators) c.args.proof.now
items c begins = record { begins = begins; items = c.in_ok-made.ensures.passed }

goal_wrong : (c : In_err-check_goal) → HasItems (quiver_of c.args.problem.now.parts.quiver) (polynomials c.args.problem.now.parts.claims) (polynomials c.args.problem.now.generators) c.args.proof.now
    → RefusesCancellation (quiver_of c.args.problem.now.parts.quiver) (polynomials c.args.problem.now.parts.claims) (polynomials c.args.problem.now.generators) c.args.proof.now (Common c.in_err-check_goal.field-0.0)
goal_wrong c has =
    let gs = polynomials c.args.problem.now.generators in
    let proof = c.args.proof.now in
    let same : polynomials c.in_ok-made.made.polynomials ≡ all_items gs proof = c.in_ok-made.ensures.polynomials in
    let rows : c.in_ok-made.made.rows ≡ row_total proof.items = c.in_ok-made.ensures.rows in
    let terms = rw c.as_slice-claims.ensures at c.in_ok-claim.ensures.claim in
    let refused : RefusesGoal gs (all_items gs proof) (row_total proof.items) proof.goal (claim_named (polynomials c.args.problem.now.parts.claims) proof) c.in_err-check_goal.field-0.0 =
    rw (← same, ← rows, ← c.as_slice-items.ensures, ← c.as_slice-generators.ensures, ← terms) c.in_err-check_goal.ensures.refused in
    refuses_from_goal (quiver_of c.args.problem.now.parts.quiver) (polynomials c.args.problem.now.parts.claims) gs proof has c.in_err-check_goal.field-0.0 refused

pub returns-in_err-check_goal-clause-refuses : goal.returns-in_err-check_goal-clause-refuses
returns-in_err-check_goal-clause-refuses c =
    let passed = goal.at.returns-in_err-check_goal-clause-refuses c in
    err_told _ c.from_residual-in_err-check_goal.result c.in_err-check_goal.field-0.0 c.from_residual-in_err-check_goal.ensures.1 (goal_wrong passed.In_err-check_goal (items passed.In_ok-made (starts passed.In_ok-claim)))

pub returns-in_err-check_goal-clause-complete : goal.returns-in_err-check_goal-clause-complete
returns-in_err-check_goal-clause-complete c = complete (quiver_of c.args.problem.now.parts.quiver) (polynomials c.args.problem.now.parts.claims) (polynomials c.args.problem.now.generators) c.args.proof.now c.from_residual-in_err-check_goal.result (returns-in_err-check_goal-clause-refuses c)

accepts : (c : In_ok-check_goal) → HasItems (quiver_of c.args.problem.now.parts.quiver) (polynomials c.args.problem.now.parts.claims) (polynomials c.args.problem.now.generators) c.args.proof.now
    → AcceptsCancellation (quiver_of c.args.problem.now.parts.quiver) (polynomials c.args.problem.now.parts.claims) (polynomials c.args.problem.now.generators) c.args.proof.now
accepts c has =
    let gs = polynomials c.args.problem.now.generators in
    let proof = c.args.proof.now in
    let same : polynomials c.in_ok-made.made.polynomials ≡ all_items gs proof = c.in_ok-made.ensures.polynomials in
    let terms = rw c.as_slice-claims.ensures at c.in_ok-claim.ensures.claim in
    let reached : ReachesClaim gs (all_items gs proof) proof.goal (claim_named (polynomials c.args.problem.now.parts.claims) proof) =
    rw (← same, ← c.as_slice-items.ensures, ← c.as_slice-generators.ensures, ← terms) c.in_ok-check_goal.ensures.reaches in
    record { items = has; goal = reached }

pub returns-clause-accepts : goal.returns-clause-accepts
returns-clause-accepts c = let passed = goal.at.returns-clause-accepts c in accepts passed.In_ok-check_goal (items passed.In_ok-made (starts passed.In_ok-claim))

pub returns-clause-shows : goal.returns-clause-shows
returns-clause-shows c =
    let passed = goal.at.returns-clause-shows c in
    let ds = c.args.problem.now.parts.quiver in
    let in_quiver : (end : Side) → All (λ a. a.0 < letters (quiver_of ds)) (declared_for c.args.proof.now end) = λ end. subst (λ n. All (λ a. a.0 < n) (declared_for c.args.proof.now end)) (sym (letters-quiver_of ds)) (each c.requires end) in
    accepted_cancellation_leads (quiver_of ds) (polynomials c.args.problem.now.parts.claims) (polynomials c.args.problem.now.generators) c.args.proof.now in_quiver (accepts passed.In_ok-check_goal (items passed.In_ok-made (starts passed.In_ok-claim)))

pub make_items-requires-clause-scales : goal.make_items-requires-clause-scales
make_items-requires-clause-scales c = (starts (goal.at.make_items-requires-clause-scales c).In_ok-claim).shares.posed.positive

pub check_goal-requires-clause-count : goal.check_goal-requires-clause-count
check_goal-requires-clause-count c = rw c.in_ok-made.ensures.rows c.requires.few_rows

pub check_goal-requires-clause-scale : goal.check_goal-requires-clause-scale
check_goal-requires-clause-scale c = (starts (goal.at.check_goal-requires-clause-scale c).In_ok-claim).shares.posed.positive.goal

pub check_goal-requires-clause-products : goal.check_goal-requires-clause-products
check_goal-requires-clause-products c =
    let terms = rw c.as_slice-claims.ensures at c.in_ok-claim.ensures.claim in
    subst (λ p. first_overflow (products c.args.proof.now.goal.scale p) ≡ None) (sym terms) (starts (goal.at.check_goal-requires-clause-products c).In_ok-claim).products
