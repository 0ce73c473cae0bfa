use Rattle.model_candidates.proofs.Prelude.{◌≡◌, ◌+◌, ◌*◌, ◌%◌, ◌<◌, ℕ, List, length, get_or, set, sym, ap, ap₂, subst, ◌∙◌, arith, length-set, All-get_or, All-set, get_or_from_slice_get, slice_get_within, entry_at}
use Rattle.model_candidates.proofs.FactorRows.{line_nothing, place_added, place_skipped}
use Rattle.model_candidates.proofs.factor_rows.add_line.Goals as goal

pub returns-then-before-eq0-clause-each : goal.returns-then-before-eq0-clause-each
returns-then-before-eq0-clause-each c = λ k inside.
    let t = c.args.term.now in
    let none : entry_at t.left c.args.row c.args.inner ≡ 0 = sym c.entry-before.ensures.value ∙ c.if-before-eq0.true in
    let nothing = line_nothing t c.args.row c.args.column k c.args.inner none in
    let old = get_or c.args.factors.now k 0 in
    let same : old ≡ old + t.coefficient * 0 = grind arith in
    ap (λ x. x % c.args.modulus) (same ∙ ap (λ x. old + t.coefficient * x) (sym nothing))

pub bounds-factors-number : goal.bounds-factors-number
bounds-factors-number c =
    let t = c.args.term.now in
    let place = c.args.inner * c.rows-width.result + c.loop-other.other in
    let number = c.at.result.now in
    let number_is : get_or t.numbers place 0 ≡ number = get_or_from_slice_get t.numbers place number 0 c.at.ensures in
    let below = All-get_or (λ k. k < length c.args.factors.now) t.numbers place 0 (slice_get_within t.numbers place number c.at.ensures)
    c.requires.term.below in
    omega (arith, number_is, below, c.loop-other.invariant.size)

pub bounds-factors-number-in-loop-other : goal.bounds-factors-number-in-loop-other
bounds-factors-number-in-loop-other c =
    let t = c.args.term.now in
    let place = c.args.inner * c.rows-width.result + c.loop-other.other in
    let number = c.at.result.now in
    let number_is : get_or t.numbers place 0 ≡ number = get_or_from_slice_get t.numbers place number 0 c.at.ensures in
    let below = All-get_or (λ k. k < length c.args.factors.now) t.numbers place 0 (slice_get_within t.numbers place number c.at.ensures)
    c.requires.term.below in
    omega (arith, number_is, below, c.loop-other.invariant.size)

pub loop-other-preserved-then-behind-eq0 : goal.loop-other-preserved-then-behind-eq0
loop-other-preserved-then-behind-eq0 c =
    let now = c.loop-other.invariant in
    let t = c.args.term.now in
    let other = c.loop-other.other in
    let in_width : other < t.right.rows = subst (λ n. other < n) c.rows-width.ensures c.loop-other-test.true in
    let none : entry_at t.right other c.args.column ≡ 0 = sym c.entry-behind.ensures.value ∙ c.if-behind-eq0.true in
    record {
      size = now.size;
      below = now.below;
      each = λ k inside.
          now.each k inside
          ∙ ap (λ x. (get_or c.args.factors.now k 0 + t.coefficient * x) % c.args.modulus)
          (place_skipped t c.args.row c.args.column c.args.inner k none in_width);
    }

pub loop-other-preserved : goal.loop-other-preserved
loop-other-preserved c =
    let m = c.args.modulus in
    let now = c.loop-other.invariant in
    let t = c.args.term.now in
    let inner = c.args.inner in
    let other = c.loop-other.other in
    let factors : List ℕ = c.loop-other.factors in
    let place = inner * c.rows-width.result + other in
    let number = c.at.result.now in
    let before = c.entry-before.result in
    let behind = c.entry-behind.result in
    let times = (c.from.result * c.from-2.result) % c.from-3.result in
    let read : get_or t.numbers place 0 ≡ number = get_or_from_slice_get t.numbers place number 0 c.at.ensures in
    let number_is : get_or t.numbers (inner * t.right.rows + other) 0 ≡ number =
    ap (λ w. get_or t.numbers (inner * w + other) 0) (sym c.rows-width.ensures) ∙ read in
    let below = All-get_or (λ k. k < length c.args.factors.now) t.numbers place 0 (slice_get_within t.numbers place number c.at.ensures)
    c.requires.term.below in
    let within : number < length factors = omega (arith, read, below, now.size) in
    let in_width : other < t.right.rows = subst (λ n. other < n) c.rows-width.ensures c.loop-other-test.true in
    let times_is : times ≡ (t.coefficient * before) % m = ap₂ (λ x y. (x * y) % c.from-3.result) c.from.ensures c.from-2.ensures
    ∙ ap (λ y. (t.coefficient * before) % y) c.from-3.ensures in
    let value : ℕ = (get_or factors number 0 + times * behind) % m in
    let written : c.with_multiple.result ≡ value = c.with_multiple.ensures.value in
    let list_is = ap (set factors number) written in
    let each : (k : ℕ) → k < length c.args.factors.now → _ =
    place_added m t c.args.row c.args.column inner c.args.factors.now factors other number times before behind number_is times_is
    c.entry-before.ensures.value c.entry-behind.ensures.value in_width within now.each in
    record {
      size = length-set factors number _ ∙ now.size;
      below = All-set (λ factor. factor < m) factors number _ c.with_multiple.ensures.below now.below;
      each = λ k inside. ap (λ xs. get_or xs k 0 % m) list_is ∙ each k inside;
    }
