use Rattle.model_candidates.proofs.Prelude.{rules, ◌≡◌, ◌*◌, ◌%◌, ◌<◌, ℕ, get_or, take, sym, subst, arith, letters, source, target, entry_at, total, side_in, IsRow, matrix_in, quiver_in}
use Rattle.model_candidates.proofs.WordRows.{IsSoFar, letter_counted, so_far_all, so_far_first, so_far_next, step_at, unit_is_row}
use Rattle.model_candidates.proofs.word_rows.word_row.Goals as goal

pub returns-then-from-to-clause-row : goal.returns-then-from-to-clause-row
returns-then-from-to-clause-row c =
    let x = c.args.given.now in
    unit_is_row x c.requires.given c.args.ends.source.0 c.args.ends.target.0 c.args.word.now c.unit_row.result
    c.requires.in_range c.if-from-to.true c.requires.leads c.requires.row c.unit_row.ensures.each

pub letter_row-product-requires-clause-letter : goal.letter_row-product-requires-clause-letter
letter_row-product-requires-clause-letter c =
    let x = c.args.given.now in
    let w = c.args.word.now in
    let before : c.args.from < c.args.to = omega (arith, c.requires.order, c.if-from-to.false) in
    let letter_is : get_or w c.args.from 0 ≡ c.letter.result.0 = search rules in
    letter_counted x c.requires.given (subst (λ a. a < letters (quiver_in x)) letter_is
    (step_at x c.requires.given c.args.ends.source.0 c.args.ends.target.0 c.args.row w c.args.from c.args.to c.requires.source c.requires.in_range c.args.ends.target.0 before c.requires.leads).letter)

pub letter_row-product-requires-clause-row : goal.letter_row-product-requires-clause-row
letter_row-product-requires-clause-row c =
    let x = c.args.given.now in
    let w = c.args.word.now in
    let before : c.args.from < c.args.to = omega (arith, c.requires.order, c.if-from-to.false) in
    let letter_is : get_or w c.args.from 0 ≡ c.letter.result.0 = search rules in
    let first = step_at x c.requires.given c.args.ends.source.0 c.args.ends.target.0 c.args.row w c.args.from c.args.to c.requires.source
    c.requires.in_range c.args.ends.target.0 before c.requires.leads in
    subst (λ a. c.args.row < side_in x.shape.now (target (quiver_in x) a)) letter_is
    (subst (λ v. c.args.row < side_in x.shape.now v) (sym first.target) c.requires.row)

pub loop-place-init : goal.loop-place-init
loop-place-init c =
    let x = c.args.given.now in
    let w = c.args.word.now in
    let before : c.args.from < c.args.to = omega (arith, c.requires.order, c.if-from-to.false) in
    let letter_is : get_or w c.args.from 0 ≡ c.letter.result.0 = search rules in
    so_far_first x c.requires.given c.args.ends.source.0 c.args.ends.target.0 c.args.row w c.args.from c.args.to c.requires.source
    c.requires.in_range before c.requires.leads c.requires.row
    (subst (λ a. IsRow (matrix_in x a) c.args.row (side_in x.shape.now (source (quiver_in x) a)) c.letter_row-product.result) (sym letter_is)
    c.letter_row-product.ensures.row) c.letter_row-product.ensures.below

pub row_times-product-requires-clause-letter : goal.row_times-product-requires-clause-letter
row_times-product-requires-clause-letter c =
    let x = c.args.given.now in
    let w = c.args.word.now in
    let place = c.loop-place.place in
    let letter_is : get_or w place 0 ≡ c.letter-in-loop-place.result.0 = search rules in
    letter_counted x c.requires.given (subst (λ a. a < letters (quiver_in x)) letter_is
    (step_at x c.requires.given c.args.ends.source.0 c.args.ends.target.0 c.args.row w c.args.from c.args.to c.requires.source c.requires.in_range c.loop-place.invariant.middle c.loop-place-test.true c.loop-place.invariant.path).letter)

pub loop-place-preserved : goal.loop-place-preserved
loop-place-preserved c =
    let x = c.args.given.now in
    let w = c.args.word.now in
    let place = c.loop-place.place in
    let side = side_in x.shape.now in
    let row = c.loop-place.product in
    let next = c.row_times-product.result in
    let letter_is : get_or w place 0 ≡ c.letter-in-loop-place.result.0 = search rules in
    so_far_next x c.requires.given c.args.ends.source.0 c.args.ends.target.0 c.args.row w c.args.from c.args.to c.requires.source
    c.requires.in_range c.loop-place-test.true c.loop-place.invariant
    (subst (λ a. (k : ℕ) → k < side (source (quiver_in x) a) → get_or next k 0
    ≡ total (side (target (quiver_in x) a)) (λ j. get_or row j 0 * entry_at (matrix_in x a) j k) % x.shape.now.modulus) (sym letter_is)
    c.row_times-product.ensures.each) c.row_times-product.ensures.below

pub returns-clause-row : goal.returns-clause-row
returns-clause-row c =
    let x = c.args.given.now in
    let w = c.args.word.now in
    let all : c.loop-place.place ≡ c.args.to =
    omega (arith, c.requires.order, c.if-from-to.false, c.loop-place.auto.place-end, c.loop-place-test.false) in
    so_far_all x c.requires.given c.args.ends.source.0 c.args.ends.target.0 c.args.row w c.args.from c.args.to c.requires.source
    c.requires.in_range
    (subst (λ place. IsSoFar x c.args.ends.source.0 c.args.row (take c.args.to w) c.args.from place c.loop-place.product) all c.loop-place.invariant)
