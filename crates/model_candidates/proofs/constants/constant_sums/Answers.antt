use Rattle.model_candidates.proofs.Prelude.{◌≡◌, ◌+◌, ◌%◌, ◌<◌, ◌≤◌, ℕ, ℤ, List, get_or, length, take, sym, ap, subst, ◌∙◌, arith, All, sum_by, take_all, letters-quiver_of, entry_at, product_in, quiver_in, term_entry}
use Rattle.model_candidates.proofs.KnownConstants.{few_at, nothing_there}
use Rattle.model_candidates.proofs.SolvedTerms.{path_over}
use Rattle.model_candidates.proofs.GivenValues.{given_of}
use Rattle.model_candidates.proofs.ValueRows.{coefficient_below, leads_at, next_sum, path_at, paths_of, sum_more, value_entry, whole_word}
use Rattle.model_candidates.proofs.constants.constant_sums.Goals as goal

pub solved_place-requires-clause-over : goal.solved_place-requires-clause-over
solved_place-requires-clause-over c =
    let x = c.args.known.now.given in
    let p = c.args.poly.now in
    let u = c.args.ends.source.0 in
    let v = c.args.ends.target.0 in
    let w = c.term.result.1.now in
    let path = path_at (given_of c.requires.known.given) u v c.requires.source c.requires.target p.terms c.loop-place.place
    (c.term.result.0, w) c.term.ensures
    p.canonical c.requires.typed in
    subst (λ n. All (λ a. a < n) w) (letters-quiver_of x.problem.now.parts.quiver) (path_over (quiver_in x) u v w path)

pub loop-place-preserved-in-Some : goal.loop-place-preserved-in-Some
loop-place-preserved-in-Some c =
    let known = c.args.known.now in
    let x = known.given in
    let p = c.args.poly.now in
    let u = c.args.ends.source.0 in
    let v = c.args.ends.target.0 in
    let m = c.from-modulus.result in
    let place = c.loop-place.place in
    let t : ℤ × List ℕ = (c.term.result.0, c.term.result.1.now) in
    let path = path_at (given_of c.requires.known.given) u v c.requires.source c.requires.target p.terms place t c.term.ensures p.canonical
    c.requires.typed in
    let few = few_at known c.requires.known p.terms c.requires.few place c.term.ensures in
    let now = c.loop-place.invariant in
    record {
      size = now.size;
      below = now.below;
      each = λ k inside.
          let within = subst (λ n. k < n) c.side_at-columns.ensures.value inside in
          let nothing = nothing_there known c.requires.known u v c.requires.source t path c.in-Some.field-0 (sym c.in-Some.ensures) few
          c.requires.row within in
          let more = sum_more (given_of c.requires.known.given) u v c.requires.source c.requires.target p.terms place t c.term.ensures
          c.args.row k in
          let same : sum_by (term_entry x u c.args.row k) (take place p.terms) ≡ sum_by (term_entry x u c.args.row k) (take (place + 1) p.terms) =
          omega (arith, nothing, more) in
          now.each k inside ∙ ap (λ y. y % m) same;
    }

pub word_row-product-requires-clause-leads : goal.word_row-product-requires-clause-leads
word_row-product-requires-clause-leads c =
    let p = c.args.poly.now in
    leads_at (given_of c.requires.known.given) c.args.ends.source.0 c.args.ends.target.0 c.requires.source c.requires.target p.terms
    c.loop-place.place
    (c.term.result.0, c.term.result.1.now) c.term.ensures p.canonical c.requires.typed c.len.ensures.exact

pub add_multiple-requires-clause-times : goal.add_multiple-requires-clause-times
add_multiple-requires-clause-times c =
    subst (λ n. get_or c.args.coefficients.now c.loop-place.place 0 < n) (sym c.from-modulus.ensures)
    (coefficient_below (given_of c.requires.known.given) c.args.ends.source.0 c.args.ends.target.0 c.requires.source c.requires.target
    c.args.poly.now.terms
    c.loop-place.place (c.term.result.0, c.term.result.1.now) c.term.ensures c.args.coefficients.now c.requires.coefficients)

pub loop-place-preserved : goal.loop-place-preserved
loop-place-preserved c =
    let u = c.args.ends.source.0 in
    let w = c.term.result.1.now in
    record {
      size = c.add_multiple.ensures.size;
      below = c.add_multiple.ensures.below;
      each = λ k inside.
          next_sum (given_of c.requires.known.given) u c.args.ends.target.0 c.requires.source c.requires.target c.args.poly.now.terms
          c.loop-place.place
          (c.term.result.0, w) c.term.ensures c.args.coefficients.now c.requires.coefficients c.from-modulus.result c.args.row k _ _
          (c.word_row-product.ensures.row k (subst (λ n. k < n) c.side_at-columns.ensures.value inside)
          ∙ ap (λ xs. entry_at (product_in c.args.known.now.given u xs) c.args.row k) (whole_word w c.len.ensures.exact))
          (c.loop-place.invariant.each k inside) (c.add_multiple.ensures.each k inside);
    }

pub returns : goal.returns
returns c = λ k inside.
    let x = c.args.known.now.given in
    let p = c.args.poly.now in
    let u = c.args.ends.source.0 in
    let v = c.args.ends.target.0 in
    let i = c.args.row in
    let m = x.shape.now.modulus in
    let sums = c.loop-place.sums in
    let all : length p.terms ≤ c.loop-place.place = omega (arith, c.loop-place-test.false, c.terms-place-end.ensures) in
    ap (λ n. get_or sums k 0 % n) (sym c.from-modulus.ensures)
    ∙ c.loop-place.invariant.each k (subst (λ n. k < n) (sym c.side_at-columns.ensures.value) inside)
    ∙ ap (λ n. sum_by (term_entry x u i k) (take c.loop-place.place p.terms) % n) c.from-modulus.ensures
    ∙ ap (λ xs. sum_by (term_entry x u i k) xs % m) (take_all c.loop-place.place p.terms all)
    ∙ sym (value_entry (given_of c.requires.known.given) u v c.requires.source c.requires.target i k c.requires.row inside p.terms
    (paths_of (given_of c.requires.known.given) u v c.requires.source c.requires.target p.canonical c.requires.typed))
