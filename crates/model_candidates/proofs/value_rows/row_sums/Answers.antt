use Rattle.model_candidates.proofs.Prelude.{◌%◌, ◌<◌, ◌≤◌, get_or, length, take, sym, ap, subst, ◌∙◌, arith, sum_by, take_all, entry_at, product_in, term_entry}
use Rattle.model_candidates.proofs.GivenValues.{given_of}
use Rattle.model_candidates.proofs.ValueRows.{coefficient_below, leads_at, next_sum, paths_of, value_entry, whole_word}
use Rattle.model_candidates.proofs.value_rows.row_sums.Goals as goal

pub word_row-product-requires-clause-leads : goal.word_row-product-requires-clause-leads
word_row-product-requires-clause-leads c =
    let p = c.args.poly.now in
    leads_at (given_of c.requires.given) c.args.ends.source.0 c.args.ends.target.0 c.requires.source c.requires.target p.terms
    c.loop-place.place
    (c.term.result.0, c.term.result.1.now) c.term.ensures p.canonical c.requires.typed c.len.ensures.exact

pub add_multiple-requires-clause-times : goal.add_multiple-requires-clause-times
add_multiple-requires-clause-times c =
    subst (λ n. get_or c.args.coefficients.now c.loop-place.place 0 < n) (sym c.from-modulus.ensures)
    (coefficient_below (given_of c.requires.given) c.args.ends.source.0 c.args.ends.target.0 c.requires.source c.requires.target
    c.args.poly.now.terms
    c.loop-place.place (c.term.result.0, c.term.result.1.now) c.term.ensures c.args.coefficients.now c.requires.coefficients)

pub loop-place-preserved : goal.loop-place-preserved
loop-place-preserved c =
    let u = c.args.ends.source.0 in
    let w = c.term.result.1.now in
    record {
      size = c.add_multiple.ensures.size;
      below = c.add_multiple.ensures.below;
      each = λ k inside.
          next_sum (given_of c.requires.given) u c.args.ends.target.0 c.requires.source c.requires.target c.args.poly.now.terms
          c.loop-place.place
          (c.term.result.0, w) c.term.ensures c.args.coefficients.now c.requires.coefficients c.from-modulus.result c.args.row k _ _
          (c.word_row-product.ensures.row k (subst (λ n. k < n) c.side_at-columns.ensures.value inside)
          ∙ ap (λ xs. entry_at (product_in c.args.given.now u xs) c.args.row k) (whole_word w c.len.ensures.exact))
          (c.loop-place.invariant.each k inside) (c.add_multiple.ensures.each k inside);
    }

pub returns : goal.returns
returns c = λ k inside.
    let x = c.args.given.now in
    let p = c.args.poly.now in
    let u = c.args.ends.source.0 in
    let v = c.args.ends.target.0 in
    let i = c.args.row in
    let m = x.shape.now.modulus in
    let sums = c.loop-place.sums in
    let all : length p.terms ≤ c.loop-place.place = omega (arith, c.loop-place-test.false, c.terms-place-end.ensures) in
    ap (λ n. get_or sums k 0 % n) (sym c.from-modulus.ensures)
    ∙ c.loop-place.invariant.each k (subst (λ n. k < n) (sym c.side_at-columns.ensures.value) inside)
    ∙ ap (λ n. sum_by (term_entry x u i k) (take c.loop-place.place p.terms) % n) c.from-modulus.ensures
    ∙ ap (λ xs. sum_by (term_entry x u i k) xs % m) (take_all c.loop-place.place p.terms all)
    ∙ sym (value_entry (given_of c.requires.given) u v c.requires.source c.requires.target i k c.requires.row inside p.terms
    (paths_of (given_of c.requires.given) u v c.requires.source c.requires.target p.canonical c.requires.typed))
