use Rattle.nc_polynomial.proofs.Prelude.{rules, ◌≡◌, ◌<◌, neg_ℤ, get_or, length, map_over_more, All-set, IsCoefficient, Term}
use Rattle.nc_polynomial.proofs.terms.negate_terms.Goals as goal

pub loop-term-preserved : goal.loop-term-preserved
loop-term-preserved c =
    let xs = c.args.terms in
    let ys = c.loop-term.term-items in
    let i = c.loop-term.term-index in
    let t : Term = c.term-item.result in
    let is : t ≡ get_or ys i t = search rules in
    let below : i < length xs = search rules in
    let more = map_over_more (λ (u : Term). (neg_ℤ u.0, u.1)) xs ys i t below c.loop-term.invariant.so_far is in
    record {
      so_far = search (rules, more);
      in_range = All-set (λ (u : Term). IsCoefficient u.0) ys i _ (search rules) c.loop-term.invariant.in_range;
    }
