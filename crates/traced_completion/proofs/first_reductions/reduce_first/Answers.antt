use Rattle.traced_completion.proofs.Prelude.{rules, ◌≡◌, Ok, length, sym, subst, All, IsCoefficient, Row, IsAmongFirst, s_rows_of, s_polynomial_of, plain, IsKept}
use Rattle.traced_completion.proofs.NonemptyWords.{nonempty_s}
use Rattle.traced_completion.proofs.KeptReductions.{s_rows_named}
use Rattle.traced_completion.proofs.first_reductions.reduce_first.Goals as goal

pub reduce-requires-clause-nonempty : goal.reduce-requires-clause-nonempty
reduce-requires-clause-nonempty g c =
    let given = c.args.rules.now in
    let s = c.in-Ok.s_polynomial in
    let ends : s_polynomial_of given.rules c.args.which.now ≡ Ok s.poly.terms = search rules in
    nonempty_s (g.O.WordOrder.letters given.order) (g.O.WordOrder.compare given.order) given.rules given.each c.args.which.now c.requires s.poly.terms s.poly.canonical.shaped ends

pub returns-in-Ok-reduce-clause-kept : goal.returns-in-Ok-reduce-clause-kept
returns-in-Ok-reduce-clause-kept g c =
    let given = c.args.rules.now in
    let s = c.in-Ok.s_polynomial in
    let same : s.rows ≡ s_rows_of given.rules c.args.which.now = search rules in
    let rows_in : All (λ (r : Row). IsCoefficient r.coef) s.rows = search rules in
    let reduced : IsKept (g.O.WordOrder.letters given.order) (length given.rules) (plain c.in-Ok-reduce.reduced) = search rules in
    record {
      rows = record {
        in_range = rows_in;
        named = subst (All (λ (r : Row). IsAmongFirst (length given.rules) r.from)) (sym same) (s_rows_named given.rules c.args.which.now c.requires);
      };
      reduced = reduced;
    }
