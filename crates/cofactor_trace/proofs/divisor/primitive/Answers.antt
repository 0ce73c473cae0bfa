use Rattle.cofactor_trace.proofs.Prelude.{rules, ◌≡◌, ◌<ℤ◌, pos, int_div, map, sym, subst, ◌∣◌, unsigned_abs, content_of}
use Rattle.cofactor_trace.proofs.Divisors.{quotient_positive, content-first}
use Rattle.cofactor_trace.proofs.divisor.primitive.Goals as goal

pub returns-clause-ranged : goal.returns-clause-ranged
returns-clause-ranged c =
    let d = c.args.denominator in
    let by = c.content-by.result in
    let by_is : by ≡ content_of d c.args.rows = search rules in
    let by_in : pos 0 <ℤ by = search rules in
    let divides : unsigned_abs by ∣ unsigned_abs d = subst (λ g. unsigned_abs g ∣ unsigned_abs d) (sym by_is) (content-first d (map (λ r. r.coef) c.args.rows)) in
    let quotient_is : c.quotient.result ≡ int_div d by = search rules in
    let positive : pos 0 <ℤ c.quotient.result = subst (λ z. pos 0 <ℤ z) (sym quotient_is) (quotient_positive d by c.requires.positive by_in divides) in
    record { positive = search (rules, positive); denominator_in = search rules; coefficients_in = search rules }
