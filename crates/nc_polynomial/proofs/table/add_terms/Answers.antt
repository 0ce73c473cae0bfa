use Rattle.nc_polynomial.proofs.Prelude.{rules, ◌≡◌, ◌++◌, ◌+ℤ◌, ◌∷◌, [], length, sym, ap, ◌∙◌, arith, append_assoc, into_iter_items, nil_from_length, IsCoefficient, sum_of, first_overflow, Term, coefficient_of, coefficient_in, Adds, IsStoppedBy}
use Rattle.std.proofs.Common.{append-nil}
use Rattle.nc_polynomial.proofs.Chains.{first-fits}
use Rattle.nc_polynomial.proofs.Results.{err_whole}
use Rattle.nc_polynomial.proofs.RunningSums.{table-fault, table-sum}
use Rattle.nc_polynomial.proofs.Shapes.{recursion_from_IsDescending}
use Rattle.nc_polynomial.proofs.Stopped.{stop-explains}
use Rattle.nc_polynomial.proofs.TableSums.{sums_with, sums-next, coefficients-more}
use Rattle.nc_polynomial.proofs.table.add_terms.Goals as goal

-- one more term is added
pub loop-coefficient-preserved : goal.loop-coefficient-preserved
loop-coefficient-preserved c =
    let at = c.loop-coefficient in
    let t : Term = (c.in-Some.coefficient, c.in-Some.word) in
    let more = into_iter_items c.next.new.self in
    let steps : into_iter_items at.coefficient-iterator ≡ t ∷ more = c.in-Some.ensures.steps.0 in
    let splits : at.yielded ++ t ∷ more ≡ c.args.terms = ap (λ l. at.yielded ++ l) (sym steps) ∙ at.invariant.splits in
    let down = recursion_from_IsDescending c.args.terms c.requires.shaped.descending in
    let start = coefficient_in c.args.table.now in
    let now = coefficient_in at.table in
    let adds : Adds at.table c.add_term.new.table (t ∷ []) = search rules in
    let fits : IsCoefficient (now t.1 +ℤ t.0) = search rules in
    record {
      splits = append_assoc at.yielded (t ∷ []) more ∙ splits;
      left = let was = at.invariant.left in let gone = c.in-Some.ensures.steps.1 in let short = ap length steps in omega arith;
      running = search rules;
      ordered = search rules;
      coefficients = coefficients-more start now c.args.terms at.yielded t more splits down at.invariant.coefficients (coefficient_in c.add_term.new.table) adds.at;
      rest =
          at.invariant.rest ∙ ap (λ l. first_overflow (sums_with start l)) steps
          ∙ sums-next start now c.args.terms at.yielded t more splits down at.invariant.coefficients
          ∙ first-fits (sum_of (now t.1) t.0) (sums_with start more) fits;
    }

pub returns-in_err-add_term-clause-exact : goal.returns-in_err-add_term-clause-exact
returns-in_err-add_term-clause-exact c =
    let at = c.loop-coefficient in
    let t : Term = (c.in-Some.coefficient, c.in-Some.word) in
    let more = into_iter_items c.next.new.self in
    let steps : into_iter_items at.coefficient-iterator ≡ t ∷ more = c.in-Some.ensures.steps.0 in
    let splits : at.yielded ++ t ∷ more ≡ c.args.terms = ap (λ l. at.yielded ++ l) (sym steps) ∙ at.invariant.splits in
    let why : IsStoppedBy (first_overflow (sum_of (coefficient_in at.table t.1) t.0 ∷ [])) c.in_err-add_term.field-0.0 = search rules in
    err_whole c.from_residual.result _
    (λ e same.
    table-fault c.args.table.now c.requires.ordered c.requires.running c.args.terms c.requires.shaped (coefficient_in at.table) at.yielded t more splits at.invariant.coefficients
    (at.invariant.rest ∙ ap (λ l. first_overflow (sums_with (coefficient_in c.args.table.now) l)) steps) e
    (stop-explains (sum_of (coefficient_in at.table t.1) t.0 ∷ []) t.0 c.in_err-add_term.field-0.0 e why same))
    c.from_residual.ensures.1

pub returns-clause-exact : goal.returns-clause-exact
returns-clause-exact c =
    let at = c.loop-coefficient in
    let start = coefficient_in c.args.table.now in
    let empty : into_iter_items at.coefficient-iterator ≡ [] = nil_from_length _ (sym at.invariant.left ∙ c.in-None.ensures.steps.0) in
    let all : at.yielded ≡ c.args.terms = sym (append-nil at.yielded) ∙ rw empty at at.invariant.splits in
    table-sum c.args.table.now c.requires.ordered c.requires.running c.args.terms c.requires.shaped at.table at.invariant.ordered
    (λ w. at.invariant.coefficients w ∙ ap (λ l. start w +ℤ coefficient_of l w) all)
    (at.invariant.rest ∙ ap (λ l. first_overflow (sums_with start l)) empty)
