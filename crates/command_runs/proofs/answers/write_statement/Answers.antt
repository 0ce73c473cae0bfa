use Rattle.command_runs.proofs.Prelude.{◌≡◌, ◌∙◌, ◌≤◌, ℕ, List, IfOk, length, sym, subst, ap, rules, arith, IfOk-weaker, IsInRange, Call, Bench, bench_statement, statement_limit, bench_fits, written_by}
use Rattle.command_runs.proofs.Commands.{no_file_written}
use Rattle.command_runs.proofs.answers.write_statement.Goals as goal

pub returns-in-Bench-clause-written : goal.returns-in-Bench-clause-written
returns-in-Bench-clause-written c =
    let written : IfOk c.write_bench.result (λ text. text.items ≡ bench_statement c.in-Bench.bench.size) = search rules in
    subst (λ (call : Call). IfOk c.write_bench.result (λ text. text.items ≡ written_by call)) (sym c.in-Bench.is) written

-- the statement of `bench` is within its limit
pub returns-in-Bench-clause-fits : goal.returns-in-Bench-clause-fits
returns-in-Bench-clause-fits c =
    let size : ℕ = c.in-Bench.bench.size in
    let in_range : IsInRange (Bench c.in-Bench.bench) = subst IsInRange c.in-Bench.is c.requires in
    let written : IfOk c.write_bench.result (λ text. text.items ≡ bench_statement size) = search rules in
    IfOk-weaker c.write_bench.result (λ text. text.items ≡ bench_statement size) (λ text. length text.items ≤ statement_limit)
    (λ x h. subst (λ (t : List ℕ). length t ≤ statement_limit) (sym h) (bench_fits size in_range.0.1)) written

-- the other calls have files
pub returns-in_default : goal.returns-in_default
returns-in_default c = record {
  written = c.new.ensures.items ∙ sym (no_file_written c.args.call.now c.in_default.not-Bench);
  fits = let none = ap length c.new.ensures.items in omega (arith, none);
}
