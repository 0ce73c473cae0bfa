use Rattle.command_shape.proofs.Prelude.{subst, sym, IfOk, rows_of, found_of, GivesCall}
use Rattle.command_shape.proofs.Getters.{is_prove, is_refute, is_bench, is_evidence}
use Rattle.command_shape.proofs.read.call_of.Goals as goal

pub prove_of-requires : goal.prove_of-requires
prove_of-requires c = is_prove c.args.name.now (rows_of (found_of c.args.matches.now)) c.requires c.in-prove.is

pub returns-in-prove : goal.returns-in-prove
returns-in-prove c = subst (λ n. IfOk c.prove_of.result (λ call. GivesCall n (rows_of (found_of c.args.matches.now)) call)) (sym c.in-prove.is) c.prove_of.ensures

pub refute_of-requires : goal.refute_of-requires
refute_of-requires c = is_refute c.args.name.now (rows_of (found_of c.args.matches.now)) c.requires c.in-refute.is

pub returns-in-refute : goal.returns-in-refute
returns-in-refute c = subst (λ n. IfOk c.refute_of.result (λ call. GivesCall n (rows_of (found_of c.args.matches.now)) call)) (sym c.in-refute.is) c.refute_of.ensures

pub bench_of-requires : goal.bench_of-requires
bench_of-requires c = is_bench c.args.name.now (rows_of (found_of c.args.matches.now)) c.requires c.in-bench.is

pub returns-in-bench : goal.returns-in-bench
returns-in-bench c = subst (λ n. GivesCall n (rows_of (found_of c.args.matches.now)) c.bench_of.result) (sym c.in-bench.is) c.bench_of.ensures

pub evidence_of-requires-clause-named : goal.evidence_of-requires-clause-named
evidence_of-requires-clause-named c =
    let other = c.in_default in
    (is_evidence c.args.name.now (rows_of (found_of c.args.matches.now)) c.requires other.not-prove other.not-refute other.not-bench).0

pub evidence_of-requires-clause-files : goal.evidence_of-requires-clause-files
evidence_of-requires-clause-files c =
    let other = c.in_default in
    (is_evidence c.args.name.now (rows_of (found_of c.args.matches.now)) c.requires other.not-prove other.not-refute other.not-bench).1
