use Rattle.command_runs.proofs.Prelude.{refl, subst, List, ℕ, take, arith, Appends, Rose, written_of, in_part}
use Rattle.command_runs.proofs.Prefix.{whole_prefix}
use Rattle.command_runs.proofs.whole_run.put_ending.Goals as goal

-- a put failed
pub returns-in-Err : goal.returns-in-Err
returns-in-Err g c =
    let old = g.K.Sink.written c.args.sink.now in
    let new = g.K.Sink.written c.put_all.new.sink in
    let count : ℕ = written_of c.in-Err.field-0 in
    in_part refl c.in-Err.ensures.cause count (subst (λ (l : List ℕ). Appends old new (take count l)) c.report.ensures c.in-Err.ensures.first)

-- the whole report was put, and the finish failed
pub returns-in-Err-finish : goal.returns-in-Err-finish
returns-in-Err-finish g c =
    let old = g.K.Sink.written c.args.sink.now in
    let mid = g.K.Sink.written c.put_all.new.sink in
    let put : Appends old mid c.args.ending.now.report = subst (λ (l : List ℕ). Appends old mid l) c.report.ensures c.in-Ok.ensures.all in
    let rose : Rose (g.K.Sink.faults c.args.sink.now) (g.K.Sink.faults c.finish.new.self) = omega (arith, c.put_all.ensures.count, c.in-Err-finish.ensures.cause) in
    let first = whole_prefix old mid (g.K.Sink.written c.finish.new.self) c.args.ending.now.report put c.in-Err-finish.ensures.appended in
    in_part refl rose first.0 first.1
