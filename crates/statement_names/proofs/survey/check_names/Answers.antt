use Rattle.statement_names.proofs.Prelude.{◌≡◌, ◌∙◌, [], Some, Ok, Err, rules, arith, ap, sym, subst, result_err, common_steps, map_limit_of, statement_occurrences, occurrences_of, Explains, Gives, kind_in, declared_in, name_fault_of, run}
use Rattle.statement_names.proofs.Bridge.{begun, begun_agrees, first_same}
use Rattle.statement_names.proofs.Runs.{items_end}
use Rattle.statement_names.proofs.survey.check_names.Goals as goal

pub returns-in-Err-clause-err : goal.returns-in-Err-clause-err
returns-in-Err-clause-err c =
    let first = begun c.map_limit_of-map_limit.result c.in_ok-kinds_of.field-0 in
    let os = occurrences_of c.args.statements.now in
    let agrees = begun_agrees c.map_limit_of-map_limit.result (map_limit_of c.args.statements.now) os c.in_ok-kinds_of.field-0 c.map_limit_of-map_limit.ensures c.in_ok-kinds_of.ensures in
    let told : Gives {X = Unit {0}} (λ done. c.statement.new.self) (Err c.in-Err.stop) (run c.loop-statement.survey (statement_occurrences c.statement-item.result)) =
    search rules in
    let whole : Explains (λ fault. name_fault_of c.args.statements.now ≡ Some fault) c.in-Err.stop =
    subst (λ found. Explains (λ fault. found ≡ Some fault) c.in-Err.stop) (sym (first_same (map_limit_of c.args.statements.now) (kind_in (declared_in os)) [] first os agrees))
    (items_end statement_occurrences c.args.statements.now c.loop-statement.statement-index c.statement-item.result c.loop-statement-test.true c.statement-item.is
    first c.loop-statement.survey c.statement.new.self c.in-Err.stop c.loop-statement.invariant told) in
    search rules

pub returns-clause-ok : goal.returns-clause-ok
returns-clause-ok c =
    let first = begun c.map_limit_of-map_limit.result c.in_ok-kinds_of.field-0 in
    let os = occurrences_of c.args.statements.now in
    let agrees = begun_agrees c.map_limit_of-map_limit.result (map_limit_of c.args.statements.now) os c.in_ok-kinds_of.field-0 c.map_limit_of-map_limit.ensures c.in_ok-kinds_of.ensures in
    let done : run first (occurrences_of c.args.statements.now) ≡ Ok c.loop-statement.survey = grind (arith, common_steps) in
    first_same (map_limit_of c.args.statements.now) (kind_in (declared_in os)) [] first os agrees ∙ ap result_err done
