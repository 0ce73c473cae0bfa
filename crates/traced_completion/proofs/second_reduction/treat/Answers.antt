use Rattle.traced_completion.proofs.Prelude.{rules, ◌≡◌, ◌<◌, length, Err, sym, subst, All, IsOver, Poly, Memory, second_rows, rows_operations, plain, plain_first, IsKept, Recorded, IsExtended, AreNamed}
use Rattle.traced_completion.proofs.RowChains.{value_of}
use Rattle.traced_completion.proofs.SecondWorks.{nothing_first, nothing_second, second_fault, rows_fault, second_made}
use Rattle.traced_completion.proofs.Records.{second_named}
use Rattle.traced_completion.proofs.second_reduction.treat.Goals as goal

pub push_rule-requires-clause-rows : goal.push_rule-requires-clause-rows
push_rule-requires-clause-rows g c =
    let given = c.args.rules.now in
    let f = plain_first c.args.first in
    let s = plain c.in-Ok.second in
    let second : IsKept (g.O.WordOrder.letters given.order) (length given.rules) s = c.in-Ok.ensures.kept in
    let is = value_of (rows_operations f s) (second_rows f s) c.in-Ok-record_rows.record.1 c.in-Ok-record_rows.ensures.exact in
    record {
      in_range = c.in-Ok-record_rows.ensures.in_range;
      named = subst (AreNamed (length given.rules)) is (second_named (g.O.WordOrder.letters given.order) (length given.rules) f s c.requires.kept second);
    }

pub returns-in_err-push_rule-clause-records : goal.returns-in_err-push_rule-clause-records
returns-in_err-push_rule-clause-records g c =
    let back : c.from_residual.result ≡ Err (Memory c.in_err-push_rule.field-0.0) = search rules in
    rw back tt

pub returns-in_err-push_rule-clause-exact : goal.returns-in_err-push_rule-clause-exact
returns-in_err-push_rule-clause-exact g c =
    let back : c.from_residual.result ≡ Err (Memory c.in_err-push_rule.field-0.0) = search rules in
    rw back tt

pub reduce-requires-clause-over : goal.reduce-requires-clause-over
reduce-requires-clause-over g c = c.requires.kept.reduced.over

pub reduce-requires-clause-nonempty : goal.reduce-requires-clause-nonempty
reduce-requires-clause-nonempty g c = c.requires.kept.reduced.nonempty

pub record_rows-requires-clause-rows_in : goal.record_rows-requires-clause-rows_in
record_rows-requires-clause-rows_in g c = c.requires.kept.rows.in_range

pub record_rows-requires-clause-first_in : goal.record_rows-requires-clause-first_in
record_rows-requires-clause-first_in g c = c.requires.kept.reduced.multiplier

pub record_rows-requires-clause-first_rows_in : goal.record_rows-requires-clause-first_rows_in
record_rows-requires-clause-first_rows_in g c = c.requires.kept.reduced.rows.in_range

pub record_rows-requires-clause-second_rows_in : goal.record_rows-requires-clause-second_rows_in
record_rows-requires-clause-second_rows_in g c = c.in-Ok.ensures.kept.rows.in_range

pub push_rule-requires-clause-over : goal.push_rule-requires-clause-over
push_rule-requires-clause-over g c =
    subst (λ (q : Poly). All (λ t. IsOver (g.O.WordOrder.letters c.args.rules.now.order) t.1) q.terms) (sym c.in-Ok-record_rows.ensures.rest) c.in-Ok.ensures.kept.over

pub push_rule-requires-clause-nonempty : goal.push_rule-requires-clause-nonempty
push_rule-requires-clause-nonempty g c = subst (λ (q : Poly). All (λ t. 0 < length t.1) q.terms) (sym c.in-Ok-record_rows.ensures.rest) c.in-Ok.ensures.kept.nonempty

pub push_rule-requires-clause-records : goal.push_rule-requires-clause-records
push_rule-requires-clause-records g c = c.requires.records

pub returns-then-terms-eq0-clause-exact : goal.returns-then-terms-eq0-clause-exact
returns-then-terms-eq0-clause-exact g c =
    let given = c.args.rules.now in
    let none : length c.args.first.reduced.rest.terms ≡ 0 = search rules in
    nothing_first (g.O.WordOrder.compare given.order) c.args.steps given.rules (plain_first c.args.first) (record { rules = given.rules; made = c.args.made.now }) none

pub returns-then-terms-eq0-2-clause-exact : goal.returns-then-terms-eq0-2-clause-exact
returns-then-terms-eq0-2-clause-exact g c =
    let given = c.args.rules.now in
    let some : 0 < length c.args.first.reduced.rest.terms = search rules in
    let none : length c.in-Ok.second.rest.terms ≡ 0 = search rules in
    nothing_second (g.O.WordOrder.compare given.order) c.args.steps given.rules (plain_first c.args.first) some (plain c.in-Ok.second) c.in-Ok.ensures.exact (record { rules = given.rules; made = c.args.made.now }) none

pub returns-in-Err-clause-fault : goal.returns-in-Err-clause-fault
returns-in-Err-clause-fault g c =
    let given = c.args.rules.now in
    let some : 0 < length c.args.first.reduced.rest.terms = search rules in
    second_fault (g.O.WordOrder.compare given.order) c.args.steps given.rules (plain_first c.args.first) some c.in-Err.fault c.in-Err.ensures.exact

pub returns-in-Err-record_rows-clause-fault : goal.returns-in-Err-record_rows-clause-fault
returns-in-Err-record_rows-clause-fault g c =
    let given = c.args.rules.now in
    let some : 0 < length c.args.first.reduced.rest.terms = search rules in
    let more : 0 < length c.in-Ok.second.rest.terms = search rules in
    rows_fault (g.O.WordOrder.compare given.order) c.args.steps given.rules (plain_first c.args.first) some (plain c.in-Ok.second) c.in-Ok.ensures.exact more c.in-Err-record_rows.fault c.in-Err-record_rows.ensures.exact

pub returns-clause-exact : goal.returns-clause-exact
returns-clause-exact g c =
    let given = c.args.rules.now in
    let compare = g.O.WordOrder.compare given.order in
    let some : 0 < length c.args.first.reduced.rest.terms = search rules in
    let more : 0 < length c.in-Ok.second.rest.terms = search rules in
    let before : Recorded = record { rules = given.rules; made = c.args.made.now } in
    let after : Recorded = record { rules = c.push_rule.new.rules.rules; made = c.push_rule.new.made } in
    let extended : IsExtended compare (record { polynomial = c.in-Ok.second.rest.terms; rows = c.in-Ok-record_rows.record.1 }) before after =
    subst (λ (q : Poly). IsExtended compare (record { polynomial = q.terms; rows = c.in-Ok-record_rows.record.1 }) before after) c.in-Ok-record_rows.ensures.rest c.in_ok-push_rule.ensures.exact in
    second_made compare c.args.steps given.rules (plain_first c.args.first) some (plain c.in-Ok.second) c.in-Ok.ensures.exact more c.in-Ok-record_rows.record.1 before after c.in-Ok-record_rows.ensures.exact extended

pub returns-clause-records : goal.returns-clause-records
returns-clause-records g c = c.in_ok-push_rule.ensures.records

pub returns-in_err-push_rule-clause-fault : goal.returns-in_err-push_rule-clause-fault
returns-in_err-push_rule-clause-fault g c =
    let back : c.from_residual.result ≡ Err (Memory c.in_err-push_rule.field-0.0) = search rules in
    rw back tt

pub returns-in_err-push_rule-clause-rules_back : goal.returns-in_err-push_rule-clause-rules_back
returns-in_err-push_rule-clause-rules_back g c =
    let back : c.from_residual.result ≡ Err (Memory c.in_err-push_rule.field-0.0) = search rules in
    rw back c.in_err-push_rule.ensures.rules_back

pub returns-in_err-push_rule-clause-made_back : goal.returns-in_err-push_rule-clause-made_back
returns-in_err-push_rule-clause-made_back g c =
    let back : c.from_residual.result ≡ Err (Memory c.in_err-push_rule.field-0.0) = search rules in
    rw back c.in_err-push_rule.ensures.made_back
