use Rattle.ambiguities.proofs.Prelude.{rules, ◌≡◌, ◌≢◌, length, Some, arith, rule_at, Overlap, Inclusion, IsAgreement, IsGrown}
use Rattle.ambiguities.proofs.Pairs.{grown-overlaps, grown-inclusions, grown-both, grown-itself}
use Rattle.ambiguities.proofs.list.push_pair.Goals as goal

pub returns-in_ok-push_places-2 : goal.returns-in_ok-push_places-2
returns-in_ok-push_places-2 c =
    let all = c.args.rules.now in
    let i = c.args.i in
    let j = c.args.j in
    let g = c.rule_with.result.now in
    let h = c.rule_with-2.result.now in
    let p = g.lead in
    let q = h.lead in
    let old = c.args.found.now in
    let mid = c.push_places.new.found in
    let new = c.push_places-then-i-j.new.found in
    let first : rule_at all i ≡ Some g = search rules in
    let second : rule_at all j ≡ Some h = search rules in
    let apart : i ≢ j = search rules in
    let low = c.max.result in
    let high = c.saturating_sub-ends.result in
    let overlaps : IsGrown (IsAgreement i j Overlap p q low (length p)) old mid = search rules in
    let inclusions : IsGrown (IsAgreement i j Inclusion p q 0 high) mid new = search rules in
    grown-both all i j g h first second old mid new
    (grown-overlaps all i j g h first second low old mid (omega arith) (omega arith) (λ n some longer. omega (arith, some, longer)) overlaps)
    (grown-inclusions all i j g h first second high mid new apart (λ n below. omega (arith, below)) (λ n fits. omega (arith, fits)) inclusions)

pub returns-else-i-j : goal.returns-else-i-j
returns-else-i-j c =
    let all = c.args.rules.now in
    let i = c.args.i in
    let j = c.args.j in
    let g = c.rule_with.result.now in
    let h = c.rule_with-2.result.now in
    let old = c.args.found.now in
    let new = c.push_places.new.found in
    let first : rule_at all i ≡ Some g = search rules in
    let second : rule_at all j ≡ Some h = search rules in
    let low = c.max.result in
    let overlaps : IsGrown (IsAgreement i j Overlap g.lead h.lead low (length g.lead)) old new = search rules in
    grown-itself all i j g h first second old new c.if-i-j.false
    (grown-overlaps all i j g h first second low old new (omega arith) (omega arith) (λ n some longer. omega (arith, some, longer)) overlaps)
