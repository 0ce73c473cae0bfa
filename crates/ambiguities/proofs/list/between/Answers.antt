use Rattle.ambiguities.proofs.Prelude.{rules, ◌≡◌, ◌↔◌, ◌≤◌, ◌<◌, List, IfOk, length, sym, subst, All, IfOk-weaker, Rule, Ambiguity, IsBefore, ListsExactly, IsAmbiguityFrom, Contains}
use Rattle.ambiguities.proofs.Leads.{short_leads, nonempty_leads}
use Rattle.ambiguities.proofs.list.between.Goals as goal

pub list_all-requires-clause-short : goal.list_all-requires-clause-short
list_all-requires-clause-short g c =
    let all = c.args.rules.now.rules in
    let same : c.as_slice.result.now ≡ all = search rules in
    subst (All (λ (f : Rule). length f.lead ≤ 500)) (sym same) (short_leads (g.O.WordOrder.letters c.args.rules.now.order) (g.O.WordOrder.compare c.args.rules.now.order) all c.args.rules.now.each)

pub list_all-requires-clause-nonempty : goal.list_all-requires-clause-nonempty
list_all-requires-clause-nonempty g c =
    let all = c.args.rules.now.rules in
    let same : c.as_slice.result.now ≡ all = search rules in
    subst (All (λ (f : Rule). 0 < length f.lead)) (sym same) (nonempty_leads (g.O.WordOrder.letters c.args.rules.now.order) (g.O.WordOrder.compare c.args.rules.now.order) all c.args.rules.now.each)

pub returns-clause-members : goal.returns-clause-members
returns-clause-members g c =
    let same : c.as_slice.result.now ≡ c.args.rules.now.rules = search rules in
    let exact : IfOk c.list_all.result (ListsExactly IsBefore (IsAmbiguityFrom c.args.from c.as_slice.result.now)) = search rules in
    IfOk-weaker c.list_all.result _ _
    (λ (found : List Ambiguity) (listed : ListsExactly IsBefore (IsAmbiguityFrom c.args.from c.as_slice.result.now) found).
    subst (λ (rs : List Rule). (a : Ambiguity) → Contains found a ↔ IsAmbiguityFrom c.args.from rs a) same listed.members) exact
