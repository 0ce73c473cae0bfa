use Rattle.closed_checker.proofs.Prelude.{rules, ◌≡◌, ◌<◌, ◌^◌, List, length, sym, subst, All, AllPairs, IfOk-weaker, Rule, Ambiguity, Lead, ListsEachOnce, IsOfFirsts, IsTableOf, StandsBefore}
use Rattle.closed_checker.proofs.LeadRules.{words_nonempty, words_short, ambiguities-of}
use Rattle.closed_checker.proofs.list.find_ambiguities.Goals as goal

pub find_all-requires : goal.find_all-requires
find_all-requires g c =
    let order = c.args.rules.now.order in
    let all = c.args.rules.now.rules in
    let table : List Lead = c.in_ok-table.table.items in
    let same : c.as_slice.result.now ≡ all = search rules in
    let of : IsTableOf all table = subst (λ (rs : List Rule). IsTableOf rs table) same c.in_ok-table.ensures in
    let read : c.as_slice-2.result.now ≡ table = search rules in
    let letters = g.O.WordOrder.letters order in
    let compare = g.O.WordOrder.compare order in
    record {
      sorted = subst (AllPairs StandsBefore) (sym read) of.ascending;
      nonempty = subst (All (λ (l : Lead). 0 < length l.letters)) (sym read) (words_nonempty all table of letters compare c.args.rules.now.each);
      short = subst (All (λ (l : Lead). length l.letters < 2 ^ 32)) (sym read) (words_short all table of letters compare c.args.rules.now.each);
    }

pub returns : goal.returns
returns g c =
    let all = c.args.rules.now.rules in
    let table : List Lead = c.in_ok-table.table.items in
    let same : c.as_slice.result.now ≡ all = search rules in
    let of : IsTableOf all table = subst (λ (rs : List Rule). IsTableOf rs table) same c.in_ok-table.ensures in
    let read : c.as_slice-2.result.now ≡ table = search rules in
    IfOk-weaker c.find_all.result _ _
    (λ (found : List Ambiguity) exact. ambiguities-of all table of found (subst (λ (ts : List Lead). ListsEachOnce (IsOfFirsts ts ts) found) read exact))
    c.find_all.ensures
