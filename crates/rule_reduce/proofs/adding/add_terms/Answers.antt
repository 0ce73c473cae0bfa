use Rattle.rule_reduce.proofs.Prelude.{rules, ◌≡◌, [], Ok, sym, ap, ap₂, ◌∙◌, nil_from_length, sum_from}
use Rattle.rule_reduce.proofs.InPlace.{all_added}
use Rattle.rule_reduce.proofs.adding.add_terms.Goals as goal

pub returns-then-len-eq0 : goal.returns-then-len-eq0
returns-then-len-eq0 c =
    let place = c.in_ok-place.place in
    let sum = c.add_in_place.new.terms.items in
    let rest : c.from_vec-rest.result ≡ c.add_in_place.new.others.items = search rules in
    let none : c.from_vec-rest.result ≡ [] = nil_from_length c.from_vec-rest.result (search rules) in
    let terms : c.into_vec-sum.result.items ≡ c.args.terms = search rules in
    let others : c.from_vec-others.result.items ≡ c.args.others = search rules in
    let made : c.from_vec.result ≡ sum = search rules in
    ap₂ (sum_from 0) (sym terms) (sym others) ∙ c.in_ok-place.ensures.exact ∙ ap (sum_from place sum) (sym rest ∙ none)
    ∙ all_added place sum c.in_ok-place.ensures.shaped ∙ ap Ok (sym made)
