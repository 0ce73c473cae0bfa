use Rattle.rule_reduce.proofs.Prelude.{rules, ◌≡◌, ◌≤◌, IsSome, ℕ, List, Option, Some, None, sym, refl, ap, ◌∙◌, Ordering, Less, Equal, Greater, Term, by_order, match_of, Compare, Choice, better_choice, choice_or}
use Rattle.rule_reduce.proofs.Measures.{keeps_choice}
use Rattle.rule_reduce.proofs.choosing.improve.Goals as goal

-- a term in whose word nothing occurs changes no choice
choice_stays : (compare : Compare) (entries : List (List ℕ × ℕ)) (best : Option Choice) (t : Term) → match_of entries t.1 ≡ None → best ≡ better_choice compare entries best t
choice_stays compare entries None t none = ap (λ m. choice_or t m None) (sym none)
choice_stays compare entries (Some best) t none =
    sym (ap (λ m. by_order (compare t.1 best.word) (Some best) (Some best) (choice_or t m (Some best))) none ∙ any_order (compare t.1 best.word))
  where
    any_order : (o : Ordering) → by_order o (Some best) (Some best) (Some best) ≡ Some best
    any_order Less = refl
    any_order Equal = refl
    any_order Greater = refl

pub returns-then-measure-best-clause-better : goal.returns-then-measure-best-clause-better
returns-then-measure-best-clause-better g c =
    let order = c.args.order.now in
    let measure = g.O.WordOrder.measure_of order in
    let some : IsSome c.args.best.found = search rules in
    let less : measure c.args.term.now.1 ≤ c.args.best.measure = search rules in
    keeps_choice (g.O.WordOrder.compare order) measure (λ u v. g.met.O.WordOrder.by_measure order u v) c.args.index.now c.args.best.found c.args.term.now c.args.best.measure some less c.requires.most c.requires.behind

pub returns-in-None-clause-better : goal.returns-in-None-clause-better
returns-in-None-clause-better g c =
    choice_stays (g.O.WordOrder.compare c.args.order.now) c.args.index.now c.args.best.found (c.args.term.now.0, c.args.term.now.1) (sym c.first_match.ensures ∙ c.in-None.is)
