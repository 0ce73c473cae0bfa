use Rattle.rule_reduce.proofs.Prelude.{rules, ◌≡◌, ◌+◌, ◌<◌, ◌∷◌, length, drop, Some, None, sym, ap, subst, ◌∙◌, arith, All, Greater, Term, word_cmp, drop_next, Descends, recursion_from_IsDescending, match_of, Choice, choice_or, choice_from}
use Rattle.rule_reduce.proofs.FirstChoices.{passed_by, first_stays}
use Rattle.rule_reduce.proofs.InPlace.{shaped-drop}
use Rattle.rule_reduce.proofs.choosing.first_choice.Goals as goal

pub loop-place-init : goal.loop-place-init
loop-place-init c =
    let p = c.args.terms.now in
    let n = c.args.from in
    record {
      within = c.requires.in_range;
      descends = recursion_from_IsDescending (drop n p) (shaped-drop n p c.requires.canonical.shaped).descending;
      same = λ compare plain. passed_by compare c.args.index.now n p c.requires.settled;
    }

pub loop-place-preserved : goal.loop-place-preserved
loop-place-preserved c =
    let p = c.args.terms.now in
    let i = c.loop-place.place in
    let entries = c.args.index.now in
    let t : Term = c.index-terms-place.result in
    let inside : i < length p = search rules in
    let next : drop i p ≡ t ∷ drop (i + 1) p = drop_next p i t inside c.index-terms-place.is in
    let none : match_of entries t.1 ≡ None = search rules in
    record {
      within = omega (arith, inside);
      descends = (subst Descends next c.loop-place.invariant.descends).1;
      same = λ compare plain.
          ap (λ m. choice_from compare entries (choice_or t m None) (drop (i + 1) p)) (sym none)
          ∙ ap (choice_from compare entries None) (sym next) ∙ c.loop-place.invariant.same compare plain;
    }

pub returns-in-Some : goal.returns-in-Some
returns-in-Some c =
    let p = c.args.terms.now in
    let i = c.loop-place.place in
    let entries = c.args.index.now in
    let t : Term = c.index-terms-place.result in
    let choice : Choice = record { coefficient = t.0; word = t.1; number = c.in-Some.number; place = c.in-Some.place } in
    let found : match_of entries t.1 ≡ Some (c.in-Some.number, c.in-Some.place) = search rules in
    let inside : i < length p = search rules in
    let next : drop i p ≡ t ∷ drop (i + 1) p = drop_next p i t inside c.index-terms-place.is in
    let below : All (λ u. word_cmp t.1 u.1 ≡ Greater) (drop (i + 1) p) = (subst Descends next c.loop-place.invariant.descends).0 in
    λ compare plain.
    sym (first_stays compare entries plain choice (drop (i + 1) p) below)
    ∙ ap (λ m. choice_from compare entries (choice_or t m None) (drop (i + 1) p)) (sym found)
    ∙ ap (choice_from compare entries None) (sym next)
    ∙ c.loop-place.invariant.same compare plain
