use Rattle.model_search.proofs.Prelude.{◌≡◌, ◌<◌, ◌≤◌, ◌+◌, length, get_or, not, Option, None, IsNone, refl, sym, ap, subst, ◌∙◌, arith, true≢false, get_or_default, Found, IsSearchedTo}
use Rattle.model_search.proofs.Blocks.{told_from_tested}
use Rattle.model_search.proofs.SearchSteps.{noted_more, noted_same, searched_further, searched_once}
use Rattle.model_search.proofs.candidate_search.note.Goals as goal
use Rattle.model_search.proofs.candidate_search.note.Goals.{then-is_none+in_ok-found+in-Some-1, then-is_none+in_ok-found+in-None-1, else-is_none}

pub loop-place-init : goal.loop-place-init
loop-place-init c = record {
  one_each = c.requires.before.one_each;
  passed = λ place below. absurd (omega (arith, below));
  others = λ place past. refl;
}

pub found_among-requires-clause-told : goal.found_among-requires-clause-told
found_among-requires-clause-told c =
    let pass = c.args.pass.now in
    let at = c.loop-place in
    let old = c.args.found.now in
    let one : Option Found = c.index-found-place.result in
    let within : at.place < length pass.claims.now = c.loop-place-test.true in
    let here : get_or at.found at.place None ≡ one =
    get_or_default at.found at.place None one (omega (arith, within, at.invariant.one_each)) ∙ sym c.index-found-place.is in
    let none : IsNone one = subst IsNone (sym c.index-found-place.is) (c.is_none.ensures ∙ ap not c.if-is_none.true) in
    told_from_tested pass.problem.now pass.seed pass.plan.now.number pass.claims.now old c.args.first at.place c.args.answers.now c.requires.tested within
    (subst IsNone (sym here ∙ at.invariant.others at.place (omega arith)) none)

pub loop-place-preserved : goal.loop-place-preserved
loop-place-preserved c =
    let pass = c.args.pass.now in
    let problem = pass.problem.now in
    let number = pass.plan.now.number in
    let n = length c.args.answers.now in
    let claims = pass.claims.now in
    let at = c.loop-place in
    let old = c.args.found.now in
    let claim = get_or claims at.place 0 in
    let one : Option Found = c.index-found-place.result in
    let within : at.place < length claims = c.loop-place-test.true in
    let here : get_or at.found at.place None ≡ one =
    get_or_default at.found at.place None one (omega (arith, within, at.invariant.one_each)) ∙ sym c.index-found-place.is in
    let was : get_or at.found at.place None ≡ get_or old at.place None = at.invariant.others at.place (omega arith) in
    let before : IsSearchedTo problem claim pass.seed number c.args.first one =
    subst (IsSearchedTo problem claim pass.seed number c.args.first) (sym was ∙ here) (c.requires.before.each at.place within) in
    elim c.if-is_none.branch [
      | then-is_none+in_ok-found+in-Some-1 w ↦
          noted_more problem pass.seed number (c.args.first + n) claims old at.found at.place at.invariant c.if-is_none.found w.in_ok-found.field-0 w.found-is
          within
          (searched_further problem claim pass.seed number c.args.first n one w.in_ok-found.field-0 (subst IsNone (sym c.index-found-place.is) (c.is_none.ensures ∙ ap not w.if-is_none.true)) before
          w.in_ok-found.ensures)
      | then-is_none+in_ok-found+in-None-1 w ↦
          noted_more problem pass.seed number (c.args.first + n) claims old at.found at.place at.invariant c.if-is_none.found w.in_ok-found.field-0 w.found-is
          within
          (searched_further problem claim pass.seed number c.args.first n one w.in_ok-found.field-0 (subst IsNone (sym c.index-found-place.is) (c.is_none.ensures ∙ ap not w.if-is_none.true)) before
          w.in_ok-found.ensures)
      | else-is_none w ↦
          noted_same problem pass.seed number (c.args.first + n) claims old at.found at.place at.invariant c.if-is_none.found w.found-is
          (subst (IsSearchedTo problem claim pass.seed number (c.args.first + n)) (sym here)
          (searched_once problem claim pass.seed number c.args.first number (c.args.first + n) one
          (λ none. true≢false (sym (c.is_none.ensures ∙ ap not w.if-is_none.false) ∙ subst IsNone c.index-found-place.is none)) before))
    ]

pub returns : goal.returns
returns c =
    let all : length c.args.pass.now.claims.now ≤ c.loop-place.place = omega (arith, c.loop-place-test.false) in
    record {
      one_each = c.loop-place.invariant.one_each;
      each = λ place within. c.loop-place.invariant.passed place (omega (arith, within, all));
    }
