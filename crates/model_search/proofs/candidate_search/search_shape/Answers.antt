use Rattle.model_search.proofs.Prelude.{◌≡◌, ◌<◌, ◌≤◌, ◌+◌, length, get_or, None, sym, ap, subst, ◌∙◌, arith, list_any, take_at, quiver_of, candidate_count, shape_of_number, AreSearchedTo, IsSearchedTo}
use Rattle.model_search.proofs.Blocks.{answers_are, tested_moved}
use Rattle.model_search.proofs.SearchSteps.{searched_shape, searched_whole}
use Rattle.model_search.proofs.candidate_search.search_shape.Goals as goal

-- each claim has its candidate
pub returns-then-not-is_open : goal.returns-then-not-is_open
returns-then-not-is_open g c =
    let pass = c.args.pass.now in
    let found = c.loop-first.found.items in
    searched_whole pass.problem.now pass.seed pass.plan.now.number c.loop-first.first (pass.plan.now.number + 1) 0 pass.claims.now found
    (ap (list_any _) (sym c.deref.ensures.value) ∙ sym c.is_open.ensures ∙ c.if-not-is_open.true) c.loop-first.invariant.searched

pub answers_of-requires-clause-inside : goal.answers_of-requires-clause-inside
answers_of-requires-clause-inside g c κs alive k below =
    let pass = c.args.pass.now in
    let s = shape_of_number pass.problem.now pass.plan.now.number c.requires.plan.least c.requires.plan.most in
    let exact : c.candidates-count.result ≡ candidate_count (quiver_of pass.problem.now.parts.quiver) s.shape = c.candidates-count.ensures.exact s.shape s.is in
    let size : c.loop-first.first + c.min-size.result ≤ c.candidates-count.result = omega (arith, c.min-size.ensures, c.loop-first-test.true) in
    record {
      claims_are = c.requires.claims;
      plan_is = c.requires.plan;
      shape = s.shape;
      numbered = s.is;
      in_range = subst (λ n. k < n) exact (omega (arith, below, size));
    }

pub note-requires-clause-fits : goal.note-requires-clause-fits
note-requires-clause-fits g c =
    let pass = c.args.pass.now in
    let size : c.loop-first.first + c.min-size.result ≤ c.candidates-count.result = omega (arith, c.min-size.ensures, c.loop-first-test.true) in
    let few : c.candidates-count.result ≤ 65536 = c.candidates-count.ensures.few in
    let long = answers_are pass.problem.now pass.seed pass.plan.now.number pass.claims.now _ c.loop-first.first c.min-size.result _ c.in_ok-answers.ensures in
    let same = ap length c.deref-in-loop-first-2.ensures.value in
    omega (arith, size, few, long, same)

pub note-requires-clause-tested : goal.note-requires-clause-tested
note-requires-clause-tested g c =
    let pass = c.args.pass.now in
    tested_moved pass.problem.now pass.seed pass.plan.now.number pass.claims.now _ c.deref_mut.result.now c.loop-first.first c.min-size.result _
    c.deref-in-loop-first-2.result.now (c.deref_mut.ensures.value ∙ sym c.deref-in-loop-first.ensures.value) c.deref-in-loop-first-2.ensures.value
    c.in_ok-answers.ensures

pub loop-first-preserved : goal.loop-first-preserved
loop-first-preserved g c =
    let pass = c.args.pass.now in
    let new = c.note.new.found in
    let searched : AreSearchedTo pass.problem.now pass.seed pass.plan.now.number (c.loop-first.first + length c.deref-in-loop-first-2.result.now) pass.claims.now new =
    c.in_ok-note.ensures in
    let long = answers_are pass.problem.now pass.seed pass.plan.now.number pass.claims.now _ c.loop-first.first c.min-size.result _ c.in_ok-answers.ensures in
    let count : length c.deref-in-loop-first-2.result.now ≡ c.min-size.result = ap length c.deref-in-loop-first-2.ensures.value ∙ long in
    let size : length new ≡ c.loop-first.found.len =
    searched.one_each ∙ sym c.loop-first.invariant.searched.one_each ∙ sym c.loop-first.found.ok.0 in
    record {
      within = omega (arith, c.min-size.ensures, c.loop-first-test.true);
      searched = subst (AreSearchedTo pass.problem.now pass.seed pass.plan.now.number (c.loop-first.first + c.min-size.result) pass.claims.now)
          (sym (take_at new _ _ size))
          (subst (λ n. AreSearchedTo pass.problem.now pass.seed pass.plan.now.number (c.loop-first.first + n) pass.claims.now new) count searched);
    }

-- all candidates are searched
pub returns : goal.returns
returns g c =
    let pass = c.args.pass.now in
    let is = c.loop-first.invariant.searched in
    let end : c.loop-first.first ≡ c.candidates-count.result = omega (arith, c.loop-first.invariant.within, c.loop-first-test.false) in
    record {
      one_each = is.one_each;
      each = λ place within. searched_shape pass.problem.now (get_or pass.claims.now place 0) pass.seed pass.plan.now.number c.candidates-count.result
          (get_or c.loop-first.found.items place None) c.candidates-count.ensures.exact
          (subst (λ k. IsSearchedTo pass.problem.now (get_or pass.claims.now place 0) pass.seed pass.plan.now.number k (get_or c.loop-first.found.items place None)) end
          (is.each place within));
    }
