use Rattle.model_search.proofs.Prelude.{◌+◌, get_or, None, sym, subst, arith, AllZip}
use Rattle.model_search.proofs.SearchSteps.{least_found, none_breaks, zip_by_places}
use Rattle.model_search.proofs.candidate_search.search_each.Goals as goal

pub returns-clause-found : goal.returns-clause-found
returns-clause-found g c =
    let problem = c.args.problem.now in
    let claims = c.args.claims.now in
    let found = c.loop-place.found.items in
    let is = c.loop-place.invariant in
    subst (AllZip _ claims) (sym c.from_vec.ensures)
    (zip_by_places _ claims found is.one_each
    (λ place within. least_found problem (get_or claims place 0) c.args.seed (c.loop-place.place + 1) 0 (get_or found place None) (is.each place within)))

pub returns-clause-none : goal.returns-clause-none
returns-clause-none g c =
    let problem = c.args.problem.now in
    let claims = c.args.claims.now in
    let found = c.loop-place.found.items in
    let is = c.loop-place.invariant in
    subst (AllZip _ claims) (sym c.from_vec.ensures)
    (zip_by_places _ claims found is.one_each
    (λ place within. none_breaks problem (get_or claims place 0) c.args.seed (c.loop-place.place + 1) (get_or found place None)
    (omega (arith, c.loop-place-test.false, c.len-place-end.ensures)) (is.each place within)))
