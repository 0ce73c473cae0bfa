use Rattle.library_tests.proofs.Prelude.{rules, ◌≡◌, ◌↔◌, Some, IfOk, slice_get, subst, Contains, get_or_from_slice_get, slice_get_within, Ambiguity, IsAmbiguityFrom}
use Rattle.library_tests.proofs.overlapping.first.Goals as goal

pub returns-then-len-gt0 : goal.returns-then-len-gt0
returns-then-len-gt0 g c =
    let found = c.expect-found.result in
    let which = c.at.result.now in
    let read : slice_get found 0 ≡ Some which = search rules in
    let listed : Contains found which = (0, slice_get_within found 0 which read, get_or_from_slice_get found 0 which which read) in
    let members : (a : Ambiguity) → Contains found a ↔ IsAmbiguityFrom 0 c.args.rules.now.rules a =
    subst (λ made. IfOk made (λ all. (a : Ambiguity) → Contains all a ↔ IsAmbiguityFrom 0 c.args.rules.now.rules a))
    c.expect-found.ensures c.between.ensures.members in
    let is : IsAmbiguityFrom 0 c.args.rules.now.rules which = (members which).0 listed in
    is.0
