use Rattle.in_order_parallel.proofs.Prelude.{IfOk, take, drop, subst, AllZip}
use Rattle.in_order_parallel.proofs.Zips.{AllZip-halves}
use Rattle.in_order_parallel.proofs.spread.+spread.Goals as goal

-- the results of the first items, and then those of the items after them
pub returns : goal.returns
returns g t c =
    let agrees = g.J.Job.gives c.args.job.now in
    let place = c.share_of.result in
    let items = c.args.items.now in
    let left = c.in_ok-answers.answers.items in
    let right = c.in_ok-more.more.items in
    let front : AllZip agrees c.split_at.result.0.now left = subst (λ r. IfOk r (λ v. AllZip agrees c.split_at.result.0.now v.items)) {x = c.join-left.result.0} c.in_ok-answers.was c.join-left.ensures.first in
    let back : AllZip agrees c.split_at.result.1.now right = subst (λ r. IfOk r (λ v. AllZip agrees c.split_at.result.1.now v.items)) {x = c.join-left.result.1} c.in_ok-more.was c.join-left.ensures.second in
    rw c.in_ok-append.ensures.items (AllZip-halves agrees items left right place (subst (λ l. AllZip agrees l left) {y = take place items} c.split_at.ensures.front front) (subst (λ l. AllZip agrees l right) {y = drop place items} c.split_at.ensures.back back))

-- the first workers have no more items than there are
pub split_at-requires : goal.split_at-requires
split_at-requires g t c = c.share_of.ensures.within

-- what the call of itself answers
pub join+arg2-returns : goal.join+arg2-returns
join+arg2-returns g t c = c.spread.ensures

-- what the call of itself answers
pub join+arg3-returns : goal.join+arg3-returns
join+arg3-returns g t c = c.spread.ensures

-- what the closure answers
pub fn::spread::join+arg2+FnOnce::call_once-returns : goal.fn::spread::join+arg2+FnOnce::call_once-returns
fn::spread::join+arg2+FnOnce::call_once-returns g t c = c.join+arg2.ensures

-- what the closure answers
pub fn::spread::join+arg3+FnOnce::call_once-returns : goal.fn::spread::join+arg3+FnOnce::call_once-returns
fn::spread::join+arg3+FnOnce::call_once-returns g t c = c.join+arg3.ensures
