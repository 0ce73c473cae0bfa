use Rattle.closed_checker.proofs.Prelude.{◌≡◌, map, take, Waiting}
use Rattle.closed_checker.proofs.list.take_ambiguities.Given as goal

-- the ambiguities that were passed
abbrev pub invariant-loop-waiting : goal.invariant-loop-waiting
invariant-loop-waiting l = l.found ≡ map (λ (w : Waiting). w.which) (take l.waiting-index l.items)
