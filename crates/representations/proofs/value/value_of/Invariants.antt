use Rattle.representations.proofs.Prelude.{◌≡◌, take, value_at, quiver_of, listed}
use Rattle.representations.proofs.value.value_of.Given as goal

-- the value of the terms so far
abbrev pub invariant-loop-place : goal.invariant-loop-place
invariant-loop-place g l =
    (o : _) (a : _)
    → l.sum ≡ value_at (g.C.Preadditive.structure l.category) (quiver_of l.quiver) (listed l.representation.objects l.representation.arrows o a)
    l.fn.sig.source.0 l.fn.sig.target.0 (take l.place l.poly.terms)
