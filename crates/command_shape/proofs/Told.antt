-- Texts that are appended to one another.
use Rattle.command_shape.proofs.Prelude.{◌≡◌, ◌∙◌, ℕ, List, ◌++◌, Result, Ok, Err, OnOk, ap}
use Rattle.std.proofs.Common.{append_assoc}

-- two texts, one after the other
pub two_put : {E : Type 0} (r : Result (Unit {0}) E) (before first second between after : List ℕ) → between ≡ before ++ first → OnOk r (after ≡ between ++ second)
    → OnOk r (after ≡ before ++ (first ++ second))
two_put (Ok done) before first second between after one two = two ∙ ap (λ x. x ++ second) one ∙ append_assoc before first second
two_put (Err e) before first second between after one two = tt
