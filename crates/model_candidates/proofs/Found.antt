-- What holds of what is found, where there is something, and what holds where there is nothing.
use Rattle.model_candidates.proofs.Prelude.{Option, Some, None, IfSome, IfNone}

pub some_weaker : {X : Type 0} (found : Option X) (P Q : X → Type 0) → ((x : X) → P x → Q x) → IfSome found P → IfSome found Q
some_weaker None P Q step given = tt
some_weaker (Some x) P Q step given = step x given

pub none_weaker : {X : Type 0} (found : Option X) (P Q : Type 0) → (P → Q) → IfNone found P → IfNone found Q
none_weaker None P Q step given = step given
none_weaker (Some x) P Q step given = tt
