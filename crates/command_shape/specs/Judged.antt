-- The result of judging a block. Only private functions use it.
use Rattle.std.specs.Prelude.{ℕ, ◌≡◌, List, ◌++◌, Option, Some, None}
use Rattle.command_shape.specs.declared.judge.Judged.{Judged}
use Rattle.command_shape.specs.declared.judge.Judged.TheVariants.{Accepted, Refused}

-- it is one of these texts, or one of these causes
abbrev pub Tells : (List ℕ → Type 0) → (List ℕ → Type 0) → Judged → Type 0
Tells accepts refuses (Accepted text) = accepts text.items
Tells accepts refuses (Refused cause) = refuses cause.items

-- there is a cause, and it is appended to these bytes
abbrev pub Puts : Option (List ℕ) → List ℕ → List ℕ → Type 0
Puts (Some cause) before after = after ≡ before ++ cause
Puts None before after = ⊥
