-- The claims for which `prove` searches for a model. Only private functions use it.
use Rattle.std.specs.Prelude.{◌+◌, ℕ, Bool, true, false, List, [], ◌∷◌}
use Rattle.claim_decider.specs.declared.outcome.Outcome.{Outcome}
use Rattle.claim_decider.specs.declared.outcome.Outcome.TheVariants as outcome

-- the numbers of the claims that halted, where the first of these outcomes is that of the claim with this number
abbrev pub halted_from : ℕ → List Outcome → List ℕ
halted_from claim [] = []
halted_from claim (outcome.Derived e ∷ outcomes) = halted_from (claim + 1) outcomes
halted_from claim (outcome.Closed rest ∷ outcomes) = halted_from (claim + 1) outcomes
halted_from claim (outcome.Halted halt ∷ outcomes) = claim ∷ halted_from (claim + 1) outcomes

-- the numbers of those for which a model is searched: all that halted where models are searched, and none otherwise
abbrev pub searched_from : Bool → ℕ → List Outcome → List ℕ
searched_from false claim outcomes = []
searched_from true claim outcomes = halted_from claim outcomes
