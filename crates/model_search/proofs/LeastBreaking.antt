-- The least candidate that breaks a claim: it is one, or none breaks the claim, and what it is.
use Rattle.model_search.proofs.Prelude.{◌≡◌, ◌⊎◌, inl, inr, ℕ, Model, Problem, NoneBreaks, RefutedMeans, refuted_means, HasLeastBreaking, IsRefutingModel, LeastBreaks}
use Rattle.model_search.proofs.SearchAnswers.{least_breaking_is_unique, none_breaks_leaves_no_least, each_search_has_an_answer, breaking_candidates_refute}

module _ (problem : Problem) (claim seed : ℕ) where
  -- there is one at most,
  pub least_once : (m m' : Model) → LeastBreaks problem claim seed m → LeastBreaks problem claim seed m' → m ≡ m'
  least_once m m' one other = (least_breaking_is_unique problem claim seed one.0 one.1 other.0 other.1 m m' one.2 other.2).2

  -- and none where none breaks it
  pub none_least : (m : Model) → NoneBreaks problem claim seed → LeastBreaks problem claim seed m → ⊥
  none_least m none least = none_breaks_leaves_no_least problem claim seed least.0 least.1 m none least.2

  -- there is one, or none breaks it
  pub least_or_none : ((m : Model) × LeastBreaks problem claim seed m) ⊎ NoneBreaks problem claim seed
  least_or_none = by (each_search_has_an_answer problem claim seed)
    where
      by : HasLeastBreaking problem claim seed ⊎ NoneBreaks problem claim seed
          → ((m : Model) × LeastBreaks problem claim seed m) ⊎ NoneBreaks problem claim seed
      by (inl found) = inl (found.model, (found.number, found.k, found.least))
      by (inr none) = inr none

  -- it is a model that refutes the claim,
  pub least_refutes : (m : Model) → LeastBreaks problem claim seed m → IsRefutingModel problem claim m
  least_refutes m least = breaking_candidates_refute problem claim seed least.0 least.1 m least.2.breaks

  -- and means so
  pub least_means : (m : Model) → LeastBreaks problem claim seed m → RefutedMeans problem claim m
  least_means m least = let is = least_refutes m least in refuted_means problem claim m is.model is.named is.refutes
