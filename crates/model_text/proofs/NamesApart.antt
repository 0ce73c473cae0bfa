-- Names that stand for things of higher and higher ranks are pairwise different.
use Rattle.model_text.proofs.Prelude.{◌≢◌, ◌≤◌, ◌+◌, ℕ, List, [], ◌∷◌, Option, Some, None, arith, ap, ⊤, All, AllPairs, All-nil, All-cons, All-weaker, AllPairs-cons, Named, Object, Map, Declaration, object_count, named_in}

-- objects in their order, and then maps
abbrev pub rank_of : List Declaration → Option Named → ℕ
rank_of ds (Some (Object v)) = v.0
rank_of ds (Some (Map a)) = object_count ds + a.0
rank_of ds None = 0

abbrev pub rank : List Declaration → List ℕ → ℕ
rank ds name = rank_of ds (named_in ds name)

-- The ranks ascend from this one on.
abbrev pub Ascend : List Declaration → ℕ → List (List ℕ) → Type 0
Ascend ds least [] = ⊤
Ascend ds least (name ∷ names) = (least ≤ rank ds name) × Ascend ds (rank ds name + 1) names

pub ascend_lower : (ds : List Declaration) (low high : ℕ) (names : List (List ℕ)) → low ≤ high → Ascend ds high names → Ascend ds low names
ascend_lower ds low high [] below each = tt
ascend_lower ds low high (name ∷ names) below each = (omega (arith, below, each.0), each.1)

all_above : (ds : List Declaration) (least : ℕ) (names : List (List ℕ)) → Ascend ds least names → All (λ name. least ≤ rank ds name) names
all_above ds least [] each = All-nil (λ name. least ≤ rank ds name)
all_above ds least (name ∷ names) each =
    All-cons (λ n. least ≤ rank ds n) name names each.0 (all_above ds least names (ascend_lower ds least (rank ds name + 1) names (omega (arith, each.0)) each.1))

pub ascending_apart : (ds : List Declaration) (least : ℕ) (names : List (List ℕ)) → Ascend ds least names → AllPairs (λ x y. x ≢ y) names
ascending_apart ds least [] each = λ i j d lower within. absurd (omega (arith, within))
ascending_apart ds least (name ∷ names) each =
    AllPairs-cons (λ x y. x ≢ y) name names
    (All-weaker (λ n. rank ds name + 1 ≤ rank ds n) (λ n. name ≢ n) (λ n above same. omega (arith, above, ap (rank ds) same)) names (all_above ds (rank ds name + 1) names each.1))
    (ascending_apart ds (rank ds name + 1) names each.1)
