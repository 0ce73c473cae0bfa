-- What holds of each item of a list, with one item taken or put.
use Rattle.std.proofs.Common.{◌≡◌, ℕ, ◌<◌, ◌≤◌, arith, List, [], ◌∷◌, ◌++◌, Some, sym, subst}
use Rattle.std.proofs.lemmas.List.Elements.{All-nil, All-cons, All-push, All-pop}
use Rattle.std.specs.List.{All}

pub all_one : {X : Type 0} (P : X → Type 0) (x : X) → P x → All P (x ∷ [])
all_one P x h = All-cons P x [] h (All-nil P)

pub all_two : {X : Type 0} (P : X → Type 0) (x y : X) → P x → P y → All P (x ∷ y ∷ [])
all_two P x y h k = All-cons P x (y ∷ []) h (all_one P y k)

pub all_push : {X : Type 0} (P : X → Type 0) (xs ys : List X) (x : X) → All P xs → P x → ys ≡ xs ++ x ∷ [] → All P ys
all_push P xs ys x h k e = subst (All P) (sym e) (All-push P xs x h k)

-- a number that isn't at least another is below it
pub below : (limit n : ℕ) → (limit ≤ n → ⊥) → n < limit
below limit n h = omega (arith, h)

-- with the last item taken
pub all_front : {X : Type 0} (P : X → Type 0) (xs front : List X) (x : X) → xs ≡ front ++ x ∷ [] → All P xs → All P front
all_front P xs front x e h = (All-pop P xs front (Some x) e h).0

pub last_in : {X : Type 0} (P : X → Type 0) (xs front : List X) (x : X) → xs ≡ front ++ x ∷ [] → All P xs → P x
last_in P xs front x e h = (All-pop P xs front (Some x) e h).1
