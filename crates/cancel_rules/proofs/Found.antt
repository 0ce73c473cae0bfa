-- The item that a number names, and what holds of it.
use Rattle.cancel_rules.proofs.Prelude.{◌≡◌, ℕ, ◌<◌, List, All, Some, slice_get, subst, arith, slice_get_within, get_or_from_slice_get, Quiver, IsQuiver, letters}

pub holds_there : {X : Type 0} (P : X → Type 0) (xs : List X) (i : ℕ) (x : X) → All P xs → slice_get xs i ≡ Some x → P x
holds_there P xs i x all there = subst P (get_or_from_slice_get xs i x x there) (all i x (slice_get_within xs i x there))

-- where there is a letter there is an object
pub some_object : (q : Quiver) → IsQuiver q → (a : ℕ) → a < letters q → 0 < q.objects
some_object q quiver a inside = let object = quiver.source_is_object a inside in omega arith
