-- Polynomials all of whose words are paths of one signature.
use Rattle.quiver.proofs.Prelude.{◌≡◌, ◌≢◌, ℕ, ◌<◌, ℤ, List, [], length, get_or, Option, Some, None, IfNone, sym, subst, ◌∙◌, All, recursion_from_All, Quiver, IsPath, IsTyped, signature_from_path, typed_from_terms, IsShaped, recursion_from_IsDescending, words_listed, distinct-descending, HasPaths}

pub if_none : {A P : Type 0} (o : Option A) → P → IfNone o P
if_none None p = p
if_none (Some x) p = tt

pub typed_from_paths : (q : Quiver) (u v : ℕ) (p : List (ℤ × List ℕ)) → All (λ t. IsPath q u v t.1) p → IsTyped q u v p
typed_from_paths q u v p paths = typed_from_terms q u v p (recursion_from_All (λ t. IsPath q u v t.1) p paths)

pub paths_from_typed : (q : Quiver) (u v : ℕ) (p : List (ℤ × List ℕ)) → IsShaped p → p ≢ [] → IsTyped q u v p → HasPaths q u v p
paths_from_typed q u v p shaped nonzero typed = record {
  nonzero = nonzero;
  paths = words_listed (IsPath q u v) p (distinct-descending p (recursion_from_IsDescending p shaped.descending)) shaped.nonzero typed.at;
}

-- the signature of one word is that of all
some_is : (x y : ℕ × ℕ) → ◌≡◌ {A = Option (ℕ × ℕ)} (Some x) (Some y) → x ≡ y
some_is x y e = cc

pub all_have_the_signature : (q : Quiver) (u v x y : ℕ) (first : List ℕ) (p : List (ℤ × List ℕ)) → HasPaths q u v p → IsPath q u v first → IsPath q x y first
    → (k : ℕ) (d : ℤ × List ℕ) → k < length p → IsPath q x y (get_or p k d).1
all_have_the_signature q u v x y first p has path other k d below =
    let same = some_is (u, v) (x, y) (sym (signature_from_path q u v first path) ∙ signature_from_path q x y first other) in
    subst (λ s. IsPath q s.0 s.1 (get_or p k d).1) same (has.paths k d below)
