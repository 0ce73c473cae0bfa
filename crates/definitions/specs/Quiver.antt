-- Labelled quivers, paths, and typed polynomials.
use Rattle.std.specs.Prelude.{◌≡◌, ◌≢◌, ℕ, pos, ◌<◌, List, [], ◌∷◌, length, get_or, Bool, false, ◌&&◌, nat_eq, nat_lt, IsTrue, Option, Some}
use Rattle.std.specs.Prelude.{None, if◌then◌else◌}
use Rattle.std.specs.Option.{option_map}
use Rattle.definitions.specs.Poly.{Poly, coefficient_of}

-- Objects and letters are numbered from 0. The letter with the number of an object is that object's identity.
pub record Quiver : Type 0 where
  pub objects : ℕ
  -- the source and the target of each letter
  pub ends : List (ℕ × ℕ)
  -- the adjoint of each letter
  pub stars : List ℕ

abbrev pub letters : Quiver → ℕ
letters q = length q.ends

abbrev pub source : Quiver → ℕ → ℕ
source q a = (get_or q.ends a (0, 0)).0

abbrev pub target : Quiver → ℕ → ℕ
target q a = (get_or q.ends a (0, 0)).1

abbrev pub star : Quiver → ℕ → ℕ
star q a = get_or q.stars a a

-- The ends of letters are objects, and adjoints are letters with the ends exchanged.
pub record IsQuiver (q : Quiver) : Type 0 where
  pub source_is_object : (a : ℕ) → a < letters q → source q a < q.objects
  pub target_is_object : (a : ℕ) → a < letters q → target q a < q.objects
  -- the identities
  pub identity_is_letter : (v : ℕ) → v < q.objects → v < letters q
  pub identity_source : (v : ℕ) → v < q.objects → source q v ≡ v
  pub identity_target : (v : ℕ) → v < q.objects → target q v ≡ v
  pub identity_star : (v : ℕ) → v < q.objects → star q v ≡ v
  -- the adjoints
  pub star_of_each : length q.stars ≡ length q.ends
  pub star_is_letter : (a : ℕ) → a < letters q → star q a < letters q
  pub star_star : (a : ℕ) → a < letters q → star q (star q a) ≡ a
  pub star_source : (a : ℕ) → a < letters q → source q (star q a) ≡ target q a
  pub star_target : (a : ℕ) → a < letters q → target q (star q a) ≡ source q a

-- whether the letters of the word fit, and lead from u to v: the first letter is applied last
abbrev pub leads : Quiver → ℕ → ℕ → List ℕ → Bool
leads q u v [] = nat_eq u v
leads q u v (a ∷ w) = nat_lt a (letters q) && (nat_eq (target q a) v && leads q u (source q a) w)

-- whether the word is a path of the signature (u, v): the empty word is none
abbrev pub is_path : Quiver → ℕ → ℕ → List ℕ → Bool
is_path q u v [] = false
is_path q u v (a ∷ w) = leads q u v (a ∷ w)

-- The word is a path from u to v.
abbrev pub IsPath : Quiver → ℕ → ℕ → List ℕ → Type 0
IsPath q u v w = IsTrue (is_path q u v w)

-- Every word with a nonzero coefficient is a path of the signature (u, v).
pub record IsTyped (q : Quiver) (u v : ℕ) (p : Poly) : Type 0 where
  pub at : (w : List ℕ) → coefficient_of p w ≢ pos 0 → IsPath q u v w

-- The source of the last letter and the target of the first, where the word is a path.
abbrev pub signature_of : Quiver → List ℕ → Option (ℕ × ℕ)
signature_of q [] = None
signature_of q (a ∷ []) = if nat_lt a (letters q) then Some (source q a, target q a) else None
signature_of q (a ∷ b ∷ w) =
    if nat_lt a (letters q) && nat_eq (source q a) (target q b) then option_map (λ s. (s.0, target q a)) (signature_of q (b ∷ w)) else None
