-- Representations of a quiver in a category, and the values of words and polynomials.
use Rattle.std.specs.Prelude.{◌≡◌, ℕ, zero, suc, ℤ, pos, negsuc, ◌<◌, ◌≤◌, List, [], ◌∷◌, cond}
use Rattle.definitions.specs.Poly.{Poly}
use Rattle.definitions.specs.Category.{Structure, IsArrow}
use Rattle.definitions.specs.Quiver.{Quiver, letters, source, target, star, is_path}

-- an object for each object of the quiver, and an arrow for each letter
pub record Representation (Object Arrow : Type 0) : Type 0 where
  pub object : ℕ → Object
  pub arrow : ℕ → Arrow

pub record Represents {Object Arrow : Type 0} (s : Structure Object Arrow) (q : Quiver) (f : Representation Object Arrow) : Type 0 where
  pub objects : (v : ℕ) → v < q.objects → s.is_object (f.object v)
  pub arrows : (a : ℕ) → a < letters q → IsArrow s (f.object (source q a)) (f.object (target q a)) (f.arrow a)
  pub identities : (v : ℕ) → v < q.objects → f.arrow v ≡ s.identity (f.object v)

-- a representation in which the adjoint of a map goes to the adjoint of its arrow
pub record StarRepresents {Object Arrow : Type 0} (s : Structure Object Arrow) (adjoint : Arrow → Arrow) (q : Quiver)
    (f : Representation Object Arrow) : Type 0 where
  pub represents : Represents s q f
  -- for each declared map: its number is at most that of its adjoint
  pub adjoints : (a : ℕ) → a < letters q → q.objects ≤ a → a ≤ star q a → f.arrow (star q a) ≡ adjoint (f.arrow a)

-- n a, by repeated addition to the zero arrow
abbrev pub natural_multiple : {Object Arrow : Type 0} → Structure Object Arrow → ℕ → Arrow → Arrow
natural_multiple s zero a = s.zero (s.source a) (s.target a)
natural_multiple s (suc n) a = s.add a (natural_multiple s n a)

-- k a, where the negative multiples are the negatives of the positive ones
abbrev pub multiple : {Object Arrow : Type 0} → Structure Object Arrow → ℤ → Arrow → Arrow
multiple s (pos n) a = natural_multiple s n a
multiple s (negsuc n) a = s.negate (natural_multiple s (suc n) a)

-- d a = 0 only for a = 0
pub record Cancels {Object Arrow : Type 0} (s : Structure Object Arrow) (d : ℤ) : Type 0 where
  pub at : (a : Arrow) → s.is_arrow a → multiple s d a ≡ s.zero (s.source a) (s.target a) → a ≡ s.zero (s.source a) (s.target a)

-- the value of the word of the letter a and then the letters of w
abbrev pub path_value : {Object Arrow : Type 0} → Structure Object Arrow → Representation Object Arrow → ℕ → List ℕ → Arrow
path_value s f a [] = f.arrow a
path_value s f a (b ∷ w) = s.compose (f.arrow a) (path_value s f b w)

-- the value of a word, and of the empty word, which is no path, the given arrow
abbrev pub word_value : {Object Arrow : Type 0} → Structure Object Arrow → Representation Object Arrow → Arrow → List ℕ → Arrow
word_value s f none [] = none
word_value s f none (a ∷ w) = path_value s f a w

-- The value of a polynomial at the signature (u, v): the sum of its terms whose words are paths of that signature.
abbrev pub value_at : {Object Arrow : Type 0} → Structure Object Arrow → Quiver → Representation Object Arrow → ℕ → ℕ → Poly → Arrow
value_at s q f u v [] = s.zero (f.object u) (f.object v)
value_at s q f u v (t ∷ p) =
    let rest = value_at s q f u v p in
    cond (is_path q u v t.1) (s.add (multiple s t.0 (word_value s f (s.zero (f.object u) (f.object v)) t.1)) rest) rest
