-- A representation that is given by lists.
use Rattle.std.specs.Prelude.{◌≡◌, ℕ, List, length, get_or}
use Rattle.definitions.specs.Poly.{Poly}
use Rattle.definitions.specs.Category.{Structure}
use Rattle.definitions.specs.Quiver.{Quiver, letters}
use Rattle.definitions.specs.Representation.{Representation, Represents, value_at}

-- after the ends of the lists come the given object and arrow, which don't matter
abbrev pub listed : {Object Arrow : Type 0} → List Object → List Arrow → Object → Arrow → Representation Object Arrow
listed objects arrows o a = record { object = λ v. get_or objects v o; arrow = λ n. get_or arrows n a }

-- one object for each of the quiver, and one arrow for each letter, with the right ends
pub record IsRepresentation {Object Arrow : Type 0} (s : Structure Object Arrow) (q : Quiver) (objects : List Object) (arrows : List Arrow) : Type 0 where
  pub objects_length : length objects ≡ q.objects
  pub arrows_length : length arrows ≡ letters q
  pub represents : (o : Object) (a : Arrow) → Represents s q (listed objects arrows o a)

-- The arrow is the value of the polynomial at the signature (u, v).
pub record IsValue {Object Arrow : Type 0} (s : Structure Object Arrow) (q : Quiver) (objects : List Object) (arrows : List Arrow)
    (u v : ℕ) (p : Poly) (x : Arrow) : Type 0 where
  pub at : (o : Object) (a : Arrow) → x ≡ value_at s q (listed objects arrows o a) u v p
