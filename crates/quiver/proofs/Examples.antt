-- The definitions at a small quiver that was worked out by hand.
use Rattle.quiver.proofs.Prelude.{◌≡◌, true, false, List, [], ◌∷◌, map, Some, None, refl, signature_of, star, Object, Map, DoubleName, NotSquare, Declaration, object, arrow, quiver_of, named_in, object_count, map_count, letter_count, identity_in, object_name, letter_name, objects_first, object_fault, map_fault}

-- the objects U and V, a map a : U -> V and a map p : V -> V that is its own adjoint: the letters are
-- [U] = 0, [V] = 1, a = 2, a' = 3, p = 4. The names are the bytes of U, V, a and p.
abbrev declared : List Declaration
declared = object (85 ∷ []) ∷ object (86 ∷ []) ∷ arrow (97 ∷ []) 0 1 false ∷ arrow (112 ∷ []) 1 1 true ∷ []

the_quiver : quiver_of declared ≡ record {
  objects = 2;
  ends = (0, 0) ∷ (1, 1) ∷ (0, 1) ∷ (1, 0) ∷ (1, 1) ∷ [];
  stars = 0 ∷ 1 ∷ 3 ∷ 2 ∷ 4 ∷ [];
}
the_quiver = refl

counts : object_count declared ∷ map_count declared ∷ letter_count declared ∷ [] ≡ 2 ∷ 2 ∷ 5 ∷ []
counts = refl

-- V is the object 1, p the letter 4, and b stands for nothing
names : map (named_in declared) ((86 ∷ []) ∷ (112 ∷ []) ∷ (98 ∷ []) ∷ []) ≡ Some (Object (record { 0 = 1 })) ∷ Some (Map (record { 0 = 4 })) ∷ None ∷ []
names = refl

-- a' and p are named after a and p
letter_names : map (letter_name declared) (0 ∷ 3 ∷ 4 ∷ []) ≡ (85 ∷ []) ∷ (97 ∷ []) ∷ (112 ∷ []) ∷ []
letter_names = refl

-- p a leads from U to V, and a p is no path
path : signature_of (quiver_of declared) (4 ∷ 2 ∷ []) ≡ Some (0, 1)
path = refl

no_path : signature_of (quiver_of declared) (2 ∷ 4 ∷ []) ≡ None
no_path = refl

-- with a map between the objects the identity of V has the number 3
abbrev mixed : List Declaration
mixed = object (85 ∷ []) ∷ arrow (97 ∷ []) 0 0 false ∷ object (86 ∷ []) ∷ []

identities : identity_in mixed 0 ∷ identity_in mixed 1 ∷ star (quiver_of mixed) 3 ∷ [] ≡ 0 ∷ 3 ∷ 3 ∷ []
identities = refl

object_names : map (object_name mixed) (0 ∷ 1 ∷ []) ≡ (85 ∷ []) ∷ (86 ∷ []) ∷ []
object_names = refl

order_of_objects : map objects_first (declared ∷ mixed ∷ []) ≡ true ∷ false ∷ []
order_of_objects = refl

-- a double name comes before a map that is not square
faults : object_fault declared (97 ∷ []) ∷ map_fault declared (85 ∷ []) 0 1 true ∷ map_fault declared (98 ∷ []) 0 1 true ∷ map_fault declared (98 ∷ []) 0 1 false ∷ []
    ≡ Some DoubleName ∷ Some DoubleName ∷ Some NotSquare ∷ None ∷ []
faults = refl
