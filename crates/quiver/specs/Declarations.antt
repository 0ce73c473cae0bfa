-- The declarations of a quiver, in their order, and the objects and letters that they number.
use Rattle.std.specs.Prelude.{◌≡◌, ◌≢◌, ℕ, ◌+◌, ◌<◌, ◌≤◌, Bool, true, false, ◌&&◌, ◌||◌, not, nat_eq, nat_lt, IsTrue, if◌then◌else◌, List}
use Rattle.std.specs.Prelude.{[], ◌∷◌, map, AllPairs, get_or, Option}
use Rattle.std.specs.List.{flat_map, list_all}
use Rattle.std.specs.Map.{lookup}
use Rattle.std.specs.Str.{bytes_eq}
use Rattle.quiver.specs.declared.named.Named.{Named}
use Rattle.quiver.specs.declared.named.Named.TheVariants.{Object, Map}
use Rattle.definitions.specs.Quiver.{Quiver}
use Rattle.quiver.specs.Limits.{object_limit, map_limit}

-- An object, or a map with its source, its target, and whether it is its own adjoint. A name is the bytes of its text.
pub data Declaration : Type 0 where
  object : List ℕ → Declaration
  arrow : List ℕ → ℕ → ℕ → Bool → Declaration

abbrev pub name_of : Declaration → List ℕ
name_of (object name) = name
name_of (arrow name u v selfmade) = name

-- How many objects, maps and letters there are: an object has one letter, its identity, and a map two, itself and its
-- adjoint, unless these are one.
abbrev pub objects_of : Declaration → ℕ
objects_of (object name) = 1
objects_of (arrow name u v selfmade) = 0

abbrev pub maps_of : Declaration → ℕ
maps_of (object name) = 0
maps_of (arrow name u v selfmade) = 1

abbrev pub letters_of : Declaration → ℕ
letters_of (object name) = 1
letters_of (arrow name u v selfmade) = if selfmade then 1 else 2

abbrev pub object_count : List Declaration → ℕ
object_count [] = 0
object_count (d ∷ ds) = objects_of d + object_count ds

abbrev pub map_count : List Declaration → ℕ
map_count [] = 0
map_count (d ∷ ds) = maps_of d + map_count ds

abbrev pub letter_count : List Declaration → ℕ
letter_count [] = 0
letter_count (d ∷ ds) = letters_of d + letter_count ds

-- A declaration with its place and the next free object and letter number at its turn.
pub record Turn : Type 0 where
  pub declared : Declaration
  pub place : ℕ
  pub object : ℕ
  pub letter : ℕ

-- the turns, from the first free numbers on: each declaration takes as many as it needs
abbrev pub turns_from : ℕ → ℕ → ℕ → List Declaration → List Turn
turns_from place v a [] = []
turns_from place v a (d ∷ ds) =
    record { declared = d; place = place; object = v; letter = a } ∷ turns_from (place + 1) (v + objects_of d) (a + letters_of d) ds

abbrev pub turns : List Declaration → List Turn
turns ds = turns_from 0 0 0 ds

-- what a name stands for: an object, or a map by its letter
abbrev pub named_by : Declaration → Turn → Named
named_by (object name) t = Object (record { 0 = t.object })
named_by (arrow name u v selfmade) t = Map (record { 0 = t.letter })

abbrev pub naming_table : List Declaration → List (List ℕ × Named)
naming_table ds = map (λ t. (name_of t.declared, named_by t.declared t)) (turns ds)

abbrev pub named_in : List Declaration → List ℕ → Option Named
named_in ds name = lookup (bytes_eq name) (naming_table ds)

-- An object: the letter that is its identity, and the place of its declaration.
pub record ObjectEntry : Type 0 where
  pub identity : ℕ
  pub declaration : ℕ

abbrev pub objects_made : Declaration → Turn → List ObjectEntry
objects_made (object name) t = record { identity = t.letter; declaration = t.place } ∷ []
objects_made (arrow name u v selfmade) t = []

-- the objects by their numbers
abbrev pub object_table : List Declaration → List ObjectEntry
object_table ds = flat_map (λ t. objects_made t.declared t) (turns ds)

-- A letter: its ends, its adjoint, and the place of the declaration that it or its adjoint comes from.
pub record LetterEntry : Type 0 where
  pub source : ℕ
  pub target : ℕ
  pub star : ℕ
  pub declaration : ℕ

abbrev pub letters_made : Declaration → Turn → List LetterEntry
letters_made (object name) t = record { source = t.object; target = t.object; star = t.letter; declaration = t.place } ∷ []
letters_made (arrow name u v true) t = record { source = u; target = v; star = t.letter; declaration = t.place } ∷ []
letters_made (arrow name u v false) t =
    record { source = u; target = v; star = t.letter + 1; declaration = t.place }
    ∷ record { source = v; target = u; star = t.letter; declaration = t.place } ∷ []

-- the letters by their numbers
abbrev pub letter_table : List Declaration → List LetterEntry
letter_table ds = flat_map (λ t. letters_made t.declared t) (turns ds)

-- the quiver that is declared
abbrev pub quiver_of : List Declaration → Quiver
quiver_of ds = record {
  objects = object_count ds;
  ends = map (λ e. (e.source, e.target)) (letter_table ds);
  stars = map (λ e. e.star) (letter_table ds);
}

-- the name at a place of the declarations
abbrev pub name_at : List Declaration → ℕ → List ℕ
name_at ds place = get_or (map name_of ds) place []

-- the entry of an object and of a letter; zeros where there is none
abbrev pub no_object : ObjectEntry
no_object = record { identity = 0; declaration = 0 }

abbrev pub object_at : List Declaration → ℕ → ObjectEntry
object_at ds v = get_or (object_table ds) v no_object

abbrev pub no_letter : LetterEntry
no_letter = record { source = 0; target = 0; star = 0; declaration = 0 }

abbrev pub letter_at : List Declaration → ℕ → LetterEntry
letter_at ds a = get_or (letter_table ds) a no_letter

-- the identity of an object, its name, and the name of the object or map that a letter or its adjoint is declared as
abbrev pub identity_in : List Declaration → ℕ → ℕ
identity_in ds v = (object_at ds v).identity

abbrev pub object_name : List Declaration → ℕ → List ℕ
object_name ds v = name_at ds (object_at ds v).declaration

abbrev pub letter_name : List Declaration → ℕ → List ℕ
letter_name ds a = name_at ds (letter_at ds a).declaration

-- an object or a letter of the quiver, with this name
abbrev pub IsNamed : List Declaration → List ℕ → Named → Type 0
IsNamed ds name (Object v) = (v.0 < object_count ds) × (object_name ds v.0 ≡ name)
IsNamed ds name (Map a) = (a.0 < letter_count ds) × (letter_name ds a.0 ≡ name)

-- Every object is declared before the first map.
abbrev pub is_arrow : Declaration → Bool
is_arrow (object name) = false
is_arrow (arrow name u v selfmade) = true

abbrev pub objects_first : List Declaration → Bool
objects_first [] = true
objects_first (object name ∷ ds) = objects_first ds
objects_first (arrow name u v selfmade ∷ ds) = list_all is_arrow ds

abbrev pub ObjectsFirst : List Declaration → Type 0
ObjectsFirst ds = IsTrue (objects_first ds)

-- whether the ends are among the first objects, and one object where the map is its own adjoint
abbrev pub has_ends : ℕ → Declaration → Bool
has_ends n (object name) = true
has_ends n (arrow name u v selfmade) = nat_lt u n && (nat_lt v n && (not selfmade || nat_eq u v))

-- What holds of the declarations of each quiver.
pub record IsDeclared (ds : List Declaration) : Type 0 where
  pub distinct : AllPairs (λ x y. x ≢ y) (map name_of ds)
  pub few_objects : object_count ds ≤ object_limit
  pub few_maps : map_count ds ≤ map_limit
  pub ends : IsTrue (list_all (has_ends (object_count ds)) ds)
