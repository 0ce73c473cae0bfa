-- How long the tables of the declarations are.
use Rattle.std.proofs.Common.{◌≡◌, ℕ, ◌+◌, ◌*◌, ◌≤◌, true, false, List, [], ◌∷◌, ◌++◌, length, refl, ◌∙◌, arith}
use Rattle.std.proofs.lemmas.List.{length-map}
use Rattle.std.specs.List.{flat_map}
use Rattle.definitions.specs.Quiver.{letters}
use Rattle.quiver.specs.Declarations.{Declaration, object, arrow, objects_of, letters_of, object_count, map_count, letter_count, turns_from, objects_made, letters_made, object_table, letter_table, quiver_of}

length-turns_from : (p v a : ℕ) (ds : List Declaration) → length (turns_from p v a ds) ≡ length ds
length-turns_from p v a [] = refl
length-turns_from p v a (d ∷ ds) = omega (arith, length-turns_from (p + 1) (v + objects_of d) (a + letters_of d) ds)

objects_from : (p v a : ℕ) (ds : List Declaration) → length (flat_map (λ t. objects_made t.declared t) (turns_from p v a ds)) ≡ object_count ds
objects_from p v a [] = refl
objects_from p v a (object name ∷ ds) = omega (arith, objects_from (p + 1) (v + 1) (a + 1) ds)
objects_from p v a (arrow name x y selfmade ∷ ds) = omega (arith, objects_from (p + 1) (v + 0) (a + letters_of (arrow name x y selfmade)) ds)

letters_from : (p v a : ℕ) (ds : List Declaration) → length (flat_map (λ t. letters_made t.declared t) (turns_from p v a ds)) ≡ letter_count ds
letters_from p v a [] = refl
letters_from p v a (object name ∷ ds) = omega (arith, letters_from (p + 1) (v + 1) (a + 1) ds)
letters_from p v a (arrow name x y true ∷ ds) = omega (arith, letters_from (p + 1) (v + 0) (a + 1) ds)
letters_from p v a (arrow name x y false ∷ ds) = omega (arith, letters_from (p + 1) (v + 0) (a + 2) ds)

module _ (ds : List Declaration) where
  pub length-object_table : length (object_table ds) ≡ object_count ds
  length-object_table = objects_from 0 0 0 ds

  pub length-letter_table : length (letter_table ds) ≡ letter_count ds
  length-letter_table = letters_from 0 0 0 ds

  pub letters-quiver_of : letters (quiver_of ds) ≡ letter_count ds
  letters-quiver_of = length-map (letter_table ds) (λ e. (e.source, e.target)) ∙ length-letter_table

-- each declaration is an object or a map
pub objects_and_maps : (ds : List Declaration) → object_count ds + map_count ds ≡ length ds
objects_and_maps [] = refl
objects_and_maps (object name ∷ ds) = omega (arith, objects_and_maps ds)
objects_and_maps (arrow name x y selfmade ∷ ds) = omega (arith, objects_and_maps ds)

-- an object has one letter, and a map two at most
pub few_letters : (ds : List Declaration) → letter_count ds ≤ object_count ds + 2 * map_count ds
few_letters [] = omega arith
few_letters (object name ∷ ds) = omega (arith, few_letters ds)
few_letters (arrow name x y true ∷ ds) = omega (arith, few_letters ds)
few_letters (arrow name x y false ∷ ds) = omega (arith, few_letters ds)

-- one declaration more
pub object_count-append : (ds es : List Declaration) → object_count (ds ++ es) ≡ object_count ds + object_count es
object_count-append [] es = omega arith
object_count-append (object name ∷ ds) es = omega (arith, object_count-append ds es)
object_count-append (arrow name x y selfmade ∷ ds) es = omega (arith, object_count-append ds es)

pub map_count-append : (ds es : List Declaration) → map_count (ds ++ es) ≡ map_count ds + map_count es
map_count-append [] es = omega arith
map_count-append (object name ∷ ds) es = omega (arith, map_count-append ds es)
map_count-append (arrow name x y selfmade ∷ ds) es = omega (arith, map_count-append ds es)

pub letter_count-append : (ds es : List Declaration) → letter_count (ds ++ es) ≡ letter_count ds + letter_count es
letter_count-append [] es = omega arith
letter_count-append (object name ∷ ds) es = omega (arith, letter_count-append ds es)
letter_count-append (arrow name x y true ∷ ds) es = omega (arith, letter_count-append ds es)
letter_count-append (arrow name x y false ∷ ds) es = omega (arith, letter_count-append ds es)
