-- The letters that a file solves for are declared maps.
use Rattle.statement_names.proofs.Prelude.{◌≡◌, ℕ, ◌+◌, ◌≤◌, Bool, true, false, List, [], ◌∷◌, ◌++◌, Option, Some, refl, ap, sym, subst, arith, if◌then◌else◌, list_any, list_all, Decides-eqb, Any-from_list_any, Named, named, Name, Declaration, object, arrow, object_count, letter_count, named_in, objects_first, ObjectsFirst, is_arrow, object_count-append, is_named, IsDeclaredMap, letter, is_the_letter, names_letter}
use Rattle.statement_names.proofs.Found.{map_split, map_letters}
use Rattle.statement_names.proofs.Fresh.{all_right}

-- objects come first
pub no_objects : (ds : List Declaration) → list_all is_arrow ds ≡ true → object_count ds ≡ 0
no_objects [] h = refl
no_objects (object name ∷ ds) h = absurd (cc)
no_objects (arrow name u v selfmade ∷ ds) h = ap (λ n. 0 + n) (no_objects ds h)

behind_arrow : (before : List Declaration) (q : List ℕ) (u v : ℕ) (selfmade : Bool) (after : List Declaration) → objects_first (before ++ arrow q u v selfmade ∷ after) ≡ true → object_count after ≡ 0
behind_arrow [] q u v selfmade after h = no_objects after h
behind_arrow (object name ∷ before) q u v selfmade after h = behind_arrow before q u v selfmade after h
behind_arrow (arrow name x y own ∷ before) q u v selfmade after h = no_objects after (all_right is_arrow before (arrow q u v selfmade ∷ after) h)

object_letters : (ds : List Declaration) → object_count ds ≤ letter_count ds
object_letters [] = omega arith
object_letters (object name ∷ ds) = omega (arith, object_letters ds)
object_letters (arrow name u v selfmade ∷ ds) = omega (arith, object_letters ds)

map_declared : (ds : List Declaration) → ObjectsFirst ds → (q : List ℕ) (a : ℕ) → named_in ds q ≡ Some (named.Map (record { 0 = a })) → IsDeclaredMap ds (letter a)
map_declared ds first q a found =
    let m = map_split ds q a found in
    let after : object_count m.after ≡ 0 = behind_arrow m.before q m.source m.target m.selfmade m.after (subst (λ es. objects_first es ≡ true) m.whole first) in
    let has = map_letters ds q a found in
    record {
      map = omega (arith, ap object_count m.whole, object_count-append m.before (arrow q m.source m.target m.selfmade ∷ m.after), after, object_letters m.before, m.number);
      letter = (is_named ds q (named.Map (record { 0 = a })) found).0;
      declared = subst (λ s. a ≤ s) (sym has.star_is) (star_above has.selfmade);
    }
  where
    star_above : (own : Bool) → a ≤ (if own then a else a + 1)
    star_above true = omega arith
    star_above false = omega arith

-- a letter that a name stands for
named_letter : (a : ℕ) (found : Option Named) → is_the_letter a found ≡ true → found ≡ Some (named.Map (record { 0 = a }))
named_letter a (Some (named.Map b)) e = ap (λ n. Some (named.Map (record { 0 = n }))) ((Decides-eqb b.0 a).0 e)
named_letter a found e = absurd (cc)

pub solved_declared : (ds : List Declaration) → ObjectsFirst ds → (a : ℕ) (names : List Name) → list_any (names_letter ds a) names ≡ true → IsDeclaredMap ds (letter a)
solved_declared ds first a names e =
    let found = Any-from_list_any (names_letter ds a) names e in
    map_declared ds first found.1.text a (named_letter a (named_in ds found.1.text) found.4)
