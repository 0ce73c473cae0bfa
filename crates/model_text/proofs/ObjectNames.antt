-- What the name of an object stands for, and that of a declared map.
use Rattle.model_text.proofs.Prelude.{◌≡◌, ◌≢◌, ◌<◌, ◌+◌, ℕ, true, List, ◌∷◌, ◌++◌, Some, arith, sym, ap, ◌∙◌, subst, map, IsTrue, AllPairs, list_all, Object, Map, Declaration, object, object_count, object_name, letter_name, named_in, IsDeclared, is_found, object_name-split, is_name, is_named, object_placed, apart, found, named_between, letter_is_spelled, HasMap}
use Rattle.quiver.specs.Declarations.{name_of}

-- the name of an object is a name, and stands for it
pub record IsObjectName (ds : List Declaration) (v : ℕ) : Type 0 where
  pub name : is_name (object_name ds v) ≡ true
  pub named : named_in ds (object_name ds v) ≡ Some (Object (record { 0 = v }))

named_by_place : (before : List Declaration) (name : List ℕ) (after : List Declaration) → AllPairs (λ x y. x ≢ y) (map name_of (before ++ object name ∷ after))
    → IsTrue (list_all is_named (before ++ object name ∷ after)) → IsObjectName (before ++ object name ∷ after) (object_count before)
named_by_place before name after pairs names =
    let whole = before ++ object name ∷ after in
    let turned : object_count before ≡ object_count before + 0 = omega arith in
    let start : 0 + object_count before ≡ object_count before = omega arith in
    let is : object_name whole (object_count before) ≡ name =
    ap (object_name whole) turned ∙ object_name-split before name after in
    record {
      name = rw is (named_between before (object name) after names);
      named = rw is (found 0 0 0 before (object name) after (apart before (object name) after pairs) ∙ ap (λ (k : ℕ). Some (Object (record { 0 = k }))) start);
    }

pub object_is_named : (ds : List Declaration) (v : ℕ) → IsDeclared ds → IsTrue (list_all is_named ds) → v < object_count ds → IsObjectName ds v
object_is_named ds v declared names within =
    let there = object_placed ds v within in
    subst (IsObjectName ds) (sym there.number)
    (subst (λ (es : List Declaration). IsObjectName es (object_count there.before)) (sym there.whole)
    (named_by_place there.before there.name there.after
    (subst (λ (es : List Declaration). AllPairs (λ x y. x ≢ y) (map name_of es)) there.whole declared.distinct)
    (subst (λ (es : List Declaration). IsTrue (list_all is_named es)) there.whole names)))

-- the name of a letter is a name, and stands for it
pub record IsMapName (ds : List Declaration) (a : ℕ) : Type 0 where
  pub name : is_name (letter_name ds a) ≡ true
  pub named : named_in ds (letter_name ds a) ≡ Some (Map (record { 0 = a }))

pub map_is_named : (ds : List Declaration) (a : ℕ) → IsDeclared ds → IsTrue (list_all is_named ds) → HasMap ds a → IsMapName ds a
map_is_named ds a declared names has =
    let is = is_found ds has.0 (Map (record { 0 = a })) has.1 in
    record {
      name = (letter_is_spelled ds a declared names is.0).name;
      named = ap (named_in ds) is.1 ∙ has.1;
    }
