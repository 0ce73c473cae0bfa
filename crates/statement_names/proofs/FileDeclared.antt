-- The declarations of a file in whose names nothing is wrong are those of a quiver.
use Rattle.statement_names.proofs.Prelude.{◌≡◌, ℕ, ◌+◌, ◌<◌, ◌≤◌, Bool, true, false, ◌&&◌, ◌||◌, not, nat_eq, is_some, IsTrue, List, [], ◌∷◌, ◌++◌, length, map, take, drop, get_or, Option, Some, None, refl, ap, ap₂, sym, subst, ◌∙◌, arith, append_assoc, list_all, flat_map, lookup, option_or, bytes_eq, lt-ltb, Decides-eqb, flat_map-append, take-append-drop, list_all-append, option_filter, Named, named, Spot, Name, Statement, StatementKind, statement, Kind, Object, Map, map_limit, Declaration, object, arrow, object_count, map_count, named_in, naming_table, has_ends, IsDeclared, objects_first, ObjectsFirst, is_arrow, object_count-append, naming_table-append, is_named, is_object, object_number, object_of, Objects, Maps, kind_in, is_kind, are_two_objects, kind_within, name_fault_of, map_limit_after, map_limit_of, declares_map, uses, kind_occurrences, statement_occurrences, occurrences_of, object_use, objects_in, maps_in, declared_objects, declared_maps, declarations_of, HasEnds, AreFirst}
use Rattle.statement_names.proofs.Apart.{kind_in-among}
use Rattle.statement_names.proofs.Bridge.{within_limits}
use Rattle.statement_names.proofs.Clean.{IsGood, AreGood, each_good}
use Rattle.statement_names.proofs.Each.{Each, Each-of_flat_map, Each-left, Each-right, Each-item}
use Rattle.statement_names.proofs.Items.{flat_next}
use Rattle.statement_names.proofs.Quiet.{declared_statements}
use Rattle.statement_names.proofs.Tally.{object_count-statements, map_count-statements}
use Rattle.statement_names.proofs.SolvedMaps.{no_objects}
use Rattle.statement_names.proofs.Fresh.{different_of_apart}
use Rattle.statement_names.proofs.KindsFound.{lookup-append, same_bytes}
use Rattle.statement_names.proofs.NamedKinds.{kind-named_in, apart_statements, apart_declarations, kinds-declared_objects, statement_kinds, object_from}

-- look-ups after more declarations
stays : {A : Type 0} (found other : Option A) → is_some found ≡ true → option_or found other ≡ found
stays found other there = grind arith

pub named_in-more : (xs ys : List Declaration) (q : List ℕ) → is_some (named_in xs q) ≡ true → named_in (xs ++ ys) q ≡ named_in xs q
named_in-more xs ys q there =
    ap (lookup (bytes_eq q)) (naming_table-append xs ys) ∙ lookup-append (bytes_eq q) (naming_table xs) _ ∙ stays (named_in xs q) _ there

object_some : (found : Option Named) → IsTrue (is_object found) → is_some found ≡ true
object_some (Some n) e = refl
object_some None e = absurd (cc)

pub object_of-more : (xs ys : List Declaration) (n : Name) → IsTrue (is_object (named_in xs n.text)) → object_of (xs ++ ys) n ≡ object_of xs n
object_of-more xs ys n is = ap object_number (named_in-more xs ys n.text (object_some (named_in xs n.text) is))

pub object_in_range : (xs : List Declaration) (n : Name) → IsTrue (is_object (named_in xs n.text)) → object_of xs n < object_count xs
object_in_range xs n is = go (named_in xs n.text) refl is
  where
    go : (found : Option Named) → named_in xs n.text ≡ found → IsTrue (is_object found) → object_number (named_in xs n.text) < object_count xs
    go (Some (named.Object v)) found e = subst (λ f. object_number f < object_count xs) (sym found) (is_named xs n.text (named.Object v) found).0
    go other found e = absurd (cc)

-- the objects among what is declared
objects_kept : (found : Option Kind) → is_kind (option_filter (λ k. is_kind (Some k) Object) found) Object ≡ is_kind found Object
objects_kept None = refl
objects_kept (Some Object) = refl
objects_kept (Some Map) = refl

-- lists of declarations with ends
all_append : {A : Type 0} (test : A → Bool) (xs ys : List A) → list_all test xs ≡ true → list_all test ys ≡ true → list_all test (xs ++ ys) ≡ true
all_append test xs ys h k = rw (list_all-append test xs ys, h, k) refl

zero_plus : (n : ℕ) → n ≡ 0 + n
zero_plus n = omega arith

-- what stays with an object before a list holds with the objects of statements before it
in_front : (P : List Declaration → Type 0) → ((name : List ℕ) (ds : List Declaration) → P ds → P (object name ∷ ds))
    → (statements : List Statement) (ds : List Declaration) → P ds → P (declared_objects statements ++ ds)
in_front P step [] ds h = h
in_front P step (s ∷ statements) ds h =
    subst P (sym (append_assoc (objects_in s.kind) (declared_objects statements) ds))
    (of_kind s.kind (declared_objects statements ++ ds) (in_front P step statements ds h))
  where
    of_names : (names : List Name) (ds : List Declaration) → P ds → P (map (λ m. object m.text) names ++ ds)
    of_names [] ds h = h
    of_names (m ∷ names) ds h = step m.text _ (of_names names ds h)

    of_kind : (k : StatementKind) (ds : List Declaration) → P ds → P (objects_in k ++ ds)
    of_kind (statement.Objects names) ds h = of_names names ds h
    of_kind k ds h = h

arrow_ends : (n u v : ℕ) (name : List ℕ) (selfmade : Bool) → u < n → v < n → (not selfmade || nat_eq u v) ≡ true → has_ends n (arrow name u v selfmade) ≡ true
arrow_ends n u v name selfmade source target square = ap₂ (λ b c. b && (c && (not selfmade || nat_eq u v))) (lt-ltb u n source) (lt-ltb v n target) ∙ square

same_ends : (first second same : Bool) → first ≡ true → second ≡ true → (first && (second && not same)) ≡ false → same ≡ true
same_ends first second same f s e = grind arith

all_arrows : (objects : List Declaration) (k : StatementKind) → list_all is_arrow (maps_in objects k) ≡ true
all_arrows objects (statement.Maps names source target selfmade) = go names
  where
    go : (names : List Name) → list_all is_arrow (map (λ m. arrow m.text (object_of objects source) (object_of objects target) selfmade) names) ≡ true
    go [] = refl
    go (m ∷ names) = go names
all_arrows objects k = refl

arrows_behind : (objects : List Declaration) (statements : List Statement) → list_all is_arrow (declared_maps objects statements) ≡ true
arrows_behind objects [] = refl
arrows_behind objects (s ∷ statements) = all_append is_arrow (maps_in objects s.kind) (declared_maps objects statements) (all_arrows objects s.kind) (arrows_behind objects statements)

object_count-maps : (objects : List Declaration) (statements : List Statement) → object_count (declared_maps objects statements) ≡ 0
object_count-maps objects statements = no_objects (declared_maps objects statements) (arrows_behind objects statements)

-- a quiver has room for the maps of a file
some_enough : (k : StatementKind) → map_limit_after k ≤ map_limit
some_enough statement.Language = omega arith
some_enough k = omega arith

few_enough : (statements : List Statement) → map_limit_of statements ≤ map_limit
few_enough [] = omega arith
few_enough (s ∷ statements) = some_enough s.kind

-- ends that are objects stay the same where more is declared
ends_more : (ds more : List Declaration) (k : StatementKind) → HasEnds ds k → HasEnds (ds ++ more) k
ends_more ds more (statement.Maps names source target selfmade) ends = (there source.text ends.0, there target.text ends.1)
  where
    there : (q : List ℕ) → IsTrue (is_object (named_in ds q)) → IsTrue (is_object (named_in (ds ++ more) q))
    there q is = subst (λ found. IsTrue (is_object found)) (sym (named_in-more ds more q (object_some (named_in ds q) is))) is
ends_more ds more k ends = tt

maps_more : (ds more : List Declaration) (k : StatementKind) → HasEnds ds k → maps_in (ds ++ more) k ≡ maps_in ds k
maps_more ds more (statement.Maps names source target selfmade) ends =
    ap₂ (λ u v. map (λ m. arrow m.text u v selfmade) names) (object_of-more ds more source ends.0) (object_of-more ds more target ends.1)
maps_more ds more k ends = refl

-- in a file in whose names nothing is wrong
module _ (statements : List Statement) (clean : name_fault_of statements ≡ None) where
  pub statements_good : Each (λ s. AreGood statements (statement_occurrences s)) statements
  statements_good =
      Each-of_flat_map (IsGood (kind_within statements)) statement_occurrences statements
      (each_good (map_limit_of statements) (kind_within statements) [] (occurrences_of statements) clean)

  abbrev objects : List Declaration
  objects = declared_objects statements

  object_here : (q : List ℕ) → is_kind (kind_within statements q) Object ≡ true → IsTrue (is_object (named_in objects q))
  object_here q is =
      object_from (named_in objects q)
      (ap (λ found. is_kind found Object)
      (kind-named_in objects q ∙ ap (λ ks. kind_in ks q) (kinds-declared_objects statements)
      ∙ kind_in-among Object (statement_kinds statements) (apart_statements statements clean) q)
      ∙ objects_kept (kind_in (statement_kinds statements) q) ∙ ap (λ ks. is_kind (kind_in ks q) Object) (sym (declared_statements statements)) ∙ is)

  has_ends_here : (at : Spot) (k : StatementKind) → AreGood statements (kind_occurrences at k) → HasEnds objects k
  has_ends_here at (statement.Maps names source target selfmade) good =
      let ends =
      Each-right (IsGood (kind_within statements)) (map (λ m. declares_map m source.text target.text selfmade) names)
      (uses (object_use source) ∷ uses (object_use target) ∷ []) good in
      (object_here source.text ends.0, object_here target.text ends.1.0)
  has_ends_here at k good = tt

  maps_end : (at : Spot) (k : StatementKind) → AreGood statements (kind_occurrences at k) → HasEnds objects k
      → list_all (has_ends (object_count objects)) (maps_in objects k) ≡ true
  maps_end at (statement.Maps names source target selfmade) good here =
      let made = map (λ m. declares_map m source.text target.text selfmade) names in
      let uses_of = uses (object_use source) ∷ uses (object_use target) ∷ [] in
      let ends = Each-right (IsGood (kind_within statements)) made uses_of good in
      go (square selfmade ends.0 ends.1.0) names (Each-left (IsGood (kind_within statements)) made uses_of good)
    where
      square : (own : Bool) → is_kind (kind_within statements source.text) Object ≡ true → is_kind (kind_within statements target.text) Object ≡ true
          → (own && are_two_objects (kind_within statements) source.text target.text) ≡ false
          → (not own || nat_eq (object_of objects source) (object_of objects target)) ≡ true
      square false first second e = refl
      square true first second e =
          let same : source.text ≡ target.text = same_bytes source.text target.text (same_ends _ _ (bytes_eq source.text target.text) first second e) in
          ap (λ text. nat_eq (object_of objects source) (object_number (named_in objects text))) (sym same)
          ∙ (Decides-eqb (object_of objects source) (object_of objects source)).1 refl

      go : ((selfmade && are_two_objects (kind_within statements) source.text target.text) ≡ false
          → (not selfmade || nat_eq (object_of objects source) (object_of objects target)) ≡ true)
          → (names : List Name) → AreGood statements (map (λ m. declares_map m source.text target.text selfmade) names)
          → list_all (has_ends (object_count objects)) (map (λ m. arrow m.text (object_of objects source) (object_of objects target) selfmade) names) ≡ true
      go own [] each = refl
      go own (m ∷ names) each =
          ap₂ (λ b c. b && c)
          (arrow_ends _ _ _ m.text selfmade (object_in_range objects source here.0) (object_in_range objects target here.1) (own each.0)) (go own names each.1)
  maps_end at k good here = refl

  all_maps_end : (ss : List Statement) → Each (λ s. AreGood statements (statement_occurrences s)) ss
      → list_all (has_ends (object_count objects)) (declared_maps objects ss) ≡ true
  all_maps_end [] good = refl
  all_maps_end (s ∷ ss) good =
      all_append (has_ends (object_count objects)) (maps_in objects s.kind) (declared_maps objects ss)
      (maps_end s.at s.kind good.0 (has_ends_here s.at s.kind good.0)) (all_maps_end ss good.1)

  pub file_declared : IsDeclared (declarations_of statements)
  file_declared =
      let maps = declared_maps objects statements in
      -- maps are after the objects, and add none
      let no_more : object_count (objects ++ maps) ≡ object_count objects =
      omega (arith, object_count-append objects maps, object_count-maps objects statements) in
      let no_fewer : map_count (objects ++ maps) ≡ map_count maps =
      in_front (λ ds. map_count ds ≡ map_count maps) (λ name ds same. sym (zero_plus (map_count ds)) ∙ same) statements maps refl in
      record {
        distinct = different_of_apart (declarations_of statements) (apart_declarations statements clean);
        few_objects = omega (arith, no_more, object_count-statements statements, within_limits statements clean Objects);
        few_maps = omega (arith, no_fewer, map_count-statements objects statements, within_limits statements clean Maps, few_enough statements);
        ends =
            subst (λ n. list_all (has_ends n) (objects ++ maps) ≡ true) (sym no_more)
            (in_front (λ ds. list_all (has_ends (object_count objects)) ds ≡ true) (λ name ds h. h) statements maps (all_maps_end statements statements_good));
      }

-- the declarations before the maps of a statement
abbrev pub quiver_before : List Statement → ℕ → List Declaration
quiver_before statements i = declared_objects statements ++ declared_maps (declared_objects statements) (take i statements)

-- the declarations of a statement after those of the statements before it
module _ (statements : List Statement) (clean : name_fault_of statements ≡ None) (i : ℕ) (s : Statement) (below : i < length statements) (at : s ≡ get_or statements i s) where
  split : (f : Statement → List Declaration) → flat_map f statements ≡ flat_map f (take (i + 1) statements) ++ flat_map f (drop (i + 1) statements)
  split f = ap (flat_map f) (sym (take-append-drop (i + 1) statements)) ∙ flat_map-append f (take (i + 1) statements) (drop (i + 1) statements)

  pub objects_fit : AreFirst (declared_objects (take i statements) ++ objects_in s.kind)
  objects_fit =
      let first = declared_objects (take (i + 1) statements) in
      let later = declared_objects (drop (i + 1) statements) in
      let maps = declared_maps (declared_objects statements) statements in
      let whole : declarations_of statements ≡ first ++ (later ++ maps) =
      ap (λ ds. ds ++ maps) (split (λ t. objects_in t.kind)) ∙ append_assoc first later maps in
      let declared = subst IsDeclared whole (file_declared statements clean) in
      (later ++ maps, subst (λ ds. IsDeclared (ds ++ (later ++ maps))) (flat_next statements i s below at (λ t. objects_in t.kind)) declared)

  abbrev file_objects : List Declaration
  file_objects = declared_objects statements

  ends_here : HasEnds (declared_objects statements) s.kind
  ends_here =
      has_ends_here statements clean s.at s.kind
      (Each-item (λ t. AreGood statements (statement_occurrences t)) statements (statements_good statements clean) i s below at)

  pub ends_fit : HasEnds (quiver_before statements i) s.kind
  ends_fit = ends_more file_objects (declared_maps file_objects (take i statements)) s.kind ends_here

  pub maps_next : quiver_before statements i ++ maps_in (quiver_before statements i) s.kind ≡ quiver_before statements (i + 1)
  maps_next =
      let so_far = declared_maps file_objects (take i statements) in
      ap (λ ms. (file_objects ++ so_far) ++ ms) (maps_more file_objects so_far s.kind ends_here)
      ∙ append_assoc file_objects so_far (maps_in file_objects s.kind)
      ∙ ap (λ ms. file_objects ++ ms) (sym (flat_next statements i s below at (λ t. maps_in file_objects t.kind)))

  pub maps_fit : AreFirst (quiver_before statements i ++ maps_in (quiver_before statements i) s.kind)
  maps_fit =
      let first = declared_maps file_objects (take (i + 1) statements) in
      let later = declared_maps file_objects (drop (i + 1) statements) in
      let whole : declarations_of statements ≡ (file_objects ++ first) ++ later =
      ap (λ ms. file_objects ++ ms) (split (λ t. maps_in file_objects t.kind)) ∙ sym (append_assoc file_objects first later) in
      (later, subst (λ ds. IsDeclared (ds ++ later)) (sym maps_next) (subst IsDeclared whole (file_declared statements clean)))

-- each statement fits after those before it
pub ruleset each_fits = (objects_fit, ends_fit, maps_fit, maps_next)

-- all objects come first
first_arrows : (ds : List Declaration) → list_all is_arrow ds ≡ true → objects_first ds ≡ true
first_arrows [] h = refl
first_arrows (object name ∷ ds) h = absurd (cc)
first_arrows (arrow name u v selfmade ∷ ds) h = h

pub file_objects_first : (statements : List Statement) → ObjectsFirst (declarations_of statements)
file_objects_first statements =
    let maps = declared_maps (declared_objects statements) statements in
    in_front (λ ds. objects_first ds ≡ true) (λ name ds h. h) statements maps (first_arrows maps (arrows_behind (declared_objects statements) statements))
