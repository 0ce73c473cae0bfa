-- What the names of declarations stand for, and the kinds that they are declared as.
use Rattle.statement_names.proofs.Prelude.{◌≡◌, ℕ, ◌+◌, true, false, cond, IsTrue, List, [], ◌∷◌, ◌++◌, map, Option, Some, None, refl, ap, ap₂, sym, subst, ◌∙◌, arith, flat_map, lookup, option_map, bytes_eq, map-append, filter-append, Named, named, Name, Statement, StatementKind, statement, Kind, Object, Map, Declaration, object, arrow, name_of, objects_of, letters_of, Turn, named_by, named_in, names_from, is_map, is_object, object_of, kind_in, is_kind, kind_within, name_fault_of, map_limit_of, occurrences_of, objects_in, maps_in, declared_objects, declared_maps, declarations_of, kinded, kinds_by}
use Rattle.statement_names.proofs.Apart.{Apart, Apart-none, Apart-sorted, kind_in-sorted, among, sorted}
use Rattle.statement_names.proofs.Clean.{apart_declared}
use Rattle.statement_names.proofs.Quiet.{declared_statements}

-- the kinds of declarations
abbrev pub kind_of : Declaration → List ℕ × Kind
kind_of (object name) = (name, Object)
kind_of (arrow name u v selfmade) = (name, Map)

abbrev pub kinds : List Declaration → List (List ℕ × Kind)
kinds ds = map kind_of ds

abbrev pub named_kind : Named → Kind
named_kind (named.Object v) = Object
named_kind (named.Map a) = Map

named_kind-by : (d : Declaration) (t : Turn) → named_kind (named_by d t) ≡ (kind_of d).1
named_kind-by (object name) t = refl
named_kind-by (arrow name u v selfmade) t = refl

name_kind-of : (d : Declaration) → (kind_of d).0 ≡ name_of d
name_kind-of (object name) = refl
name_kind-of (arrow name u v selfmade) = refl

kind-names_from : (p v a : ℕ) (ds : List Declaration) (q : List ℕ) → option_map named_kind (lookup (bytes_eq q) (names_from p v a ds)) ≡ kind_in (kinds ds) q
kind-names_from p v a [] q = refl
kind-names_from p v a (d ∷ ds) q =
    let later = kind-names_from (p + 1) (v + objects_of d) (a + letters_of d) ds q in
    grind (arith, later, named_kind-by d (record { declared = d; place = p; object = v; letter = a }), name_kind-of d)

-- the kind of what a name stands for
pub kind-named_in : (ds : List Declaration) (q : List ℕ) → option_map named_kind (named_in ds q) ≡ kind_in (kinds ds) q
kind-named_in ds q = kind-names_from 0 0 0 ds q

-- nothing stands for a name that isn't declared
pub nothing_named : (ds : List Declaration) (q : List ℕ) → kind_in (kinds ds) q ≡ None → named_in ds q ≡ None
nothing_named ds q absent = grind (arith, kind-named_in ds q)

pub map_from : (found : Option Named) → is_kind (option_map named_kind found) Map ≡ true → IsTrue (is_map found)
map_from (Some (named.Map a)) e = refl
map_from found e = absurd (cc)

pub object_from : (found : Option Named) → is_kind (option_map named_kind found) Object ≡ true → IsTrue (is_object found)
object_from (Some (named.Object v)) e = refl
object_from found e = absurd (cc)

-- those of a file
kinds-made : (kind : Kind) (declare : Name → Declaration) → ((n : Name) → kind_of (declare n) ≡ (n.text, kind)) → (names : List Name)
    → kinds (map declare names) ≡ kinded kind names
kinds-made kind declare each [] = refl
kinds-made kind declare each (n ∷ names) = ap₂ (λ k ks. k ∷ ks) (each n) (kinds-made kind declare each names)

own_kind : (kind : Kind) → is_kind (Some kind) kind ≡ true → (names : List Name) → among kind (kinded kind names) ≡ kinded kind names
own_kind kind own [] = refl
own_kind kind own (n ∷ names) = ap₂ (λ b ks. cond b ((n.text, kind) ∷ ks) ks) own (own_kind kind own names)

other_kind : (kind other : Kind) → is_kind (Some other) kind ≡ false → (names : List Name) → among kind (kinded other names) ≡ []
other_kind kind other apart [] = refl
other_kind kind other apart (n ∷ names) = ap₂ (λ b ks. cond b ((n.text, other) ∷ ks) ks) apart (other_kind kind other apart names)

objects_of_statement : (k : StatementKind) → kinds (objects_in k) ≡ among Object (kinds_by k)
objects_of_statement (statement.Objects names) =
    kinds-made Object (λ n. object n.text) (λ n. refl) names ∙ sym (own_kind Object refl names)
objects_of_statement (statement.Maps names source target selfmade) = sym (other_kind Object Map refl names)
objects_of_statement k = refl

maps_of_statement : (objects : List Declaration) (k : StatementKind) → kinds (maps_in objects k) ≡ among Map (kinds_by k)
maps_of_statement objects (statement.Objects names) = sym (other_kind Map Object refl names)
maps_of_statement objects (statement.Maps names source target selfmade) =
    kinds-made Map (λ n. arrow n.text (object_of objects source) (object_of objects target) selfmade) (λ n. refl) names
    ∙ sym (own_kind Map refl names)
maps_of_statement objects k = refl

abbrev pub statement_kinds : List Statement → List (List ℕ × Kind)
statement_kinds statements = flat_map (λ s. kinds_by s.kind) statements

-- declarations of each statement that are those of a kind
kinds-each : (kind : Kind) (made : StatementKind → List Declaration) → ((k : StatementKind) → kinds (made k) ≡ among kind (kinds_by k))
    → (statements : List Statement) → kinds (flat_map (λ s. made s.kind) statements) ≡ among kind (statement_kinds statements)
kinds-each kind made same [] = refl
kinds-each kind made same (s ∷ statements) =
    map-append kind_of (made s.kind) (flat_map (λ t. made t.kind) statements)
    ∙ ap₂ (λ xs ys. xs ++ ys) (same s.kind) (kinds-each kind made same statements)
    ∙ sym (filter-append (λ d. is_kind (Some d.1) kind) (kinds_by s.kind) (statement_kinds statements))

pub kinds-declared_objects : (statements : List Statement) → kinds (declared_objects statements) ≡ among Object (statement_kinds statements)
kinds-declared_objects statements = kinds-each Object objects_in objects_of_statement statements

pub kinds-declarations_of : (statements : List Statement) → kinds (declarations_of statements) ≡ sorted (statement_kinds statements)
kinds-declarations_of statements =
    map-append kind_of (declared_objects statements) (declared_maps (declared_objects statements) statements)
    ∙ ap₂ (λ xs ys. xs ++ ys) (kinds-declared_objects statements)
    (kinds-each Map (maps_in (declared_objects statements)) (maps_of_statement (declared_objects statements)) statements)

-- in a file in whose names nothing is wrong
module _ (statements : List Statement) (clean : name_fault_of statements ≡ None) where
  pub apart_statements : Apart (statement_kinds statements)
  apart_statements =
      subst Apart (declared_statements statements)
      (apart_declared (map_limit_of statements) (kind_within statements) [] (occurrences_of statements) Apart-none clean)

  pub apart_declarations : Apart (kinds (declarations_of statements))
  apart_declarations = subst Apart (sym (kinds-declarations_of statements)) (Apart-sorted (statement_kinds statements) apart_statements)

  pub kind_declared : (q : List ℕ) → kind_in (kinds (declarations_of statements)) q ≡ kind_within statements q
  kind_declared q =
      ap (λ ks. kind_in ks q) (kinds-declarations_of statements) ∙ kind_in-sorted (statement_kinds statements) apart_statements q
      ∙ ap (λ ks. kind_in ks q) (sym (declared_statements statements))

  pub map_named : (q : List ℕ) → is_kind (kind_within statements q) Map ≡ true → IsTrue (is_map (named_in (declarations_of statements) q))
  map_named q is = map_from (named_in (declarations_of statements) q) (ap (λ found. is_kind found Map) (kind-named_in (declarations_of statements) q ∙ kind_declared q) ∙ is)

  pub object_named : (q : List ℕ) → is_kind (kind_within statements q) Object ≡ true → IsTrue (is_object (named_in (declarations_of statements) q))
  object_named q is = object_from (named_in (declarations_of statements) q) (ap (λ found. is_kind found Object) (kind-named_in (declarations_of statements) q ∙ kind_declared q) ∙ is)
