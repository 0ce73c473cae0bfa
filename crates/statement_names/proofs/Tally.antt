-- How much the statements of a file declare and begin.
use Rattle.statement_names.proofs.Prelude.{◌≡◌, ℕ, ◌+◌, Bool, List, [], ◌∷◌, ◌++◌, length, map, refl, ap, ap₂, sym, ◌∙◌, flat_map, sum_by, length-append, sum_by-cons, sum_by-append, Declaration, object, arrow, object_count, map_count, object_count-append, map_count-append, plus_zero, Spot, Name, Statement, StatementKind, statement, Occurrence, declares_object, declares_map, kind_occurrences, statement_occurrences, occurrences_of, Counted, Objects, Maps, Assumptions, Claims, Shapes, amount, objects_in, maps_in, declared_objects, declared_maps, shapes_in, equations_in, equations_of, assumptions_of, claims_in, claims_of}
use Rattle.statement_names.proofs.Quiet.{begun_by, parts_of, amount-quiet}

module _ (c : Counted) where
  amount-statement : (at : Spot) (k : StatementKind) → sum_by (amount c) (kind_occurrences at k) ≡ sum_by (amount c) (begun_by at k)
  amount-statement at k =
      let parts = parts_of at k in
      ap (sum_by (amount c)) parts.whole ∙ sum_by-append (amount c) (begun_by at k) parts.rest
      ∙ ap (λ n. sum_by (amount c) (begun_by at k) + n) (amount-quiet c parts.rest parts.quiet) ∙ sym (plus_zero (sum_by (amount c) (begun_by at k)))

  -- a measure of what statements make, which is the count of what they begin
  amount-statements : {A : Type 0} (measure : List A → ℕ) → measure [] ≡ 0 → ((xs ys : List A) → measure (xs ++ ys) ≡ measure xs + measure ys)
      → (made : Statement → List A) → ((s : Statement) → measure (made s) ≡ sum_by (amount c) (begun_by s.at s.kind))
      → (statements : List Statement) → measure (flat_map made statements) ≡ sum_by (amount c) (occurrences_of statements)
  amount-statements measure none append made same [] = none
  amount-statements measure none append made same (s ∷ statements) =
      append (made s) (flat_map made statements)
      ∙ ap₂ (λ a b. a + b) (same s ∙ sym (amount-statement s.at s.kind)) (amount-statements measure none append made same statements)
      ∙ sym (sum_by-append (amount c) (statement_occurrences s) (occurrences_of statements))

-- what a list of declarations adds
none_made : (c : Counted) (make : Name → Occurrence) → ((n : Name) → amount c (make n) ≡ 0) → (names : List Name)
    → sum_by (amount c) (map make names) ≡ 0
none_made c make none [] = refl
none_made c make none (n ∷ names) = sum_by-cons (amount c) (make n) (map make names) ∙ ap₂ (λ a b. a + b) (none n) (none_made c make none names)

object_each : (names : List Name) → object_count (map (λ n. object n.text) names) ≡ sum_by (amount Objects) (map (λ n. declares_object n) names)
object_each [] = refl
object_each (n ∷ names) = ap (λ k. 1 + k) (object_each names) ∙ sym (sum_by-cons (amount Objects) (declares_object n) (map (λ n. declares_object n) names))

map_each : (u v : List ℕ) (x y : ℕ) (selfmade : Bool) (names : List Name)
    → map_count (map (λ n. arrow n.text x y selfmade) names) ≡ sum_by (amount Maps) (map (λ n. declares_map n u v selfmade) names)
map_each u v x y selfmade [] = refl
map_each u v x y selfmade (n ∷ names) = ap (λ k. 1 + k) (map_each u v x y selfmade names)
    ∙ sym (sum_by-cons (amount Maps) (declares_map n u v selfmade) (map (λ n. declares_map n u v selfmade) names))

-- the counts
objects_same : (at : Spot) (k : StatementKind) → object_count (objects_in k) ≡ sum_by (amount Objects) (begun_by at k)
objects_same at (statement.Objects names) = object_each names
objects_same at (statement.Maps names source target selfmade) =
    sym (none_made Objects (λ n. declares_map n source.text target.text selfmade) (λ n. refl) names)
objects_same at k = refl

maps_same : (objects : List Declaration) (at : Spot) (k : StatementKind) → map_count (maps_in objects k) ≡ sum_by (amount Maps) (begun_by at k)
maps_same objects at (statement.Objects names) = sym (none_made Maps (λ n. declares_object n) (λ n. refl) names)
maps_same objects at (statement.Maps names source target selfmade) = map_each source.text target.text _ _ selfmade names
maps_same objects at k = refl

assumptions_same : (ds : List Declaration) (at : Spot) (k : StatementKind) → length (equations_in ds at k) ≡ sum_by (amount Assumptions) (begun_by at k)
assumptions_same ds at (statement.Objects names) = sym (none_made Assumptions (λ n. declares_object n) (λ n. refl) names)
assumptions_same ds at (statement.Maps names source target selfmade) =
    sym (none_made Assumptions (λ n. declares_map n source.text target.text selfmade) (λ n. refl) names)
assumptions_same ds at k = refl

claims_same : (at : Spot) (k : StatementKind) → length (claims_in k) ≡ sum_by (amount Claims) (begun_by at k)
claims_same at (statement.Objects names) = sym (none_made Claims (λ n. declares_object n) (λ n. refl) names)
claims_same at (statement.Maps names source target selfmade) =
    sym (none_made Claims (λ n. declares_map n source.text target.text selfmade) (λ n. refl) names)
claims_same at k = refl

shapes_same : (ds : List Declaration) (at : Spot) (k : StatementKind) → length (shapes_in ds k) ≡ sum_by (amount Shapes) (begun_by at k)
shapes_same ds at (statement.Objects names) = sym (none_made Shapes (λ n. declares_object n) (λ n. refl) names)
shapes_same ds at (statement.Maps names source target selfmade) =
    sym (none_made Shapes (λ n. declares_map n source.text target.text selfmade) (λ n. refl) names)
shapes_same ds at k = refl

pub object_count-statements : (statements : List Statement) → object_count (declared_objects statements) ≡ sum_by (amount Objects) (occurrences_of statements)
object_count-statements statements =
    amount-statements Objects object_count refl object_count-append (λ s. objects_in s.kind) (λ s. objects_same s.at s.kind) statements

pub map_count-statements : (objects : List Declaration) (statements : List Statement)
    → map_count (declared_maps objects statements) ≡ sum_by (amount Maps) (occurrences_of statements)
map_count-statements objects statements =
    amount-statements Maps map_count refl map_count-append (λ s. maps_in objects s.kind) (λ s. maps_same objects s.at s.kind) statements

pub length-assumptions : (ds : List Declaration) (statements : List Statement)
    → length (assumptions_of ds statements) ≡ sum_by (amount Assumptions) (occurrences_of statements)
length-assumptions ds statements = amount-statements Assumptions length refl length-append (equations_of ds) (λ s. assumptions_same ds s.at s.kind) statements

pub length-claims : (statements : List Statement) → length (claims_of statements) ≡ sum_by (amount Claims) (occurrences_of statements)
length-claims statements = amount-statements Claims length refl length-append (λ s. claims_in s.kind) (λ s. claims_same s.at s.kind) statements

pub length-shapes : (ds : List Declaration) (statements : List Statement)
    → length (flat_map (λ s. shapes_in ds s.kind) statements) ≡ sum_by (amount Shapes) (occurrences_of statements)
length-shapes ds statements = amount-statements Shapes length refl length-append (λ s. shapes_in ds s.kind) (λ s. shapes_same ds s.at s.kind) statements
