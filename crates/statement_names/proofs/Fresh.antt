-- Nothing is wrong with a declaration of a list that a quiver may have.
use Rattle.statement_names.proofs.Prelude.{◌≡◌, ◌≢◌, ℕ, ◌+◌, ◌≤◌, Bool, true, false, ◌&&◌, ◌||◌, not, nat_eq, nat_le, if◌then◌else◌, is_some, List, [], ◌∷◌, ◌++◌, map, AllPairs, Some, None, refl, ap, ap₂, sym, subst, ◌∙◌, arith, append_assoc, IsDistinct, list_all, keys_of, bytes_eq, and_parts, nat_tests, list_all-append, map-append, IsDistinct-from_AllPairs, AllPairs-from_IsDistinct, bytes_eq-Decides, DoubleName, TooMany, NotSquare, Declaration, object, arrow, name_of, object_count, map_count, named_in, has_ends, IsDeclared, object_limit, map_limit, object_fault, map_fault, ends_of, object_count-append, map_count-append, AreFirst}
use Rattle.statement_names.proofs.Apart.{Apart, fresh_before}
use Rattle.statement_names.proofs.NamedKinds.{kind_of, kinds, nothing_named}

-- different names, as a quiver and as a map say it
names-kinds : (ds : List Declaration) → keys_of (kinds ds) ≡ map name_of ds
names-kinds [] = refl
names-kinds (object name ∷ ds) = ap (λ ns. name ∷ ns) (names-kinds ds)
names-kinds (arrow name u v selfmade ∷ ds) = ap (λ ns. name ∷ ns) (names-kinds ds)

pub apart_of : (ds : List Declaration) → AllPairs (λ x y. x ≢ y) (map name_of ds) → Apart (kinds ds)
apart_of ds pairs = subst (IsDistinct bytes_eq) (sym (names-kinds ds)) (IsDistinct-from_AllPairs bytes_eq-Decides (map name_of ds) pairs)

pub different_of_apart : (ds : List Declaration) → Apart (kinds ds) → AllPairs (λ x y. x ≢ y) (map name_of ds)
different_of_apart ds apart = AllPairs-from_IsDistinct bytes_eq-Decides (map name_of ds) (subst (IsDistinct bytes_eq) (names-kinds ds) apart)

-- the next declaration of a list that a quiver may have
pub fresh_name : (xs : List Declaration) (d : Declaration) (ys : List Declaration) → Apart (kinds (xs ++ d ∷ ys)) → named_in xs (kind_of d).0 ≡ None
fresh_name xs d ys apart = nothing_named xs (kind_of d).0 (fresh_before (kinds xs) (kinds ys) (kind_of d) (subst Apart (map-append kind_of xs (d ∷ ys)) apart))

pub no_object_fault : (xs : List Declaration) (name : List ℕ) (ys : List Declaration) → AreFirst (xs ++ object name ∷ ys) → object_fault xs name ≡ None
no_object_fault xs name ys first =
    let later = ys ++ first.0 in
    let declared = subst IsDeclared (append_assoc xs (object name ∷ ys) first.0) first.1 in
    let fresh : named_in xs name ≡ None = fresh_name xs (object name) later (apart_of (xs ++ object name ∷ later) declared.distinct) in
    let room : object_count xs + (1 + object_count later) ≤ object_limit =
    subst (λ n. n ≤ object_limit) (object_count-append xs (object name ∷ later)) declared.few_objects in
    let free : nat_le object_limit (object_count xs) ≡ false = grind (arith, nat_tests) in
    ap₂ (λ b c. if b then Some DoubleName else if c then Some (TooMany object_limit) else None) (ap is_some fresh) free

pub all_right : {A : Type 0} (test : A → Bool) (xs ys : List A) → list_all test (xs ++ ys) ≡ true → list_all test ys ≡ true
all_right test xs ys h = (and_parts (list_all test xs) (list_all test ys) (sym (list_all-append test xs ys) ∙ h)).1

square_of : (selfmade same : Bool) → (not selfmade || same) ≡ true → (selfmade && not same) ≡ false
square_of selfmade same e = grind arith

pub no_map_fault : (xs : List Declaration) (name : List ℕ) (u v : ℕ) (selfmade : Bool) (ys : List Declaration) → AreFirst (xs ++ arrow name u v selfmade ∷ ys)
    → map_fault xs name u v selfmade ≡ None
no_map_fault xs name u v selfmade ys first =
    let later = ys ++ first.0 in
    let declared = subst IsDeclared (append_assoc xs (arrow name u v selfmade ∷ ys) first.0) first.1 in
    let fresh : named_in xs name ≡ None = fresh_name xs (arrow name u v selfmade) later (apart_of (xs ++ arrow name u v selfmade ∷ later) declared.distinct) in
    let room : map_count xs + (1 + map_count later) ≤ map_limit =
    subst (λ n. n ≤ map_limit) (map_count-append xs (arrow name u v selfmade ∷ later)) declared.few_maps in
    let free : nat_le map_limit (map_count xs) ≡ false = grind (arith, nat_tests) in
    let n = object_count (xs ++ arrow name u v selfmade ∷ later) in
    let ends = all_right (has_ends n) xs (arrow name u v selfmade ∷ later) declared.ends in
    let own = (and_parts (has_ends n (arrow name u v selfmade)) (list_all (has_ends n) later) ends).0 in
    let square : (selfmade && not (nat_eq u v)) ≡ false = square_of selfmade (nat_eq u v) (ends_of n name u v selfmade own).square in
    ap₂ (λ b c. if b then Some DoubleName else if c then Some (TooMany map_limit) else if selfmade && not (nat_eq u v) then Some NotSquare else None) (ap is_some fresh) free
    ∙ ap (λ b. if b then Some NotSquare else None) square
