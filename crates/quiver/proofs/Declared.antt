-- What holds of the declarations of a quiver holds with one more that is not refused.
use Rattle.quiver.proofs.Prelude.{◌≡◌, ◌≢◌, ℕ, zero, suc, ◌+◌, ◌<◌, ◌≤◌, Bool, true, false, cond, ◌&&◌, ◌||◌, not, nat_eq, nat_le, List, [], ◌∷◌, ◌++◌, length, map, get_or, Option, Some, None, is_some, AllPairs, sym, refl, ap, subst, ◌∙◌, arith, lt-ltb, leb-false, true≢false, list_all, lookup, bytes_eq, and_parts, and_from, nat_list_eq_equiv, map-append, list_all-append, all_pairs_push, Named, QuiverFault, DoubleName, TooMany, NotSquare, Declaration, object, arrow, name_of, objects_of, letters_of, object_count, map_count, turns_from, named_by, naming_table, named_in, has_ends, IsDeclared, object_limit, map_limit, is_named, object_fault, map_fault}
use Rattle.quiver.proofs.Counts.{object_count-append, map_count-append}
use Rattle.quiver.proofs.Letters.{ends_of}

-- what it means that nothing is wrong
pub record Fits (named full : Bool) : Type 0 where
  pub fresh : named ≡ false
  pub room : full ≡ false

fits : (named full : Bool) (first second : QuiverFault) (rest : Option QuiverFault) → cond named (Some first) (cond full (Some second) rest) ≡ None → Fits named full
fits true full first second rest h = absurd (cc)
fits false true first second rest h = absurd (cc)
fits false false first second rest h = record { fresh = refl; room = refl }

unnamed : (found : Option Named) → is_some found ≡ false → found ≡ None
unnamed None h = refl
unnamed (Some x) h = absurd (cc)

module _ (ds : List Declaration) (name : List ℕ) where
  pub fresh_object : object_fault ds name ≡ None → named_in ds name ≡ None
  fresh_object h = unnamed (named_in ds name) (fits (is_named ds name) (nat_le object_limit (object_count ds)) DoubleName (TooMany object_limit) None h).fresh

  pub fresh_map : (u v : ℕ) (selfmade : Bool) → map_fault ds name u v selfmade ≡ None → named_in ds name ≡ None
  fresh_map u v selfmade h = unnamed (named_in ds name) (fits (is_named ds name) (nat_le map_limit (map_count ds)) DoubleName (TooMany map_limit) _ h).fresh

  square : (u v : ℕ) (selfmade : Bool) → map_fault ds name u v selfmade ≡ None → (not selfmade || nat_eq u v) ≡ true
  square u v selfmade h = go (is_named ds name) (nat_le map_limit (map_count ds)) selfmade (nat_eq u v) h
    where
      go : (named full self same : Bool) → cond {A = Option QuiverFault} named (Some DoubleName) (cond full (Some (TooMany map_limit)) (cond (self && not same) (Some NotSquare) None)) ≡ None → (not self || same) ≡ true
      go true full self same k = absurd (cc)
      go false true self same k = absurd (cc)
      go false false true true k = refl
      go false false true false k = absurd (cc)
      go false false false same k = refl

-- a name that is not found is none of the names
not_among : (name : List ℕ) (names : List (List ℕ × Named)) → lookup (bytes_eq name) names ≡ None → (k : ℕ) (d : List ℕ) → k < length (map (λ n. n.0) names) → get_or (map (λ n. n.0) names) k d ≢ name
not_among name [] h k d below = absurd (omega arith)
not_among name (n ∷ names) h k d below = go (bytes_eq name n.0) refl h (λ none j. not_among name names none j d) k below
  where
    go : (b : Bool) → bytes_eq name n.0 ≡ b → cond b (Some n.1) (lookup (bytes_eq name) names) ≡ None
        → (lookup (bytes_eq name) names ≡ None → (j : ℕ) → j < length (map (λ m. m.0) names) → get_or (map (λ m. m.0) names) j d ≢ name)
        → (j : ℕ) → j < length (n.0 ∷ map (λ m. m.0) names) → get_or (n.0 ∷ map (λ m. m.0) names) j d ≢ name
    go true same none rest j below = absurd (cc)
    go false other none rest zero below = λ e. true≢false (sym (nat_list_eq_equiv.refl name) ∙ ap (bytes_eq name) (sym e) ∙ other)
    go false other none rest (suc j) below = rest none j (omega arith)

names_from_turns : (p v a : ℕ) (ds : List Declaration) → map (λ (n : List ℕ × Named). n.0) (map (λ t. (name_of t.declared, named_by t.declared t)) (turns_from p v a ds)) ≡ map name_of ds
names_from_turns p v a [] = refl
names_from_turns p v a (d ∷ ds) = ap (λ names. name_of d ∷ names) (names_from_turns (p + 1) (v + objects_of d) (a + letters_of d) ds)

distinct_more : (ds : List Declaration) (d : Declaration) → IsDeclared ds → named_in ds (name_of d) ≡ None → AllPairs (λ x y. x ≢ y) (map name_of (ds ++ d ∷ []))
distinct_more ds d declared fresh =
    let other = subst (λ names. (k : ℕ) (e : List ℕ) → k < length names → get_or names k e ≢ name_of d) (names_from_turns 0 0 0 ds) (not_among (name_of d) (naming_table ds) fresh) in
    subst (AllPairs (λ x y. x ≢ y)) (sym (map-append name_of ds (d ∷ []))) (all_pairs_push (λ x y. x ≢ y) (map name_of ds) (name_of d) declared.distinct other)

-- ends
has_ends_from : (n : ℕ) (name : List ℕ) (u v : ℕ) (selfmade : Bool) → u < n → v < n → (not selfmade || nat_eq u v) ≡ true → has_ends n (arrow name u v selfmade) ≡ true
has_ends_from n name u v selfmade source target own = and_from _ _ (lt-ltb u n source) (and_from _ _ (lt-ltb v n target) own)

-- ends among the first objects are among more of them
ends_more : (n m : ℕ) (ds : List Declaration) → n ≤ m → list_all (has_ends n) ds ≡ true → list_all (has_ends m) ds ≡ true
ends_more n m [] le h = refl
ends_more n m (object name ∷ ds) le h = ends_more n m ds le h
ends_more n m (arrow name u v selfmade ∷ ds) le h =
    let both = and_parts (has_ends n (arrow name u v selfmade)) (list_all (has_ends n) ds) h in
    let own = ends_of n name u v selfmade both.0 in
    and_from _ _ (has_ends_from m name u v selfmade (omega (arith, own.source)) (omega (arith, own.target)) own.square) (ends_more n m ds le both.1)

-- the ends of all with one more
ends_with : (n m : ℕ) (ds : List Declaration) (d : Declaration) → n ≤ m → list_all (has_ends n) ds ≡ true → has_ends m d ≡ true → list_all (has_ends m) (ds ++ d ∷ []) ≡ true
ends_with n m ds d le all last = list_all-append (has_ends m) ds (d ∷ []) ∙ and_from _ _ (ends_more n m ds le all) (and_from _ _ last refl)

module _ (ds : List Declaration) (name : List ℕ) (declared : IsDeclared ds) where
  pub declared_object : object_fault ds name ≡ None → IsDeclared (ds ++ object name ∷ [])
  declared_object h =
      let room = leb-false object_limit (object_count ds) (fits (is_named ds name) (nat_le object_limit (object_count ds)) DoubleName (TooMany object_limit) None h).room in
      let objects = object_count-append ds (object name ∷ []) in
      record {
        distinct = distinct_more ds (object name) declared (fresh_object ds name h);
        few_objects = omega (arith, objects, room);
        few_maps = omega (arith, map_count-append ds (object name ∷ []), declared.few_maps);
        ends = ends_with (object_count ds) _ ds (object name) (omega (arith, objects)) declared.ends refl;
      }

  pub declared_map : (u v : ℕ) (selfmade : Bool) → u < object_count ds → v < object_count ds → map_fault ds name u v selfmade ≡ None → IsDeclared (ds ++ arrow name u v selfmade ∷ [])
  declared_map u v selfmade source target h =
      let room = leb-false map_limit (map_count ds) (fits (is_named ds name) (nat_le map_limit (map_count ds)) DoubleName (TooMany map_limit) _ h).room in
      let objects = object_count-append ds (arrow name u v selfmade ∷ []) in
      record {
        distinct = distinct_more ds (arrow name u v selfmade) declared (fresh_map ds name u v selfmade h);
        few_objects = omega (arith, objects, declared.few_objects);
        few_maps = omega (arith, map_count-append ds (arrow name u v selfmade ∷ []), room);
        ends = ends_with (object_count ds) _ ds (arrow name u v selfmade) (omega (arith, objects)) declared.ends
            (has_ends_from _ name u v selfmade (omega (arith, objects, source)) (omega (arith, objects, target)) (square ds name u v selfmade h));
      }
