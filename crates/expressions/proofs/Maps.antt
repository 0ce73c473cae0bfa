-- The letters of the declared maps come after the identities, and each before its adjoint.
use Rattle.expressions.proofs.Prelude.{◌≡◌, ◌⊎◌, inl, inr, ℕ, ◌+◌, ◌≤◌, Bool, true, false, cond, List, [], ◌∷◌, ◌++◌, length, Option, Some, sym, refl, ap, subst, ◌∙◌, arith, list_all, lookup, bytes_eq, star, Letter, Named, Map, Declaration, object, arrow, letters_of, object_count, LetterEntry, letter_table, named_in, quiver_of, is_arrow, objects_first, ObjectsFirst, letter_in, is_named, letters_from, names_from, letter_in_seam, longer, star-quiver_of}
use Rattle.std.proofs.lemmas.List.{append_assoc}

map_number : (x y : Letter) → ◌≡◌ {A = Named} (Map x) (Map y) → x.0 ≡ y.0
map_number x y e = let same : x ≡ y = cc in ap (λ l. l.0) same

-- what a look-up finds is what it tests first, or is later
found_or : (here : Bool) (n : Named) (later : Option Named) (m : Letter) → cond here (Some n) later ≡ Some (Map m) → (n ≡ Map m) ⊎ (later ≡ Some (Map m))
found_or true n later m e = inl cc
found_or false n later m e = inr e

-- where a look-up finds a map
module _ (test : List ℕ → Bool) where
  -- the letter is one of those that the declarations take
  taken_from : (p v a : ℕ) (ds : List Declaration) (m : Letter) → lookup test (names_from p v a ds) ≡ Some (Map m) → a ≤ m.0
  taken_from p v a [] m found = absurd (cc)
  taken_from p v a (object name ∷ ds) m found = elim (found_or (test name) _ _ m found) [
    | inl is ↦ absurd cc
    | inr later ↦ omega (arith, taken_from (p + 1) (v + 1) (a + 1) ds m later)
  ]
  taken_from p v a (arrow name x y selfmade ∷ ds) m found = elim (found_or (test name) _ _ m found) [
    | inl is ↦ omega (arith, map_number _ m is)
    | inr later ↦ omega (arith, taken_from (p + 1) (v + 0) (a + letters_of (arrow name x y selfmade)) ds m later)
  ]

  -- and is at most its adjoint, which the table has
  before_adjoint : (p v a : ℕ) (table before : List LetterEntry) (ds : List Declaration) (m : Letter)
      → length before ≡ a → table ≡ before ++ letters_from p v a ds → lookup test (names_from p v a ds) ≡ Some (Map m) → m.0 ≤ (letter_in table m.0).star
  before_adjoint p v a table before [] m at table_is found = absurd (cc)
  before_adjoint p v a table before (object name ∷ ds) m at table_is found =
      let e : LetterEntry = record { source = v; target = v; star = a; declaration = p } in
      let rest = letters_from (p + 1) (v + 1) (a + 1) ds in
      elim (found_or (test name) _ _ m found) [
        | inl is ↦ absurd cc
        | inr later ↦ before_adjoint (p + 1) (v + 1) (a + 1) table (before ++ e ∷ []) ds m (longer before (e ∷ []) a at) (table_is ∙ sym (append_assoc before (e ∷ []) rest)) later
      ]
  before_adjoint p v a table before (arrow name x y true ∷ ds) m at table_is found =
      let e : LetterEntry = record { source = x; target = y; star = a; declaration = p } in
      let rest = letters_from (p + 1) (v + 0) (a + 1) ds in
      let at_a : letter_in table a ≡ e = ap (λ t. letter_in t a) table_is ∙ letter_in_seam before rest a e at in
      let here : a ≤ (letter_in table a).star = rw at_a (omega arith) in
      elim (found_or (test name) _ _ m found) [
        | inl is ↦ subst (λ n. n ≤ (letter_in table n).star) (map_number _ m is) here
        | inr later ↦ before_adjoint (p + 1) (v + 0) (a + 1) table (before ++ e ∷ []) ds m (longer before (e ∷ []) a at) (table_is ∙ sym (append_assoc before (e ∷ []) rest)) later
      ]
  before_adjoint p v a table before (arrow name x y false ∷ ds) m at table_is found =
      let e : LetterEntry = record { source = x; target = y; star = a + 1; declaration = p } in
      let adjoint : LetterEntry = record { source = y; target = x; star = a; declaration = p } in
      let rest = letters_from (p + 1) (v + 0) (a + 2) ds in
      let at_a : letter_in table a ≡ e = ap (λ t. letter_in t a) table_is ∙ letter_in_seam before (adjoint ∷ rest) a e at in
      let here : a ≤ (letter_in table a).star = rw at_a (omega arith) in
      let more = before ++ e ∷ adjoint ∷ [] in
      elim (found_or (test name) _ _ m found) [
        | inl is ↦ subst (λ n. n ≤ (letter_in table n).star) (map_number _ m is) here
        | inr later ↦ before_adjoint (p + 1) (v + 0) (a + 2) table more ds m (longer before (e ∷ adjoint ∷ []) a at) (table_is ∙ sym (append_assoc before (e ∷ adjoint ∷ []) rest)) later
      ]

-- where the objects are declared first
no_objects : (ds : List Declaration) → list_all is_arrow ds ≡ true → object_count ds ≡ 0
no_objects [] maps = refl
no_objects (object name ∷ ds) maps = absurd (cc)
no_objects (arrow name x y selfmade ∷ ds) maps = omega (arith, no_objects ds maps)

after_objects : (test : List ℕ → Bool) (p v a : ℕ) (ds : List Declaration) (m : Letter) → objects_first ds ≡ true → lookup test (names_from p v a ds) ≡ Some (Map m) → a + object_count ds ≤ m.0
after_objects test p v a [] m first found = absurd (cc)
after_objects test p v a (object name ∷ ds) m first found = elim (found_or (test name) _ _ m found) [
  | inl is ↦ absurd cc
  | inr later ↦ omega (arith, after_objects test (p + 1) (v + 1) (a + 1) ds m first later)
]
after_objects test p v a (arrow name x y selfmade ∷ ds) m first found = omega (arith, no_objects ds first, taken_from test p v a (arrow name x y selfmade ∷ ds) m found)

module _ (ds : List Declaration) (first : ObjectsFirst ds) (name : List ℕ) (m : Letter) (found : named_in ds name ≡ Some (Map m)) where
  pub map_after_objects : object_count ds ≤ m.0
  map_after_objects = omega (arith, after_objects (bytes_eq name) 0 0 0 ds m first found)

  pub map_before_adjoint : m.0 ≤ star (quiver_of ds) m.0
  map_before_adjoint =
      subst (λ n. m.0 ≤ n) (sym (star-quiver_of ds m.0 (is_named ds name (Map m) found).0)) (before_adjoint (bytes_eq name) 0 0 0 (letter_table ds) [] ds m refl refl found)
