-- What holds of the models that are read.
use Rattle.model_text.proofs.Prelude.{◌≡◌, ◌<◌, ◌≤◌, ◌+◌, ◌*◌, ℕ, Bool, true, false, ◌&&◌, cond, List, [], ◌∷◌, Some, None, Result, IfOk, IsTrue, arith, refl, sym, ap, ◌∙◌, subst, length, nat_eq, nat_le, nat_lt, All, flat_map, list_all, range_with_len, and_parts, nat_tests, length-map, All-head, All-tail, All-map, get_or-map-range_with_len, length-map-range_with_len, Map, Declaration, object_count, letter_count, named_in, IsModulus, IsSide, IsMatrix, Model, CertFault, Line, ReadsText, is_name, is_number, EntryTokens, side, matrix, is_row, is_row_of, is_entry, modulus_limit, side_limit, Bound, names, numbers, sizes, value_of, is_object_named, side_of, matrix_value, matrix_of, ModelTokens, model_value, HasName, IsBelow, IsSmall, is_map_named, model_kind, HasMap, IsPlaced, IsModel, IsModels, all_values, model_steps, values_are, read_values_are, within_limit, everywhere}
use Rattle.model_text.proofs.EntryValues.{flat_from}
use Rattle.model_text.proofs.Reader.{reader}
use Rattle.model_text.proofs.Values.{rows_have_length}

-- of both where a test chooses
cond_has : {A : Type 0} (P : A → Type 0) (b : Bool) (x y : A) → (b ≡ true → P x) → P y → P (cond b x y)
cond_has P true x y one two = one refl
cond_has P false x y one two = two

module _ (ds : List Declaration) where
  -- sides
  sides_are : (es : List EntryTokens) → All (λ e. IsTrue (is_entry e)) es → All IsSmall es → (v : ℕ) → IsSide (side_of ds es v)
  sides_are [] each small v = record { positive = omega arith; at_most = omega arith }
  sides_are (side name number ∷ es) each small v =
      let here : IsTrue (is_entry (side name number)) = All-head (λ e. IsTrue (is_entry e)) (side name number) es each in
      let parts = and_parts (is_name name) (is_number number && nat_lt 0 (value_of number)) here in
      let numbers_parts = and_parts (is_number number) (nat_lt 0 (value_of number)) parts.1 in
      let within : value_of number ≤ side_limit = All-head IsSmall (side name number) es small in
      cond_has IsSide (is_object_named v (named_in ds name)) (value_of number) (side_of ds es v)
      (λ same. record { positive = grind (arith, nat_tests, numbers_parts.1); at_most = within })
      (sides_are es (All-tail (λ e. IsTrue (is_entry e)) (side name number) es each) (All-tail IsSmall (side name number) es small) v)
  sides_are (matrix name first rest ∷ es) each small v =
      sides_are es (All-tail (λ e. IsTrue (is_entry e)) (matrix name first rest) es each) (All-tail IsSmall (matrix name first rest) es small) v

  -- matrices
  module _ (m : ℕ) (is_mod : IsModulus m) where
    matrix_is : (name : List ℕ) (first : Line) (rest : List Line) → IsTrue (is_entry (matrix name first rest)) → IsBelow m (matrix name first rest) → IsSmall (matrix name first rest) → IsMatrix m (matrix_value m first rest)
    matrix_is name first rest here below small =
        let parts = and_parts (is_name name) (is_row first && list_all (is_row_of (length first)) rest) here in
        let rows = and_parts (is_row first) (list_all (is_row_of (length first)) rest) parts.1 in
        let first_row = and_parts (nat_lt 0 (length first)) (list_all is_number first) rows.0 in
        let flat : Line = flat_map (λ row. row) (first ∷ rest) in
        let count : (length rest + 1) * length first ≡ length (first ∷ rest) * length first = ap (λ n. n * length first) (omega arith) in
        record {
          is_modulus = is_mod;
          modulus_is = refl;
          shape = record {
            rows_side = record { positive = omega arith; at_most = small.0 };
            columns_side = record { positive = grind (arith, nat_tests, first_row.0); at_most = small.1 };
            size = length-map flat value_of ∙ rows_have_length first rest (record { first_row = rows.0; more = rows.1 }) ∙ count;
          };
          entries_below = All-map (λ entry. entry < m) value_of flat (flat_from (λ t. value_of t < m) (first ∷ rest) below);
        }

    has_map : (name : List ℕ) (a : ℕ) → HasName ds (matrix name [] []) → is_map_named a (named_in ds name) ≡ true → HasMap ds a
    has_map name a known same =
        let chosen : nat_eq known.0.0 a ≡ true = sym (ap (is_map_named a) known.1) ∙ same in
        let equal : known.0.0 ≡ a = grind (arith, nat_tests, chosen) in
        (name, known.1 ∙ ap (λ k. Some (Map (record { 0 = k }))) equal)

    placed : (es : List EntryTokens) → All (λ e. IsTrue (is_entry e)) es → All (HasName ds) es → All (IsBelow m) es → All IsSmall es → (a : ℕ) → IsPlaced ds m a (matrix_of ds m es a)
    placed [] each known below small a = tt
    placed (side name number ∷ es) each known below small a =
        placed es (All-tail (λ e. IsTrue (is_entry e)) (side name number) es each) (All-tail (HasName ds) (side name number) es known) (All-tail (IsBelow m) (side name number) es below) (All-tail IsSmall (side name number) es small) a
    placed (matrix name first rest ∷ es) each known below small a =
        let e : EntryTokens = matrix name first rest in
        cond_has (IsPlaced ds m a) (is_map_named a (named_in ds name)) (Some (matrix_value m first rest)) (matrix_of ds m es a)
        (λ same. (
          has_map name a (All-head (HasName ds) e es known) same,
          matrix_is name first rest (All-head (λ t. IsTrue (is_entry t)) e es each) (All-head (IsBelow m) e es below) (All-head IsSmall e es small),
        ))
        (placed es (All-tail (λ t. IsTrue (is_entry t)) e es each) (All-tail (HasName ds) e es known) (All-tail (IsBelow m) e es below) (All-tail IsSmall e es small) a)

  -- models
  value_is_model : (b : ModelTokens) → (model_kind ds).IsTree b → ((bound : Bound) → (model_kind ds).Keeps bound b) → IsModel ds (model_value ds b)
  value_is_model b is keeps =
      let m : ℕ = value_of b.1.0 in
      let objects = range_with_len 0 (object_count ds) in
      let at_least = and_parts (is_number b.1.0) (nat_le 2 m) is.1.0 in
      let within = (keeps numbers).1.0 refl in
      let is_mod : IsModulus m = record { at_least = grind (arith, nat_tests, at_least.1); at_most = (within_limit modulus_limit b.1.0 within.0 within.1).1 } in
      record {
        modulus = is_mod;
        objects = length-map-range_with_len (side_of ds b.1.1) 0 (object_count ds);
        sides = All-map IsSide (side_of ds b.1.1) objects (everywhere (λ v. IsSide (side_of ds b.1.1 v)) (sides_are b.1.1 is.1.1.0 (keeps sizes).1.1) objects);
        letters = length-map-range_with_len (matrix_of ds m b.1.1) 0 (letter_count ds);
        maps = λ a within. subst (IsPlaced ds m a) (sym (get_or-map-range_with_len (matrix_of ds m b.1.1) 0 (letter_count ds) a a None within (omega arith)))
            (placed m is_mod b.1.1 is.1.1.0 (keeps names).1.1 (keeps numbers).1.1 (keeps sizes).1.1 a);
      }

  tree_says_model : (b : ModelTokens) (m : Model) → (model_kind ds).IsTree b → ((bound : Bound) → (model_kind ds).Keeps bound b) → m ≡ model_value ds b → IsModel ds m
  tree_says_model b m is keeps says = subst (IsModel ds) (sym says) (value_is_model b is keeps)

  pub models_are_models : (bytes : List ℕ) (ms : List Model) → IsModels ds bytes ms → All (IsModel ds) ms
  models_are_models bytes ms is = values_are (model_kind ds) (model_steps ds) (reader ds) (IsModel ds) tree_says_model bytes ms is

  pub are_models : (bytes : List ℕ) (r : Result (List Model) CertFault) → ReadsText (λ ms. ms) r (all_values (model_steps ds) bytes) → IfOk r (All (IsModel ds))
  are_models bytes r read = read_values_are (model_kind ds) (model_steps ds) (reader ds) (IsModel ds) tree_says_model bytes r read
