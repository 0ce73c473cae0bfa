-- What the fields of a quiver say of its declarations.
use Rattle.quiver.proofs.Prelude.{◌≡◌, ℕ, ◌<◌, List, [], ◌∷◌, length, map, get_or, Some, option_map, cond, slice_get, sym, refl, ap, subst, ap₂, ◌∙◌, string_bytes, Global, String, lookup, bytes_eq, length-map, get_or-map, get_or_from_slice_get, slice_get-map, Named, Object, Map, Inside, Declaration, name_of, object_count, letter_count, LetterEntry, no_object, no_letter, object_at, letter_at, name_at, named_in, IsDeclared, object_entry, letter_entry, names_in, letters_in, declared_as, declarations_by, declarations, IsKept}
use Rattle.quiver.specs.declared.quiver.ObjectEntry as code_object
use Rattle.quiver.specs.declared.quiver.LetterEntry as code_letter
use Rattle.quiver.proofs.Counts.{length-object_table, length-letter_table}

name_declared : (letters : List LetterEntry) (name : List ℕ) (named : Named) → name_of (declared_as letters name named) ≡ name
name_declared letters name (Object v) = refl
name_declared letters name (Map a) = refl

-- the names are the keys
names_declared : (letters : List LetterEntry) (names : List (List ℕ × Named)) → map name_of (declarations_by letters names) ≡ map (λ n. n.0) names
names_declared letters [] = refl
names_declared letters (n ∷ names) = ap₂ (λ x xs. x ∷ xs) (name_declared letters n.0 n.1) (names_declared letters names)

-- a look-up by a key's bytes is one in the list of bytes
lookup-bytes : (name : List ℕ) (entries : List (String Global × Named))
    → lookup (λ k. bytes_eq name (string_bytes k)) entries ≡ lookup (bytes_eq name) (map (λ e. (string_bytes e.0, e.1)) entries)
lookup-bytes name [] = refl
lookup-bytes name (e ∷ entries) = ap (cond (bytes_eq name (string_bytes e.0)) (Some e.1)) (lookup-bytes name entries)

module _ (q : Inside) (ds : List Declaration) (view_is : declarations q ≡ ds) where
  pub names_len : length q.names.entries ≡ length ds
  names_len = sym (length-map (names_in q) _ ∙ length-map q.names.entries _) ∙ ap length view_is

  -- the key of an entry is the name at its place
  pub name_at-entry : (place : ℕ) (key : String Global) (named : Named) → slice_get q.names.entries place ≡ Some (key, named) → name_at ds place ≡ string_bytes key
  name_at-entry place key named entry =
      let name : List ℕ × Named → List ℕ = λ n. n.0 in
      ap (λ es. name_at es place) (sym view_is)
      ∙ ap (λ names. get_or names place []) (names_declared (letters_in q) (names_in q))
      ∙ get_or_from_slice_get (map name (names_in q)) place (string_bytes key) []
      (slice_get-map name (names_in q) place ∙ ap (option_map name) (slice_get-map _ q.names.entries place ∙ ap (option_map _) entry))

  module _ (kept : IsKept q) where
    pub are_declared : IsDeclared ds
    are_declared = subst IsDeclared view_is kept.declared

    pub named_in-names : (name : List ℕ) → lookup (λ k. bytes_eq name (string_bytes k)) q.names.entries ≡ named_in ds name
    named_in-names name = lookup-bytes name q.names.entries ∙ ap (lookup (bytes_eq name)) kept.names ∙ ap (λ es. named_in es name) view_is

    pub objects_len : length q.objects.items ≡ object_count ds
    objects_len = sym (length-map q.objects.items object_entry) ∙ ap length kept.objects ∙ length-object_table (declarations q) ∙ ap object_count view_is

    pub letters_len : length q.letters.items ≡ letter_count ds
    letters_len = sym (length-map q.letters.items letter_entry) ∙ ap length kept.letters ∙ length-letter_table (declarations q) ∙ ap letter_count view_is

    pub object_at-field : (v : ℕ) (e : code_object.ObjectEntry) → v < object_count ds → e ≡ get_or q.objects.items v e → object_entry e ≡ object_at ds v
    object_at-field v e below at =
        ap object_entry at
        ∙ sym (get_or-map object_entry q.objects.items v e no_object (rw objects_len below))
        ∙ ap (λ table. get_or table v no_object) kept.objects
        ∙ ap (λ es. object_at es v) view_is

    pub letter_at-field : (a : ℕ) (e : code_letter.LetterEntry) → a < letter_count ds → e ≡ get_or q.letters.items a e → letter_entry e ≡ letter_at ds a
    letter_at-field a e below at =
        ap letter_entry at
        ∙ sym (get_or-map letter_entry q.letters.items a e no_letter (rw letters_len below))
        ∙ ap (λ table. get_or table a no_letter) kept.letters
        ∙ ap (λ es. letter_at es a) view_is
