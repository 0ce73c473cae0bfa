-- The fields of a quiver with one declaration more.
use Rattle.quiver.proofs.Prelude.{◌≡◌, List, [], ◌∷◌, ◌++◌, map, None, sym, ap, ap₂, subst, ◌∙◌, string_bytes, Global, String, string_eq, map-append, insert_entry, insert_entry-new, Named, Inside, Declaration, name_of, named_by, named_in, objects_made, letters_made, object_table, letter_table, naming_table, IsDeclared, object_entry, letter_entry, objects_in, letters_in, names_in, declarations_by, declarations, IsKept}
use Rattle.quiver.specs.declared.quiver.ObjectEntry as code_object
use Rattle.quiver.specs.declared.quiver.LetterEntry as code_letter
use Rattle.quiver.proofs.Fields.{named_in-names}
use Rattle.quiver.proofs.Growth.{next_turn, object_table-more, letter_table-more, naming_table-append, declarations_by-tables}

-- What is added to the fields of a quiver with the declarations ds for the declaration d.
pub record Adds (old new : Inside) (ds : List Declaration) (d : Declaration) : Type 0 where
  pub key : String Global
  pub named : Named
  pub objects : List code_object.ObjectEntry
  pub letters : List code_letter.LetterEntry
  pub fresh : named_in ds (name_of d) ≡ None
  pub key_is : string_bytes key ≡ name_of d
  pub named_is : named ≡ named_by d (next_turn ds d)
  pub new_names : new.names.entries ≡ insert_entry string_eq old.names.entries key named
  pub new_objects : new.objects.items ≡ old.objects.items ++ objects
  pub objects_are : map object_entry objects ≡ objects_made d (next_turn ds d)
  pub new_letters : new.letters.items ≡ old.letters.items ++ letters
  pub letters_are : map letter_entry letters ≡ letters_made d (next_turn ds d)

module _ (old new : Inside) (ds : List Declaration) (d : Declaration) (view_is : declarations old ≡ ds) (kept : IsKept old) (adds : Adds old new ds d) where
  objects_table : objects_in new ≡ object_table (ds ++ d ∷ [])
  objects_table =
      ap (map object_entry) adds.new_objects
      ∙ map-append object_entry old.objects.items adds.objects
      ∙ ap₂ (λ xs ys. xs ++ ys) (kept.objects ∙ ap object_table view_is) adds.objects_are
      ∙ sym (object_table-more ds d)

  letters_table : letters_in new ≡ letter_table (ds ++ d ∷ [])
  letters_table =
      ap (map letter_entry) adds.new_letters
      ∙ map-append letter_entry old.letters.items adds.letters
      ∙ ap₂ (λ xs ys. xs ++ ys) (kept.letters ∙ ap letter_table view_is) adds.letters_are
      ∙ sym (letter_table-more ds d)

  -- the key is none of the old ones, so it goes last
  names_table : names_in new ≡ naming_table (ds ++ d ∷ [])
  names_table =
      let absent = named_in-names old ds view_is kept (string_bytes adds.key) ∙ ap (named_in ds) adds.key_is ∙ adds.fresh in
      ap (map (λ e. (string_bytes e.0, e.1))) (adds.new_names ∙ insert_entry-new string_eq old.names adds.key adds.named absent)
      ∙ map-append (λ e. (string_bytes e.0, e.1)) old.names.entries ((adds.key, adds.named) ∷ [])
      ∙ ap₂ (λ xs x. xs ++ x ∷ []) (kept.names ∙ ap naming_table view_is) (ap₂ (λ x y. (x, y)) adds.key_is adds.named_is)
      ∙ sym (naming_table-append ds (d ∷ []))

  pub declarations_added : declarations new ≡ ds ++ d ∷ []
  declarations_added = ap₂ declarations_by letters_table names_table ∙ declarations_by-tables (ds ++ d ∷ [])

  pub kept_added : IsDeclared (ds ++ d ∷ []) → IsKept new
  kept_added declared = record {
    objects = objects_table ∙ ap object_table (sym declarations_added);
    letters = letters_table ∙ ap letter_table (sym declarations_added);
    names = names_table ∙ ap naming_table (sym declarations_added);
    declared = subst IsDeclared (sym declarations_added) declared;
  }

-- the same of a quiver with the same fields
pub kept_of_same : (before after : Inside) → after.names.entries ≡ before.names.entries → after.objects.items ≡ before.objects.items → after.letters.items ≡ before.letters.items → IsKept before → IsKept after
kept_of_same before after names objects letters kept =
    let tables : letters_in after ≡ letters_in before = ap (map letter_entry) letters in
    let named : names_in after ≡ names_in before = ap (map (λ e. (string_bytes e.0, e.1))) names in
    let declared : declarations after ≡ declarations before = ap₂ declarations_by tables named in
    record {
      objects = ap (map object_entry) objects ∙ kept.objects ∙ ap object_table (sym declared);
      letters = tables ∙ kept.letters ∙ ap letter_table (sym declared);
      names = named ∙ kept.names ∙ ap naming_table (sym declared);
      declared = subst IsDeclared (sym declared) kept.declared;
    }
