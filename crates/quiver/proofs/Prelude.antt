-- What the proofs here take from std, from the crates below and from this crate's definitions, each name once.
pub use Rattle.indexmap.proofs.CallerLemmas.{insert_entry-new}
pub use Rattle.indexmap.specs.IndexMap.{insert_entry}
pub use Rattle.std.proofs.Common.{AllPairs, Bool, Global, IfNone, IfSome, List, None, Option, Some, String, [], ap, ap₂, arith, cond, drop, eq-eqb, eqb-true, false, get_or, is_some, leb-false, length, lt-ltb, map, nat_eq, nat_le, ne_eqb, not, option_map, refl, rules, slice_get, string_bytes, subst, suc, sym, true, true≢false, zero, ℕ, ℤ, ⊎_elim, ◌&&◌, ◌++◌, ◌+◌, ◌<◌, ◌||◌, ◌∙◌, ◌∷◌, ◌≡◌, ◌≢◌, ◌≤◌}
pub use Rattle.std.proofs.Math.Nat.{eq-or-lt_of_le}
pub use Rattle.std.proofs.Math.Seq.{get_or-append_seam}
pub use Rattle.std.proofs.lemmas.Bool.{and_from, and_parts}
pub use Rattle.std.proofs.lemmas.Cmp.{nat_list_eq_equiv}
pub use Rattle.std.proofs.lemmas.List.{append_assoc, drop_all, drop_more, get_or-append-add, get_or-map, length-map, map-append}
pub use Rattle.std.proofs.lemmas.List.Elements.{recursion_from_All}
pub use Rattle.std.proofs.lemmas.List.Folds.{list_all-append}
pub use Rattle.std.proofs.lemmas.List.Quantifiers.{all_pairs_push}
pub use Rattle.std.proofs.lemmas.Option.{get_or_from_slice_get, slice_get-map}
pub use Rattle.std.proofs.lemmas.Slice.Eq.{bytes_eq-Decides}
pub use Rattle.std.specs.List.{All, list_all}
pub use Rattle.std.specs.Map.{lookup}
pub use Rattle.std.specs.Option.{option_eq}
pub use Rattle.std.specs.Str.{bytes_eq}
pub use Rattle.std.specs.String.{string_eq}
pub use Rattle.definitions.proofs.Typed.{path_from_signature, signature_from_path, typed_from_terms}
pub use Rattle.definitions.specs.Quiver.{IsPath, IsTyped, Quiver, letters, signature_of, source, star, target}
pub use Rattle.word_core.specs.Letters.{IsOver}
pub use Rattle.nc_polynomial.proofs.Distinct.{distinct-descending, words_listed}
pub use Rattle.nc_polynomial.proofs.Shapes.{recursion_from_IsDescending}
pub use Rattle.nc_polynomial.specs.Shape.{IsShaped}
pub use Rattle.quiver.specs.Declarations.{Declaration, IsDeclared, IsNamed, LetterEntry, arrow, has_ends, identity_in, letter_at, letter_count, letter_name, letter_table, letters_made, letters_of, map_count, name_at, name_of, named_by, named_in, naming_table, no_letter, no_object, object, object_at, object_count, object_name, object_table, objects_first, objects_made, objects_of, quiver_of, turns_from}
pub use Rattle.quiver.specs.Limits.{letter_limit, map_limit, object_limit}
pub use Rattle.quiver.specs.Refusals.{is_named, map_fault, object_fault}
pub use Rattle.quiver.specs.Signatures.{HasPaths, ends_of}
pub use Rattle.quiver.specs.Tables.{IsKept, declarations, declarations_by, declared_as, letter_entry, letters_in, names_in, object_entry, objects_in}
pub use Rattle.quiver.specs.declared.fault.QuiverFault.{QuiverFault}
pub use Rattle.quiver.specs.declared.fault.QuiverFault.TheVariants.{DoubleName, NotSquare, TooMany}
pub use Rattle.quiver.specs.declared.named.Named.{Named}
pub use Rattle.quiver.specs.declared.named.Named.TheVariants.{Map, Object}
pub use Rattle.quiver.specs.declared.named.Sig.{Sig}
pub use Rattle.quiver.specs.declared.quiver.Quiver.TheInside.{Inside}
