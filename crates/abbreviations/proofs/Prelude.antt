-- What the proofs here take from std, from the crates below and from this crate's definitions, each name once.
pub use Rattle.std.proofs.Common.{Bool, IfOk, List, ap, arith, drop, false, get_or, length, map, refl, subst, sym, take, true, ℕ, ◌&&◌, ◌<◌, ◌||◌, ◌∙◌, ◌≡◌}
pub use Rattle.std.proofs.lemmas.Bool.{true_from_ne_false}
pub use Rattle.std.proofs.lemmas.Grind.{common_steps}
pub use Rattle.std.proofs.lemmas.List.{take_all}
pub use Rattle.std.proofs.lemmas.List.Folds.{list_all_at}
pub use Rattle.std.proofs.lemmas.Simd.{map-map}
pub use Rattle.std.specs.List.{list_all, list_any}
pub use Rattle.quiver.specs.Declarations.{Declaration}
pub use Rattle.statement_syntax.specs.declared.tree.Factor.{Factor}
pub use Rattle.statement_syntax.specs.declared.tree.Sum.{Row_of-Term, Sum, Sum', end_of-Term, items-the_row-Term, items_shown-the_row-Term-0, more_of-Term, out-Sum, outs-Sum'}
pub use Rattle.statement_syntax.specs.declared.tree.Term.{Row_of-Factor, Term, Term', end_of-Factor, items-the_row-Factor, items_shown-the_row-Factor-1, more_of-Factor, out-Term, outs-Term'}
pub use Rattle.abbreviations.specs.Names.{are_names, are_names_of_factors, are_names_of_primary, are_names_of_term, are_names_of_terms}
pub use Rattle.abbreviations.specs.Occurrences.{has_identity, has_identity_in_factors, has_identity_in_primary, has_identity_in_term, has_identity_in_terms, has_quote, has_quote_in_factors, has_quote_in_primary, has_quote_in_term, has_quote_in_terms, is_adjoint}
pub use Rattle.abbreviations.specs.Written.{letter_at, product_at}
