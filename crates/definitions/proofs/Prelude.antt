-- What the proofs here take from std, from the crates below and from this crate's definitions, each name once.
pub use Rattle.std.proofs.Common.{Bool, List, None, Some, [], ap, append-nil, ap₂, arith, cond, eqb-true, false, get_or, inl, inr, negsuc, pos, refl, subst, suc, sym, true, true≢false, zero, ℕ, ℤ, ◌++◌, ◌<◌, ◌||◌, ◌∙◌, ◌∷◌, ◌≡◌, ◌≤◌, ◌⊎◌}
pub use Rattle.std.proofs.lemmas.Bool.{cases_lt, false_from_ne_true}
pub use Rattle.std.specs.List.{AllByRecursion, flat_map}
pub use Rattle.definitions.specs.Category.{InvolutionLaws, IsArrow, PreadditiveLaws, Structure}
pub use Rattle.definitions.specs.Combination.{IsCombination, Row, generator_at, row_poly, row_sum}
pub use Rattle.definitions.specs.Generators.{adjoint_poly, adjoint_word, generators_of, new_adjoint, units}
pub use Rattle.definitions.specs.Poly.{coefficient_of, poly_between, poly_eq, poly_multiple, poly_product}
pub use Rattle.definitions.specs.Quiver.{IsQuiver, IsTyped, Quiver, is_path, leads, letters, signature_of, source, star}
pub use Rattle.definitions.specs.Representation.{Cancels, Representation, Represents, StarRepresents, multiple, path_value, value_at, word_value}
pub use Rattle.definitions.specs.Soundness.{HasSignature, HasValueZero, IsSound, IsStarSound}
