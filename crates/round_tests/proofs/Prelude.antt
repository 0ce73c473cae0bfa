-- What the proofs here take from std, from the crates below and from this crate's definitions, each name once.
pub use Rattle.std.proofs.Common.{List, [], ap, arith, get_or, negsuc, pos, refl, subst, suc, sym, zero, ℕ, ◌*◌, ◌++◌, ◌<◌, ◌∙◌, ◌∷◌, ◌≡◌}
pub use Rattle.std.proofs.lemmas.Result.{IfOk-weaker}
pub use Rattle.std.proofs.lemmas.Slice.Zip.{AllZip-map}
pub use Rattle.definitions.proofs.Typed.{typed_from_terms}
pub use Rattle.definitions.specs.Category.{IsArrow, PreadditiveLaws, Structure}
pub use Rattle.definitions.specs.Poly.{Poly, SamePolynomial}
pub use Rattle.definitions.specs.Quiver.{IsTyped, Quiver, source, target}
pub use Rattle.representations.specs.Listed.{IsRepresentation}
pub use Rattle.traced_completion.specs.Completions.{IsCompletionOf}
