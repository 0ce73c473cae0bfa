-- What the proofs here take from std, from the crates below and from this crate's definitions, each name once.
pub use Rattle.std.proofs.Common.{IsSome, List, None, Option, Some, [], ap, append_assoc, ap₂, arith, cond, drop, get_or, int_div, length, refl, rules, slice_get, subst, suc, sym, take, true, zero, ℕ, ℤ, ◌%◌, ◌*ℤ◌, ◌++◌, ◌+◌, ◌-◌, ◌/◌, ◌<◌, ◌∙◌, ◌∷◌, ◌≡◌, ◌≢◌}
pub use Rattle.std.proofs.Math.IntN.{*ℤ_comm}
pub use Rattle.std.proofs.lemmas.List.{append-nil, take_all, take_more}
pub use Rattle.std.proofs.lemmas.List.Elements.{All-get_or, recursion_from_All}
pub use Rattle.std.proofs.lemmas.Option.{get_or_from_slice_get, slice_get_within}
pub use Rattle.std.specs.List.{All, AllByRecursion}
pub use Rattle.definitions.proofs.Group.{IsGroup}
pub use Rattle.definitions.proofs.Linear.{linear, linear-append, linear-scale, linear_in, linear_same}
pub use Rattle.definitions.proofs.Multiples.{times, times-*ℤ, times-none, times_in}
pub use Rattle.definitions.proofs.Paths.{step}
pub use Rattle.definitions.proofs.Rows.{between_is_zero}
pub use Rattle.definitions.proofs.StarSound.{all-append, star_sound}
pub use Rattle.definitions.proofs.Typed.{path_from_signature, signature_from_path}
pub use Rattle.definitions.proofs.Values.{group_at, letter_is_arrow, multiple-times, value_at-linear, word_at, word_at_is_arrow, word_value_is_arrow}
pub use Rattle.definitions.specs.Category.{InvolutionLaws, IsArrow, PreadditiveLaws, Structure}
pub use Rattle.definitions.specs.Combination.{generator_at}
pub use Rattle.definitions.specs.Poly.{poly_between, poly_multiple}
pub use Rattle.definitions.specs.Quiver.{IsTyped, Quiver, is_path, letters, signature_of, source, target}
pub use Rattle.definitions.specs.Representation.{Cancels, Representation, Represents, multiple, natural_multiple, value_at, word_value}
pub use Rattle.definitions.specs.Soundness.{HasSignature, HasValueZero}
pub use Rattle.traced_rows.proofs.Between.{between-append, between-between, between-multiple, between-nothing, between-same}
pub use Rattle.traced_rows.specs.LemmaRows.{AddsUpTo, AreOfLemmas, IsEvidenceOf, IsShareOf, cert_poly, lemma_row_poly, lemma_sum}
pub use Rattle.traced_rows.specs.declared.evidence.CertFrom.{CertFrom}
pub use Rattle.traced_rows.specs.declared.evidence.Lemma.{Lemma}
pub use Rattle.traced_rows.specs.declared.evidence.LemmaCertificate.{LemmaCertificate}
pub use Rattle.traced_rows.specs.declared.evidence.LemmaRow.{LemmaRow}
pub use Rattle.nc_polynomial.proofs.Distinct.{distinct-descending, words_listed}
pub use Rattle.nc_polynomial.proofs.Divisors.{quotient_times}
pub use Rattle.nc_polynomial.proofs.Shapes.{recursion_from_IsDescending}
pub use Rattle.nc_polynomial.specs.Shape.{IsCanonical}
pub use Rattle.quiver.specs.Declarations.{quiver_of}
pub use Rattle.representations.specs.Evidence.{IsEvidenceSound, IsEvidenceStarSound}
pub use Rattle.representations.specs.Listed.{IsRepresentation, listed}
