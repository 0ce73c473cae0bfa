-- What the proofs here take from std, from the crates below and from this crate's definitions, each name once.
pub use Rattle.std.proofs.Common.{Bool, List, Ok, Some, [], ap, ap₂, arith, cond, eq-eqb, eqb-true, false, inl, inr, length, map, negsuc, pos, refl, subst, suc, sym, true, true≢false, zero, ℕ, ℤ, ◌++◌, ◌+◌, ◌<◌, ◌||◌, ◌∙◌, ◌∷◌, ◌≡◌, ◌≢◌, ◌⊎◌}
pub use Rattle.std.proofs.Math.Nat.{eq-one_of_dvd-one}
pub use Rattle.std.proofs.lemmas.Bool.{false_from_ne_true}
pub use Rattle.std.proofs.lemmas.Int.{ints}
pub use Rattle.std.proofs.lemmas.List.{length-append}
pub use Rattle.std.proofs.lemmas.List.Elements.{All-cons, All-nil, All-weaker}
pub use Rattle.std.proofs.lemmas.List.Kept.{AllPairs-cons}
pub use Rattle.std.proofs.lemmas.Map.Made.{Contains-tail}
pub use Rattle.std.specs.List.{All, AllByRecursion, AllPairs, Contains, flat_map}
pub use Rattle.definitions.proofs.Adjoints.{is_path-adjoint_word, is_path-from_adjoint_word, leads-star, typed-adjoint_poly}
pub use Rattle.definitions.proofs.Coefficients.{coefficient_of-multiple, poly_eq-true}
pub use Rattle.definitions.proofs.Linear.{linear-scale, word_eq-same, word_eq-true}
pub use Rattle.definitions.proofs.Multiples.{times, times-none}
pub use Rattle.definitions.proofs.Paths.{step}
pub use Rattle.definitions.proofs.Rows.{path_value-append}
pub use Rattle.definitions.proofs.StarSound.{star_sound}
pub use Rattle.definitions.proofs.Values.{group_at, value_at-linear, word_at, word_at_is_arrow, word_value_is_arrow}
pub use Rattle.definitions.specs.Category.{InvolutionLaws, IsArrow, PreadditiveLaws, Structure}
pub use Rattle.definitions.specs.Combination.{InRationalIdeal}
pub use Rattle.definitions.specs.Generators.{adjoint_poly, adjoint_word, generators_of, new_adjoint, units}
pub use Rattle.definitions.specs.Poly.{Poly, SamePolynomial, Term, Word, poly_eq, poly_multiple, word_eq}
pub use Rattle.definitions.specs.Quiver.{IsPath, IsQuiver, IsTyped, Quiver, is_path, leads, source, star}
pub use Rattle.definitions.specs.Representation.{Cancels, Representation, Represents, StarRepresents, multiple, natural_multiple, path_value, value_at, word_value}
pub use Rattle.definitions.specs.Soundness.{HasSignature, HasValueZero}
pub use Rattle.word_core.proofs.CanonicalLaws.{word_cmp-admissible}
pub use Rattle.word_core.specs.Canonical.{word_cmp}
pub use Rattle.word_core.specs.Letters.{IsOver}
pub use Rattle.word_core.specs.Occurrence.{OccursAt, OccursNowhere}
pub use Rattle.word_core.specs.declared.letter.Object.{Object}
pub use Rattle.nc_polynomial.specs.Shape.{IsCanonical, IsShaped}
pub use Rattle.word_orders.specs.Admissible.{IsAdmissible}
pub use Rattle.word_orders.specs.Rank.{rank_of}
pub use Rattle.word_orders.specs.Specified.{asked_cmp}
pub use Rattle.rule_reduce.proofs.AtMost.{leading-all}
pub use Rattle.rule_reduce.proofs.WordsKept.{words_with_coefficients}
pub use Rattle.rule_reduce.specs.KeptWords.{IsInPlay as AreInPlay}
pub use Rattle.rule_reduce.specs.NormalForms.{start_of}
pub use Rattle.rule_reduce.specs.RuleLists.{IsRule, polynomials_of, rule_at}
pub use Rattle.rule_reduce.specs.declared.rule.Rule.{Rule}
pub use Rattle.ambiguities.proofs.Balance.{s_polynomials_balance}
pub use Rattle.ambiguities.specs.Ambiguities.{IsAmbiguity, MeetsAs}
pub use Rattle.ambiguities.specs.Resolved.{IsResolved, Resolved}
pub use Rattle.ambiguities.specs.SPolynomials.{s_polynomial_of}
pub use Rattle.ambiguities.specs.declared.ambiguity.Ambiguity.{Ambiguity}
pub use Rattle.ambiguities.specs.declared.ambiguity.Kind.{Kind}
pub use Rattle.ambiguities.specs.declared.ambiguity.Kind.TheVariants.{Inclusion, Overlap}
pub use Rattle.quiver.proofs.TypedTerms.{typed_from_paths}
pub use Rattle.quiver.specs.Declarations.{Declaration, arrow, letter_count, object, quiver_of}
pub use Rattle.quiver.specs.declared.named.Sig.{Sig}
pub use Rattle.adjoint_rules.proofs.Generators.{marked_are_objects, posed_quiver, zero_along}
pub use Rattle.adjoint_rules.specs.Problem.{HasLettersInPlay, HasObjects, IsDeclaredMap, IsInPlay, IsPosed, IsShape, IsSide, IsTypedOf, generators_in, is_in_play, numbers, polynomials}
pub use Rattle.adjoint_rules.specs.declared.parts.Parts.{Parts}
pub use Rattle.confluence.proofs.RestLaws.{normal_forms_are_reduced, rests_of_ideal_are_zero, zero_rests_are_resolved}
pub use Rattle.confluence.proofs.WrittenTerms.{canonical_as_written, shaped_as_written}
pub use Rattle.confluence.specs.Reductions.{IsReduced}
pub use Rattle.confluence.specs.Typed.{IsTypedInPlay}
pub use Rattle.normal_forms.specs.BothWays.{both_ways, both_ways_representation, exchange}
pub use Rattle.normal_forms.specs.Forms.{Form}
pub use Rattle.normal_forms.specs.Fractions.{Fraction, IsLowest, is_zero}
unfoldable pub use Rattle.normal_forms.specs.Fractions.{whole}
pub use Rattle.normal_forms.specs.MapLaws.{HasOneMap, IsFiniteSum, IsListedMap, IsNormalWord, MapsAreFiniteSums, fraction_at}
pub use Rattle.normal_forms.specs.Maps.{LeadsInPlay, NormalMap}
pub use Rattle.normal_forms.specs.NormalForms.{IsBasis, IsNonzero, IsNormalMap, forms_representation, is_marked_in, normal_forms}
pub use Rattle.normal_forms.specs.SharpMeans.{SharpMeans, StarSharpMeans}
pub use Rattle.normal_forms.specs.TellsFromZero.{TellsFromZero}
