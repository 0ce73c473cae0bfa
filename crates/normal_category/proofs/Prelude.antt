-- What the proofs here take from std, from the crates below and from this crate's definitions, each name once.
pub use Rattle.std.proofs.Common.{Bool, IfNone, IfSome, List, None, Option, Some, [], ap, ap₂, arith, cond, false, get_or, inl, inr, length, lt-ltb, nat_eq, not, pos, refl, rules, slice_get, subst, suc, sym, take, true, true≢false, zero, ℕ, ◌&&◌, ◌+◌, ◌<◌, ◌||◌, ◌∙◌, ◌∷◌, ◌≡◌, ◌≢◌, ◌≤◌, ◌⊎◌}
pub use Rattle.std.proofs.lemmas.Bool.{and_from, and_parts, cases_lt}
pub use Rattle.std.proofs.lemmas.List.{length-map}
pub use Rattle.std.proofs.lemmas.List.Elements.{All-cons, All-head, All-nil, All-tail, recursion_from_All}
pub use Rattle.std.proofs.lemmas.List.Folds.{list_all-map}
pub use Rattle.std.proofs.lemmas.List.Sums.{AllPass-from_list_all, list_all-from_AllPass}
pub use Rattle.std.proofs.lemmas.Option.{same_Some, slice_get-get_or}
pub use Rattle.std.specs.List.{All, AllByRecursion, AllZip, list_all, list_any}
pub use Rattle.std.specs.Prelude.{is_some, nat_le}
pub use Rattle.definitions.proofs.Coefficients.{SamePolynomial-multiple, Same_trans}
pub use Rattle.definitions.proofs.Typed.{signature_from_path}
pub use Rattle.definitions.specs.Combination.{InRationalIdeal, generator_at}
pub use Rattle.definitions.specs.Poly.{SamePolynomial, Term, coefficient_of}
pub use Rattle.definitions.specs.Quiver.{IsTyped, Quiver, is_path, signature_of, star}
pub use Rattle.definitions.specs.Soundness.{HasSignature}
pub use Rattle.word_core.specs.declared.letter.Object.{Object}
pub use Rattle.nc_polynomial.proofs.Distinct.{distinct-descending, words_listed}
pub use Rattle.nc_polynomial.proofs.Shapes.{recursion_from_IsDescending}
pub use Rattle.nc_polynomial.specs.declared.poly.Poly.{Poly}
pub use Rattle.word_orders.specs.Specified.{asked_cmp}
pub use Rattle.rule_reduce.proofs.Numbers.{rule_at-all}
pub use Rattle.rule_reduce.proofs.WordsKept.{words_with_coefficients}
pub use Rattle.rule_reduce.specs.KeptWords.{IsPolyInPlay}
pub use Rattle.rule_reduce.specs.RuleLists.{IsRule, polynomials_of, rule_at}
pub use Rattle.rule_reduce.specs.declared.rule.Rule.{Rule}
pub use Rattle.ambiguities.specs.Resolved.{Resolved}
pub use Rattle.quiver.specs.Declarations.{Declaration, letter_count, object_count, quiver_of}
pub use Rattle.adjoint_rules.proofs.Generators.{claims_have_signatures}
pub use Rattle.adjoint_rules.proofs.LettersInPlay.{generator_words}
pub use Rattle.adjoint_rules.specs.Claims.{claim_at}
pub use Rattle.adjoint_rules.specs.Problem.{IsInPlay, generators_in, is_in_play, numbers, polynomials}
pub use Rattle.adjoint_rules.specs.declared.parts.Parts.{Parts}
pub use Rattle.adjoint_rules.specs.declared.problem.Problem.{Problem}
pub use Rattle.confluence.specs.Typed.{AreTypedInPlay, IsTypedInPlay}
pub use Rattle.normal_forms.proofs.Basis.{Plays, plays_from_test, sharp_means}
pub use Rattle.normal_forms.specs.NormalForms.{IsBasis}
pub use Rattle.normal_forms.specs.SharpMeans.{SharpMeans}
pub use Rattle.normal_category.specs.Faults.{IsFirstWithout, IsTypedIn, PlaysIn}
pub use Rattle.normal_category.specs.Laws.{SharpRulesAreTold}
pub use Rattle.normal_category.specs.Tests.{are_paths, has_letters_in_play, is_typed}
