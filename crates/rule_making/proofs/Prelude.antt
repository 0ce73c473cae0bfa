-- What the proofs here take from std, from the crates below and from this crate's definitions, each name once.
pub use Rattle.std.proofs.Common.{Bool, Err, IsSomeAnd, List, None, Option, Some, [], ap, arith, cond, drop, false, get_or, if◌then◌else◌, length, map, neg_ℤ, negsuc, of_z, option_to_list, pos, refl, rules, slice_get, subst, suc, sym, take, to_z, true, zero, ℕ, ℤ, ◌*ℤ◌, ◌*◌, ◌++◌, ◌+◌, ◌<ℤ◌, ◌<◌, ◌∙◌, ◌∷◌, ◌≡◌, ◌≢◌, ◌≤◌}
pub use Rattle.std.proofs.Math.IntN.{*ℤ-zero, negsuc-*ℤ-negsuc, pos-*ℤ-negsuc}
pub use Rattle.std.proofs.Math.Nat.{dvd_of_mul-dvd-mul_left, le-mul_of_pos_right, mul-dvd-mul_left, mul-one, one-dvd}
pub use Rattle.std.proofs.lemmas.Int.{ints, unsigned_abs-mul}
pub use Rattle.std.proofs.lemmas.List.{length-append}
pub use Rattle.std.proofs.lemmas.List.Elements.{All-map, All-set}
pub use Rattle.std.specs.Int.{w128, ◌∣◌}
pub use Rattle.std.specs.Int.RustNames.{unsigned_abs}
pub use Rattle.std.specs.List.{All}
pub use Rattle.std.specs.Option.{option_map}
pub use Rattle.std.specs.declared.cmp.Ordering.{Ordering}
pub use Rattle.std.specs.declared.cmp.Ordering.TheVariants.{Equal, Greater, Less}
pub use Rattle.definitions.specs.Poly.{Term, poly_multiple}
pub use Rattle.coef_int.specs.Range.{IsCoefficient}
pub use Rattle.word_core.specs.Letters.{IsOver}
pub use Rattle.traced_rows.specs.declared.Made.{Made}
pub use Rattle.traced_rows.specs.declared.Row.{Row}
pub use Rattle.cofactor_trace.specs.Needed.{IsAmongFirst, IsRecord}
pub use Rattle.nc_polynomial.proofs.Divisors.{abs_positive, at_multiple}
pub use Rattle.nc_polynomial.specs.Content.{DividesEach, IsContent}
pub use Rattle.nc_polynomial.specs.Terms.{by_order}
pub use Rattle.nc_polynomial.specs.declared.poly.Poly.{Poly}
pub use Rattle.word_orders.specs.Admissible.{Compare}
pub use Rattle.rule_reduce.proofs.AtMost.{leading-all}
pub use Rattle.rule_reduce.proofs.RowLists.{written_more}
pub use Rattle.rule_reduce.specs.Leading.{greater_term, greatest_from, leading_term}
pub use Rattle.rule_reduce.specs.RuleLists.{rule_from}
pub use Rattle.rule_reduce.specs.declared.rule.Rule.{Rule}
pub use Rattle.rule_making.specs.Making.{IsExtended, Rest, is_negative, is_term_negative, leads_negative, negated_row, negated_rows}
pub use Rattle.rule_making.specs.Records.{HasRecords}
