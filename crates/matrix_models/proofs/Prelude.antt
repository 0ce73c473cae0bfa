-- What the proofs here take from std, from the crates below and from this crate's definitions, each name once.
pub use Rattle.std.proofs.Common.{All, Bool, Contains, List, None, Option, Some, [], add-mul, ap, ap₂, arith, cond, div-add-mod', drop, false, get_or, inl, inr, length, map, mod-lt, mul-add, mul-zero, mul_assoc, mul_comm, nat_eq, not, one-mul, refl, replicate, set, subst, suc, sym, take, true, zero, zero-mul, ℕ, ◌%◌, ◌&&◌, ◌*◌, ◌++◌, ◌+◌, ◌-◌, ◌/◌, ◌<◌, ◌^◌, ◌↔◌, ◌∙◌, ◌∷◌, ◌≡◌, ◌≤◌, ◌⊎◌}
pub use Rattle.std.proofs.Math.Nat.{add-mod-mod, add-mul-mod_self_right, div-le_self, mod-add-div, mod-eq_of_lt, mod-mod, mod_self, mul-mod_left, mul-mod_right, zero-mod}
pub use Rattle.std.proofs.Math.Seq.{take-append_seam}
pub use Rattle.std.proofs.lemmas.Bool.{and_parts, both_ways, cases_Bool, cases_eq, cases_lt, cond-false, cond-true, cond_both, eq-eqb, eqb-false, eqb-true, false≢true, not-true, or_cases}
pub use Rattle.std.proofs.lemmas.List.{append-nil, append_assoc, ext_get_or, get_or-replicate, get_or-set_other, get_or-set_same, get_or-take, get_or_append_left, get_or_at, get_or_past, get_or_push, get_or_read, length-append, length-replicate, length-set, length-take-le, length_push, take-append-drop, take_all, take_at, take_more, take_more_same}
pub use Rattle.std.proofs.lemmas.List.Elements.{All-cons, All-contains, All-contains_itself, All-from_get_or, All-get_or, All-nil, All-push, All-take, All-weaker}
pub use Rattle.std.proofs.lemmas.List.FromFn.{get_or-map-range_with_len, length-map-range_with_len, map-range_with_len_more}
pub use Rattle.std.proofs.lemmas.Nat.{div-mul-add, le_or_l, le_or_r, mod-mul-add, mul-le, mul-mod_first, mul-mod_second}
pub use Rattle.std.proofs.lemmas.Option.{none-some}
pub use Rattle.std.specs.Int.RustNames.{bit_or}
pub use Rattle.std.specs.List.{AllByRecursion, list_any, range_with_len}
pub use Rattle.definitions.specs.Moduli.{IsFieldModulus, field_moduli}
pub use Rattle.lists.proofs.Decided.{IsDecided, both_decided, decided_by, lt_decided}
pub use Rattle.lists.proofs.FirstFailure.{each_decided}
pub use Rattle.matrix_models.specs.Blocks.{AreParts, HasSolution, IsOutside, IsPart, IsWithin, joined, numbered}
pub use Rattle.matrix_models.specs.Elimination.{AreFirsts, ArePivots, AreSmall, HasNoFactor, IsAdded, IsAgainst, IsFree, IsPivot, LiesIn, Meets, MeetsAlike, MeetsAll, equation_of, row_of}
pub use Rattle.matrix_models.specs.Greedy.{CanTake, Extends, HasGreedySolution, IsGreedy}
pub use Rattle.matrix_models.specs.Matrices.{identity_matrix, matrix_negative, matrix_product, matrix_sum, total, transpose, zero_matrix}
pub use Rattle.matrix_models.specs.Matrix.{Matrix, entry_at, first_too_large, matrix_of}
pub use Rattle.matrix_models.specs.Pivots.{Add, AreAgainst, AreRows, Pivots, StandFor, no_equations, with_equations}
pub use Rattle.matrix_models.specs.Systems.{AreValues, HasNoSolution, Holds, IsEquation, Solves}
pub use Rattle.matrix_models.specs.Totals.{add_mod, total_add, total_mod, total_mul, total_mul_right, total_same, total_zero}
pub use Rattle.matrix_models.specs.declared.system.LinearRow.{LinearRow}
pub use Rattle.matrix_models.specs.declared.system.System.{System}
